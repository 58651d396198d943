-- Bytes that are put behind others.
use Rattle.std.specs.Prelude.{◌≡◌, ℕ, List, ◌++◌, length, take, Result, OnOk, OnErr}

-- those bytes stand in front
pub record Begins (front all : List ℕ) : Type 0 where
  pub same : take (length front) all ≡ front

-- the text was put last; on an Err some of it may be, and what was there stands in front
abbrev pub Adds : {E : Type 0} → Result Unit E → List ℕ → List ℕ → List ℕ → Type 0
Adds result before after text = OnOk result (after ≡ before ++ text) × OnErr result (Begins before after)
