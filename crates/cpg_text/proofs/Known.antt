use Rattle.std.proofs.Common.{ℕ, ◌+◌, ◌-◌, ◌≤◌, arith, length, List, [], take, drop, sym, subst, Option}
use Rattle.std.proofs.Math.Seq.{take-add}
use Rattle.std.proofs.lemmas.List.{take_all, length-drop, take-append-drop}
use Rattle.cpg_text.specs.Streams.{AppendsFront}
use Rattle.std.specs.Io.KnownBytes.{Appends, Keeps}
use Rattle.std.proofs.KnownBytes.{Appends-trans, Appends-kept, Appends-nil}

-- what was written goes on
pub Appends_more : (a b c : Option (List ℕ)) (text : List ℕ) (done n : ℕ) → Appends a b (take done text) → n ≤ length (take (length text - done) (drop done text)) → Appends b c (take n (take (length text - done) (drop done text))) → Appends a c (take (done + n) text)
Appends_more a b c text done n before within now =
    let all = take_all (length text - done) (drop done text) (omega (arith, length-drop done text)) in
    subst (Appends a c) (sym (take-add done n text)) (Appends-trans a b c _ _ before (rw all at now))

-- nothing was written
pub Appends_none : (a b : Option (List ℕ)) (text : List ℕ) → Keeps a b → Appends a b (take 0 text)
Appends_none a b text kept = Appends-kept a a b [] (Appends-nil a) kept

pub Appends_kept : (a b c : Option (List ℕ)) (bs : List ℕ) → Appends a b bs → Keeps b c → Appends a c bs
Appends_kept = Appends-kept

-- the first bytes of a text are a front of it
pub front_taken : (a b : Option (List ℕ)) (text : List ℕ) (n : ℕ) → Appends a b (take n text) → AppendsFront a b text
front_taken a b text n h = record { front = take n text; rest = drop n text; whole = sym (take-append-drop n text); written = h }
