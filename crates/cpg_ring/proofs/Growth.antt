-- The agreed list only grows.
use Rattle.std.proofs.Common.{◌≡◌, ℕ, zero, suc, ◌≤◌, Bool, true, false, List, [], ◌∷◌, ◌++◌, length, Option, Some, None, refl, ap, ◌∙◌, arith, if◌then◌else◌, ◌==◌, length-append}
use Rattle.std.proofs.lemmas.Option.{none-some}
use Rattle.cpg_entry.specs.declared.frames.Frame.TheVariants as frame
use Rattle.cpg_ring.specs.States.{Entry, Frame}
use Rattle.cpg_ring.specs.Worlds.{entry_sent, if_some, entries_from, agreed}

entry_front : (F G : List Frame) (place : ℕ) (e : Entry) → entry_sent F place ≡ Some e → entry_sent (F ++ G) place ≡ Some e
entry_front [] G place e is = absurd (none-some e is)
entry_front (frame.Token t ∷ F) G place e is = entry_front F G place e is
entry_front (frame.Packet p ∷ F) G place e is = by_test (p.place == place) (entry_front F G place e) is
  where
    by_test : (b : Bool) → (entry_sent F place ≡ Some e → entry_sent (F ++ G) place ≡ Some e) → (if b then Some p.entry else entry_sent F place) ≡ Some e → (if b then Some p.entry else entry_sent (F ++ G) place) ≡ Some e
    by_test true later is = is
    by_test false later is = later is

entries_grow : (F G : List Frame) (place more further : ℕ) → more ≤ further → (B : List Entry) × (entries_from (F ++ G) place further ≡ entries_from F place more ++ B)
entries_grow F G place zero further h = (entries_from (F ++ G) place further, refl)
entries_grow F G place (suc more) zero h = absurd (omega arith)
entries_grow F G place (suc more) (suc further) h = by_entry (entry_sent F place) (entries_grow F G (suc place) more further (omega arith)) refl
  where
    by_entry : (o : Option Entry) → ((B : List Entry) × (entries_from (F ++ G) (suc place) further ≡ entries_from F (suc place) more ++ B)) → entry_sent F place ≡ o → (B : List Entry) × (entries_from (F ++ G) place (suc further) ≡ if_some o (entries_from F (suc place) more) ++ B)
    by_entry None rest is = (entries_from (F ++ G) place (suc further), refl)
    by_entry (Some e) rest is =
        (rest.0, ap (λ o. if_some o (entries_from (F ++ G) (suc place) further)) (entry_front F G place e is) ∙ ap (λ l. e ∷ l) rest.1)

-- more frames make the agreed list no other, at most longer
pub agreed_grows : (F G : List Frame) → (B : List Entry) × (agreed (F ++ G) ≡ agreed F ++ B)
agreed_grows F G = let l = length-append F G in entries_grow F G 1 (length F) (length (F ++ G)) (omega arith)
