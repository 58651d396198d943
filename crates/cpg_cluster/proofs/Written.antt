-- lines that are written behind one another
use Rattle.std.proofs.Common.{◌≡◌, ℕ, suc, ◌+◌, List, [], ◌∷◌, ◌++◌, take, drop, slice_get, Option, Some, Result, Ok, Err, OnErr, OnOk, refl, sym, ap, ◌∙◌, append_assoc, append-nil, arith}
use Rattle.std.proofs.lemmas.List.{take-append-drop}
use Rattle.cpg_board.proofs.Known.{take_next}
use Rattle.cpg_cluster.proofs.Ordered.{drop_at}
use Rattle.std.specs.Io.KnownBytes.{Appends}
use Rattle.std.proofs.KnownBytes.{Appends-trans, Appends-nil}
use Rattle.cpg_text.specs.Streams.{AppendsFront}
use Rattle.cpg_history.specs.declared.traces.Recorded.{Recorded}
use Rattle.cpg_cluster.specs.TraceLines.{event_line}
use Rattle.cpg_cluster.specs.TraceScripts.{numbered, lines_of, script_text}

-- nothing is a front of any text
pub nothing_yet : (a : Option (List ℕ)) (text : List ℕ) → AppendsFront a a text
nothing_yet a text = record { front = []; rest = text; whole = refl; written = Appends-nil a }

-- a front of the last text, behind the others
pub front_of_last : (a b c : Option (List ℕ)) (before last : List ℕ) → Appends a b before → AppendsFront b c last → AppendsFront a c (before ++ last)
front_of_last a b c before last one two = record {
  front = before ++ two.front;
  rest = two.rest;
  whole = ap (λ l. before ++ l) two.whole ∙ sym (append_assoc before two.front two.rest);
  written = Appends-trans a b c before two.front one two.written;
}

-- a front of a text is one of that text and more
pub front_of_first : (a b : Option (List ℕ)) (first second : List ℕ) → AppendsFront a b first → AppendsFront a b (first ++ second)
front_of_first a b first second one = record {
  front = one.front;
  rest = one.rest ++ second;
  whole = ap (λ l. l ++ second) one.whole ∙ append_assoc one.front one.rest second;
  written = one.written;
}

-- a front of the second text, behind the first
pub front_of_second : (a b c : Option (List ℕ)) (first second third : List ℕ) → Appends a b first → AppendsFront b c second → AppendsFront a c (first ++ second ++ third)
front_of_second a b c first second third one two = front_of_first a c (first ++ second) third (front_of_last a b c first second one two)

-- the lines of entries behind entries
pub lines_both : (script xs ys : List Recorded) → lines_of script (xs ++ ys) ≡ lines_of script xs ++ lines_of script ys
lines_both script [] ys = refl
lines_both script (r ∷ rs) ys = ap (λ l. event_line (numbered script r.source r.event) ++ l) (lines_both script rs ys) ∙ sym (append_assoc (event_line (numbered script r.source r.event)) (lines_of script rs) (lines_of script ys))

-- the lines up to an index, and the next
pub lines_next : (script : List Recorded) (i j : ℕ) (r : Recorded) → slice_get script i ≡ Some r → j ≡ i + 1 → lines_of script (take i script) ++ event_line (numbered script r.source r.event) ≡ lines_of script (take j script)
lines_next script i j r at is =
    let j_is : suc i ≡ j = omega (arith, is) in
    ap (λ l. lines_of script (take i script) ++ l) (sym (append-nil (event_line (numbered script r.source r.event))))
    ∙ (sym (lines_both script (take i script) (r ∷ [])) ∙ (ap (lines_of script) (sym (take_next script i r at)) ∙ ap (λ n. lines_of script (take n script)) j_is))

-- the lines up to an index, the next, and those behind it
pub lines_around : (script : List Recorded) (i : ℕ) (r : Recorded) → slice_get script i ≡ Some r → lines_of script (take i script) ++ event_line (numbered script r.source r.event) ++ lines_of script (drop (suc i) script) ≡ script_text script
lines_around script i r at =
    append_assoc (lines_of script (take i script)) (event_line (numbered script r.source r.event)) (lines_of script (drop (suc i) script))
    ∙ (ap (λ l. lines_of script (take i script) ++ lines_of script l) (sym (drop_at script i r at))
    ∙ (sym (lines_both script (take i script) (drop i script)) ∙ ap (lines_of script) (take-append-drop i script)))

pub on_err : {A E : Type 0} (r : Result A E) (It : Type 0) → It → OnErr r It
on_err (Ok a) It it = tt
on_err (Err e) It it = it

pub on_err_so : {A E : Type 0} (r : Result A E) (It So : Type 0) → (It → So) → OnErr r It → OnErr r So
on_err_so (Ok a) It So f it = tt
on_err_so (Err e) It So f it = f it

pub on_ok_so : {A E : Type 0} (r : Result A E) (It So : Type 0) → (It → So) → OnOk r It → OnOk r So
on_ok_so (Ok a) It So f it = f it
on_ok_so (Err e) It So f it = it
