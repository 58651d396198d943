-- Lines that are gathered, one call after the other.
use Rattle.std.proofs.Common.{◌≡◌, ℕ, List, [], ◌++◌, Option, Result, Ok, Err, IfErr, refl, sym, ap, subst, ◌∙◌, append_assoc, append-nil}
use Rattle.std.specs.Prelude.{OnOk}
use Rattle.std.specs.List.{concat}
use Rattle.std.specs.Io.KnownBytes.{Appends}
use Rattle.std.proofs.KnownBytes.{Appends-trans, Appends-nil}
use Rattle.std.proofs.lemmas.List.Folds.{concat-append}
use Rattle.cpg_cred.specs.declared.refusals.Refusal.{Refusal}
use Rattle.cpg_cred.specs.declared.refusals.Refusal.TheVariants as refusal
use Rattle.cpg_text.specs.Streams.{AppendsFront}
use Rattle.cpg_text.specs.Written.{LeavesLines}
use Rattle.cpg_text.proofs.Lined.{leaves_first}
use Rattle.cpg_judge.specs.Gathering.{AreGathered, Gathers}

-- nothing more
pub gathers_none : (a : Option (List ℕ)) (held : List ℕ) → Gathers (Ok tt) a held a held []
gathers_none a held = record { put = λ old lines g. subst (AreGathered old a held) (sym (append-nil lines)) g; left = λ old lines g. tt }

-- lines, and then more of them
pub gathers_then : (result : Result (Unit {0}) Refusal) (a b c : Option (List ℕ)) (l m n : List ℕ) (first second : List (List ℕ)) →
    Gathers (Ok tt) a l b m first → Gathers result b m c n second → Gathers result a l c n (first ++ second)
gathers_then result a b c l m n first second h k = record {
  put = λ old lines g. subst (λ all. OnOk result (AreGathered old c n all)) (append_assoc lines first second) (k.put old (lines ++ first) (h.put old lines g));
  left = λ old lines g. subst (λ all. IfErr result (λ refused. LeavesLines all refused old c)) (append_assoc lines first second) (k.left old (lines ++ first) (h.put old lines g));
}

-- lines, and then nothing more
pub gathers_and : (result : Result (Unit {0}) Refusal) (a b c : Option (List ℕ)) (l m n : List ℕ) (more : List (List ℕ)) →
    Gathers (Ok tt) a l b m more → Gathers result b m c n [] → Gathers result a l c n more
gathers_and result a b c l m n more h k = subst (Gathers result a l c n) (append-nil more) (gathers_then result a b c l m n more [] h k)

-- a refusal among the first of the lines
pub gathers_stop : (refused : Refusal) (a b : Option (List ℕ)) (l m : List ℕ) (first second : List (List ℕ)) →
    Gathers (Err refused) a l b m first → Gathers (Err refused) a l b m (first ++ second)
gathers_stop refused a b l m first second h = record {
  put = λ old lines g. tt;
  left = λ old lines g. subst (λ all. LeavesLines all refused old b) (append_assoc lines first second) (leaves_first old b (lines ++ first) second refused (h.left old lines g));
}

-- the lines of a text that is put behind what is gathered
put_lines : (old a : Option (List ℕ)) (l m : List ℕ) (lines more : List (List ℕ)) → AreGathered old a l lines → m ≡ l ++ concat more → AreGathered old a m (lines ++ more)
put_lines old a l m lines more g is = record {
  written = g.written;
  waiting = g.waiting ++ more;
  whole = ap (λ all. all ++ more) g.whole ∙ append_assoc g.written g.waiting more;
  front = g.front;
  rest = is ∙ ap (λ text. text ++ concat more) g.rest ∙ sym (concat-append g.waiting more);
}

-- memory leaves those that were written
memory_leaves : (old a : Option (List ℕ)) (l : List ℕ) (lines more : List (List ℕ)) → AreGathered old a l lines → LeavesLines (lines ++ more) refusal.Memory old a
memory_leaves old a l lines more g = record {
  front = g.written;
  rest = g.waiting ++ more;
  whole = ap (λ all. all ++ more) g.whole ∙ append_assoc g.written g.waiting more;
  written = g.front;
}

pub gathers_memory : (refused : Refusal) (a : Option (List ℕ)) (l m : List ℕ) (more : List (List ℕ)) → refused ≡ refusal.Memory → Gathers (Err refused) a l a m more
gathers_memory refused a l m more is = record { put = λ old lines g. tt; left = λ old lines g. subst (λ one. LeavesLines (lines ++ more) one old a) (sym is) (memory_leaves old a l lines more g) }

pub gathers_put : (a : Option (List ℕ)) (l m text : List ℕ) (more : List (List ℕ)) → text ≡ concat more → m ≡ l ++ text → Gathers (Ok tt) a l a m more
gathers_put a l m text more is put = record { put = λ old lines g. put_lines old a l m lines more g (put ∙ ap (λ t. l ++ t) is); left = λ old lines g. tt }

-- what is gathered is written
all_written : (old a b : Option (List ℕ)) (l : List ℕ) (lines : List (List ℕ)) → AreGathered old a l lines → Appends a b l → Appends old b (concat lines)
all_written old a b l lines g h =
    subst (Appends old b) (ap (λ t. concat g.written ++ t) g.rest ∙ sym (concat-append g.written g.waiting) ∙ ap concat (sym g.whole))
    (Appends-trans old a b (concat g.written) l g.front h)

none_gathered : (old b : Option (List ℕ)) (lines : List (List ℕ)) → Appends old b (concat lines) → AreGathered old b [] lines
none_gathered old b lines h = record { written = lines; waiting = []; whole = sym (append-nil lines); front = h; rest = refl }

front_written : (old a b : Option (List ℕ)) (l : List ℕ) (lines : List (List ℕ)) → AreGathered old a l lines → AppendsFront a b l → LeavesLines lines refusal.Write old b
front_written old a b l lines g f = record {
  front = concat g.written ++ f.front;
  rest = f.rest;
  whole = ap concat g.whole ∙ concat-append g.written g.waiting ∙ ap (λ t. concat g.written ++ t) (sym g.rest ∙ f.whole) ∙ sym (append_assoc (concat g.written) f.front f.rest);
  written = Appends-trans old a b (concat g.written) f.front g.front f.written;
}

pub gathers_written : (a b : Option (List ℕ)) (l m : List ℕ) → Appends a b l → m ≡ [] → Gathers (Ok tt) a l b m []
gathers_written a b l m h is = record {
  put = λ old lines g. subst (AreGathered old b m) (sym (append-nil lines)) (subst (λ t. AreGathered old b t lines) (sym is) (none_gathered old b lines (all_written old a b l lines g h)));
  left = λ old lines g. tt;
}

pub gathers_cut : (a b : Option (List ℕ)) (l m : List ℕ) → AppendsFront a b l → Gathers (Err refusal.Write) a l b m []
gathers_cut a b l m f = record {
  put = λ old lines g. tt;
  left = λ old lines g. subst (λ all. LeavesLines all refusal.Write old b) (sym (append-nil lines)) (front_written old a b l lines g f);
}

-- the same for a text that is written where nothing is gathered
pub gathers_text : (a b : Option (List ℕ)) (text : List ℕ) (more : List (List ℕ)) → text ≡ concat more → Appends a b text → Gathers (Ok tt) a [] b [] more
gathers_text a b text more is h = record {
  put = λ old lines g.
      none_gathered old b (lines ++ more)
      (subst (Appends old b) (ap (λ t. concat lines ++ t) is ∙ sym (concat-append lines more))
      (Appends-trans old a b (concat lines) text (all_written old a a [] lines g (Appends-nil a)) h));
  left = λ old lines g. tt;
}

pub gathers_text_cut : (a b : Option (List ℕ)) (text : List ℕ) (more : List (List ℕ)) → text ≡ concat more → AppendsFront a b text → Gathers (Err refusal.Write) a [] b [] more
gathers_text_cut a b text more is f = record {
  put = λ old lines g. tt;
  left = λ old lines g. record {
    front = concat lines ++ f.front;
    rest = f.rest;
    whole = concat-append lines more ∙ ap (λ t. concat lines ++ t) (sym is ∙ f.whole) ∙ sym (append_assoc (concat lines) f.front f.rest);
    written = Appends-trans old a b (concat lines) f.front (all_written old a a [] lines g (Appends-nil a)) f.written;
  };
}

-- from nothing gathered to nothing gathered all is written
pub all_gathered : (result : Result (Unit {0}) Refusal) (a b : Option (List ℕ)) (m : List ℕ) (more : List (List ℕ)) → OnOk result (m ≡ []) → Gathers result a [] b m more → OnOk result (Appends a b (concat more))
all_gathered (Ok x) a b m more is h =
    let g = h.put a [] (none_gathered a a [] (Appends-nil a)) in
    all_written a b b m more g (subst (Appends b b) (sym is) (Appends-nil b))
all_gathered (Err refused) a b m more is h = tt

pub gathered_left : (result : Result (Unit {0}) Refusal) (a b : Option (List ℕ)) (m : List ℕ) (more : List (List ℕ)) → Gathers result a [] b m more → IfErr result (λ refused. LeavesLines more refused a b)
gathered_left (Ok x) a b m more h = tt
gathered_left (Err refused) a b m more h = h.left a [] (none_gathered a a [] (Appends-nil a))
