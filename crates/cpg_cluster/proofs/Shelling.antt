-- lines that were answered, one after the other
use Rattle.std.proofs.Common.{◌≡◌, ℕ, suc, ◌+◌, ◌<◌, ◌⊎◌, Bool, true, false, List, [], ◌∷◌, ◌++◌, length, flat_map, Option, None, Some, IfSome, inl, inr, refl, sym, ap, subst, ◌∙◌, append_assoc, append-nil, add-zero, arith}
use Rattle.std.specs.Prelude.{nat_lt, if◌then◌else◌}
use Rattle.std.specs.Io.KnownBytes.{Appends}
use Rattle.std.proofs.KnownBytes.{Appends-trans, Appends-nil, Keeps-refl}
use Rattle.std.proofs.lemmas.Bool.Decides.{nat_tests}
use Rattle.std.proofs.lemmas.List.{length-append}
use Rattle.std.proofs.lemmas.List.Concat.{flat_map-append}
use Rattle.cpg_world_laws.specs.Worlds.{WorldValue}
use Rattle.cpg_cred.specs.declared.refusals.Refusal.{Refusal}
use Rattle.cpg_cred.specs.declared.refusals.Refusal.TheVariants as refusal
use Rattle.cpg_text.specs.Lines.{lines_of, lines_left, trimmed}
use Rattle.cpg_text.specs.Streams.{AppendsFront}
use Rattle.cpg_cluster.specs.Answers.{SessionsValue, no_sessions}
use Rattle.cpg_cluster.specs.Lines.{Printed}
use Rattle.cpg_cluster.specs.declared.shell.lines.TheConstants.{MOST_LINE}
use Rattle.cpg_cluster.specs.declared.shell.typed.Typed.{Typed}
use Rattle.cpg_cluster.specs.declared.shell.typed.Typed.TheVariants.{Bad}
use Rattle.cpg_cluster.specs.Typed.{said_by, typed_of}
use Rattle.cpg_cluster.specs.Shelled.{Outcome, MayCome, MayAllCome, sessions_after, AreShelled, IsShelled, LeavesLine, IsEnded}
use Rattle.cpg_cluster.specs.ShellSteps.{LeftSo, StandsFor, IsFirst, IsLine, AreShelledSo}

-- a line that is kept says what the full one says
typed_too_long : (nodes : ℕ) (line : List ℕ) → MOST_LINE < length line → typed_of nodes line ≡ Bad
typed_too_long nodes line long =
    let test : nat_lt MOST_LINE (length line) ≡ true = grind (arith, nat_tests) in
    ap (λ (b : Bool). if b then Bad else said_by nodes (trimmed line)) test

pub typed_as : (nodes : ℕ) (kept full : List ℕ) → StandsFor kept full → typed_of nodes kept ≡ typed_of nodes full
typed_as nodes kept full stands =
    elim stands [
      | inl same ↦ ap (typed_of nodes) same
      | inr long ↦ typed_too_long nodes kept long.0 ∙ sym (typed_too_long nodes full long.1)
    ]

-- no line yet
pub none_shelled : (form : Printed) (start : WorldValue) (nodes : ℕ) (input old errors : Option (List ℕ)) → AreShelledSo form start nodes 1 no_sessions input input old old errors errors
none_shelled form start nodes input old errors = record {
  before = [];
  outcomes = [];
  all = at_start input;
  counted = refl;
  now = refl;
  shelled = record { came = tt; written = Appends-nil old; told = Appends-nil errors };
}
  where
    at_start : (known : Option (List ℕ)) → IfSome known (λ bytes. LeftSo known (λ rest. lines_of bytes ≡ [] ++ lines_of rest))
    at_start None = tt
    at_start (Some bytes) = refl

-- the lines that are left after the first
abbrev after : Bool → Option (List ℕ) → List (List ℕ)
after true left = lines_left left
after false left = []

first_after : (full : List ℕ) (more : Bool) (bytes : List ℕ) (new : Option (List ℕ)) → IsFirst full more bytes new → lines_of bytes ≡ full ∷ after more new
first_after full true bytes None h = absurd h
first_after full true bytes (Some rest) h = h
first_after full false bytes new h = h

-- the lines of the input around the first that is left
around : (input left new : Option (List ℕ)) (before : List (List ℕ)) (full : List ℕ) (more : Bool) → IfSome input (λ bytes. LeftSo left (λ rest. lines_of bytes ≡ before ++ lines_of rest))
    → IfSome left (λ bytes. IsFirst full more bytes new) → IfSome input (λ bytes. lines_of bytes ≡ before ++ full ∷ after more new)
around None left new before full more h first = tt
around (Some bytes) None new before full more h first = absurd h
around (Some bytes) (Some rest) new before full more h first = h ∙ ap (λ l. before ++ l) (first_after full more rest new first)

-- and where none is read any more
unread : (input left : Option (List ℕ)) (before : List (List ℕ)) → IfSome input (λ bytes. LeftSo left (λ rest. lines_of bytes ≡ before ++ lines_of rest))
    → IfSome input (λ bytes. lines_of bytes ≡ before ++ lines_left left)
unread None left before h = tt
unread (Some bytes) None before h = absurd h
unread (Some bytes) (Some rest) before h = h

-- one line more was read
read_on : (input left new : Option (List ℕ)) (before : List (List ℕ)) (full : List ℕ) → IfSome input (λ bytes. LeftSo left (λ rest. lines_of bytes ≡ before ++ lines_of rest))
    → IfSome left (λ bytes. IsFirst full true bytes new) → IfSome input (λ bytes. LeftSo new (λ rest. lines_of bytes ≡ (before ++ full ∷ []) ++ lines_of rest))
read_on None left new before full h first = tt
read_on (Some bytes) None new before full h first = absurd h
read_on (Some bytes) (Some rest) None before full h first = absurd first
read_on (Some bytes) (Some rest) (Some later) before full h first = h ∙ ap (λ l. before ++ l) first ∙ sym (append_assoc before (full ∷ []) (lines_of later))

-- the lines of the input where the last was read
read_last : (input left new : Option (List ℕ)) (before : List (List ℕ)) (full : List ℕ) → IfSome input (λ bytes. LeftSo left (λ rest. lines_of bytes ≡ before ++ lines_of rest))
    → IfSome left (λ bytes. IsFirst full false bytes new) → IfSome input (λ bytes. before ++ full ∷ [] ≡ lines_of bytes)
read_last None left new before full h first = tt
read_last (Some bytes) None new before full h first = absurd h
read_last (Some bytes) (Some rest) new before full h first = sym (h ∙ ap (λ l. before ++ l) first)

-- one line more came to something
came_more : (form : Printed) (start : WorldValue) (nodes : ℕ) (old : SessionsValue) (number : ℕ) (lines : List (List ℕ)) (outcomes : List Outcome) (line : List ℕ) (outcome : Outcome)
    → MayAllCome form start nodes old number lines outcomes → MayCome form start (sessions_after old outcomes) (number + length lines) (typed_of nodes line) outcome
    → MayAllCome form start nodes old number (lines ++ line ∷ []) (outcomes ++ outcome ∷ [])
came_more form start nodes old number [] [] line outcome all one = (subst (λ (n : ℕ). MayCome form start old n (typed_of nodes line) outcome) (add-zero number) one, tt)
came_more form start nodes old number [] (o ∷ outcomes) line outcome all one = absurd all
came_more form start nodes old number (l ∷ lines) [] line outcome all one = absurd all
came_more form start nodes old number (l ∷ lines) (o ∷ outcomes) line outcome all one =
    let next : number + suc (length lines) ≡ number + 1 + length lines = omega arith in
    (all.0, came_more form start nodes o.left (number + 1) lines outcomes line outcome all.1 (subst (λ (n : ℕ). MayCome form start (sessions_after o.left outcomes) n (typed_of nodes line) outcome) next one))

after_more : (old : SessionsValue) (outcomes : List Outcome) (outcome : Outcome) → sessions_after old (outcomes ++ outcome ∷ []) ≡ outcome.left
after_more old [] outcome = refl
after_more old (o ∷ outcomes) outcome = after_more o.left outcomes outcome

-- what is printed, or told, of one line more
text_more : (of : Outcome → List ℕ) (a b d : Option (List ℕ)) (outcomes : List Outcome) (outcome : Outcome) → Appends a b (flat_map of outcomes) → Appends b d (of outcome) → Appends a d (flat_map of (outcomes ++ outcome ∷ []))
text_more of a b d outcomes outcome first second =
    subst (Appends a d) (sym (flat_map-append of outcomes (outcome ∷ []) ∙ ap (λ l. flat_map of outcomes ++ l) (append-nil (of outcome)))) (Appends-trans a b d (flat_map of outcomes) (of outcome) first second)

-- The lines so far and one more were answered.
shelled_more : (form : Printed) (start : WorldValue) (nodes : ℕ) (before : List (List ℕ)) (outcomes : List Outcome) (full : List ℕ) (outcome : Outcome) (a b d e f h : Option (List ℕ))
    → AreShelled form start nodes before outcomes a b e f → MayCome form start (sessions_after no_sessions outcomes) (length before + 1) (typed_of nodes full) outcome → Appends b d outcome.printed → Appends f h outcome.told
    → AreShelled form start nodes (before ++ full ∷ []) (outcomes ++ outcome ∷ []) a d e h
shelled_more form start nodes before outcomes full outcome a b d e f h so one written told =
    let number : length before + 1 ≡ 1 + length before = omega arith in
    record {
      came = came_more form start nodes no_sessions 1 before outcomes full outcome so.came (subst (λ (n : ℕ). MayCome form start (sessions_after no_sessions outcomes) n (typed_of nodes full) outcome) number one);
      written = text_more (λ (o : Outcome). o.printed) a b d outcomes outcome so.written written;
      told = text_more (λ (o : Outcome). o.told) e f h outcomes outcome so.told told;
    }

-- what the answer to the line that was read is to the lines before it
one_came : (form : Printed) (start : WorldValue) (nodes number : ℕ) (sessions : SessionsValue) (before : List (List ℕ)) (outcomes : List Outcome) (kept full : List ℕ) (outcome : Outcome)
    → number ≡ length before + 1 → sessions ≡ sessions_after no_sessions outcomes → StandsFor kept full → MayCome form start sessions number (typed_of nodes kept) outcome
    → MayCome form start (sessions_after no_sessions outcomes) (length before + 1) (typed_of nodes full) outcome
one_came form start nodes number sessions before outcomes kept full outcome counted now stands one =
    subst (λ (t : Typed). MayCome form start (sessions_after no_sessions outcomes) (length before + 1) t outcome) (typed_as nodes kept full stands)
    (subst (λ (s : SessionsValue). MayCome form start s (length before + 1) (typed_of nodes kept) outcome) now
    (subst (λ (n : ℕ). MayCome form start sessions n (typed_of nodes kept) outcome) counted one))

-- the line that was read, and others follow it, was answered
pub shelled_on : (form : Printed) (start : WorldValue) (nodes number : ℕ) (sessions : SessionsValue) (input left new a b d e f h : Option (List ℕ)) (kept : List ℕ) (outcome : Outcome)
    → AreShelledSo form start nodes number sessions input left a b e f → IsLine kept true left new → MayCome form start sessions number (typed_of nodes kept) outcome → Appends b d outcome.printed → Appends f h outcome.told
    → AreShelledSo form start nodes (number + 1) outcome.left input new a d e h
shelled_on form start nodes number sessions input left new a b d e f h kept outcome so line one written told =
    record {
      before = so.before ++ line.full ∷ [];
      outcomes = so.outcomes ++ outcome ∷ [];
      all = read_on input left new so.before line.full so.all line.first;
      counted = omega (arith, so.counted, length-append so.before (line.full ∷ []));
      now = sym (after_more no_sessions so.outcomes outcome);
      shelled = shelled_more form start nodes so.before so.outcomes line.full outcome a b d e f h so.shelled (one_came form start nodes number sessions so.before so.outcomes kept line.full outcome so.counted so.now line.stands one) written told;
    }

-- the last line was answered
pub shelled_whole : (form : Printed) (start : WorldValue) (nodes number : ℕ) (sessions : SessionsValue) (input left new a b d e f h : Option (List ℕ)) (kept : List ℕ) (outcome : Outcome)
    → AreShelledSo form start nodes number sessions input left a b e f → IsLine kept false left new → MayCome form start sessions number (typed_of nodes kept) outcome → Appends b d outcome.printed → Appends f h outcome.told
    → IsShelled form start nodes input a d e h
shelled_whole form start nodes number sessions input left new a b d e f h kept outcome so line one written told = record {
  lines = so.before ++ line.full ∷ [];
  outcomes = so.outcomes ++ outcome ∷ [];
  all = read_last input left new so.before line.full so.all line.first;
  shelled = shelled_more form start nodes so.before so.outcomes line.full outcome a b d e f h so.shelled (one_came form start nodes number sessions so.before so.outcomes kept line.full outcome so.counted so.now line.stands one) written told;
}

-- the refusals that leave nothing of the line that meets them
leaves_nothing : (refused : Refusal) (form : Printed) (start : WorldValue) (nodes : ℕ) (sessions : SessionsValue) (number : ℕ) (lines : List (List ℕ)) (b f : Option (List ℕ))
    → (refused ≡ refusal.Read) ⊎ (refused ≡ refusal.Memory) → LeavesLine refused form start nodes sessions number lines b b f f
leaves_nothing refused form start nodes sessions number lines b f which =
    elim which [
      | inl is ↦ subst (λ (r : Refusal). LeavesLine r form start nodes sessions number lines b b f f) (sym is) (Keeps-refl b, Keeps-refl f)
      | inr is ↦ subst (λ (r : Refusal). LeavesLine r form start nodes sessions number lines b b f f) (sym is) (Keeps-refl b, Keeps-refl f)
    ]

-- the next line could not be read, or there was no memory for it
pub ended_before : (refused : Refusal) (form : Printed) (start : WorldValue) (nodes number : ℕ) (sessions : SessionsValue) (input left a b e f : Option (List ℕ))
    → AreShelledSo form start nodes number sessions input left a b e f → (refused ≡ refusal.Read) ⊎ (refused ≡ refusal.Memory) → IsEnded refused form start nodes input a b e f
ended_before refused form start nodes number sessions input left a b e f so which = record {
  before = so.before;
  later = lines_left left;
  outcomes = so.outcomes;
  all = unread input left so.before so.all;
  middle = b;
  middle_errors = f;
  shelled = so.shelled;
  left = leaves_nothing refused form start nodes (sessions_after no_sessions so.outcomes) (length so.before + 1) (lines_left left) b f which;
}

-- what the line that was read prints and tells could not be written whole
pub ended_in : (refused : Refusal) (form : Printed) (start : WorldValue) (nodes number : ℕ) (sessions : SessionsValue) (input left new a b d e f h : Option (List ℕ)) (kept : List ℕ) (more : Bool) (outcome : Outcome)
    → AreShelledSo form start nodes number sessions input left a b e f → IsLine kept more left new → MayCome form start sessions number (typed_of nodes kept) outcome → AppendsFront b d outcome.printed → AppendsFront f h outcome.told
    → refused ≡ refusal.Write → IsEnded refused form start nodes input a d e h
ended_in refused form start nodes number sessions input left new a b d e f h kept more outcome so line one written told is =
    subst (λ (r : Refusal). IsEnded r form start nodes input a d e h) (sym is) record {
      before = so.before;
      later = line.full ∷ after more new;
      outcomes = so.outcomes;
      all = around input left new so.before line.full more so.all line.first;
      middle = b;
      middle_errors = f;
      shelled = so.shelled;
      left = record {
        line = line.full;
        later = after more new;
        first = refl;
        outcome = outcome;
        came = one_came form start nodes number sessions so.before so.outcomes kept line.full outcome so.counted so.now line.stands one;
        written = written;
        told = told;
      };
    }
