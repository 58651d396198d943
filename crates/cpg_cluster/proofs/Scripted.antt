-- the numbers of lines, and commands that are read with theirs
use Rattle.std.proofs.Common.{◌≡◌, ℕ, ◌+◌, Bool, false, true, cond, List, [], ◌∷◌, ◌++◌, length, map, slice_index, Option, None, Some, Result, Ok, Err, IfErr, option_map, refl, sym, ap, ◌∙◌, append_assoc, arith}
use Rattle.std.specs.Prelude.{not}
use Rattle.cpg_text.specs.Lines.{is_ignored, trimmed, words_of}
use Rattle.cpg_text.specs.Commands.{commands_from, commands_of}
use Rattle.cpg_cred.specs.declared.refusals.Refusal.{Refusal}
use Rattle.cpg_cred.specs.declared.refusals.Refusal.TheVariants as refusal
use Rattle.cpg_text.specs.Reading.{item_then, items_after, read_all, FailsAs}
use Rattle.cpg_cluster.specs.declared.commands.Command.{Command}
use Rattle.cpg_cluster.specs.declared.commands.Numbered.{Numbered}
use Rattle.cpg_cluster.specs.Commands.{command_of}
use Rattle.cpg_cluster.specs.Scripts.{numbered, commands_in, commands_of_script, numbers_of}
use Rattle.cpg_cluster.specs.Steps.{numbered_by}

-- the numbers that the lines have, from that number on
abbrev pub numbers_from : ℕ → List (List ℕ) → List ℕ
numbers_from number lines = map (λ line. line.0) (commands_from number lines)

-- a line that is ignored has none
pub number_ignored : (number : ℕ) (line : List ℕ) (lines : List (List ℕ)) → is_ignored (trimmed line) ≡ true →
    numbers_from number (line ∷ lines) ≡ numbers_from (number + 1) lines
number_ignored number line lines ignored =
    let rest = commands_from (number + 1) lines in
    ap (λ (b : Bool). map (λ (l : ℕ × List ℕ). l.0) (cond (not b) ((number, trimmed line) ∷ rest) rest)) ignored

-- another has its own
pub number_held : (numbers : List ℕ) (number : ℕ) (line : List ℕ) (lines : List (List ℕ)) → is_ignored (trimmed line) ≡ false →
    numbers ++ numbers_from number (line ∷ lines) ≡ (numbers ++ number ∷ []) ++ numbers_from (number + 1) lines
number_held numbers number line lines held =
    let rest = commands_from (number + 1) lines in
    ap (λ (b : Bool). numbers ++ map (λ (l : ℕ × List ℕ). l.0) (cond (not b) ((number, trimmed line) ∷ rest) rest)) held
    ∙ sym (append_assoc numbers (number ∷ []) (numbers_from (number + 1) lines))

-- the number that follows some numbers
number_after : (before : List ℕ) (number : ℕ) (later : List ℕ) → slice_index (before ++ number ∷ later) (length before) ≡ number
number_after [] number later = refl
number_after (b ∷ before) number later = number_after before number later

-- lines that are read by their numbers, after some that were
read_after : (nodes : ℕ) (before : List ℕ) (lines : List (ℕ × List ℕ))
    → items_after (numbered_by nodes (before ++ map (λ (line : ℕ × List ℕ). line.0) lines)) (length before) lines ≡ commands_in nodes lines
read_after nodes before [] = refl
read_after nodes before (line ∷ lines) =
    let numbers : List ℕ = before ++ line.0 ∷ map (λ (l : ℕ × List ℕ). l.0) lines in
    let whole : numbers ≡ (before ++ line.0 ∷ []) ++ map (λ (l : ℕ × List ℕ). l.0) lines = sym (append_assoc before (line.0 ∷ []) (map (λ (l : ℕ × List ℕ). l.0) lines)) in
    let one : length before + 1 ≡ length (before ++ line.0 ∷ []) = sym (length_one before line.0) in
    let later : items_after (numbered_by nodes numbers) (length before + 1) lines ≡ commands_in nodes lines =
    ap (λ (all : List ℕ). items_after (numbered_by nodes all) (length before + 1) lines) whole
    ∙ ap (λ (n : ℕ). items_after (numbered_by nodes ((before ++ line.0 ∷ []) ++ map (λ (l : ℕ × List ℕ). l.0) lines)) n lines) one
    ∙ read_after nodes (before ++ line.0 ∷ []) lines in
    ap (λ (number : ℕ). item_then line.0 (option_map (numbered number) (command_of nodes (words_of line.1))) (items_after (numbered_by nodes numbers) (length before + 1) lines)) (number_after before line.0 (map (λ (l : ℕ × List ℕ). l.0) lines))
    ∙ ap (λ (items : Result (List Numbered) ℕ). item_then line.0 (option_map (numbered line.0) (command_of nodes (words_of line.1))) items) later
  where
    length_one : (xs : List ℕ) (x : ℕ) → length (xs ++ x ∷ []) ≡ length xs + 1
    length_one [] x = refl
    length_one (y ∷ xs) x = let e = length_one xs x in omega (arith, e)

-- a script that is read by its numbers
pub read_numbered : (nodes : ℕ) (numbers script : List ℕ) → numbers ≡ numbers_of script → read_all (numbered_by nodes numbers) script ≡ commands_of_script nodes script
read_numbered nodes numbers script e =
    ap (λ (all : List ℕ). read_all (numbered_by nodes all) script) e ∙ read_after nodes [] (commands_of script)

-- a line that is bad is so whatever its number
bad_then : (n : ℕ) (said : Option Command) (f g : Command → Numbered) (r s : Result (List Numbered) ℕ) (bad : ℕ)
    → ((b : ℕ) → r ≡ Err b → s ≡ Err b) → item_then n (option_map f said) r ≡ Err bad → item_then n (option_map g said) s ≡ Err bad
bad_then n None f g r s bad same e = e
bad_then n (Some c) f g (Ok items) s bad same e = absurd (cc e)
bad_then n (Some c) f g (Err b) s bad same e = ap (item_then n (Some (g c))) (same b refl) ∙ e

bad_after : (nodes : ℕ) (numbers : List ℕ) (before : ℕ) (lines : List (ℕ × List ℕ)) (bad : ℕ) → items_after (numbered_by nodes numbers) before lines ≡ Err bad → commands_in nodes lines ≡ Err bad
bad_after nodes numbers before [] bad e = absurd (cc e)
bad_after nodes numbers before (line ∷ lines) bad e =
    bad_then line.0 (command_of nodes (words_of line.1)) (numbered (slice_index numbers before)) (numbered line.0) (items_after (numbered_by nodes numbers) (before + 1) lines) (commands_in nodes lines) bad
    (λ b. bad_after nodes numbers (before + 1) lines b) e

-- a script that fails by other numbers fails so
fails_alike : (nodes : ℕ) (numbers script : List ℕ) (refused : Refusal) → FailsAs (read_all (numbered_by nodes numbers) script) refused → FailsAs (commands_of_script nodes script) refused
fails_alike nodes numbers script (refusal.BadCommand line) e = bad_after nodes numbers 0 (commands_of script) line e
fails_alike nodes numbers script refusal.Memory e = tt
fails_alike nodes numbers script _ e = absurd e

pub refused_alike : {T : Type 0} (nodes : ℕ) (numbers script : List ℕ) (read : Result T Refusal) → IfErr read (λ refused. FailsAs (read_all (numbered_by nodes numbers) script) refused)
    → IfErr read (λ refused. FailsAs (commands_of_script nodes script) refused)
refused_alike nodes numbers script (Ok lines) h = tt
refused_alike nodes numbers script (Err refused) h = fails_alike nodes numbers script refused h
