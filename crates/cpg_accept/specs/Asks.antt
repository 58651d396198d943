-- asks, `UID GID` on a line, and their answers
use Rattle.std.specs.Prelude.{ℕ, List, [], ◌∷◌, ◌++◌, codes, if◌then◌else◌, MatchBool, IsSome, Option, Some, None, Result, Ok, Err}
use Rattle.cpg_cred.specs.Admission.{via_of}
use Rattle.cpg_cred.specs.Listed.{Listed}
use Rattle.cpg_cred.specs.Shown.{refusal_text}
use Rattle.cpg_cred.specs.declared.admission.Via.{Via}
use Rattle.cpg_cred.specs.declared.admission.Via.TheVariants.{RootUser, RootGroup, User, Group}
use Rattle.cpg_cred.specs.declared.credentials.Cred.{Cred}
use Rattle.cpg_cred.specs.declared.refusals.Refusal.{Refusal}
use Rattle.cpg_cred.specs.declared.refusals.Refusal.TheVariants.{Access, BadCommand}
use Rattle.cpg_text.specs.Lines.{trimmed, words_of, is_ignored}
use Rattle.cpg_conf.specs.Names.{next_number}
use Rattle.cpg_text.specs.Words.{◌>>=◌, u32_of}

-- the credentials of a line's words
abbrev pub cred_of : List (List ℕ) → Option Cred
cred_of (uid ∷ gid ∷ []) = do
  u ← u32_of uid
  g ← u32_of gid
  Some (record { uid = u; gid = g })
cred_of words = None

-- what lets credentials in, or nothing where they are refused; other lines are no commands
abbrev pub answer_of : Listed → ℕ → Option Cred → Result (Option Via) Refusal
answer_of list line None = Err (BadCommand line)
answer_of list line (Some cred) = Ok (via_of list cred)

-- an answer, and then others, unless there is a fault: the first one counts
abbrev pub answer_then : Result (Option Via) Refusal → Result (List (Option Via)) Refusal → Result (List (Option Via)) Refusal
answer_then (Err fault) later = Err fault
answer_then (Ok answer) (Ok later) = Ok (answer ∷ later)
answer_then (Ok answer) (Err fault) = Err fault

-- the answers of lines, the first of which has that number, by a list
abbrev pub answers_from : Listed → ℕ → List (List ℕ) → Result (List (Option Via)) Refusal
answers_from list line [] = Ok []
answers_from list line (text ∷ later) =
    if is_ignored (trimmed text) then answers_from list (next_number line) later
    else answer_then (answer_of list line (cred_of (words_of (trimmed text)))) (answers_from list (next_number line) later)

-- the first of the lines that is not ignored says credentials, so that there is an answer to keep
abbrev pub HasAsk : List (List ℕ) → Type 0
HasAsk [] = ⊥
HasAsk (text ∷ later) = MatchBool (is_ignored (trimmed text)) (HasAsk later) (IsSome (cred_of (words_of (trimmed text))))

-- an answer as it is printed
abbrev pub answer_line : Option Via → List ℕ
answer_line (Some RootUser) = codes "accepted root-user\n"
answer_line (Some RootGroup) = codes "accepted root-group\n"
answer_line (Some User) = codes "accepted user\n"
answer_line (Some Group) = codes "accepted group\n"
answer_line None = codes "refused " ++ refusal_text Access ++ codes "\n"
