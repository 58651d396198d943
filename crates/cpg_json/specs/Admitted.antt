-- what is printed of whom the files let in, as lines of JSON
use Rattle.std.specs.Prelude.{ℕ, List, [], ◌∷◌, codes, Option, Some, None}
use Rattle.cpg_cred.specs.Listed.{Listed}
use Rattle.cpg_cred.specs.declared.admission.Via.{Via}
use Rattle.cpg_cred.specs.declared.credentials.Cred.{Cred}
use Rattle.cpg_cred.specs.declared.refusals.Refusal.TheVariants as refusal
use Rattle.cpg_accept.specs.Forms.{Form, admitted_told}
use Rattle.cpg_json.specs.Answers.{accept_json, refusal_fields, via_name}
use Rattle.cpg_json.specs.Objects.{field, kind, line, number, word}

-- a listed number of that name: of a user, and of a group
abbrev pub listed_json : List ℕ → ℕ → List ℕ
listed_json name value = line (kind (codes "listed") ∷ number name value ∷ [])

abbrev pub user_json : ℕ → List ℕ
user_json = listed_json (codes "uid")

abbrev pub group_json : ℕ → List ℕ
group_json = listed_json (codes "gid")

-- the answer to credentials, with what was asked
abbrev pub echo_json : Cred → Option Via → List ℕ
echo_json cred None =
    line (kind (codes "refused") ∷ number (codes "uid") cred.uid ∷ number (codes "gid") cred.gid ∷ refusal_fields refusal.Access)
echo_json cred (Some via) =
    line (kind (codes "accepted") ∷ number (codes "uid") cred.uid ∷ number (codes "gid") cred.gid ∷ field (codes "via") (word (via_name via)) ∷ [])

-- objects, one a line, those of answers as `cpgring accept` has them
abbrev pub as_json : Form
as_json = record { answer = λ cred answer. accept_json answer; user = user_json; group = group_json }

-- the same, each answer with its credentials
abbrev pub as_json_echo : Form
as_json_echo = record { answer = echo_json; user = user_json; group = group_json }

-- what is printed
abbrev pub admitted_json : Listed → List Cred → List ℕ
admitted_json list asks = admitted_told as_json list asks

-- the same, each answer with its credentials
abbrev pub admitted_json_echo : Listed → List Cred → List ℕ
admitted_json_echo list asks = admitted_told as_json_echo list asks
