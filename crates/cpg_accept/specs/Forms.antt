-- forms in which it is told whom the files let in, and what they tell
use Rattle.std.specs.Prelude.{ℕ, List, [], ◌++◌, codes, decimal, Option}
use Rattle.std.specs.List.{flat_map}
use Rattle.cpg_cred.specs.Admission.{via_of}
use Rattle.cpg_cred.specs.Listed.{Listed, with_listed}
use Rattle.cpg_cred.specs.declared.admission.Via.{Via}
use Rattle.cpg_cred.specs.declared.credentials.Cred.{Cred}
use Rattle.cpg_accept.specs.Asks.{answer_line}
use Rattle.cpg_conf.specs.Listed.{nothing}

-- A form: the line of what lets credentials in, or of their refusal; that of a listed user; and that of a listed group.
pub record Form : Type 0 where
  pub answer : Cred → Option Via → List ℕ
  pub user : ℕ → List ℕ
  pub group : ℕ → List ℕ

-- a listed user, and a listed group, as the word that lets them in
abbrev pub user_line : ℕ → List ℕ
user_line uid = codes "uid:" ++ decimal uid ++ codes "\n"

abbrev pub group_line : ℕ → List ℕ
group_line gid = codes "gid:" ++ decimal gid ++ codes "\n"

-- UID:GID
abbrev pub cred_text : Cred → List ℕ
cred_text cred = decimal cred.uid ++ codes ":" ++ decimal cred.gid

-- an answer behind its UID:GID
abbrev pub echo_line : Cred → Option Via → List ℕ
echo_line cred answer = cred_text cred ++ codes " " ++ answer_line answer

-- lines of text, in which an answer stands alone
abbrev pub as_text : Form
as_text = record { answer = λ cred answer. answer_line answer; user = user_line; group = group_line }

-- lines of text, in which an answer stands behind its UID:GID
abbrev pub as_echo : Form
as_echo = record { answer = echo_line; user = user_line; group = group_line }

-- what a form has of an answer, of a user and of a group
abbrev pub answer_by : Form → Cred → Option Via → List ℕ
answer_by form cred answer = form.answer cred answer

abbrev pub user_by : Form → ℕ → List ℕ
user_by form uid = form.user uid

abbrev pub group_by : Form → ℕ → List ℕ
group_by form gid = form.group gid

-- the listed users, and then the listed groups
abbrev pub list_told : Form → Listed → List ℕ
list_told form list = flat_map (user_by form) list.users ++ flat_map (group_by form) list.groups

-- what is told of credentials by a list
abbrev pub cred_answered : Form → Listed → Cred → List ℕ
cred_answered form list cred = answer_by form cred (via_of list cred)

-- what is told: for each of the credentials whether they are let in; where none are asked for, the list
abbrev pub admitted_told : Form → Listed → List Cred → List ℕ
admitted_told form list [] = list_told form list
admitted_told form list asks = flat_map (cred_answered form (with_listed nothing list)) asks

-- what is printed as text, and with the UID:GID of each answer
abbrev pub admitted_text : Listed → List Cred → List ℕ
admitted_text list asks = admitted_told as_text list asks

abbrev pub admitted_echo : Listed → List Cred → List ℕ
admitted_echo list asks = admitted_told as_echo list asks
