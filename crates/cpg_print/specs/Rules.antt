-- access rules as words, both ways
use Rattle.std.specs.Prelude.{ℕ, List, [], ◌∷◌, ◌++◌, codes, decimal, Bool, false, ◌||◌, Option, Some, None, is_some, if◌then◌else◌}
use Rattle.std.specs.Str.{bytes_eq}
use Rattle.cpg_cred.specs.declared.nodes.TheConstants.{MOST_NODES}
use Rattle.cpg_rules.specs.declared.rules.Effect.{Effect}
use Rattle.cpg_rules.specs.declared.rules.Effect.TheVariants as effect
use Rattle.cpg_rules.specs.declared.rules.Right.{Right}
use Rattle.cpg_rules.specs.declared.rules.Right.TheVariants as right
use Rattle.cpg_rules.specs.declared.rules.Who.{Who}
use Rattle.cpg_rules.specs.declared.rules.Rule.{Rule}
use Rattle.cpg_text.specs.Numbers.{number_in}
use Rattle.cpg_text.specs.Words.{◌>>=◌, after_name, cut_at}

-- EFFECT
abbrev pub effect_text : Effect → List ℕ
effect_text effect.Allow = codes "allow"
effect_text effect.Deny = codes "deny"

-- RIGHT
abbrev pub right_text : Right → List ℕ
right_text right.Join = codes "join"
right_text right.Send = codes "send"
right_text right.List = codes "list"
right_text right.Edit = codes "edit"

-- a condition that is there, after a `+` where another stands before it
abbrev pub condition_text : Bool → List ℕ → Option ℕ → List ℕ
condition_text joins name None = []
condition_text joins name (Some number) = (if joins then codes "+" else []) ++ name ++ decimal number

-- the conditions of a who in the order uid, gid, node, joined by `+`
abbrev pub conditions_text : Who → List ℕ
conditions_text who =
    condition_text false (codes "uid:") who.uid ++ condition_text (is_some who.uid) (codes "gid:") who.gid
    ++ condition_text (is_some who.uid || is_some who.gid) (codes "node:") who.node

-- WHO: `any`, or the conditions
abbrev pub who_text : Who → List ℕ
who_text who = if is_some who.uid || is_some who.gid || is_some who.node then conditions_text who else codes "any"

-- EFFECT RIGHT WHO
abbrev pub rule_text : Rule → List ℕ
rule_text rule = effect_text rule.effect ++ codes " " ++ right_text rule.right ++ codes " " ++ who_text rule.who

-- the effect of an EFFECT
abbrev pub effect_of : List ℕ → Option Effect
effect_of word = if bytes_eq word (codes "allow") then Some effect.Allow else if bytes_eq word (codes "deny") then Some effect.Deny else None

-- the right of a RIGHT
abbrev pub right_of : List ℕ → Option Right
right_of word =
    if bytes_eq word (codes "join") then Some right.Join
    else if bytes_eq word (codes "send") then Some right.Send
    else if bytes_eq word (codes "list") then Some right.List
    else if bytes_eq word (codes "edit") then Some right.Edit
    else None

-- what stands before the first `+` with what stands after it, or all where there is none
abbrev pub first_condition : List ℕ → Option (List ℕ × List ℕ) → List ℕ × Option (List ℕ)
first_condition text None = (text, None)
first_condition text (Some parts) = (parts.0, Some parts.1)

-- the number of the condition that was read, with the conditions after it, or none and all of them
abbrev pub read_or_left : List ℕ → Option ℕ → Option (List ℕ) → Option ℕ × Option (List ℕ)
read_or_left text None others = (None, Some text)
read_or_left text (Some number) others = (Some number, others)

-- the number of a word that is that name and a number in that range
abbrev pub named_number : List ℕ → ℕ → ℕ → List ℕ → Option ℕ
named_number name low high word = after_name name word >>= number_in low high

-- the number of the first condition where it has that name and is in that range, with the conditions left
abbrev pub take_condition : List ℕ → ℕ → ℕ → Option (List ℕ) → Option ℕ × Option (List ℕ)
take_condition name low high None = (None, None)
take_condition name low high (Some text) =
    let first = first_condition text (cut_at 43 text) in
    read_or_left text (named_number name low high first.0) first.1

-- the who, where no condition is left
abbrev pub complete : Who → Option (List ℕ) → Option Who
complete who None = Some who
complete who (Some left) = None

-- the who of conditions `uid:N`, `gid:N`, `node:N` joined by `+`, in this order and each at most once
unfoldable pub conditions_of : List ℕ → Option Who
conditions_of word =
    let uid = take_condition (codes "uid:") 0 4294967295 (Some word) in
    let gid = take_condition (codes "gid:") 0 4294967295 uid.1 in
    let node = take_condition (codes "node:") 1 MOST_NODES gid.1 in
    complete (record { uid = uid.0; gid = gid.0; node = node.0 }) node.1

-- the who of a WHO
abbrev pub who_of : List ℕ → Option Who
who_of word = if bytes_eq word (codes "any") then Some (record { uid = None; gid = None; node = None }) else conditions_of word

-- the who of one word, and of no other number of words
abbrev pub who_in : List (List ℕ) → Option Who
who_in (who ∷ []) = who_of who
who_in _ = None

-- the rule of EFFECT RIGHT WHO
unfoldable pub rule_of : List ℕ → List ℕ → List (List ℕ) → Option Rule
rule_of effect right who = do
  e ← effect_of effect
  r ← right_of right
  w ← who_in who
  Some (record { effect = e; right = r; who = w })
