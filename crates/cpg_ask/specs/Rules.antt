-- A rule that is asked for, in numbers of four bytes, and what these mean.
use Rattle.std.specs.Prelude.{ℕ, ◌/◌, ◌%◌, ◌==◌, not, ◌&&◌, Bool, List, [], ◌∷◌, ◌++◌, Option, Some, None, nat_lt, if◌then◌else◌}
use Rattle.std.specs.Int.{is_in_range}
use Rattle.byteorder.specs.Endian.{little_bytes}
use Rattle.cpg_cred.specs.declared.nodes.TheConstants.{MOST_NODES}
use Rattle.cpg_rules.specs.declared.rules.Rule.{Rule}
use Rattle.cpg_rules.specs.declared.rules.Who.{Who}
use Rattle.cpg_wire.specs.Reading.{◌>>=◌}
use Rattle.cpg_rules.specs.declared.rules.Effect.{Effect}
use Rattle.cpg_rules.specs.declared.rules.Effect.TheVariants.{Allow, Deny}
use Rattle.cpg_rules.specs.declared.rules.Right.{Right}
use Rattle.cpg_rules.specs.declared.rules.Right.TheVariants as rights
use Rattle.cpg_wire.specs.Codes.{form_of, effect_code, right_code}
use Rattle.cpg_ask.specs.declared.rules.RuleWords.{RuleWords}
use Rattle.cpg_ask.specs.declared.rules.WhoWords.{WhoWords}
use Rattle.cpg_ask.specs.declared.words.Words.{Words}
use Rattle.cpg_ask.specs.Numbers.{little_at, IsU32}
use Rattle.cpg_ask.specs.Words.{words_bytes, words_at, WordsFit}

-- four words, as whom they speak of
abbrev pub who_of : Words → WhoWords
who_of w = record { conditions = w.first; uid = w.second; gid = w.third; node = w.fourth }

-- and back
abbrev pub words_of : WhoWords → Words
words_of who = record { first = who.conditions; second = who.uid; third = who.gid; fourth = who.node }

abbrev pub who_bytes : WhoWords → List ℕ
who_bytes who = words_bytes (words_of who)

abbrev pub rule_bytes : RuleWords → List ℕ
rule_bytes rule = little_bytes 4 rule.index ++ (little_bytes 4 rule.effect ++ (little_bytes 4 rule.right ++ who_bytes rule.who))

unfoldable pub who_at : List ℕ → Option (WhoWords × List ℕ)
who_at bytes = words_at bytes >>= λ w. Some (who_of w.0, w.1)

unfoldable pub rule_at : List ℕ → Option (RuleWords × List ℕ)
rule_at bytes = do
  index ← little_at 4 bytes
  effect ← little_at 4 index.1
  right ← little_at 4 effect.1
  who ← who_at right.1
  Some (record { index = index.0; effect = effect.0; right = right.0; who = who.0 }, who.1)

abbrev pub WhoFits : WhoWords → Type 0
WhoFits who = WordsFit (words_of who)

pub record RuleFits (rule : RuleWords) : Type 0 where
  pub index : IsU32 rule.index
  pub effect : IsU32 rule.effect
  pub right : IsU32 rule.right
  pub who : WhoFits rule.who

-- what a rule does, and of which right, by their numbers in cpgring.h
unfoldable pub effect_of : ℕ → Option Effect
effect_of number = form_of effect_code (Allow ∷ Deny ∷ []) number

unfoldable pub right_of : ℕ → Option Right
right_of number = form_of right_code (rights.Join ∷ rights.Send ∷ rights.List ∷ rights.Edit ∷ []) number

-- the condition is there: 1, 2 and 4 stand for user, group and node, and are added
abbrev pub is_given : ℕ → WhoWords → Bool
is_given bit who = (who.conditions / bit) % 2 == 1

abbrev pub value_given : ℕ → WhoWords → ℕ → Option ℕ
value_given bit who value = if is_given bit who then Some value else None

-- whom the words speak of; none where they name a node that no ring has
abbrev pub who_meant : WhoWords → Option Who
who_meant who =
    if is_given 4 who && not (is_in_range 1 MOST_NODES who.node) then None
    else Some (record { uid = value_given 1 who who.uid; gid = value_given 2 who who.gid; node = value_given 4 who who.node })

-- the rule that the words mean, if they mean one
unfoldable pub rule_meant : RuleWords → Option Rule
rule_meant words = do
  effect ← effect_of words.effect
  right ← right_of words.right
  who ← who_meant words.who
  Some (record { effect = effect; right = right; who = who })

-- the index and the rule, where the index is a number of one byte
abbrev pub insert_meant : RuleWords → Option (ℕ × Rule)
insert_meant words = if nat_lt 255 words.index then None else rule_meant words >>= λ rule. Some (words.index, rule)
