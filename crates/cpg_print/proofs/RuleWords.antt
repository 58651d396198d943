-- rules that are printed are their words, and are read as those rules again
use Rattle.std.proofs.Common.{◌≡◌, ℕ, ◌<◌, ◌≤◌, ◌^◌, List, [], ◌∷◌, ◌++◌, Bool, true, false, Option, Some, None, refl, ap, ◌∙◌, arith}
use Rattle.std.proofs.lemmas.List.Folds.{list_all-append}
use Rattle.std.specs.Prelude.{codes, decimal, is_some, IfSome, ◌||◌}
use Rattle.std.specs.List.{list_all}
use Rattle.cpg_cred.specs.declared.nodes.TheConstants.{MOST_NODES}
use Rattle.cpg_rules.specs.declared.rules.Effect.{Effect}
use Rattle.cpg_rules.specs.declared.rules.Effect.TheVariants.{Allow, Deny}
use Rattle.cpg_rules.specs.declared.rules.Right.{Right}
use Rattle.cpg_rules.specs.declared.rules.Right.TheVariants as right
use Rattle.cpg_rules.specs.declared.rules.Rule.{Rule}
use Rattle.cpg_rules.specs.declared.rules.Who.{Who}
use Rattle.cpg_entry.specs.Names.{is_name_byte}
use Rattle.cpg_entry.specs.Widths.{WhoFits}
use Rattle.cpg_text.specs.Lines.{words_of}
use Rattle.cpg_print.specs.Rules.{effect_text, right_text, condition_text, conditions_text, who_text, rule_text, effect_of, right_of, rule_of}
use Rattle.cpg_print.proofs.Conditions.{at_most, who_back, who_with}
use Rattle.cpg_print.proofs.Numerals.{decimal_printed}
use Rattle.cpg_print.proofs.Spacing.{HasFirst, is_word, two_spaced, word_of_bytes, words_last}

effect_back : (effect : Effect) → effect_of (effect_text effect) ≡ Some effect
effect_back Allow = refl
effect_back Deny = refl

effect_word : (effect : Effect) → is_word (effect_text effect) ≡ true
effect_word Allow = refl
effect_word Deny = refl

right_back : (right : Right) → right_of (right_text right) ≡ Some right
right_back right.Join = refl
right_back right.Send = refl
right_back right.List = refl
right_back right.Edit = refl

right_word : (right : Right) → is_word (right_text right) ≡ true
right_word right.Join = refl
right_word right.Send = refl
right_word right.List = refl
right_word right.Edit = refl

-- a condition is printed in printing characters
condition_printed : (joins : Bool) (name : List ℕ) (condition : Option ℕ) → list_all is_name_byte name ≡ true → IfSome condition (λ n. n < 2 ^ 64)
    → list_all is_name_byte (condition_text joins name condition) ≡ true
condition_printed joins name None e small = refl
condition_printed false name (Some n) e small = list_all-append is_name_byte name (decimal n) ∙ rw (e, decimal_printed n small) refl
condition_printed true name (Some n) e small = list_all-append is_name_byte (codes "+" ++ name) (decimal n) ∙ rw (e, decimal_printed n small) refl

-- a number of a condition has an end
below : (most : ℕ) (condition : Option ℕ) → most < 2 ^ 64 → IfSome condition (λ n. n ≤ most) → IfSome condition (λ n. n < 2 ^ 64)
below most None small within = tt
below most (Some n) small within = omega arith

printed : (who : Who) → WhoFits who → list_all is_name_byte (conditions_text who) ≡ true
printed who fits =
    let uid = condition_text false (codes "uid:") who.uid in
    let gid = condition_text (is_some who.uid) (codes "gid:") who.gid in
    let node = condition_text (is_some who.uid || is_some who.gid) (codes "node:") who.node in
    let one : list_all is_name_byte uid ≡ true = condition_printed false (codes "uid:") who.uid refl (below 4294967295 who.uid (omega arith) (at_most 0 4294967295 who.uid fits.uid)) in
    let two : list_all is_name_byte gid ≡ true = condition_printed (is_some who.uid) (codes "gid:") who.gid refl (below 4294967295 who.gid (omega arith) (at_most 0 4294967295 who.gid fits.gid)) in
    let three : list_all is_name_byte node ≡ true = condition_printed (is_some who.uid || is_some who.gid) (codes "node:") who.node refl (below MOST_NODES who.node (omega arith) (at_most 1 MOST_NODES who.node fits.node)) in
    list_all-append is_name_byte (uid ++ gid) node ∙ rw (list_all-append is_name_byte uid gid, one, two, three) refl

-- conditions are one word, where there is one
joined_word : (who : Who) → WhoFits who → HasFirst (conditions_text who) → is_word (conditions_text who) ≡ true
joined_word who fits first = word_of_bytes (conditions_text who) first (printed who fits)

chosen_word : (uid gid node : Option ℕ) → WhoFits (who_with uid gid node) → is_word (who_text (who_with uid gid node)) ≡ true
chosen_word None None None fits = refl
chosen_word None None (Some n) fits = joined_word (who_with None None (Some n)) fits tt
chosen_word None (Some g) None fits = joined_word (who_with None (Some g) None) fits tt
chosen_word None (Some g) (Some n) fits = joined_word (who_with None (Some g) (Some n)) fits tt
chosen_word (Some u) None None fits = joined_word (who_with (Some u) None None) fits tt
chosen_word (Some u) None (Some n) fits = joined_word (who_with (Some u) None (Some n)) fits tt
chosen_word (Some u) (Some g) None fits = joined_word (who_with (Some u) (Some g) None) fits tt
chosen_word (Some u) (Some g) (Some n) fits = joined_word (who_with (Some u) (Some g) (Some n)) fits tt

-- whom a rule speaks of is one word
who_word : (who : Who) → WhoFits who → is_word (who_text who) ≡ true
who_word who fits = chosen_word who.uid who.gid who.node fits

-- a rule that is printed is three words
pub rule_words : (rule : Rule) → WhoFits rule.who → words_of (rule_text rule) ≡ effect_text rule.effect ∷ right_text rule.right ∷ who_text rule.who ∷ []
rule_words rule fits =
    two_spaced (effect_text rule.effect) (right_text rule.right) (who_text rule.who) (effect_word rule.effect) (right_word rule.right)
    ∙ ap (λ l. effect_text rule.effect ∷ right_text rule.right ∷ l) (words_last (who_text rule.who) (who_word rule.who fits))

-- the words of a rule are read as that rule
pub rule_back : (rule : Rule) → WhoFits rule.who → rule_of (effect_text rule.effect) (right_text rule.right) (who_text rule.who ∷ []) ≡ Some rule
unfolding rule_of
rule_back rule fits = rw (effect_back rule.effect, right_back rule.right, who_back rule.who fits) refl
