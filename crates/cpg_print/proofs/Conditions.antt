-- conditions and rules that are printed are read as those conditions and rules again
use Rattle.std.proofs.Common.{◌≡◌, ℕ, ◌<◌, ◌≤◌, ◌^◌, List, [], ◌∷◌, ◌++◌, true, Option, Some, None, refl, sym, ap, ◌∙◌, append_assoc, append-nil, arith}
use Rattle.std.proofs.lemmas.List.Folds.{list_all-append}
use Rattle.std.specs.Prelude.{codes, decimal, IfSome, ◌==◌, not}
use Rattle.cpg_cred.specs.declared.nodes.TheConstants.{MOST_NODES}
use Rattle.cpg_rules.specs.declared.rules.Who.{Who}
use Rattle.cpg_entry.specs.Ranges.{Within}
use Rattle.cpg_entry.specs.Widths.{WhoFits}
use Rattle.cpg_text.specs.Words.{after_name, cut_at}
use Rattle.cpg_print.specs.Rules.{conditions_text, who_text, first_condition, named_number, read_or_left, take_condition, complete, conditions_of, who_of}
use Rattle.cpg_print.proofs.Spacing.{lacks, cut_first, cut_none}
use Rattle.cpg_print.proofs.Numerals.{decimal_lacks, number_back}

-- a condition, and the conditions after it
abbrev joined : List ℕ → Option (List ℕ) → List ℕ
joined word None = word
joined word (Some others) = word ++ 43 ∷ others

-- the conditions left, where one that may be there stands before them
abbrev left_with : List ℕ → Option ℕ → Option (List ℕ) → Option (List ℕ)
left_with name None others = others
left_with name (Some n) others = Some (joined (name ++ decimal n) others)

-- the first condition is taken off
first_is : (word : List ℕ) (others : Option (List ℕ)) → lacks 43 word ≡ true → first_condition (joined word others) (cut_at 43 (joined word others)) ≡ (word, others)
first_is word None e = ap (first_condition word) (cut_none 43 word e)
first_is word (Some others) e = ap (first_condition (word ++ 43 ∷ others)) (cut_first 43 word others e)

-- a name with a number after it has no `+`
condition_lacks : (name : List ℕ) (n : ℕ) → lacks 43 name ≡ true → n < 2 ^ 64 → lacks 43 (name ++ decimal n) ≡ true
condition_lacks name n e small = list_all-append (λ byte. not (byte == 43)) name (decimal n) ∙ rw (e, decimal_lacks 43 n (omega arith) small) refl

-- reading the first condition reads its word alone
takes_first : (name word : List ℕ) (low high : ℕ) (others : Option (List ℕ)) → lacks 43 word ≡ true
    → take_condition name low high (Some (joined word others)) ≡ read_or_left (joined word others) (named_number name low high word) others
takes_first name word low high others e =
    ap (λ first. read_or_left (joined word others) (named_number name low high first.0) first.1) (first_is word others e)

-- a condition of another name is left
passed : (name other : List ℕ) (low high n : ℕ) (others : Option (List ℕ)) → lacks 43 other ≡ true → n < 2 ^ 64 → after_name name (other ++ decimal n) ≡ None
    → take_condition name low high (left_with other (Some n) others) ≡ (None, left_with other (Some n) others)
passed name other low high n others e small no_name =
    takes_first name (other ++ decimal n) low high others (condition_lacks other n e small)
    ∙ rw no_name refl

-- a condition of that name is taken
taken : (name : List ℕ) (low high n : ℕ) (others : Option (List ℕ)) → lacks 43 name ≡ true → n < 2 ^ 64 → Within low high n → after_name name (name ++ decimal n) ≡ Some (decimal n)
    → take_condition name low high (left_with name (Some n) others) ≡ (Some n, others)
taken name low high n others e small within named =
    takes_first name (name ++ decimal n) low high others (condition_lacks name n e small)
    ∙ rw (named, number_back low high n small within) refl

-- a condition that may be there is taken, where the conditions after it are of other names
taken_if_there : (name : List ℕ) (low high : ℕ) (condition : Option ℕ) (others : Option (List ℕ)) → lacks 43 name ≡ true → high < 2 ^ 64 → IfSome condition (Within low high)
    → ((n : ℕ) → after_name name (name ++ decimal n) ≡ Some (decimal n)) → take_condition name low high others ≡ (None, others)
    → take_condition name low high (left_with name condition others) ≡ (condition, others)
taken_if_there name low high None others e small within named none = none
taken_if_there name low high (Some n) others e small within named none = taken name low high n others e (omega arith) within (named n)

-- a condition of another name, where it is there, is left
passed_if_there : (name other : List ℕ) (low high most : ℕ) (condition : Option ℕ) (others : Option (List ℕ)) → lacks 43 other ≡ true → most < 2 ^ 64 → IfSome condition (λ n. n ≤ most)
    → ((n : ℕ) → after_name name (other ++ decimal n) ≡ None) → take_condition name low high others ≡ (None, others)
    → take_condition name low high (left_with other condition others) ≡ (None, left_with other condition others)
passed_if_there name other low high most None others e small within no_name none = none
passed_if_there name other low high most (Some n) others e small within no_name none = passed name other low high n others e (omega arith) (no_name n)

-- the conditions of a who from the node's on, from the gid's on, and from the uid's on
abbrev node_left : Who → Option (List ℕ)
node_left who = left_with (codes "node:") who.node None

abbrev gid_left : Who → Option (List ℕ)
gid_left who = left_with (codes "gid:") who.gid (node_left who)

abbrev all_left : Who → Option (List ℕ)
all_left who = left_with (codes "uid:") who.uid (gid_left who)

pub at_most : (low high : ℕ) (condition : Option ℕ) → IfSome condition (Within low high) → IfSome condition (λ n. n ≤ high)
at_most low high None within = tt
at_most low high (Some n) within = within.1

node_taken : (who : Who) → WhoFits who → take_condition (codes "node:") 1 MOST_NODES (node_left who) ≡ (who.node, None)
node_taken who fits = taken_if_there (codes "node:") 1 MOST_NODES who.node None refl (omega arith) fits.node (λ n. refl) refl

gid_taken : (who : Who) → WhoFits who → take_condition (codes "gid:") 0 4294967295 (gid_left who) ≡ (who.gid, node_left who)
gid_taken who fits =
    taken_if_there (codes "gid:") 0 4294967295 who.gid (node_left who) refl (omega arith) fits.gid (λ n. refl)
    (passed_if_there (codes "gid:") (codes "node:") 0 4294967295 MOST_NODES who.node None refl (omega arith) (at_most 1 MOST_NODES who.node fits.node) (λ n. refl) refl)

uid_taken : (who : Who) → WhoFits who → take_condition (codes "uid:") 0 4294967295 (all_left who) ≡ (who.uid, gid_left who)
uid_taken who fits =
    taken_if_there (codes "uid:") 0 4294967295 who.uid (gid_left who) refl (omega arith) fits.uid (λ n. refl)
    (passed_if_there (codes "uid:") (codes "gid:") 0 4294967295 4294967295 who.gid (node_left who) refl (omega arith) (at_most 0 4294967295 who.gid fits.gid) (λ n. refl)
    (passed_if_there (codes "uid:") (codes "node:") 0 4294967295 MOST_NODES who.node None refl (omega arith) (at_most 1 MOST_NODES who.node fits.node) (λ n. refl) refl))

-- the who, once its node was read, its gid was read, and its uid was read
abbrev after_node : Option ℕ → Option ℕ → Option ℕ × Option (List ℕ) → Option Who
after_node uid gid node = complete (record { uid = uid; gid = gid; node = node.0 }) node.1

abbrev after_gid : Option ℕ → Option ℕ × Option (List ℕ) → Option Who
after_gid uid gid = after_node uid gid.0 (take_condition (codes "node:") 1 MOST_NODES gid.1)

abbrev after_uid : Option ℕ × Option (List ℕ) → Option Who
after_uid uid = after_gid uid.0 (take_condition (codes "gid:") 0 4294967295 uid.1)

-- conditions are read one after the other
conditions_back : (who : Who) (word : List ℕ) → WhoFits who → all_left who ≡ Some word → conditions_of word ≡ Some who
unfolding conditions_of
conditions_back who word fits e =
    ap (λ left. after_uid (take_condition (codes "uid:") 0 4294967295 left)) (sym e)
    ∙ ap after_uid (uid_taken who fits) ∙ ap (after_gid who.uid) (gid_taken who fits) ∙ ap (after_node who.uid who.gid) (node_taken who fits)

-- a who of those conditions
abbrev pub who_with : Option ℕ → Option ℕ → Option ℕ → Who
who_with uid gid node = record { uid = uid; gid = gid; node = node }

-- what is printed of each choice of conditions
chosen_back : (uid gid node : Option ℕ) → WhoFits (who_with uid gid node) → who_of (who_text (who_with uid gid node)) ≡ Some (who_with uid gid node)
chosen_back None None None fits = refl
chosen_back None None (Some n) fits =
    conditions_back (who_with None None (Some n)) (conditions_text (who_with None None (Some n))) fits refl
chosen_back None (Some g) None fits =
    conditions_back (who_with None (Some g) None) (conditions_text (who_with None (Some g) None)) fits (ap Some (sym (append-nil (codes "gid:" ++ decimal g))))
chosen_back None (Some g) (Some n) fits =
    conditions_back (who_with None (Some g) (Some n)) (conditions_text (who_with None (Some g) (Some n))) fits refl
chosen_back (Some u) None None fits =
    conditions_back (who_with (Some u) None None) (conditions_text (who_with (Some u) None None)) fits
    (ap Some (sym (append-nil ((codes "uid:" ++ decimal u) ++ []) ∙ append-nil (codes "uid:" ++ decimal u))))
chosen_back (Some u) None (Some n) fits =
    conditions_back (who_with (Some u) None (Some n)) (conditions_text (who_with (Some u) None (Some n))) fits
    (ap (λ front. Some (front ++ (codes "+node:" ++ decimal n))) (sym (append-nil (codes "uid:" ++ decimal u))))
chosen_back (Some u) (Some g) None fits =
    conditions_back (who_with (Some u) (Some g) None) (conditions_text (who_with (Some u) (Some g) None)) fits
    (ap Some (sym (append-nil (codes "uid:" ++ decimal u ++ (codes "+gid:" ++ decimal g)))))
chosen_back (Some u) (Some g) (Some n) fits =
    conditions_back (who_with (Some u) (Some g) (Some n)) (conditions_text (who_with (Some u) (Some g) (Some n))) fits
    (ap Some (sym (append_assoc (codes "uid:" ++ decimal u) (codes "+gid:" ++ decimal g) (codes "+node:" ++ decimal n))))

-- a who that is printed is read as that who
pub who_back : (who : Who) → WhoFits who → who_of (who_text who) ≡ Some who
who_back who fits = chosen_back who.uid who.gid who.node fits
