-- A group that was brought past the record of its entry is past it among the kept ones.
use Rattle.std.proofs.Common.{◌≡◌, ℕ, Bool, true, false, ◌&&◌, cond, List, refl, ap, ◌∙◌, Some}
use Rattle.std.specs.Str.{bytes_eq}
use Rattle.std.proofs.lemmas.Slice.Eq.{bytes_eq-Decides}
use Rattle.cpg_record.specs.declared.records.Record.{Record}
use Rattle.cpg_record.specs.Membership.{is_allowed, is_named}
use Rattle.cpg_group.specs.Standing.{GroupValue, Kept, kept_group, changed, group_past}

pub group_entered : (kept : Kept) (name g : List ℕ) (x w : GroupValue) (place : ℕ) (r : Record) → x ≡ kept_group kept name → Some name ≡ r.group →
    w ≡ cond (is_allowed r.verdict) (changed place r x) x → cond (bytes_eq name g) w (kept_group kept g) ≡ group_past g (kept_group kept g) (place, r)
group_entered kept name g x w place r found named is =
    by_case (bytes_eq name g) (is_allowed r.verdict) refl is
    ∙ ap (λ o. cond (is_allowed r.verdict && is_named o g) (changed place r (kept_group kept g)) (kept_group kept g)) named
  where
    by_case : (b a : Bool) → bytes_eq name g ≡ b → w ≡ cond a (changed place r x) x →
        cond b w (kept_group kept g) ≡ cond (a && b) (changed place r (kept_group kept g)) (kept_group kept g)
    by_case false true at is = refl
    by_case false false at is = refl
    by_case true true at is = is ∙ ap (changed place r) (found ∙ ap (kept_group kept) ((bytes_eq-Decides name g).0 at))
    by_case true false at is = is ∙ found ∙ ap (kept_group kept) ((bytes_eq-Decides name g).0 at)
