-- Who stands so is told.
use Rattle.std.proofs.Common.{◌≡◌, Bool, true, false, cond, ◌&&◌, ◌||◌, List, ℕ, Option, Some, None, refl, sym, ap, ◌∙◌}
use Rattle.std.specs.Str.{bytes_eq}
use Rattle.cpg_record.specs.declared.records.Record.{Record}
use Rattle.cpg_record.specs.Membership.{group_of, is_allowed, is_named}
use Rattle.cpg_record.specs.Nexts.{is_made_by, reaches}
use Rattle.cpg_record.specs.Places.{records_before}
use Rattle.cpg_record.proofs.Nexts.{tells_exactly}
use Rattle.cpg_why.specs.declared.standings.Standing.{Standing}
use Rattle.cpg_why.specs.declared.standings.Standing.TheVariants.{Maker, Denied, Member, Elsewhere}
use Rattle.cpg_why.specs.Standings.{is_told, standing_in, ToldByStanding}

told_named : (b : Bool) → is_told (cond b Member Elsewhere) ≡ b
told_named true = refl
told_named false = refl

-- who stands so is told where its entry it is, or where the entry reaches its group
told_same : (r : Record) (made allowed : Bool) (group mine : Option (List ℕ)) → is_allowed r.verdict ≡ allowed → r.group ≡ group
    → is_told (cond made Maker (cond allowed (standing_in group mine) Denied)) ≡ (made || reaches mine r)
told_same r true allowed group mine is of = refl
told_same r false false group None is of = refl
told_same r false false group (Some h) is of = sym (ap (λ (b : Bool). b && is_named r.group h) is)
told_same r false true None None is of = refl
told_same r false true None (Some h) is of = sym (ap (λ (b : Bool). b && is_named r.group h) is ∙ ap (λ (g : Option (List ℕ)). is_named g h) of)
told_same r false true (Some g) None is of = refl
told_same r false true (Some g) (Some h) is of =
    told_named (bytes_eq g h) ∙ sym (ap (λ (b : Bool). b && is_named r.group h) is ∙ ap (λ (k : Option (List ℕ)). is_named k h) of)

pub told_by_standing : ToldByStanding
told_by_standing rs conn place r is =
    let same = told_same r (is_made_by conn r) (is_allowed r.verdict) r.group (group_of (records_before rs place) conn) refl refl in
    let exact = tells_exactly rs conn place r is in
    ((λ h. same ∙ exact.0 h), (λ h. exact.1 (sym same ∙ h)))
