-- The text of a group's members after one place more, and what one record more leaves of what is kept.
use Rattle.std.proofs.Common.{◌≡◌, ℕ, ◌-◌, ◌≤◌, Bool, true, false, ◌&&◌, cond, List, take, Option, Some, None, refl, sym, ap, subst, ◌∙◌, arith}
use Rattle.std.specs.List.{slice_get}
use Rattle.std.specs.Str.{bytes_eq}
use Rattle.std.proofs.lemmas.Slice.Eq.{bytes_eq-Decides}
use Rattle.cpg_entry.specs.declared.calls.Call.TheVariants.{Join, Leave, Send, Insert, Remove}
use Rattle.cpg_entry.specs.declared.calls.Op.{Op}
use Rattle.cpg_entry.specs.declared.calls.Op.TheVariants.{Act, Gone}
use Rattle.cpg_entry.specs.declared.entries.Entry.{Entry}
use Rattle.cpg_entry.specs.Entries.{is_move}
use Rattle.cpg_record.specs.declared.memberships.Member.{Member}
use Rattle.cpg_record.specs.declared.records.Record.{Record}
use Rattle.cpg_record.specs.Judging.{judged}
use Rattle.cpg_record.specs.Membership.{is_allowed, is_named, members}
use Rattle.cpg_record.specs.Nexts.{acts_in}
use Rattle.cpg_record.specs.Places.{record_at, records_before}
use Rattle.cpg_record.specs.Steps.{members_by}
use Rattle.cpg_record.proofs.Changed.{records_list_their_members}
use Rattle.cpg_record.proofs.Growing.{members_push}
use Rattle.cpg_record.proofs.Nexts.{and_false, members_stay}
use Rattle.cpg_record.proofs.Placing.{record_at-index}
use Rattle.cpg_record.proofs.Told.{first_records}
use Rattle.cpg_print.specs.Records.{members_text}
use Rattle.cpg_judge.specs.Texts.{kept_text, showing, with_place, AreShown, KeptTexts, TextValue}

-- ---- one place more

either_way : (b : Bool) (list : List Member) → cond b list list ≡ list
either_way true list = refl
either_way false list = refl

-- an op that moves nobody leaves the members
unmoved : (r : Record) (g : List ℕ) (list : List Member) (op : Op) → is_move op ≡ false → members_by r.entry op g list ≡ list
unmoved r g list (Act (Join h)) still = absurd (cc)
unmoved r g list (Act Leave) still = absurd (cc)
unmoved r g list (Act (Send m)) still = refl
unmoved r g list (Act (Insert h at rule)) still = refl
unmoved r g list (Act (Remove h id)) still = refl
unmoved r g list Gone still = absurd (cc)

module _ (es : List Entry) (place : ℕ) (r : Record) (some : 1 ≤ place) (is : record_at (judged es) place ≡ Some r) where
  -- a record that does not act in a group leaves its members
  quiet : (g : List ℕ) → acts_in g r ≡ false → members (take place (judged es)) g ≡ members (take (place - 1) (judged es)) g
  quiet g other =
      members_stay es g (place - 1) place (omega (arith, some)) (λ n s low high at.
      let here : n ≡ place - 1 = omega (arith, low, high) in
      let alike : Some s ≡ Some r = sym at ∙ ap (slice_get (judged es)) here ∙ sym (record_at-index (judged es) place some) ∙ is in
      let same : r ≡ s = cc in
      subst (λ (q : Record). acts_in g q ≡ false) same other)

  -- nor does one that moves nobody
  still : (g : List ℕ) → is_move r.entry.op ≡ false → members (take place (judged es)) g ≡ members (take (place - 1) (judged es)) g
  still g none =
      ap (λ (past : List Record). members past g) (first_records (judged es) place r is)
      ∙ members_push (records_before (judged es) place) r g
      ∙ ap (λ (list : List Member). cond (is_allowed r.verdict) list (members (records_before (judged es) place) g)) (unmoved r g (members (records_before (judged es) place) g) r.entry.op none)
      ∙ either_way (is_allowed r.verdict) (members (records_before (judged es) place) g)

  module _ (kept : KeptTexts) (shown : AreShown kept (judged es) (place - 1)) where
    same_shown : ((g : List ℕ) → acts_in g r ≡ false) → AreShown kept (judged es) place
    same_shown others = λ g. shown g ∙ ap members_text (sym (quiet g (others g)))

    -- a record without a group
    pub without_group : r.group ≡ None → AreShown kept (judged es) place
    without_group none = same_shown (λ g. ap (λ (o : Option (List ℕ)). is_allowed r.verdict && is_named o g) none ∙ and_false (is_allowed r.verdict))

    -- a denied one
    pub not_allowed : is_allowed r.verdict ≡ false → AreShown kept (judged es) place
    not_allowed denied = same_shown (λ g. ap (λ (b : Bool). b && is_named r.group g) denied)

    -- the members' text with an allowed one of a group is that of the members that it lists
    pub members_shown : (name line : List ℕ) → r.group ≡ Some name → (with_place r line (kept_text kept name)).members ≡ members_text r.members
    members_shown name line of = by_move (is_move r.entry.op) refl
      where
        by_move : (b : Bool) → is_move r.entry.op ≡ b → (cond b (showing r.members (kept_text kept name)) (kept_text kept name)).members ≡ members_text r.members
        by_move true moves = refl
        by_move false moves = shown name ∙ ap members_text (sym (still name moves)) ∙ ap members_text (sym (records_list_their_members es place r name is of))

    -- an allowed one of a group
    pub one_shown : (new : KeptTexts) (name line : List ℕ) → r.group ≡ Some name → is_allowed r.verdict ≡ true →
        ((g : List ℕ) → kept_text new g ≡ cond (bytes_eq name g) (with_place r line (kept_text kept g)) (kept_text kept g)) → AreShown new (judged es) place
    one_shown new name line of allowed grown = λ g. ap (λ (value : TextValue). value.members) (grown g) ∙ for g (bytes_eq name g) refl
      where
        of_move : (g : List ℕ) (b : Bool) → is_move r.entry.op ≡ b → name ≡ g → (cond b (showing r.members (kept_text kept g)) (kept_text kept g)).members ≡ members_text (members (take place (judged es)) g)
        of_move g true moves same = ap members_text (records_list_their_members es place r g is (of ∙ ap Some same))
        of_move g false moves same = shown g ∙ ap members_text (sym (still g moves))

        for : (g : List ℕ) (b : Bool) → bytes_eq name g ≡ b → (cond b (with_place r line (kept_text kept g)) (kept_text kept g)).members ≡ members_text (members (take place (judged es)) g)
        for g true named = of_move g (is_move r.entry.op) refl ((bytes_eq-Decides name g).0 named)
        for g false named =
            let other : acts_in g r ≡ false = ap (λ (b : Bool). b && is_named r.group g) allowed ∙ ap (λ (o : Option (List ℕ)). is_named o g) of ∙ named in
            shown g ∙ ap members_text (sym (quiet g other))

  -- the members of the record's group are those that it lists
  pub listed : (kept : KeptTexts) (name text : List ℕ) → AreShown kept (judged es) place → r.group ≡ Some name → text ≡ (kept_text kept name).members → text ≡ members_text r.members
  listed kept name text shown of is_text = is_text ∙ shown name ∙ ap members_text (sym (records_list_their_members es place r name is of))
