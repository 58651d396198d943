-- What places tell the connection that made the entry: the verdict, and what they tell the group that it is in.
use Rattle.std.proofs.Common.{◌≡◌, ℕ, ◌+◌, ◌-◌, ◌<◌, ◌≤◌, Bool, true, false, ◌&&◌, ◌||◌, cond, List, [], ◌∷◌, ◌++◌, length, map, take, drop, Option, Some, None, refl, sym, ap, ◌∙◌, append-nil, arith}
use Rattle.std.specs.Prelude.{is_some, option_to_list}
use Rattle.std.specs.List.{concat, flat_map}
use Rattle.std.specs.Str.{bytes_eq}
use Rattle.std.proofs.lemmas.List.{length-append, take_all}
use Rattle.std.proofs.lemmas.Slice.Eq.{bytes_eq-Decides}
use Rattle.cpg_cred.specs.declared.bases.By.{By}
use Rattle.cpg_entry.specs.declared.calls.Call.TheVariants.{Join, Leave, Send, Insert, Remove}
use Rattle.cpg_entry.specs.declared.calls.Op.{Op}
use Rattle.cpg_entry.specs.declared.calls.Op.TheVariants.{Act, Gone}
use Rattle.cpg_entry.specs.declared.entries.Entry.{Entry}
use Rattle.cpg_record.specs.declared.connections.ConnId.{ConnId}
use Rattle.cpg_record.specs.declared.events.Event.{Event}
use Rattle.cpg_record.specs.declared.events.Event.TheVariants as event
use Rattle.cpg_record.specs.declared.records.Record.{Record}
use Rattle.cpg_record.specs.declared.verdicts.Reason.TheVariants as reason
use Rattle.cpg_record.specs.declared.verdicts.Verdict.{Verdict}
use Rattle.cpg_record.specs.declared.verdicts.Verdict.TheVariants.{Denied}
use Rattle.cpg_rules.specs.declared.decisions.Decision.{Decision}
use Rattle.cpg_rules.specs.declared.decisions.Decision.TheVariants as decision
use Rattle.cpg_record.specs.Connections.{conn_of}
use Rattle.cpg_record.specs.Events.{events_by, hears_change, news, news_by}
use Rattle.cpg_record.specs.Judging.{judged, entry_group}
use Rattle.cpg_record.specs.Membership.{group_of, is_allowed, is_member, is_named}
use Rattle.cpg_record.specs.Nexts.{acts_in, is_made_by}
use Rattle.cpg_record.specs.Places.{places_of, record_at, records_before}
use Rattle.cpg_record.specs.Steps.{group_after, group_by}
use Rattle.cpg_record.specs.Verdicts.{decided, op_verdict}
use Rattle.cpg_record.proofs.Growing.{group_of_push, is_conn-true}
use Rattle.cpg_record.proofs.Inboxes.{place_within}
use Rattle.cpg_record.proofs.Told.{group_is, record_is}
use Rattle.cpg_group.specs.Telling.{told, told_by, told_from, told_in}
use Rattle.cpg_print.specs.Events.{event_line}
use Rattle.cpg_judge.proofs.Gathered.{one_between, places_between}
use Rattle.cpg_judge.proofs.Passing.{counts_grow}
use Rattle.cpg_judge.proofs.Telling.{places_parted, told_cut}
use Rattle.cpg_judge.specs.Texts.{hears_own, lines_at, told_lines, texts_upto, HoldsTexts, Makes, TextValue}

-- ---- who hears an own record

named_itself : (g : List ℕ) → bytes_eq g g ≡ true
named_itself g = (bytes_eq-Decides g g).1 refl

in_it : (before : List Record) (conn : ConnId) (g : List ℕ) → group_of before conn ≡ Some g → is_member before conn g ≡ true
in_it before conn g is = ap (λ (o : Option (List ℕ)). is_named o g) is ∙ named_itself g

-- what the second test of a verdict denies is not allowed
not_denied : (d : Decision) (x : Bool) (next : By → Verdict) → is_allowed (decided d (λ by. cond x (Denied reason.Joined) (next by))) ≡ true → x ≡ false
not_denied (decision.Allowed by) true next allowed = absurd (cc)
not_denied (decision.Allowed by) false next allowed = refl
not_denied (decision.Denied by) x next allowed = absurd (cc)

-- a join from no group leads into the group
joins : (r : Record) (conn : ConnId) (o : Option (List ℕ)) (g : List ℕ) → is_allowed r.verdict ≡ true → is_made_by conn r ≡ true → r.entry.op ≡ Act (Join g) → is_some o ≡ false →
    group_after r conn o ≡ Some g
joins r conn None g allowed own op none =
    ap (λ (b : Bool). cond (b && is_made_by conn r) (group_by r.entry.op None) None) allowed
    ∙ ap (λ (b : Bool). cond b (group_by r.entry.op None) None) own
    ∙ ap (λ (x : Op). group_by x None) op
joins r conn (Some h) g allowed own op none = absurd (cc)

or_true : (b : Bool) → (b || true) ≡ true
or_true true = refl
or_true false = refl

-- what an allowed record's op tells its maker
news_by_own : (place : ℕ) (before : List Record) (r : Record) (conn : ConnId) (g : List ℕ) (op : Op) → r.entry.op ≡ op → is_made_by conn r ≡ true → conn ≡ conn_of r.entry →
    is_allowed r.verdict ≡ true → entry_group before r.entry op ≡ Some g → is_allowed (op_verdict before r.entry op) ≡ true →
    news_by place before r conn g op ≡ cond (hears_own (group_of before conn) g op) (Some (told_by place before r g op)) None
news_by_own place before r conn g (Act (Send m)) of own same allowed group judgement =
    ap (λ (b : Bool). cond b (Some (told_by place before r g (Act (Send m)))) None) (in_it before conn g (ap (group_of before) same ∙ group))
news_by_own place before r conn g (Act (Join h)) of own same allowed group judgement =
    let name : h ≡ g = cc in
    let none : is_some (group_of before conn) ≡ false = ap (λ (c : ConnId). is_some (group_of before c)) same ∙ not_denied _ _ _ judgement in
    let after : group_of (before ++ r ∷ []) conn ≡ Some h = group_of_push before r conn ∙ joins r conn (group_of before conn) h allowed own of none in
    let hears : hears_change before r conn g ≡ true =
    ap (λ b. is_member before conn g || b) (in_it (before ++ r ∷ []) conn g (after ∙ ap Some name)) ∙ or_true (is_member before conn g) in
    ap (λ (b : Bool). cond b (Some (told_by place before r g (Act (Join h)))) None) hears
news_by_own place before r conn g (Act Leave) of own same allowed group judgement =
    ap (λ (b : Bool). cond (b || is_member (before ++ r ∷ []) conn g) (Some (told_by place before r g (Act Leave))) None) (in_it before conn g (ap (group_of before) same ∙ group))
news_by_own place before r conn g Gone of own same allowed group judgement =
    ap (λ (b : Bool). cond (b || is_member (before ++ r ∷ []) conn g) (Some (told_by place before r g Gone)) None) (in_it before conn g (ap (group_of before) same ∙ group))
news_by_own place before r conn g (Act (Insert h at rule)) of own same allowed group judgement = refl
news_by_own place before r conn g (Act (Remove h id)) of own same allowed group judgement = refl

-- what a judged record tells its maker beside the verdict
pub news_of_own : (es : List Entry) (conn : ConnId) (place : ℕ) (r : Record) (g : List ℕ) → record_at (judged es) place ≡ Some r → is_made_by conn r ≡ true → r.group ≡ Some g → is_allowed r.verdict ≡ true →
    news place (records_before (judged es) place) r conn r.group ≡ cond (hears_own (group_of (records_before (judged es) place) conn) g r.entry.op) (told (judged es) place) None
news_of_own es conn place r g is own of allowed =
    let before = records_before (judged es) place in
    let judgement : is_allowed (op_verdict (records_before (judged es) place) r.entry r.entry.op) ≡ true = ap (λ (q : Record). is_allowed q.verdict) (sym (record_is es place r is)) ∙ allowed in
    let tells : told (judged es) place ≡ Some (told_by place (records_before (judged es) place) r g r.entry.op) =
    ap (told_from place (records_before (judged es) place)) is ∙ ap (told_in place (records_before (judged es) place) r) of
    ∙ ap (λ (b : Bool). cond b (Some (told_by place (records_before (judged es) place) r g r.entry.op)) None) allowed in
    ap (news place (records_before (judged es) place) r conn) of
    ∙ ap (λ (b : Bool). cond b (news_by place (records_before (judged es) place) r conn g r.entry.op) None) allowed
    ∙ news_by_own place (records_before (judged es) place) r conn g r.entry.op refl own (is_conn-true conn (conn_of r.entry) own) allowed (sym (group_is es place r is) ∙ of) judgement
    ∙ ap (λ (o : Option Event). cond (hears_own (group_of (records_before (judged es) place) conn) g r.entry.op) o None) (sym tells)

-- ---- the lines of an own record

-- the connection made the record that stands at an own place
pub own_there : (rs : List Record) (conn : ConnId) (place : ℕ) (r : Record) → Makes rs conn place → record_at rs place ≡ Some r → is_made_by conn r ≡ true
own_there rs conn place r (q, here, made) found =
    let alike : Some q ≡ Some r = sym here ∙ found in
    let one : q ≡ r = cc in
    ap (is_made_by conn) (sym one) ∙ made

module _ (rs : List Record) (conn : ConnId) (place : ℕ) (r : Record) (is : record_at rs place ≡ Some r) (own : is_made_by conn r ≡ true) where
  lines_of_own : lines_at rs conn place ≡ event_line (event.Verdict place r.verdict) ∷ map event_line (option_to_list (news place (records_before rs place) r conn r.group))
  lines_of_own =
      ap (λ (o : Option Record). map event_line (events_by place (records_before rs place) conn o)) is
      ∙ ap (λ (b : Bool). map event_line (cond b (event.Verdict place r.verdict ∷ []) [] ++ option_to_list (news place (records_before rs place) r conn r.group))) own

  -- the first line is the verdict's
  pub verdict_first : lines_at rs conn place ≡ event_line (event.Verdict place r.verdict) ∷ drop 1 (lines_at rs conn place)
  verdict_first = lines_of_own ∙ ap (λ l. event_line (event.Verdict place r.verdict) ∷ drop 1 l) (sym lines_of_own)

  -- a record without a group tells no more
  pub no_group : r.group ≡ None → drop 1 (lines_at rs conn place) ≡ []
  no_group none =
      ap (drop 1) lines_of_own ∙ ap (λ (o : Option (List ℕ)). map event_line (option_to_list (news place (records_before rs place) r conn o))) none

  -- nor a denied one
  denied : (g : List ℕ) → r.group ≡ Some g → is_allowed r.verdict ≡ false → drop 1 (lines_at rs conn place) ≡ []
  denied g of refused =
      ap (drop 1) lines_of_own ∙ ap (λ (o : Option (List ℕ)). map event_line (option_to_list (news place (records_before rs place) r conn o))) of
      ∙ ap (λ (b : Bool). map event_line (option_to_list (cond b (news_by place (records_before rs place) r conn g r.entry.op) None))) refused

module _ (es : List Entry) (conn : ConnId) (place : ℕ) (r : Record) (g : List ℕ) (is : record_at (judged es) place ≡ Some r) (own : is_made_by conn r ≡ true) (of : r.group ≡ Some g) where
  -- an allowed one tells what it tells the group, if the connection hears it
  allowed_line : is_allowed r.verdict ≡ true → drop 1 (lines_at (judged es) conn place) ≡ cond (hears_own (group_of (records_before (judged es) place) conn) g r.entry.op) (told_lines (judged es) place) []
  allowed_line allowed =
      ap (drop 1) (lines_of_own (judged es) conn place r is own)
      ∙ ap (λ (o : Option Event). map event_line (option_to_list o)) (news_of_own es conn place r g is own of allowed)
      ∙ by_case (hears_own (group_of (records_before (judged es) place) conn) g r.entry.op)
    where
      by_case : (b : Bool) → map event_line (option_to_list (cond b (told (judged es) place) None)) ≡ cond b (told_lines (judged es) place) []
      by_case true = refl
      by_case false = refl

  pub own_line : (x : Bool) → (is_allowed r.verdict && hears_own (group_of (records_before (judged es) place) conn) g r.entry.op) ≡ x → drop 1 (lines_at (judged es) conn place) ≡ cond x (told_lines (judged es) place) []
  own_line x tells = by_case (is_allowed r.verdict) refl ∙ ap (λ (b : Bool). cond b (told_lines (judged es) place) []) tells
    where
      by_case : (b : Bool) → is_allowed r.verdict ≡ b →
          drop 1 (lines_at (judged es) conn place) ≡ cond (b && hears_own (group_of (records_before (judged es) place) conn) g r.entry.op) (told_lines (judged es) place) []
      by_case true allowed = allowed_line allowed
      by_case false refused = denied (judged es) conn place r is own g of refused

  -- and then it acts in the group
  pub own_acts : (is_allowed r.verdict && hears_own (group_of (records_before (judged es) place) conn) g r.entry.op) ≡ true → acts_in g r ≡ true
  own_acts tells = by_case (is_allowed r.verdict) refl tells
    where
      by_case : (b : Bool) → is_allowed r.verdict ≡ b → (b && hears_own (group_of (records_before (judged es) place) conn) g r.entry.op) ≡ true → acts_in g r ≡ true
      by_case true allowed h = ap (λ (b : Bool). b && is_named r.group g) allowed ∙ ap (λ (o : Option (List ℕ)). is_named o g) of ∙ named_itself g
      by_case false refused h = absurd (cc)

-- ---- that line among the texts of the group

module _ (rs : List Record) (place : ℕ) (r : Record) (g : List ℕ) (is : record_at rs place ≡ Some r) (acts : acts_in g r ≡ true) where
  some : 1 ≤ place
  some = (place_within rs place r is).0

  within : place ≤ length rs
  within = (place_within rs place r is).1

  between : places_between rs g place ≡ place ∷ []
  between = one_between rs place r some is g ∙ ap (λ (b : Bool). cond b (place ∷ []) []) acts

  -- it is the last up to the place
  pub one_more : length (places_of (acts_in g) (take place rs)) ≡ length (places_of (acts_in g) (take (place - 1) rs)) + 1
  one_more =
      ap length (places_parted (acts_in g) rs (place - 1) place (omega arith) (omega (arith, within)) ∙ ap (λ ps. places_of (acts_in g) (take (place - 1) rs) ++ ps) between)
      ∙ length-append (places_of (acts_in g) (take (place - 1) rs)) (place ∷ [])

  -- so one place of the group at least comes after those before it
  pub place_left : length (places_of (acts_in g) (take (place - 1) rs)) < length (places_of (acts_in g) rs)
  place_left =
      omega (
        arith,
        one_more,
        counts_grow (acts_in g) rs place (length rs) within (omega arith),
        ap (λ (past : List Record). length (places_of (acts_in g) past)) (take_all (length rs) rs (omega arith)),
      )

  -- and the text after those before it is that of the place
  pub line_after : (value : TextValue) (text : List ℕ) (passed : ℕ) → passed ≡ length (places_of (acts_in g) (take (place - 1) rs)) →
      HoldsTexts value (texts_upto rs g (length rs)) →
      ((texts : List (List ℕ)) → HoldsTexts value texts → passed ≤ passed + 1 → passed + 1 ≤ length texts → text ≡ concat (drop passed (take (passed + 1) texts))) →
      text ≡ concat (told_lines rs place)
  line_after value text passed is_passed holds cut =
      told_cut rs g (place - 1) place value text passed (passed + 1) (omega arith) within is_passed (omega (arith, is_passed, one_more)) holds cut
      ∙ ap (λ ps. concat (flat_map (told_lines rs) ps)) between
      ∙ ap concat (append-nil (told_lines rs place))

  -- and so is that of the last one up to it
  pub line_upto : (value : TextValue) (text : List ℕ) (passed : ℕ) → passed ≡ length (places_of (acts_in g) (take place rs)) →
      HoldsTexts value (texts_upto rs g (length rs)) →
      ((texts : List (List ℕ)) → HoldsTexts value texts → passed - 1 ≤ passed → passed ≤ length texts → text ≡ concat (drop (passed - 1) (take passed texts))) →
      text ≡ concat (told_lines rs place)
  line_upto value text passed is_passed holds cut =
      told_cut rs g (place - 1) place value text (passed - 1) passed (omega arith) within (omega (arith, is_passed, one_more)) is_passed holds cut
      ∙ ap (λ ps. concat (flat_map (told_lines rs) ps)) between
      ∙ ap concat (append-nil (told_lines rs place))
