use Rattle.std.proofs.Common.{◌≡◌, ℕ, ◌+◌, ◌<◌, ◌≤◌, ◌-◌, List, length, None, refl, sym, ap, ◌∙◌, subst, arith}
use Rattle.std.specs.Prelude.{IsSome}
use Rattle.std.specs.List.{slice_get}
use Rattle.cpg_record.specs.declared.connections.ConnId.{ConnId}
use Rattle.cpg_entry.specs.declared.entries.Entry.{Entry}
use Rattle.cpg_record.specs.Events.{events, inbox}
use Rattle.cpg_record.specs.Nexts.{IsNextTold}
use Rattle.cpg_record.specs.Judging.{judged}
use Rattle.cpg_record.proofs.Denials.{each_entry_is_judged}
use Rattle.cpg_group.specs.Heard.{HeardValue}
use Rattle.cpg_group.specs.declared.nexts.Hint.{Hint}
use Rattle.cpg_node.specs.Cursors.{IsCursor}
use Rattle.cpg_node.specs.declared.cursors.Cursor.{Cursor}
use Rattle.cpg_node.proofs.Looking.{cursor_behind, cursor_past, item_at, item_there, few_at, none_left}
use Rattle.cpg_node.proofs.inboxes.seek.Goals as goal

-- what is asked of a place that was found is of the records
listed : (now : List Entry) (conn : ConnId) (heard : HeardValue) → heard ≡ record { records = judged now; conn = conn; place = heard.place } →
    events heard.records heard.place heard.conn ≡ events (judged now) heard.place conn
listed now conn heard is = ap (λ (h : HeardValue). events h.records h.place h.conn) is

-- a cursor past the place, by what was asked of it
past_is : (now : List Entry) (cursor : Cursor) (heard : HeardValue) (place count : ℕ) (hint : Hint) → heard ≡ record { records = judged now; conn = cursor.conn; place = heard.place } →
    place ≡ heard.place → count ≡ length (events heard.records heard.place heard.conn) → IsCursor (judged now) cursor → IsNextTold (judged now) cursor.place cursor.conn heard.place →
    IsCursor (judged now) (record { conn = cursor.conn; place = place; told = cursor.told + count; hint = hint })
past_is now cursor heard place count hint is at counted right next =
    let list = events (judged now) heard.place cursor.conn in
    let all : count ≡ length list = counted ∙ ap length (listed now cursor.conn heard is) in
    subst (λ (p : ℕ). IsCursor (judged now) (record { conn = cursor.conn; place = p; told = cursor.told + count; hint = hint })) (sym at)
    (subst (λ (n : ℕ). IsCursor (judged now) (record { conn = cursor.conn; place = heard.place; told = cursor.told + n; hint = hint })) (sym all) (cursor_past now cursor heard.place hint list right next refl))

-- what the places up to it tell are few enough to count
few : (now : List Entry) (cursor : Cursor) (heard : HeardValue) (count : ℕ) → heard ≡ record { records = judged now; conn = cursor.conn; place = heard.place } →
    count ≡ length (events heard.records heard.place heard.conn) → IsCursor (judged now) cursor → IsNextTold (judged now) cursor.place cursor.conn heard.place → length now ≤ 1048576 →
    cursor.told + count ≤ 2097152
few now cursor heard count is counted right next all =
    let two = few_at (judged now) cursor.conn heard.place (events (judged now) heard.place cursor.conn) refl in
    let same = counted ∙ ap length (listed now cursor.conn heard is) in
    let so_far = right.few in
    let above = next.above in
    let most = next.within in
    let each = (each_entry_is_judged now).0 in
    omega (arith, two, same, so_far, above, most, all, each)

-- the item that is sought is one of its events
item_is : (now : List Entry) (cursor : Cursor) (heard : HeardValue) (count index : ℕ) → heard ≡ record { records = judged now; conn = cursor.conn; place = heard.place } →
    count ≡ length (events heard.records heard.place heard.conn) → IsCursor (judged now) cursor → IsNextTold (judged now) cursor.place cursor.conn heard.place →
    cursor.told ≤ index → index - cursor.told < count →
    slice_get (events heard.records heard.place heard.conn) (index - cursor.told) ≡ slice_get (inbox (judged now) cursor.conn) index
item_is now cursor heard count index is counted right next before within =
    let list = listed now cursor.conn heard is in
    let same = counted ∙ ap length list in
    ap (λ events. slice_get events (index - cursor.told)) list
    ∙ item_at now cursor heard.place index right next before (omega (arith, within, same))

pub past-cursor-requires : goal.past-cursor-requires
past-cursor-requires c =
    let most = few c.args.policy.now c.loop-heard.cursor c.in-Some.heard c.count-count.result c.in-Some.ensures.value c.count-count.ensures c.loop-heard.invariant.right c.in-Some.ensures.next c.requires.few in
    omega (arith, most)

pub behind-cursor-requires-clause-few : goal.behind-cursor-requires-clause-few
behind-cursor-requires-clause-few c =
    let most = few c.args.policy.now c.loop-heard.cursor c.in-Some.heard c.count-count.result c.in-Some.ensures.value c.count-count.ensures c.loop-heard.invariant.right c.in-Some.ensures.next c.requires.few in
    omega (arith, most)

pub returns-then-at-count-clause-found : goal.returns-then-at-count-clause-found
returns-then-at-count-clause-found c =
    item_is c.args.policy.now c.loop-heard.cursor c.in-Some.heard c.count-count.result c.args.index c.in-Some.ensures.value c.count-count.ensures c.loop-heard.invariant.right c.in-Some.ensures.next c.loop-heard.invariant.before c.if-at-count.true
    ∙ ap (λ (conn : ConnId). slice_get (inbox (judged c.args.policy.now) conn) c.args.index) c.loop-heard.invariant.conn

pub returns-then-at-count-clause-there : goal.returns-then-at-count-clause-there
returns-then-at-count-clause-there c =
    let cursor = c.loop-heard.cursor in
    let at = item_is c.args.policy.now cursor c.in-Some.heard c.count-count.result c.args.index c.in-Some.ensures.value c.count-count.ensures c.loop-heard.invariant.right c.in-Some.ensures.next c.loop-heard.invariant.before c.if-at-count.true in
    let within = c.if-at-count.true in
    let count = c.count-count.ensures in
    let there : IsSome (slice_get (inbox (judged c.args.policy.now) cursor.conn) c.args.index) =
    subst IsSome at (item_there (events c.in-Some.heard.records c.in-Some.heard.place c.in-Some.heard.conn) (c.args.index - cursor.told) (omega (arith, within, count))) in
    subst (λ (conn : ConnId). IsSome (slice_get (inbox (judged c.args.policy.now) conn) c.args.index)) c.loop-heard.invariant.conn there

pub returns-then-at-count-clause-cursor : goal.returns-then-at-count-clause-cursor
returns-then-at-count-clause-cursor c =
    let now = c.args.policy.now in
    let cursor = c.loop-heard.cursor in
    let further = past_is now cursor c.in-Some.heard c.place-place.result c.count-count.result c.hint-hint.result c.in-Some.ensures.value c.place-place.ensures c.count-count.ensures c.loop-heard.invariant.right c.in-Some.ensures.next in
    subst (IsCursor (judged now)) (sym c.behind-cursor.ensures) (cursor_behind (judged now) _ cursor _ c.loop-heard.invariant.right further)

pub returns-then-at-count-clause-few : goal.returns-then-at-count-clause-few
returns-then-at-count-clause-few c =
    let most = few c.args.policy.now c.loop-heard.cursor c.in-Some.heard c.count-count.result c.in-Some.ensures.value c.count-count.ensures c.loop-heard.invariant.right c.in-Some.ensures.next c.requires.few in
    let within = c.if-at-count.true in
    omega (arith, most, within)

pub loop-heard-preserved : goal.loop-heard-preserved
loop-heard-preserved c =
    let now = c.args.policy.now in
    let cursor = c.loop-heard.cursor in
    let outside = c.if-at-count.false in
    let before = c.loop-heard.invariant.before in
    let further = past_is now cursor c.in-Some.heard c.place-place.result c.count-count.result c.hint-hint.result c.in-Some.ensures.value c.place-place.ensures c.count-count.ensures c.loop-heard.invariant.right c.in-Some.ensures.next in
    record {
      right = subst (IsCursor (judged now)) (sym c.past-cursor.ensures) further;
      conn = ap (λ (cursor : Cursor). cursor.conn) c.past-cursor.ensures ∙ c.loop-heard.invariant.conn;
      before = let told = ap (λ (cursor : Cursor). cursor.told) c.past-cursor.ensures in omega (arith, told, outside, before);
    }

pub returns-clause-found : goal.returns-clause-found
returns-clause-found c =
    subst (λ (conn : ConnId). None ≡ slice_get (inbox (judged c.args.policy.now) conn) c.args.index) c.loop-heard.invariant.conn
    (none_left (judged c.args.policy.now) c.loop-heard.cursor c.args.index c.loop-heard.invariant.right c.in_default.ensures.next c.loop-heard.invariant.before)
