use Rattle.std.proofs.Common.{◌≡◌, ◌+◌, ◌<◌, length, length-drop, add-zero, sym, ap, ◌∙◌, arith, take, drop, get_or, true≢false}
use Rattle.std.specs.FinMap.{insert}
use Rattle.std.proofs.lemmas.List.{get_or-drop, drop-drop}
use Rattle.cpg_ring.specs.Kept.{HeldValue}
use Rattle.cpg_ring.specs.Steps.{hold_from}
use Rattle.cpg_ring.proofs.Bursts.{from_more}
use Rattle.cpg_ring.proofs.ring.visiting.take_places.Goals as goal
use Rattle.cpg_ring.proofs.ring.visiting.take_places.Goals.{in-Some, in_default}

pub hold-requires-clause-low : goal.hold-requires-clause-low
hold-requires-clause-low c =
    let delivered = ap (λ (h : HeldValue). h.delivered) c.loop-i.invariant.held in
    let low = c.requires.low in
    omega arith

pub hold-requires-clause-window : goal.hold-requires-clause-window
hold-requires-clause-window c =
    let delivered = ap (λ (h : HeldValue). h.delivered) c.loop-i.invariant.held in
    let low = c.requires.low in
    let window = c.requires.window in
    let test = c.loop-i-test.true in
    omega arith

pub hold-requires-clause-room : goal.hold-requires-clause-room
hold-requires-clause-room c =
    let room = ap (λ (h : HeldValue). h.room) c.loop-i.invariant.held in
    let low = c.requires.low in
    let window = c.requires.window in
    let fits = c.requires.room in
    let test = c.loop-i-test.true in
    omega arith

pub loop-i-preserved : goal.loop-i-preserved
loop-i-preserved c =
    let test = c.loop-i-test.true in
    let ready = c.requires.ready in
    let W = c.args.waiting.now in
    let old = c.args.held.now in
    let within : c.loop-i.i < length W = omega arith in
    elim c.match-pop_first.branch [
      | in-Some w ↦
          let same : w.in-Some.entry ≡ get_or W c.loop-i.i w.in-Some.entry = w.in-Some.ensures.lookup ∙ (ap (λ l. get_or l 0 w.in-Some.entry) c.loop-i.invariant.waiting ∙ (get_or-drop c.loop-i.i W 0 w.in-Some.entry ∙ ap (λ n. get_or W n w.in-Some.entry) (add-zero c.loop-i.i))) in
          record {
            held = w.held-is ∙ (w.hold.ensures
                ∙ (ap (λ (h : HeldValue). record h { places = insert h.places (c.args.seq + c.loop-i.i + 1) w.in-Some.entry }) c.loop-i.invariant.held
                ∙ (ap (λ e. record old { places = insert (hold_from old.places c.args.seq (take c.loop-i.i W)) (c.args.seq + c.loop-i.i + 1) e }) same
                ∙ ap (λ m. record old { places = m }) (sym (from_more old.places c.args.seq W c.loop-i.i w.in-Some.entry within)))));
            waiting = w.in-Some.ensures.rest ∙ (ap (drop 1) c.loop-i.invariant.waiting ∙ drop-drop 1 c.loop-i.i W);
          }
      | in_default w ↦
          let rest = ap length c.loop-i.invariant.waiting in
          let l = length-drop c.loop-i.i W in
          absurd (true≢false (sym (w.in_default.ensures.variant.1 (omega arith))))
    ]
