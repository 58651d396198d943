use Rattle.std.proofs.Common.{◌≡◌, Some, sym, ◌∙◌, ap, [], ◌∷◌, ◌++◌, get_or}
use Rattle.std.specs.FinMap.{get}
use Rattle.cpg_ring.proofs.Keys.{served_one, served_none}
use Rattle.cpg_ring.proofs.held.Held.serve.Goals as goal
use Rattle.cpg_ring.proofs.held.Held.serve.Goals.{in-Some+in_ok-entry+in_ok-push, in_default}

pub loop-place-preserved : goal.loop-place-preserved
loop-place-preserved c =
    elim c.match-get.branch [
      | in-Some+in_ok-entry+in_ok-push w ↦
          let there : get c.args.self.now.places (get_or c.args.asked.now c.loop-place.place-index 0) ≡ Some w.in_ok-entry.entry = sym w.in-Some.ensures ∙ ap Some (sym w.in_ok-entry.ensures.ok) in
          ap (λ v. v.items) w.packets-is ∙ (w.in_ok-push.ensures.items
          ∙ (ap (λ l. l ++ record { ring = c.args.settings.now.ring; place = get_or c.args.asked.now c.loop-place.place-index 0; entry = w.in_ok-entry.entry } ∷ []) c.loop-place.invariant
          ∙ sym (served_one c.args.settings.now c.args.self.now.places c.args.asked.now c.loop-place.place-index 0 c.loop-place-test.true w.in_ok-entry.entry there)))
      | in_default w ↦
          ap (λ v. v.items) w.packets-is ∙ (c.loop-place.invariant
          ∙ sym (served_none c.args.settings.now c.args.self.now.places c.args.asked.now c.loop-place.place-index 0 c.loop-place-test.true (sym w.in_default.ensures)))
    ]
