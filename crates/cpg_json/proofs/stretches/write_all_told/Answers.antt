use Rattle.std.proofs.Common.{◌∷◌, [], ◌++◌, ◌+◌, get_or, map, take, drop, sym, ◌∙◌, append_assoc}
use Rattle.std.proofs.lemmas.Option.{slice_get-get_or}
use Rattle.cpg_record.specs.Judging.{judged}
use Rattle.cpg_text.proofs.Lined.{map_around, map_one_more}
use Rattle.cpg_judge.proofs.Behind.{gathers_none, gathers_stop, gathers_then}
use Rattle.cpg_json.specs.Tails.{heard_line}
use Rattle.cpg_json.proofs.Items.{item_there}
use Rattle.cpg_json.proofs.stretches.write_all_told.Goals as goal

pub loop-place-init : goal.loop-place-init
loop-place-init g c = gathers_none _ _

pub write_told-requires-clause-place : goal.write_told-requires-clause-place
write_told-requires-clause-place g c =
    c.requires.places c.loop-place.place-index (get_or c.args.places.now c.loop-place.place-index 0) (slice_get-get_or c.args.places.now c.loop-place.place-index 0 c.loop-place-test.true)

pub returns-in-Err : goal.returns-in-Err
returns-in-Err g c =
    let places = c.args.places.now in
    let i = c.loop-place.place-index in
    let told = heard_line (judged c.args.inbox.now.policy.now) c.args.inbox.now.conn.now in
    let front = map told (take i places) in
    let one = told (get_or places i 0) ∷ [] in
    let rest = map told (drop (i + 1) places) in
    rw (map_around told places i (get_or places i 0) c.loop-place-test.true (item_there places i 0 c.loop-place-test.true) ∙ sym (append_assoc front one rest))
    (gathers_stop _ _ _ _ _ (front ++ one) rest (gathers_then _ _ _ _ _ _ _ front one c.loop-place.invariant c.in-Err.ensures))

pub loop-place-preserved : goal.loop-place-preserved
loop-place-preserved g c =
    let places = c.args.places.now in
    let i = c.loop-place.place-index in
    let told = heard_line (judged c.args.inbox.now.policy.now) c.args.inbox.now.conn.now in
    rw (map_one_more told places i (get_or places i 0) c.loop-place-test.true (item_there places i 0 c.loop-place-test.true))
    (gathers_then _ _ _ _ _ _ _ (map told (take i places)) (told (get_or places i 0) ∷ []) c.loop-place.invariant c.in-Ok.ensures)
