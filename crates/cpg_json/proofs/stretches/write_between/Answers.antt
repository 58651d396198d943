use Rattle.std.proofs.Common.{◌-◌, suc, map, take, drop, ap, sym, subst, ◌∙◌}
use Rattle.std.specs.Option.{option_copied}
use Rattle.cpg_record.specs.Judging.{judged}
use Rattle.cpg_record.specs.Nexts.{acts_in}
use Rattle.cpg_record.specs.Places.{places_from}
use Rattle.cpg_judge.specs.Gathering.{Gathers}
use Rattle.cpg_judge.proofs.Behind.{gathers_none}
use Rattle.cpg_json.specs.Steps.{ArePlaces}
use Rattle.cpg_json.specs.Tails.{heard_line}
use Rattle.cpg_json.proofs.Hearing.{are_places, heard_in, heard_nothing}
use Rattle.cpg_json.proofs.stretches.write_between.Goals as goal

pub write_all_told-requires-clause-places : goal.write_all_told-requires-clause-places
write_all_told-requires-clause-places g c =
    let rs = judged c.args.inbox.now.policy.now in
    subst (ArePlaces rs) (sym c.places_between-places.ensures) (are_places (acts_in c.as_slice.result.now) rs c.args.after c.args.last c.requires.places.0 c.requires.places.1)

pub returns-in-None : goal.returns-in-None
returns-in-None g c =
    rw (heard_nothing (judged c.args.inbox.now.policy.now) c.args.inbox.now.conn.now c.args.after c.args.last c.requires.places.0 c.requires.places.1 c.requires.none (sym c.requires.group ∙ ap option_copied c.in-None.is))
    (gathers_none _ _)

pub returns-in-Some : goal.returns-in-Some
returns-in-Some g c =
    let rs = judged c.args.inbox.now.policy.now in
    let conn = c.args.inbox.now.conn.now in
    let told = heard_in rs conn c.in-Some.group.now c.args.after c.args.last c.requires.places.0 c.requires.places.1 c.requires.none (sym (ap option_copied c.in-Some.is) ∙ c.requires.group) in
    let places = c.places_between-places.ensures ∙ ap (λ name. places_from (acts_in name) (suc c.args.after) (take (c.args.last - c.args.after) (drop c.args.after rs))) c.as_slice.ensures in
    subst (λ lines. Gathers c.write_all_told.result (g.W.Write.contents c.args.writer.now) c.args.lines.now.items (g.W.Write.contents c.write_all_told.new.writer) c.write_all_told.new.lines.items lines)
    (ap (map (heard_line rs conn)) places ∙ told) c.write_all_told.ensures
