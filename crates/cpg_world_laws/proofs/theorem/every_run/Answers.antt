use Rattle.cpg_world_laws.proofs.Claims.{true_world, true_run}
use Rattle.cpg_world_laws.proofs.theorem.every_run.Goals as goal

pub returns-clause-world : goal.returns-clause-world
returns-clause-world c w = true_world (record { chain = c.every_schedule.ensures.chain; agreement = c.every_schedule.ensures.agreement; in_order = c.every_schedule.ensures.once_in_order; safe = c.every_schedule.ensures.safe; prefixes = c.prefixes_are_judged_alike.ensures; each = c.each_entry_is_judged.ensures; before = c.each_is_judged_by_those_before.ensures; denials = c.denial_changes_nothing.ensures; named = c.verdicts_name_what_decided.ensures; receives = c.receives_exactly.ensures; told = c.told_in_order.ensures; listings = record { shown = c.listings_show_members.ensures; denied = c.denied_listings_name_their_rule.ensures; named = c.groups_with_members_are_named.ensures } }) w

pub returns-clause-run : goal.returns-clause-run
returns-clause-run c w = true_run (record { chain = c.every_schedule.ensures.chain; agreement = c.every_schedule.ensures.agreement; in_order = c.every_schedule.ensures.once_in_order; safe = c.every_schedule.ensures.safe; prefixes = c.prefixes_are_judged_alike.ensures; each = c.each_entry_is_judged.ensures; before = c.each_is_judged_by_those_before.ensures; denials = c.denial_changes_nothing.ensures; named = c.verdicts_name_what_decided.ensures; receives = c.receives_exactly.ensures; told = c.told_in_order.ensures; listings = record { shown = c.listings_show_members.ensures; denied = c.denied_listings_name_their_rule.ensures; named = c.groups_with_members_are_named.ensures } }) w
