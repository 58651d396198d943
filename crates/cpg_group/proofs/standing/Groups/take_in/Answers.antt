use Rattle.std.proofs.Common.{◌≡◌, true, rules}
use Rattle.cpg_record.specs.Membership.{is_allowed, is_named}
use Rattle.cpg_group.proofs.standing.Groups.take_in.Goals as goal

pub change-requires : goal.change-requires
change-requires c =
    let allowed : is_allowed c.args.past.now.verdict ≡ true = search rules in
    let here : is_named c.args.past.now.group c.as_slice.result.now ≡ true = search rules in
    c.requires c.as_slice.result.now allowed here
