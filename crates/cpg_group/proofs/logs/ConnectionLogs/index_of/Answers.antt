use Rattle.std.proofs.Common.{◌≡◌, ap, sym, Some, ◌∙◌}
use Rattle.std.proofs.lemmas.Map.Made.{lookup_key_passes}
use Rattle.cpg_group.proofs.Placed.{key_at}
use Rattle.cpg_group.proofs.Stops.{is_conn-Decides}
use Rattle.cpg_group.proofs.logs.ConnectionLogs.index_of.Goals as goal

pub returns-in-Some-get_full : goal.returns-in-Some-get_full
returns-in-Some-get_full c =
    let entries = c.args.self.now.kept.entries in
    let key = c.in-Some-get_full.field-0-1.now in
    let same : c.args.conn.now ≡ c.in-Some-get_full.field-0-1.now = (is_conn-Decides c.args.conn.now key).0 (lookup_key_passes _ entries key (sym c.in-Some-get_full.ensures.key)) in
    key_at entries c.in-Some-get_full.index key c.in-Some-get_full.field-0-2.now c.in-Some-get_full.ensures.entry
    ∙ ap Some (sym same)
