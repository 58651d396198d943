use Rattle.std.proofs.Common.{[], map, string_bytes, arith}
use Rattle.cpgring.proofs.Paths.{from_taken}
use Rattle.cpgring.proofs.folders.conf_paths.Goals as goal

pub loop-path-preserved : goal.loop-path-preserved
loop-path-preserved c =
    from_taken c.args.given.now c.loop-path.path-index (record { ref_ptr = (0, 0); now = [] }) (map string_bytes c.loop-path.paths.items) (map string_bytes c.put_all.new.paths.items) (map string_bytes c.in_ok-paths_of.field-0.items)
    (omega arith) c.loop-path.invariant c.in_ok-paths_of.ensures c.in_ok-put_all.ensures
