use Rattle.std.proofs.Common.{map, string_bytes}
use Rattle.cpgring.proofs.Paths.{behind_more}
use Rattle.cpgring.proofs.folders.put_file.Goals as goal

pub returns-in_ok-put_path-in_default : goal.returns-in_ok-put_path-in_default
returns-in_ok-put_path-in_default c = λ all.
    behind_more c.args.directory.now (map string_bytes c.args.paths.now.items) (map string_bytes c.put_path.new.paths.items) (string_bytes c.in_ok-path.path)
    c.in_ok-put_path-in_default.ensures c.in_ok-path.ensures all
