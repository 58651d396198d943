use Rattle.std.proofs.Common.{List, ℕ, map, option_map}
use Rattle.cpgring.proofs.Entered.{path_behind}
use Rattle.cpgring.specs.Sources.{path_of}
use Rattle.cpgring.proofs.asking.why_entry.Goals as goal

pub returns-clause-source : goal.returns-clause-source
returns-clause-source c =
    path_behind (option_map (λ text. text.now) c.args.to) c.as_bytes.result.now c.in_ok-question.question (map (λ word. word.now) c.args.words.now) (path_of c.source_behind.result) c.in_ok-question.ensures c.source_behind.ensures
