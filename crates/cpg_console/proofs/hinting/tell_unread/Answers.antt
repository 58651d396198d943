use Rattle.std.proofs.Common.{ℕ, List, ◌++◌, subst}
use Rattle.std.specs.Prelude.{IsTrue}
use Rattle.std.specs.Io.KnownBytes.{Appends}
use Rattle.cpg_text.specs.Streams.{AppendsFront}
use Rattle.cpg_console.specs.Telling.{told_text}
use Rattle.cpg_console.proofs.Worded.{hint_unread}
use Rattle.cpg_console.proofs.hinting.tell_unread.Goals as goal

pub returns-clause-told : goal.returns-clause-told
returns-clause-told g c = λ script.
    subst
    (λ (hint : List ℕ). IsTrue c.tell_hinted.result → Appends (g.E.Write.contents c.args.errors.now) (g.E.Write.contents c.tell_hinted.new.errors)
    (told_text c.args.left c.args.failure.now ++ hint))
    (hint_unread c.args.run.now c.args.failure.now script c.requires)
    c.tell_hinted.ensures.told

pub returns-clause-untold : goal.returns-clause-untold
returns-clause-untold g c = λ script.
    subst
    (λ (hint : List ℕ). AppendsFront (g.E.Write.contents c.args.errors.now) (g.E.Write.contents c.tell_hinted.new.errors)
    (told_text c.args.left c.args.failure.now ++ hint))
    (hint_unread c.args.run.now c.args.failure.now script c.requires)
    c.tell_hinted.ensures.untold
