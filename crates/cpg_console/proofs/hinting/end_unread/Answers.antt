use Rattle.std.proofs.Common.{sym, subst}
use Rattle.cpg_console.specs.Hinting.{EndsUnread}
use Rattle.cpg_console.proofs.Worded.{unread_ends}
use Rattle.cpg_console.proofs.hinting.end_unread.Goals as goal

pub returns-clause-failure : goal.returns-clause-failure
returns-clause-failure g c = subst EndsUnread (sym c.unread_by.ensures) (unread_ends c.has_wrong_word.result c.hand_on-flushed.result c.args.refusal c.requires)
