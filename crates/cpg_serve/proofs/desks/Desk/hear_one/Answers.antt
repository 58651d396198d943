use Rattle.std.proofs.Common.{sym, ◌∙◌}
use Rattle.cpg_ask.specs.Asks.{ask_seen}
use Rattle.cpg_serve.proofs.desks.Desk.hear_one.Goals as goal

pub returns-in-Ok-true : goal.returns-in-Ok-true
returns-in-Ok-true c =
    let a = c.in-Ok-true.ensures.ok in (
      record { ask = ask_seen c.in-Whole.ask; names = a.0 },
      c.in-Whole.ensures.whole (ask_seen c.in-Whole.ask) c.in-Whole.count (sym c.in-Whole.ensures.exact),
      a.1,
      sym a.2 ∙ c.in-Ok-true.field-0-test,
      a.3,
    )
