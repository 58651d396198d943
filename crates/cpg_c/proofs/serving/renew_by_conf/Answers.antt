use Rattle.std.proofs.Common.{inr, subst}
use Rattle.cpg_ring.specs.declared.settings.Settings.{Settings}
use Rattle.cpg_c.specs.Serving.{HasBegunNext}
use Rattle.cpg_c.proofs.serving.renew_by_conf.Goals as goal

pub returns-in-Ok : goal.returns-in-Ok
returns-in-Ok c = inr (
  c.in-Ok.list,
  c.in-Ok.ensures,
  subst (λ (s : Settings). HasBegunNext s c.in-Ok.list c.args.served.now c.begin_next.result c.args.buffer.now c.begin_next.new.buffer c.begin_next.new.served) c.settings.ensures c.begin_next.ensures,
)
