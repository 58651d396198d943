use Rattle.std.proofs.Common.{◌≡◌, sym, subst}
use Rattle.std.specs.Prelude.{IfSome}
use Rattle.cpg_play.proofs.Walking.{of_text}
use Rattle.cpg_play.proofs.walks.play_script.Goals as goal

pub returns : goal.returns
returns g c =
    let whole = g.R.Read.remaining c.args.reader.now in
    of_text g.P.Plays.does c.args.player.now c.read_lines.new.player _ _ _ c.play_all.result whole c.as_slice-2.result.now
    (subst (λ t. IfSome whole (λ bytes. t ≡ bytes)) (sym c.as_slice-2.ensures.value) c.in_ok-script.ensures.whole) c.read_lines.ensures c.play_all.ensures
