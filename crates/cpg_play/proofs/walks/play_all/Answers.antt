use Rattle.std.proofs.Common.{◌≢◌, refl, subst, option_map}
use Rattle.std.proofs.KnownBytes.{Keeps-refl}
use Rattle.std.specs.Prelude.{IsTrue}
use Rattle.cpg_text.specs.Lines.{lines_left}
use Rattle.cpg_conf.specs.Names.{next_number}
use Rattle.cpg_play.specs.declared.walks.Went.TheVariants as went
use Rattle.cpg_play.specs.Walking.{ArePlayed, Course}
use Rattle.cpg_play.proofs.Walking.{all_wanted, at_end, one_more}
use Rattle.cpg_play.proofs.walks.play_all.Goals as goal

pub loop-line-preserved : goal.loop-line-preserved
loop-line-preserved g c =
    let does = g.P.Plays.does in
    let now = c.loop-line in
    let left = lines_left (option_map (λ rest. rest.now) c.next.new.self.rest) in
    let fine : c.in_ok-went.went ≢ went.Bad = λ bad. let no = subst IsTrue c.if-is_bad.false (c.is_bad.ensures.1 bad) in absurd (cc) in
    record {
      next = tt;
      finite = tt;
      played = λ last rest.
          now.invariant.played last
          (one_more does (next_number now.number) c.saturating_add-number.result c.in-Some.line.now c.trim-line.result.now _ left _ _ last
          c.saturating_add-number.ensures c.trim-line.ensures c.in-Some.ensures.steps (c.in_ok-went.ensures fine now.wanted)
          (subst (λ w. ArePlayed does (next_number c.saturating_add-number.result) left (record { player = c.play_line.new.player; printed = c.play_line.new.printed; written = g.W.Write.contents c.play_line.new.writer; wanted = w }) last) c.and_went-wanted.ensures rest));
    }

pub returns : goal.returns
returns g c =
    let now = c.loop-line in
    let last : Course _ = record { player = now.player; printed = now.printed; written = g.W.Write.contents now.writer; wanted = now.wanted } in (
      last,
      now.invariant.played last (at_end g.P.Plays.does (next_number now.number) _ last c.in-None.ensures.steps.0),
      refl,
      Keeps-refl (g.W.Write.contents now.writer),
      all_wanted now.wanted c.and_went.result c.in_ok-check_end.field-0 now.printed c.and_went.ensures c.in_ok-check_end.ensures,
    )
