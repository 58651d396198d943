use Rattle.std.proofs.Common.{◌≡◌, ◌+◌, suc, true, false, Some, cond, drop, refl, sym, ap, ◌∙◌, arith}
use Rattle.std.proofs.lemmas.List.{drop_all}
use Rattle.std.specs.Str.{bytes_eq}
use Rattle.cpg_conf.specs.Names.{number_of}
use Rattle.cpg_conf.specs.Steps.{pairs}
use Rattle.cpg_conf.proofs.Pairs.{found_from, number_past}
use Rattle.cpg_conf.proofs.tables.NameTable.find_slowly.Goals as goal
use Rattle.cpg_conf.proofs.tables.NameTable.find_slowly.Goals.{in-Some+else-eq, in_default}

pub loop-place-init : goal.loop-place-init
loop-place-init c = refl

pub returns-then-eq : goal.returns-then-eq
returns-then-eq c =
    let name = c.args.name.now in
    let entries = c.self.inside.numbers.entries in
    let place = c.loop-place.place in
    let same : bytes_eq name c.in-Some.key.now.items ≡ true = ap (bytes_eq name) (sym c.as_slice.ensures) ∙ sym c.eq.ensures ∙ c.if-eq.true in
    sym (ap (λ table. number_of table name) (sym c.self.view_is)
    ∙ c.loop-place.invariant
    ∙ found_from name entries place c.in-Some.key.now c.in-Some.number.now (sym c.in-Some.ensures.entry)
    ∙ ap (λ test. cond test (Some c.in-Some.number.now) (number_of (pairs (drop (suc place) entries)) name)) same)

pub loop-place-preserved : goal.loop-place-preserved
loop-place-preserved c =
    let name = c.args.name.now in
    let entries = c.self.inside.numbers.entries in
    let place = c.loop-place.place in
    let next : suc place ≡ place + 1 = omega arith in
    let shift = ap (λ n. number_of (pairs (drop n entries)) name) next in
    elim c.match-get_index.branch [
      | in-Some+else-eq w ↦
          let other : bytes_eq name w.in-Some.key.now.items ≡ false = ap (bytes_eq name) (sym w.as_slice.ensures) ∙ sym w.eq.ensures ∙ w.if-eq.false in
          c.loop-place.invariant
          ∙ found_from name entries place w.in-Some.key.now w.in-Some.number.now (sym w.in-Some.ensures.entry)
          ∙ ap (λ test. cond test (Some w.in-Some.number.now) (number_of (pairs (drop (suc place) entries)) name)) other
          ∙ shift
      | in_default w ↦ c.loop-place.invariant ∙ number_past name entries place (sym w.in_default.ensures.entry) ∙ shift
    ]

pub returns : goal.returns
returns c =
    let name = c.args.name.now in
    let entries = c.self.inside.numbers.entries in
    sym (ap (λ table. number_of table name) (sym c.self.view_is)
    ∙ c.loop-place.invariant
    ∙ ap (λ left. number_of (pairs left) name) (drop_all c.loop-place.place entries (omega (arith, c.loop-place-test.false, c.len-place-end.ensures.len))))
