use Rattle.std.proofs.Common.{◌≡◌, ◌++◌, ◌∷◌, [], ◌∙◌, List, length, get_or, rules, arith, ap, reverse}
use Rattle.cpg_serve.specs.Telling.{DeskValue}
use Rattle.cpg_serve.specs.Carrying.{kept_desks}
use Rattle.cpg_serve.proofs.Moved.{Popped, begins_empty, empty_end, kept_one, nothing_yet, popped, turned_round}
use Rattle.cpg_serve.proofs.moving.move_desks.Goals as goal

pub loop-desk-init : goal.loop-desk-init
loop-desk-init c = record {
  whole = (nothing_yet c.args.before.items).0;
  put = begins_empty c.args.greeting.now c.args.numbers.now c.args.before.items c.args.desks.now.items c.requires.empty;
  room = omega (arith, c.args.desks.now.ok.0, ap (λ (l : List DeskValue). length l) c.requires.empty, c.requires.room);
}

pub loop-desk-preserved : goal.loop-desk-preserved
loop-desk-preserved c =
    let is : c.loop-desk.old.items ≡ c.pop.new.self.items ++ c.in-Some.desk ∷ [] = search rules in
    let p : Popped c.args.before.items c.pop.new.self.items c.in-Some.desk c.loop-desk.old.items = popped c.args.before.items c.pop.new.self.items c.loop-desk.old.items c.in-Some.desk is c.loop-desk.invariant.whole in
    record {
      whole = p.whole;
      put = kept_one c.args.greeting.now c.args.numbers.now c.args.before.items c.pop.new.self.items c.loop-desk.old.items c.loop-desk.desks.items c.keep.new.desks.items c.in-Some.desk _ p c.requires.numbers c.keep.ensures.items
          (ap (λ k. get_or c.args.numbers.now k 0) (c.len.ensures ∙ c.pop.new.self.ok.0)) c.loop-desk.invariant.put;
      room = omega (arith, p.count, c.keep.ensures.len, c.keep.ensures.capacity, c.loop-desk.invariant.room);
    }

pub bounds-numbers-len : goal.bounds-numbers-len
bounds-numbers-len c =
    let is : c.loop-desk.old.items ≡ c.pop.new.self.items ++ c.in-Some.desk ∷ [] = search rules in
    let p : Popped c.args.before.items c.pop.new.self.items c.in-Some.desk c.loop-desk.old.items = popped c.args.before.items c.pop.new.self.items c.loop-desk.old.items c.in-Some.desk is c.loop-desk.invariant.whole in
    omega (arith, p.within, c.requires.numbers, c.len.ensures, c.pop.new.self.ok.0)

pub keep-requires : goal.keep-requires
keep-requires c = omega (arith, c.loop-desk.invariant.room)

pub push_reserved-requires : goal.push_reserved-requires
push_reserved-requires c = omega (arith, c.loop-desk.invariant.room)

pub returns : goal.returns
returns c =
    let none : length c.loop-desk.old.items ≡ 0 = first_of (omega (arith, c.in_default.ensures.cases.0, c.loop-desk.old.ok.0), search rules, grind arith) in
    let all = empty_end c.args.greeting.now c.args.numbers.now c.args.before.items c.loop-desk.old.items c.loop-desk.desks.items none c.loop-desk.invariant.put in
    let last : c.push_reserved.new.self.items ≡ c.loop-desk.desks.items ++ c.new.result ∷ [] = c.push_reserved.ensures.items in
    c.reverse.ensures.items ∙ ap reverse (last ∙ ap (λ (d : DeskValue). c.loop-desk.desks.items ++ d ∷ []) c.new.ensures) ∙ turned_round c.args.greeting.now (kept_desks c.args.numbers.now c.args.before.items) c.loop-desk.desks.items all
