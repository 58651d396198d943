use Rattle.std.proofs.Common.{arith, rules}
use Rattle.cpg_serve.proofs.Moved.{number_each}
use Rattle.cpg_serve.proofs.Unbegun.{all_connected, connects_why, joins_not, memory_why, puts_not}
use Rattle.cpg_serve.proofs.Whole.{next_is}
use Rattle.cpg_serve.proofs.nexts.fill.Goals as goal

pub returns-in_err-numbers-clause-why : goal.returns-in_err-numbers-clause-why
returns-in_err-numbers-clause-why c = λ s list first.
    let why = connects_why s list c.args.old.now c.args.node.now _ first c.in_err-numbers.ensures.why in
    search rules

pub returns-in_err-seat_all-clause-why : goal.returns-in_err-seat_all-clause-why
returns-in_err-seat_all-clause-why c = λ s list first.
    let why = joins_not s list c.args.old.now c.args.node.now c.connect_all.new.node c.in_ok-numbers.numbers.items c.as_slice.result.now _ first
    (all_connected c.args.old.now c.args.last c.in_ok-numbers.numbers.items c.args.node.now c.connect_all.new.node c.requires c.in_ok-numbers.ensures.ok) c.as_slice.ensures.value c.in_err-seat_all.ensures.why in
    search rules

pub returns-in_err-put_tables-clause-why : goal.returns-in_err-put_tables-clause-why
returns-in_err-put_tables-clause-why c = λ s list first.
    let why = puts_not s list c.args.old.now c.args.node.now c.connect_all.new.node c.seat_all.new.node c.in_ok-numbers.numbers.items c.as_slice.result.now _ first
    (all_connected c.args.old.now c.args.last c.in_ok-numbers.numbers.items c.args.node.now c.connect_all.new.node c.requires c.in_ok-numbers.ensures.ok) c.in_ok-seat_all.ensures.ok c.in_err-put_tables.ensures.why in
    search rules

pub returns-in_err-give_all-clause-why : goal.returns-in_err-give_all-clause-why
returns-in_err-give_all-clause-why c = λ s list first.
    let why = memory_why s list c.args.old.now _ c.in_err-give_all.ensures.memory in
    search rules

pub returns : goal.returns
returns c = record {
  ok = λ s list first. next_is s list c.args.old.now c.args.node.now c.connect_all.new.node c.seat_all.new.node c.put_tables.new.node c.give_all.new.node c.args.last c.saturating_add.result
      c.in_ok-numbers.numbers.items c.as_slice.result.now first (omega arith) c.requires c.in_ok-numbers.ensures.ok c.as_slice.ensures.value c.in_ok-seat_all.ensures.ok c.in_ok-put_tables.ensures.ok c.in_ok-give_all.ensures.ok
      c.saturating_add.ensures;
  count = number_each c.args.last _ c.args.old.now.clients c.in_ok-numbers.numbers.items c.requires c.in_ok-numbers.ensures.ok.given;
  why = λ s list first. tt;
}
