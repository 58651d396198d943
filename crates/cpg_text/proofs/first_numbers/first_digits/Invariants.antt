use Rattle.std.proofs.Common.{◌-◌, ◌≡◌, ◌<◌, ◌≤◌, ◌^◌, true, take}
use Rattle.std.specs.Char.{is_ascii_digit}
use Rattle.std.specs.List.{list_all}
use Rattle.cpg_text.specs.Numbers.{value_of}
use Rattle.cpg_text.proofs.first_numbers.first_digits.Given as goal

abbrev pub invariant-loop-end : goal.invariant-loop-end
invariant-loop-end l = record {
  digits : list_all is_ascii_digit (take l.end l.line) ≡ true;
  value : l.number ≡ value_of (take l.end l.line);
  small : l.number < 10 ^ l.end;
  within : l.end ≤ l.most;
}

abbrev pub decreases-loop-end : goal.decreases-loop-end
decreases-loop-end l = l.most - l.end
