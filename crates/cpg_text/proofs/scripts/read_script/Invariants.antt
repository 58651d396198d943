use Rattle.std.proofs.Common.{◌≡◌, ◌+◌, ◌≤◌, All, length, option_map}
use Rattle.cpg_text.specs.Lines.{lines_left}
use Rattle.cpg_text.specs.Reading.{read_all}
use Rattle.cpg_text.specs.Items.{items_with}
use Rattle.cpg_text.proofs.scripts.read_script.Given as goal

abbrev pub invariant-loop-line : goal.invariant-loop-line
invariant-loop-line g l = record {
  read : read_all (g.R.ReadsLine.meaning l.reader) l.script ≡ items_with (g.R.ReadsLine.meaning l.reader) l.items.items (l.number + 1) (lines_left (option_map (λ rest. rest.now) l.line-iterator.rest));
  counted : l.number + length (lines_left (option_map (λ rest. rest.now) l.line-iterator.rest)) ≤ length l.script + 1;
  held : All (λ item. g.R.ReadsLine.holds l.reader item) l.items.items;
}
