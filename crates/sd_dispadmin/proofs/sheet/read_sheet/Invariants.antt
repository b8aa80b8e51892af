use Rattle.std.proofs.Common.{◌≡◌, ◌+◌, ◌-◌, ◌≤◌, length, drop, take}
use Rattle.sd_dispadmin.specs.TableText.{word_lines, AreClean}
use Rattle.sd_dispadmin.specs.Sheets.{StandsFor}
use Rattle.sd_dispadmin.proofs.sheet.read_sheet.Given as goal

-- the sheet stands for the lines so far, of which none is at fault, and what is left of the text is the other lines
abbrev pub invariant-loop-start : goal.invariant-loop-start
invariant-loop-start l = record {
  within : l.from ≤ length l.text + 1;
  lines : l.lines ≤ l.from;
  count : l.sheet.count ≤ l.from;
  rest : word_lines (drop l.from l.text) ≡ drop l.lines (word_lines l.text);
  clean : AreClean l.columns (word_lines l.text) l.lines;
  stands : StandsFor l.columns (take l.lines (word_lines l.text)) l.sheet;
}

abbrev pub decreases-loop-start : goal.decreases-loop-start
decreases-loop-start l = length l.text + 1 - l.from
