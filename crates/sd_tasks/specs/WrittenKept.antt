-- Kept lines as plain data.
use Rattle.std.specs.Prelude.{List, map}
use Rattle.sd_tasks.specs.declared.written.WrittenLine.{WrittenLine}
use Rattle.sd_tasks.specs.Written.{Written, written}

abbrev pub line_kept : WrittenLine → Written
line_kept w = written w.text.items w.line

abbrev pub lines_kept : List WrittenLine → List Written
lines_kept lines = map line_kept lines
