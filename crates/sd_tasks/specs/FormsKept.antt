-- A kept timed line as plain data.
use Rattle.sd_lines.specs.Said.{thread_said}
use Rattle.sd_tasks.specs.declared.forms.TimedLine.{TimedLine}
use Rattle.sd_tasks.specs.Forms.{Timed}

abbrev pub timed_said : TimedLine → Timed
timed_said line = record { thread = thread_said line.thread; head = line.head.items; options = line.options }
