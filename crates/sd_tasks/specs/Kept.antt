-- What the reader keeps, as plain data.
use Rattle.std.specs.Prelude.{ℕ, List, map}
use Rattle.std.specs.Prelude.{Vec}
use Rattle.std.specs.declared.alloc.Global.{Global}
use Rattle.sd_types.specs.declared.names.Name.{Name}
use Rattle.sd_lines.specs.Words.{Word}
use Rattle.sd_lines.specs.Said.{word_of}
use Rattle.sd_tasks.specs.declared.facts.Facts.{Facts}
use Rattle.sd_tasks.specs.declared.facts.SetThread.{SetThread}
use Rattle.sd_tasks.specs.declared.reader.Reader.{Reader}
use Rattle.sd_tasks.specs.declared.written.WrittenLine.{WrittenLine}
use Rattle.sd_tasks.specs.Above.{Above, Member}
use Rattle.sd_tasks.specs.declared.read.SetReading.{SetReading}
use Rattle.sd_tasks.specs.Blocks.{Seen}
use Rattle.sd_tasks.specs.Readings.{Reading}
use Rattle.sd_tasks.specs.WrittenKept.{lines_kept}

abbrev pub set_kept : Name × Vec ℕ Global → Word × List ℕ
set_kept s = (word_of s.0, s.1.items)

abbrev pub member_kept : SetThread → Member
member_kept t = record {
  name = word_of t.name;
  line = t.line;
  set = t.set;
  home = t.home;
  release = t.release;
  rounds = t.rounds;
  cpu = t.cpu;
  deadline = t.deadline;
  is_task = t.is_task;
  is_given = t.is_given;
}

abbrev pub above_kept : Facts → Above
above_kept f = record {
  cpus = f.cpus;
  limit = f.limit;
  sets = map set_kept f.sets.items;
  chans = map word_of f.chans.items;
  threads = map member_kept f.threads.items;
  is_timed = f.is_timed;
  has_high = f.has_high;
  has_kept = f.has_kept;
}

abbrev pub seen_kept : Reader → Seen
seen_kept r = record {
  above = above_kept r.facts;
  judged = lines_kept r.judged.items;
  written = lines_kept r.written.items;
  block = r.block;
  repeats = r.repeats.items;
}

abbrev pub reading_kept : SetReading → Reading
reading_kept r = record { seen = seen_kept r.seen; number = r.number; cause = r.cause }
