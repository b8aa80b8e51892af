-- What the reader keeps of the lines above, as plain data.
use Rattle.std.specs.Prelude.{◌≡◌, ℕ, List, map, Option, Some, None, option_map}
use Rattle.std.specs.Prelude.{Vec}
use Rattle.std.specs.declared.alloc.Global.{Global}
use Rattle.sd_types.specs.declared.numbers.CpuId.{CpuId}
use Rattle.sd_types.specs.declared.names.Name.{Name}
use Rattle.sd_types.specs.declared.works.LockKind.{LockKind}
use Rattle.sd_types.specs.declared.works.ChanKind.{ChanKind}
use Rattle.sd_types.specs.declared.works.ThreadDecl.{ThreadDecl}
use Rattle.sd_text.specs.Lines.{lines_of}
use Rattle.sd_text.specs.Words.{words_of}
use Rattle.sd_lines.specs.Words.{Word, Line}
use Rattle.sd_lines.specs.Said.{word_of}
use Rattle.sd_declare.specs.declared.causes.Refusal.{Refusal}
use Rattle.sd_declare.specs.declared.causes.Refusal.TheVariants.{Cause, Memory}
use Rattle.sd_declare.specs.declared.causes.WorkCause.{WorkCause}
use Rattle.sd_declare.specs.declared.declared.Declared.{Declared}
use Rattle.sd_declare.specs.Declarations.{Thread, Declarations}

-- the lines of a text, as their words
abbrev pub lines_in : Vec ℕ Global → List Line
lines_in text = map words_of (lines_of text.items)

abbrev pub set_kept : Name × List CpuId → Word × List CpuId
set_kept s = (word_of s.0, s.1)

abbrev pub lock_kept : Name × LockKind → Word × LockKind
lock_kept l = (word_of l.0, l.1)

abbrev pub chan_kept : Name × ChanKind → Word × ChanKind
chan_kept k = (word_of k.0, k.1)

abbrev pub thread_kept : ThreadDecl → Thread
thread_kept t = record { name = word_of t.name; class = t.class; cpupri = t.cpupri; uid = t.uid; privileged = t.privileged; set = t.set; ops = t.script.ops }

abbrev pub declarations : Declared → Declarations
declarations d = record {
  cpus = d.cpus;
  hz = d.hz;
  limit = d.limit;
  sets = map set_kept d.sets.items;
  ts = option_map lines_in d.ts;
  fx = option_map lines_in d.fx;
  rt = option_map lines_in d.rt;
  locks = map lock_kept d.locks.items;
  chans = map chan_kept d.chans.items;
  threads = map thread_kept d.threads.items;
  scripted = d.scripted;
}

-- a refusal names the cause, or says that memory ran out, which it does only where there is no cause
abbrev pub IsRefusal : Option WorkCause → Refusal → Type 0
IsRefusal found (Cause cause) = found ≡ Some cause
IsRefusal found Memory = found ≡ None
