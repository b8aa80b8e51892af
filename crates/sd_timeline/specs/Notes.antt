-- What is noted under the rows: where a processor closes and joins a set, and where a thread is bound to a processor.
-- Source: psrset(1M), pbind(1M); the words are this project's own.
use Rattle.std.specs.Prelude.{ℕ, List, [], ◌++◌, codes, decimal, Option, Some, None, if◌then◌else◌}
use Rattle.sd_types.specs.declared.numbers.CpuId.{CpuId}
use Rattle.sd_types.specs.declared.numbers.SetId.{SetId}
use Rattle.sd_types.specs.declared.numbers.ThreadId.{ThreadId}
use Rattle.sd_types.specs.declared.events.AssignAnswer.{AssignAnswer}
use Rattle.sd_types.specs.declared.events.AssignAnswer.TheVariants as assign
use Rattle.sd_types.specs.declared.events.BindAnswer.{BindAnswer}
use Rattle.sd_types.specs.declared.events.BindAnswer.TheVariants as bind
use Rattle.sd_types.specs.declared.events.Event.{Event}
use Rattle.sd_types.specs.declared.events.Event.TheVariants.{Assign, Bind, Joined}
use Rattle.sd_types.specs.declared.works.Work.{Work}
use Rattle.sd_machine.specs.Texts.{set_name}
use Rattle.sd_stretches.specs.declared.changes.Happening.{Happening}
use Rattle.sd_layout.specs.declared.layouts.Row.TheVariants.{Cpu, Thread}
use Rattle.sd_layout.specs.Layouts.{Layout, column, row_of, shows, under}
use Rattle.sd_timeline.specs.Pieces.{label_start, label_end}

-- a word and the name of a set
unfoldable pub set_words : List ℕ → List ℕ → List ℕ
set_words word set = word ++ set

unfoldable pub set_note : List ℕ → Work → Layout → ℕ → CpuId → List ℕ → SetId → List ℕ
set_note class w f tick c word set = label_start class (column f tick) (under f (Cpu c.0)) ++ set_words word (set_name w set.0) ++ label_end

-- where a processor begins to close for a set, in front of the tick, so that it may join at once
abbrev pub assign_note : Work → Layout → ℕ → CpuId → SetId → AssignAnswer → List ℕ
assign_note w f tick c set assign.Changed = set_note (codes "note closes") w f tick c (codes "closes for ") set
assign_note w f tick c set _ = []

unfoldable pub bound_words : Option CpuId → List ℕ
bound_words None = codes "&#9652;not bound"
bound_words (Some c) = codes "&#9652;bound to " ++ decimal c.0

abbrev pub thread_note : Layout → ℕ → Option CpuId → Option ℕ → List ℕ
thread_note f tick cpu None = []
thread_note f tick cpu (Some t) = label_start (codes "note") (column f tick) (under f (Thread t)) ++ bound_words cpu ++ label_end

abbrev pub bind_note : Layout → ℕ → ThreadId → Option CpuId → BindAnswer → List ℕ
bind_note f tick t cpu (bind.Changed at) = thread_note f tick cpu (row_of f t.0)
bind_note f tick t cpu _ = []

abbrev pub note_by : Work → Layout → Happening → Event → List ℕ
note_by w f x (Assign t c set answer) = assign_note w f x.tick c set answer
note_by w f x (Joined set) = set_note (codes "note") w f x.tick x.cpu (codes "&#9652;in ") set
note_by w f x (Bind t u cpu answer) = bind_note f x.tick u cpu answer
note_by w f x _ = []

-- where its tick is drawn
abbrev pub note_text : Work → Layout → Happening → List ℕ
note_text w f x = if shows f x.tick then note_by w f x x.event else []
