-- The marks: instant events where a processor closes for a set and where it has joined one, and where a thread is bound to a
-- processor or let free.
-- Source: Trace Event Format (instant events); psrset(1M), pbind(1M); the words are this project's own.
use Rattle.std.specs.Prelude.{ℕ, List, [], ◌++◌, codes, decimal, Option, Some, None}
use Rattle.sd_types.specs.declared.numbers.CpuId.{CpuId}
use Rattle.sd_types.specs.declared.numbers.SetId.{SetId}
use Rattle.sd_types.specs.declared.numbers.ThreadId.{ThreadId}
use Rattle.sd_types.specs.declared.events.AssignAnswer.{AssignAnswer}
use Rattle.sd_types.specs.declared.events.AssignAnswer.TheVariants as assign
use Rattle.sd_types.specs.declared.events.BindAnswer.{BindAnswer}
use Rattle.sd_types.specs.declared.events.BindAnswer.TheVariants as bind
use Rattle.sd_types.specs.declared.events.Event.{Event}
use Rattle.sd_types.specs.declared.events.Event.TheVariants.{Assign, Bind, Joined}
use Rattle.sd_types.specs.declared.works.Work.{Work}
use Rattle.sd_machine.specs.Texts.{set_name}
use Rattle.sd_stretches.specs.declared.changes.Happening.{Happening}
use Rattle.sd_trace.specs.Words.{cpu_number, place_at, thread_number}
use Rattle.sd_trace.specs.Flows.{entry_argument, named}

-- the kind of a mark, which stands on one track
unfoldable pub mark_kind : List ℕ
mark_kind = codes "\",\"cat\":\"mark\",\"ph\":\"i\",\"s\":\"t\""

-- where a mark stands: its tick, its process and its track, with its entry
unfoldable pub mark_at : Work → Happening → ℕ → ℕ → List ℕ
mark_at w x process track = mark_kind ++ place_at w x.tick process track ++ entry_argument x.entry

-- a word and the name of a set, on the track of a processor
unfoldable pub set_mark : Work → Happening → CpuId → List ℕ → SetId → List ℕ
set_mark w x c word set = named word ++ set_name w set.0 ++ mark_at w x 1 (cpu_number c.0)

abbrev pub assign_mark : Work → Happening → CpuId → SetId → AssignAnswer → List ℕ
assign_mark w x c set assign.Changed = set_mark w x c (codes "closes for ") set
assign_mark w x c set _ = []

abbrev pub bound_name : Option CpuId → List ℕ
bound_name None = named (codes "not bound")
bound_name (Some c) = named (codes "bound to") ++ (codes " processor " ++ decimal c.0)

-- to which processor a thread is bound from here on, on the track of the thread
unfoldable pub bound_mark : Work → Happening → ThreadId → Option CpuId → List ℕ
bound_mark w x t cpu = bound_name cpu ++ mark_at w x 2 (thread_number t.0)

abbrev pub bind_mark : Work → Happening → ThreadId → Option CpuId → BindAnswer → List ℕ
bind_mark w x t cpu (bind.Changed at) = bound_mark w x t cpu
bind_mark w x t cpu _ = []

abbrev pub mark_by : Work → Happening → Event → List ℕ
mark_by w x (Assign t c set answer) = assign_mark w x c set answer
mark_by w x (Joined set) = set_mark w x x.cpu (codes "in ") set
mark_by w x (Bind t u cpu answer) = bind_mark w x u cpu answer
mark_by w x _ = []

-- what an entry changes of processor sets and bindings
abbrev pub mark_text : Work → Happening → List ℕ
mark_text w x = mark_by w x x.event
