-- The flows and the counter.
-- Source: Trace Event Format (flow events, counter events).
use Rattle.std.specs.Prelude.{ℕ, nat_lt, List, [], ◌++◌, length, codes, decimal, Option, Some, None, if◌then◌else◌}
use Rattle.sd_types.specs.declared.works.Work.{Work}
use Rattle.sd_stretches.specs.declared.changes.HandOver.{HandOver}
use Rattle.sd_stretches.specs.declared.changes.Load.{Load}
use Rattle.sd_stretches.specs.declared.changes.Wakeup.{Wakeup}
use Rattle.sd_trace.specs.Words.{micros, place_at, thread_number}

-- a word as the name of an event
unfoldable pub named : List ℕ → List ℕ
named word = codes ",\n{\"name\":\"" ++ word

unfoldable pub start_kind : ℕ → List ℕ
start_kind entry = codes "\",\"cat\":\"flow\",\"ph\":\"s\",\"id\":" ++ decimal entry

unfoldable pub end_kind : ℕ → List ℕ
end_kind entry = codes "\",\"cat\":\"flow\",\"ph\":\"f\",\"bp\":\"e\",\"id\":" ++ decimal entry

unfoldable pub entry_argument : ℕ → List ℕ
entry_argument entry = (codes ",\"args\":{\"entry\":" ++ decimal entry) ++ codes "}}"

unfoldable pub arrow_start : Work → List ℕ → ℕ → ℕ → ℕ → List ℕ
arrow_start w word entry tick track =
    named word ++ start_kind entry ++ place_at w tick 2 track
    ++ entry_argument entry

unfoldable pub arrow_end : Work → List ℕ → ℕ → ℕ → ℕ → List ℕ
arrow_end w word entry tick track = named word ++ end_kind entry ++ place_at w tick 2 track ++ codes "}"

-- an arrow from the track of one thread to that of another, at a tick; its number is that of the entry
abbrev pub arrow : Work → List ℕ → ℕ → ℕ → ℕ × ℕ → List ℕ
arrow w word entry tick tracks = arrow_start w word entry tick tracks.0 ++ arrow_end w word entry tick tracks.1

-- the track of a thread, where it has one
abbrev pub track_at : Work → ℕ → Option ℕ
track_at w t = if nat_lt t (length w.threads) then Some (thread_number t) else None

abbrev pub arrow_from : Work → List ℕ → ℕ → ℕ → Option ℕ → ℕ → List ℕ
arrow_from w word entry tick None to = []
arrow_from w word entry tick (Some track) to = arrow w word entry tick (track, to)

-- an arrow from a thread, where there is one, to another
abbrev pub flow : Work → List ℕ → ℕ → ℕ → Option ℕ → ℕ → List ℕ
flow w word entry tick None to = []
flow w word entry tick (Some from) to = arrow_from w word entry tick (track_at w from) (thread_number to)

-- a wakeup, from the thread that ran on the processor; a nap that ends has none
abbrev pub wake_flow : Work → Wakeup → List ℕ
wake_flow w x = flow w (codes "wakes") x.entry x.tick x.waker x.woken.0

-- inherited priority, from the waiter to the owner of its lock
abbrev pub hand_flow : Work → HandOver → List ℕ
hand_flow w x = flow w (codes "hands priority on") x.entry x.tick x.waiter x.owner.0

unfoldable pub load_start : ℕ → List ℕ
load_start time = codes ",\n{\"name\":\"runnable\",\"ph\":\"C\",\"pid\":1,\"ts\":" ++ decimal time

unfoldable pub load_argument : ℕ → List ℕ
load_argument runnable = (codes ",\"args\":{\"threads\":" ++ decimal runnable) ++ codes "}}"

-- from a tick on so many threads stand on dispatch queues
unfoldable pub load_event : Work → Load → List ℕ
load_event w x = load_start (micros w x.tick) ++ load_argument x.runnable
