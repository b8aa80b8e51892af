-- What is said of the counts of ticks of processors.
-- Source: this project's own (processors count their ticks together).
use Rattle.std.specs.Prelude.{◌≡◌, ℕ, ◌+◌, ◌<◌, ◌≤◌, ◌&&◌, List, ◌==◌, if◌then◌else◌, Option, Some}
use Rattle.sd_types.specs.declared.numbers.CpuId.{CpuId}
use Rattle.sd_types.specs.declared.events.Entry.{Entry}
use Rattle.sd_types.specs.declared.events.Event.{Event}
use Rattle.sd_types.specs.declared.events.Hints.{Hints}
use Rattle.sd_types.specs.declared.works.Work.{Work}
use Rattle.sd_types.specs.Events.{ticks}
use Rattle.sd_state.specs.declared.states.State.{State}
use Rattle.sd_state.specs.Accounts.{cpu_ticks}
use Rattle.sd_state.specs.Opening.{opening}
use Rattle.sd_state.specs.States.{cpu_of}
use Rattle.sd_machine.specs.Events.{next, after}
use Rattle.sd_machine.specs.Runs.{final, IsRun, IsReached}

-- no processor has counted more than one tick ahead of another
abbrev pub CountsStayClose : Work → State → Type 0
CountsStayClose w s = (c d : ℕ) → c < w.cpus → d < w.cpus → (cpu_of s c).count ≤ (cpu_of s d).count + 1

-- an entry of processor c that takes a tick raises the count of c by 1; each other count is as it was, and after any other
-- entry all are
abbrev pub CountsRiseByTicks : Type 0
CountsRiseByTicks =
    (w : Work) (n : ℕ) (s : State) (c : CpuId) (hints : Option Hints) (e : Event) → IsReached w n s → next w s c hints ≡ Some e → (d : ℕ) → d < w.cpus
    → (cpu_of (after w s n c e) d).count ≡ (cpu_of s d).count + (if (c.0 == d) && ticks e then 1 else 0)

-- the count of a processor is the number of its entries so far that take a tick, as the accounts count them
abbrev pub CountsAreTicks : Type 0
CountsAreTicks = (w : Work) (es : List Entry) (c : ℕ) → IsRun w es → c < w.cpus → (cpu_of (final w (opening w) es) c).count ≡ cpu_ticks c es
