-- Which thread an event moves, and to which place.
use Rattle.std.specs.Prelude.{ℕ, ◌==◌, Option, Some, None, if◌then◌else◌}
use Rattle.sd_types.specs.declared.numbers.CpuId.{CpuId}
use Rattle.sd_types.specs.declared.numbers.ThreadId.{ThreadId}
use Rattle.sd_types.specs.declared.events.BindAnswer.{BindAnswer}
use Rattle.sd_types.specs.declared.events.BindAnswer.TheVariants as bind_answer
use Rattle.sd_types.specs.declared.events.End.{End}
use Rattle.sd_types.specs.declared.events.Event.{Event}
use Rattle.sd_types.specs.declared.events.PrioAnswer.{PrioAnswer}
use Rattle.sd_types.specs.declared.events.PrioAnswer.TheVariants.{Changed, Refused}
use Rattle.sd_types.specs.declared.events.Put.{Put}
use Rattle.sd_types.specs.declared.works.Work.{Work}
use Rattle.sd_types.specs.Priorities.{eff_as}
use Rattle.sd_state.specs.declared.states.Place.{Place}
use Rattle.sd_state.specs.declared.states.Place.TheVariants.{Running, Queued}
use Rattle.sd_state.specs.declared.states.State.{State}
use Rattle.sd_state.specs.States.{thread_of, eff_of}
use Rattle.sd_machine.specs.Bodies.{aged_class}
use Rattle.sd_machine.specs.Changes.{back_key, key_at, queue_place, place_put}
use Rattle.sd_machine.specs.Deeds.{Deed, ComesHere, GoesTo, GoesBack, GoesAway, WakesUp, WakesIf, PutsThread, Rouses, GrantsLock, WalksOn, Lifts, Reclasses, BindsThread, Whither, place_to, deeds, first}

-- a thread stays, or goes to a place
pub data Step : Type 0 where
  Stay : Step
  Go : ℕ → Place → Step

-- where a thread is put that is made runnable, and where one that is only put where it moves at all
abbrev pub put_step : Work → ℕ → ℕ → Put → Step
put_step w n t at = Go t (place_put w n t at)

abbrev pub put_step_if : Work → ℕ → ℕ → Option Put → Step
put_step_if w n t None = Stay
put_step_if w n t (Some at) = put_step w n t at

abbrev pub woken_step : Work → ℕ → Option (ThreadId × Put) → Step
woken_step w n None = Stay
woken_step w n (Some u) = put_step w n u.0.0 u.1

-- a running thread stays where its priority changes
abbrev pub reordered_step : Work → ℕ → ℕ → Option Put → Place → Step
reordered_step w n t at (Running x) = Stay
reordered_step w n t at _ = put_step_if w n t at

abbrev pub aged_step : Work → State → ℕ → CpuId → ℕ → Step
aged_step w s n c t = if eff_as (aged_class w (thread_of s t).body.class) (thread_of s t).body == eff_of s t then Stay else Go t (Queued c (back_key n))

abbrev pub prio_step : Work → State → ℕ → ThreadId → PrioAnswer → Step
prio_step w s n u (Changed p at) = reordered_step w n u.0 at (thread_of s u.0).place
prio_step w s n u (Refused denied) = Stay

abbrev pub bind_step : Work → ℕ → ℕ → BindAnswer → Step
bind_step w n u (bind_answer.Changed at) = put_step_if w n u at
bind_step w n u _ = Stay

-- how a deed moves a thread, if it does
pub data Stride : Type 0 where
  Comes : ℕ → Stride
  Goes : ℕ → Whither → Stride
  Falls : ℕ → End → Stride
  Leaves : ℕ → CpuId → Stride
  Wakes : ℕ → Put → Stride
  WakesAny : Option (ThreadId × Put) → Stride
  Reorders : ThreadId → Option Put → Stride
  Rises : ℕ → Stride
  Changes : ℕ → ThreadId → PrioAnswer → Stride
  Binds : ℕ → BindAnswer → Stride

abbrev pub moves : Deed → Option Stride
moves (ComesHere t) = Some (Comes t)
moves (GoesTo t whither) = Some (Goes t whither)
moves (GoesBack t end) = Some (Falls t end)
moves (GoesAway t d) = Some (Leaves t d)
moves (WakesUp t at) = Some (Wakes t at)
moves (WakesIf u) = Some (WakesAny u)
moves (PutsThread t at) = Some (Wakes t at)
moves (Rouses k u) = Some (WakesAny u)
moves (GrantsLock l u at) = Some (Wakes u at)
moves (WalksOn l o at) = Some (Reorders o at)
moves (Lifts t) = Some (Rises t)
moves (Reclasses t u answer) = Some (Changes t u answer)
moves (BindsThread u d answer) = Some (Binds u answer)
moves _ = None

abbrev pub stride_of : Event → Option Stride
stride_of e = first moves (deeds e)

abbrev pub step_by : Work → State → ℕ → CpuId → Option Stride → Step
step_by w s n c None = Stay
step_by w s n c (Some (Comes t)) = Go t (Running c)
step_by w s n c (Some (Goes t whither)) = Go t (place_to w n c s t whither)
step_by w s n c (Some (Falls t end)) = Go t (queue_place w t c (key_at n end) (thread_of s t).body)
step_by w s n c (Some (Leaves t d)) = Go t (Queued d (back_key n))
step_by w s n c (Some (Wakes t at)) = put_step w n t at
step_by w s n c (Some (WakesAny u)) = woken_step w n u
step_by w s n c (Some (Reorders o at)) = reordered_step w n o.0 at (thread_of s o.0).place
step_by w s n c (Some (Rises t)) = aged_step w s n c t
step_by w s n c (Some (Changes t u answer)) = prio_step w s n u answer
step_by w s n c (Some (Binds u answer)) = bind_step w n u answer

abbrev pub step_of : Work → State → ℕ → CpuId → Event → Step
step_of w s n c e = step_by w s n c (stride_of e)

-- the thread that leaves the acting processor
abbrev pub leaver : Option Stride → Option ℕ
leaver (Some (Goes t whither)) = Some t
leaver (Some (Falls t end)) = Some t
leaver (Some (Leaves t d)) = Some t
leaver _ = None
