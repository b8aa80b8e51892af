-- The accounts of a run, as counts over its entries.
-- Source: this project's own.
use Rattle.std.specs.Prelude.{ℕ, Bool, true, false, ◌&&◌, List, count_by, ◌==◌, Some}
use Rattle.sd_types.specs.declared.events.Event.{Event}
use Rattle.sd_types.specs.declared.events.Event.TheVariants.{Tick, Spin, Idle, Dispatch, Steal, Preempt, Away, Napend, Wake, Rouse, Unblock, Grant, SemaVWake}
use Rattle.sd_types.specs.declared.events.Entry.{Entry}
use Rattle.sd_types.specs.Events.{ticks}

-- a tick or a spin of thread t
abbrev pub is_tick_of : ℕ → Event → Bool
is_tick_of t (Tick u) = u.0 == t
is_tick_of t (Spin u l) = u.0 == t
is_tick_of t _ = false

-- thread t comes to run, from a queue of its own processor's or another's
abbrev pub is_dispatch_of : ℕ → Event → Bool
is_dispatch_of t (Dispatch u p) = u.0 == t
is_dispatch_of t (Steal v u p) = u.0 == t
is_dispatch_of t _ = false

abbrev pub is_preempt_of : ℕ → Event → Bool
is_preempt_of t (Preempt u end) = u.0 == t
is_preempt_of t (Away u c) = u.0 == t
is_preempt_of t _ = false

-- thread t is woken: made runnable after a nap, a sleep or a wait for a lock
abbrev pub is_wake_of : ℕ → Event → Bool
is_wake_of t (Napend u at) = u.0 == t
is_wake_of t (Wake v k (Some (u, at))) = u.0 == t
is_wake_of t (Rouse k (Some (u, at))) = u.0 == t
is_wake_of t (Unblock l u at) = u.0 == t
is_wake_of t (Grant l u at) = u.0 == t
is_wake_of t (SemaVWake v k u at) = u.0 == t
is_wake_of t _ = false

abbrev pub is_idle : Event → Bool
is_idle Idle = true
is_idle _ = false

unfoldable pub thread_ticks : ℕ → List Entry → ℕ
thread_ticks t es = count_by (λ e. is_tick_of t e.event) es

unfoldable pub thread_dispatches : ℕ → List Entry → ℕ
thread_dispatches t es = count_by (λ e. is_dispatch_of t e.event) es

unfoldable pub thread_preempts : ℕ → List Entry → ℕ
thread_preempts t es = count_by (λ e. is_preempt_of t e.event) es

unfoldable pub thread_wakes : ℕ → List Entry → ℕ
thread_wakes t es = count_by (λ e. is_wake_of t e.event) es

-- the ticks of processor c, idle ones too
unfoldable pub cpu_ticks : ℕ → List Entry → ℕ
cpu_ticks c es = count_by (λ e. (e.cpu.0 == c) && ticks e.event) es

unfoldable pub cpu_idle : ℕ → List Entry → ℕ
cpu_idle c es = count_by (λ e. (e.cpu.0 == c) && is_idle e.event) es
