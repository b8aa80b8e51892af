-- A state with each key replaced by its rank: how many keys of the state are smaller.
-- Source: this project's own.
use Rattle.std.specs.Prelude.{ℕ, ◌+◌, map, ℤ, pos, Some}
use Rattle.std.specs.List.{count_by}
use Rattle.sd_types.specs.declared.events.Duty.{Duty}
use Rattle.sd_types.specs.declared.events.Duty.TheVariants.{Walk, Rouse}
use Rattle.sd_state.specs.declared.states.Place.{Place}
use Rattle.sd_state.specs.declared.states.Place.TheVariants.{Queued, RealTime, Waiting, Asleep}
use Rattle.sd_state.specs.declared.states.CpuState.{CpuState}
use Rattle.sd_state.specs.declared.states.ThreadState.{ThreadState}
use Rattle.sd_state.specs.declared.states.State.{State}
use Rattle.sd_encoding.specs.Order.{is_below, key_at, key_in}

-- how many threads and how many duties have a smaller key
abbrev pub many_below : State → ℤ → ℕ
many_below s key = count_by (λ x. is_below (key_at x.place) (Some key)) s.threads + count_by (λ x. is_below (key_in x.duty) (Some key)) s.cpus

abbrev pub rank : State → ℤ → ℤ
rank s key = pos (many_below s key)

abbrev pub ranked_place : State → Place → Place
ranked_place s (Queued c key) = Queued c (rank s key)
ranked_place s (RealTime p key) = RealTime p (rank s key)
ranked_place s (Waiting l side key) = Waiting l side (rank s key)
ranked_place s (Asleep k key) = Asleep k (rank s key)
ranked_place s place = place

abbrev pub ranked_duty : State → Duty → Duty
ranked_duty s (Walk l seek key) = Walk l seek (rank s key)
ranked_duty s (Rouse k below) = Rouse k (rank s below)
ranked_duty s duty = duty

abbrev pub ranked_thread : State → ThreadState → ThreadState
ranked_thread s x = record x { place = ranked_place s x.place }

abbrev pub ranked_cpu : State → CpuState → CpuState
ranked_cpu s x = record x { duty = ranked_duty s x.duty }

abbrev pub ranked : State → State
ranked s = record s { threads = map (ranked_thread s) s.threads; cpus = map (ranked_cpu s) s.cpus }
