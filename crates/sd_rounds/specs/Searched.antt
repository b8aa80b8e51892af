-- A set in which a search finds nothing.
-- Source: this project's own.
use Rattle.std.specs.Prelude.{◌≡◌, ℕ, ◌==◌, ◌<◌, ◌≤◌, ⊤, Bool, true, false, List, length, Option, Some, None}
use Rattle.std.specs.List.{list_all}
use Rattle.sd_types.specs.declared.events.Which.TheVariants.{Queued}
use Rattle.sd_types.specs.declared.numbers.CpuId.{CpuId}
use Rattle.sd_types.specs.Limits.{most_processors}
use Rattle.sd_state.specs.declared.states.State.{State}
use Rattle.sd_state.specs.States.{is_real_time, thread_of}
use Rattle.sd_machine.specs.Hints.{hint_shown}
use Rattle.sd_machine.specs.Threads.{open_of}
use Rattle.sd_rounds.specs.declared.sight.Searched.{Searched}

-- each of these processors shows 0 of its queue
abbrev pub all_show_zero : State → List CpuId → Bool
all_show_zero s cpus = list_all (λ d. hint_shown s Queued d == 0) cpus

-- nobody stands in the real-time queue of set p
abbrev pub HasNoUrgent : State → ℕ → Type 0
HasNoUrgent s p = (t : ℕ) → t < length s.threads → is_real_time p (thread_of s t).place ≡ false

-- nobody stands in the real-time queue of the set, and each of its open processors, of which there are so many, shows 0
pub record HasNothing (s : State) (found : Searched) : Type 0 where
  pub zero : all_show_zero s (open_of s found.set.0) ≡ true
  pub urgent : HasNoUrgent s found.set.0
  pub count : found.cpus ≡ length (open_of s found.set.0)
  pub most : found.cpus ≤ most_processors

-- so it is in the set that was searched, where one is given
abbrev pub IsSearched : State → Option Searched → Type 0
IsSearched s None = ⊤
IsSearched s (Some found) = HasNothing s found
