-- What a home shows of a state.
-- Source: this project's own.
use Rattle.std.specs.Prelude.{◌≡◌, ℕ, ◌<◌, ◌/◌, true, List, length, Option, Some, get_or, ⊤}
use Rattle.sd_state.specs.declared.states.LockState.TheVariants.{Free}
use Rattle.sd_state.specs.declared.states.State.{State}
use Rattle.sd_state.specs.States.{cpu_of, thread_of}
use Rattle.sd_machine.specs.Threads.{open_of, lock_of, count_of}
use Rattle.sd_store.specs.Parts.{view_of}
use Rattle.sd_types.specs.declared.numbers.HomeId.{HomeId}
use Rattle.sd_types.specs.Limits.{most_objects}
use Rattle.sd_homes.specs.declared.list_id.ListId.{ListId}
use Rattle.sd_homes.specs.declared.list_id.ListId.TheVariants.{Waits, Sleeps}
use Rattle.sd_homes.specs.Standing.{home_at, list_of, look_of, ByNumber, Lists}
use Rattle.sd_homes.specs.declared.home.Home.{Home}
use Rattle.sd_homes.specs.declared.home.Home.TheVariants.{Cpu, RealTime, Chain, Sleepers}
use Rattle.sd_homes.specs.Homes.{is_chan_of, is_of}
use Rattle.sd_homes.specs.Families.{home_id, list_in}
use Rattle.sd_hand.specs.Hands.{held}

-- what it keeps beside its threads
abbrev pub PartsShown : State → Home → Type 0
PartsShown s (Cpu h) = (h.view ≡ view_of (cpu_of s h.cpu.0)) × (h.cpu.0 < length s.cpus)
PartsShown s (RealTime h) = (h.open_cpus ≡ open_of s h.set.0) × (h.set.0 < length s.open_cpus)
PartsShown s (Chain h) = (length h.turnstiles.locks ≡ 4) × (length h.states ≡ 4) × ((l : ℕ) → is_of h.turnstiles l ≡ true → get_or h.states (l / 64) Free ≡ lock_of s l)
PartsShown s (Sleepers h) = (length h.sleepers.queues ≡ 4) × (length h.counts ≡ 4) × ((k : ℕ) → is_chan_of h.sleepers k ≡ true → get_or h.counts (k / 64) 0 ≡ count_of s k)

-- a lock or a channel of a chain has a number below the most of them
abbrev pub IsListThere : ListId → Type 0
IsListThere (Waits l side) = l.0 < most_objects
IsListThere (Sleeps k) = k.0 < most_objects
IsListThere _ = ⊤

-- after n entries the home stands for its part of the state, of which it has these threads
pub record IsHome (n : ℕ) (s : State) (look : ByNumber) (h : Home) : Type 0 where
  pub lists : (sp : ListId) → home_at sp ≡ home_id h → Lists n sp (list_in h sp) look
  pub parts : PartsShown s h

abbrev pub Shows : ℕ → State → ByNumber → List (Option Home) → Type 0
Shows n s look hs = (k : HomeId) (h : Home) → held k hs ≡ Some h → IsHome n s look h

-- after n entries each of the homes stands for its part of the state
abbrev pub ShowsState : ℕ → State → List (Option Home) → Type 0
ShowsState n s hs = Shows n s (look_of s) hs

-- thread t is one of the state's, and stands in this list
pub record StandsAt (s : State) (t : ℕ) (sp : ListId) : Type 0 where
  pub inside : t < length s.threads
  pub list : list_of (thread_of s t) ≡ sp
