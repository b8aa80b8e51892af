-- All homes of a run, by number. Some of them may be given out.
-- Source: this project's own; the homes are the dispatch queues, the real-time queues of partitions, the chains of turnstiles and
-- those of sleep queues of Solaris Internals.
use Rattle.std.specs.Prelude.{◌≡◌, ℕ, ◌+◌, ◌<◌, nat_lt, List, [], Option, Some, None, length, slice_get, if◌then◌else◌}
use Rattle.sd_types.specs.declared.numbers.HomeId.{HomeId}
use Rattle.sd_types.specs.declared.numbers.HomeId.TheVariants as id
use Rattle.sd_types.specs.declared.works.Work.{Work}
use Rattle.sd_state.specs.declared.states.State.{State}
use Rattle.sd_homes.specs.Standing.{ByNumber, look_of}
use Rattle.sd_homes.specs.declared.home.Home.{Home}
use Rattle.sd_homes.specs.declared.list_id.ListId.{ListId}
use Rattle.sd_homes.specs.Families.{home_id, list_in}
use Rattle.sd_hand.specs.Hands.{IsHeld}
use Rattle.sd_hand.specs.Shown.{PartsShown, Shows}

-- a run has a home for each of its processors and each of its sets, 64 chains of turnstiles and 64 of sleep queues
pub record Sizes : Type 0 where
  pub cpus : ℕ
  pub sets : ℕ

abbrev pub sizes_of : State → Sizes
sizes_of s = record { cpus = length s.cpus; sets = length s.open_cpus }

-- of a run of this workload: one real-time queue for the default partition and one for each declared set
abbrev pub sizes_in : Work → Sizes
sizes_in w = record { cpus = w.cpus; sets = length w.sets + 1 }

abbrev pub how_many : Sizes → ℕ
how_many z = z.cpus + z.sets + 64 + 64

-- the number is that of a home of the run
abbrev pub IsNumber : Sizes → HomeId → Type 0
IsNumber z (id.Cpu c) = c.0 < z.cpus
IsNumber z (id.RealTime p) = p.0 < z.sets
IsNumber z (id.Chain i) = i < 64
IsNumber z (id.Sleepers i) = i < 64

-- the processors come first, then the real-time queues, the chains of turnstiles and those of sleep queues
abbrev pub index_of : Sizes → HomeId → ℕ
index_of z (id.Cpu c) = c.0
index_of z (id.RealTime p) = z.cpus + p.0
index_of z (id.Chain i) = z.cpus + z.sets + i
index_of z (id.Sleepers i) = z.cpus + z.sets + 64 + i

-- a home that lies in this slot has this index
pub record IsPlaced (z : Sizes) (i : ℕ) (h : Home) : Type 0 where
  pub number : IsNumber z (home_id h)
  pub index : index_of z (home_id h) ≡ i

-- each home lies in the slot of its number
pub record ArePlaced (z : Sizes) (slots : List (Option Home)) : Type 0 where
  pub many : length slots ≡ how_many z
  pub each : (i : ℕ) (h : Home) → slice_get slots i ≡ Some (Some h) → IsPlaced z i h

pub record AllHomes : Type 0 where
  pub sizes : Sizes
  pub slots : List (Option Home)

-- none is given out
abbrev pub AreAllThere : AllHomes → Type 0
AreAllThere hs = (k : HomeId) → IsNumber hs.sizes k → IsHeld k hs.slots

-- it has no thread, and beside its threads what the state has
pub record IsBare (s : State) (h : Home) : Type 0 where
  pub lists : (sp : ListId) → list_in h sp ≡ []
  pub parts : PartsShown s h

-- the number of the home in a slot
abbrev pub IsNumberAt : Sizes → ℕ → HomeId → Type 0
IsNumberAt z i k = (index_of z k ≡ i) × IsNumber z k

-- a home without threads lies in the slot
pub record HasBare (s : State) (slots : List (Option Home)) (i : ℕ) : Type 0 where
  pub home : Home
  pub there : slice_get slots i ≡ Some (Some home)
  pub placed : IsPlaced (sizes_of s) i home
  pub bare : IsBare s home

-- so many homes without threads, each in the slot of its number
pub record AreBare (s : State) (m : ℕ) (slots : List (Option Home)) : Type 0 where
  pub many : length slots ≡ m
  pub each : (i : ℕ) → i < m → HasBare s slots i

-- the threads with a number below t
abbrev pub threads_below : ℕ → State → ByNumber
threads_below t s u = if nat_lt u t then look_of s u else None

-- the homes of a state, none of which is given out, without threads
pub record ShowsNone (s : State) (hs : AllHomes) : Type 0 where
  pub sizes : hs.sizes ≡ sizes_of s
  pub all : AreAllThere hs
  pub none : (n : ℕ) → Shows n s (λ t. None) hs.slots
