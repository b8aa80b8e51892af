-- The state for which all homes of a run stand, with its processors.
-- Source: this project's own.
use Rattle.std.specs.Prelude.{◌≡◌, ℕ, ◌<◌, ◌^◌, ℤ, pos, List, length, Option, Some, slice_get, ⊤}
use Rattle.sd_types.specs.declared.works.Work.{Work}
use Rattle.sd_record.specs.Records.{ThreadRecord}
use Rattle.sd_state.specs.declared.states.Place.TheVariants.{Ended}
use Rattle.sd_state.specs.declared.states.State.{State}
use Rattle.sd_state.specs.declared.states.ThreadState.{ThreadState}
use Rattle.sd_state.specs.States.{cpu_of, thread_of}
use Rattle.sd_machine.specs.Runs.{IsReached}
use Rattle.sd_homes.specs.declared.list_id.ListId.{ListId}
use Rattle.sd_homes.specs.declared.list_id.ListId.TheVariants.{Naps}
use Rattle.sd_homes.specs.declared.home.Home.{Home}
use Rattle.sd_hand.specs.declared.acting.Actor.{Actor}
use Rattle.sd_hand.specs.OneHome.{AreAllHomes}

-- it is the processor of this number, with its count and its duty
pub record IsActorOf (s : State) (c : ℕ) (a : Actor) : Type 0 where
  pub cpu : a.cpu.0 ≡ c
  pub count : a.count ≡ (cpu_of s c).count
  pub duty : a.duty ≡ (cpu_of s c).duty

-- they are the processors of the state, in the order of their numbers
pub record AreActorsOf (s : State) (actors : List Actor) : Type 0 where
  pub many : length actors ≡ length s.cpus
  pub each : (c : ℕ) (a : Actor) → slice_get actors c ≡ Some a → IsActorOf s c a

-- the homes are all those of this state of a run
pub record IsToldBy (hs : List (Option Home)) (s : State) : Type 0 where
  pub work : Work
  pub number : ℕ
  pub reached : IsReached work number s
  pub homes : AreAllHomes number s hs

-- where a thread naps, its key is the tick at which its nap ends
abbrev pub IsDue : ListId → ℤ → Type 0
IsDue (Naps c) k = (due : ℕ) × (due < 2 ^ 32) × (k ≡ pos due)
IsDue _ k = ⊤

-- the thread of a record, as one that has ended
abbrev pub has_ended : ThreadRecord → ThreadState
has_ended r = record { body = r.body; place = Ended }

-- each thread that is told already, where its number says, has ended, and is the state's
abbrev pub AreTold : State → List (Option ThreadRecord) → Type 0
AreTold s xs = (t : ℕ) (r : ThreadRecord) → slice_get xs t ≡ Some (Some r) → has_ended r ≡ thread_of s t
