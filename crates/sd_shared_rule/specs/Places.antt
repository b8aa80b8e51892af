-- The homes of a run by their indices: in which a thread stands, which an event touches, and what stands for them after some entries.
-- Source: this project's own.
use Rattle.std.specs.Prelude.{◌≡◌, ℕ, ◌+◌, Bool, false, not, ◌||◌, List, [], ◌∷◌, length, filter, ◌==◌, Some, if◌then◌else◌}
use Rattle.std.specs.List.{range_with_len}
use Rattle.sd_types.specs.declared.numbers.CpuId.{CpuId}
use Rattle.sd_types.specs.declared.numbers.HomeId.{HomeId}
use Rattle.sd_types.specs.declared.events.Entry.{Entry}
use Rattle.sd_types.specs.declared.events.Event.{Event}
use Rattle.sd_types.specs.declared.works.Work.{Work}
use Rattle.sd_state.specs.declared.states.State.{State}
use Rattle.sd_state.specs.Opening.{opening}
use Rattle.sd_state.specs.States.{thread_of}
use Rattle.sd_machine.specs.Runs.{final}
use Rattle.sd_store.specs.declared.parts.Part.{Part}
use Rattle.sd_store.specs.Parts.{IsAmong}
use Rattle.sd_step.specs.Touched.{after_parts}
use Rattle.sd_homes.specs.Standing.{home_of, look_of}
use Rattle.sd_homes.specs.declared.home.Home.{Home}
use Rattle.sd_hand.specs.Shown.{IsHome}
use Rattle.sd_footprint.specs.Homes.{home_in}
use Rattle.sd_world.specs.Homes.{IsPlaced, Sizes, how_many, index_of, sizes_in}

-- the state after these entries
abbrev pub now : Work → List Entry → State
now w h = final w (opening w) h

abbrev pub sizes : Work → Sizes
sizes w = sizes_in w

abbrev pub home_count : Work → ℕ
home_count w = how_many (sizes w)

-- the index of the home in which a thread stands
unfoldable pub place_home : Work → State → ℕ → ℕ
place_home w s t = index_of (sizes w) (home_of (thread_of s t))

-- after these entries it is the home of this index, and stands for its part of the state
pub record Stands (w : Work) (k : ℕ) (h : List Entry) (x : Home) : Type 0 where
  pub placed : IsPlaced (sizes w) k x
  pub shown : IsHome (length h) (now w h) (look_of (now w h)) x

-- the event of processor c touches a part that lies in the home of this index
pub record Touches (w : Work) (s : State) (c : CpuId) (e : Event) (k : ℕ) : Type 0 where
  pub part : Part
  pub among : IsAmong part (after_parts w s c e)
  pub home : HomeId
  pub there : home_in s part ≡ Some home
  pub index : index_of (sizes w) home ≡ k

-- Lists of indices, or of the numbers of threads.

-- a number stands in the list
unfoldable pub holds : ℕ → List ℕ → Bool
holds k [] = false
holds k (j ∷ js) = (j == k) || holds k js

-- the list without its first k
unfoldable pub without : ℕ → List ℕ → List ℕ
without k [] = []
without k (j ∷ js) = if j == k then js else j ∷ without k js

-- no number stands twice
abbrev pub Apart : List ℕ → Type 0
Apart [] = Unit {0}
Apart (k ∷ ks) = (holds k ks ≡ false) × Apart ks

-- the threads that stand in another home than before
unfoldable pub moved : Work → State → State → List ℕ
moved w s new = filter (λ t. not (place_home w s t == place_home w new t)) (range_with_len 0 (length w.threads))
