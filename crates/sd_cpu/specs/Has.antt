-- Whether a processor has all of some parts in its hand.
-- Source: this project's own.
use Rattle.std.specs.Prelude.{◌≡◌, ℕ, true, false, List, [], ◌∷◌, Option, Some, None, Result, Ok, Err, ⊤}
use Rattle.sd_types.specs.declared.numbers.CpuId.{CpuId}
use Rattle.sd_store.specs.declared.spots.Spot.{Spot}
use Rattle.sd_store.specs.declared.spots.Spot.TheVariants as spot
use Rattle.sd_state.specs.declared.states.State.{State}
use Rattle.sd_store.specs.declared.parts.Part.{Part}
use Rattle.sd_store.specs.Parts.{IsAmong}
use Rattle.sd_hand.specs.declared.acting.Acting.{Acting}
use Rattle.sd_hand.specs.Acting.{IsShown, has_part}

-- there is a state for which it may stand
pub record ShowsOne (x : Acting) : Type 0 where
  pub number : ℕ
  pub state : State
  pub shown : IsShown x number state

-- it has them all
abbrev pub HasAll : Acting → List Part → Type 0
HasAll x [] = ⊤
HasAll x (p ∷ ps) = (has_part x p ≡ true) × HasAll x ps

-- it has them all, or lacks this one of them
abbrev pub Has : Acting → Result Unit Part → List Part → Type 0
Has x (Ok u) ps = HasAll x ps
Has x (Err p) ps = IsAmong p ps × (has_part x p ≡ false)

-- the same of the parts of each state that it shows
abbrev pub HasIn : Acting → Result Unit Part → (State → List Part) → Type 0
HasIn x r parts = (n : ℕ) (s : State) → IsShown x n s → Has x r (parts s)

-- where a thread runs
abbrev pub running_cpu : Spot → Option CpuId
running_cpu (spot.Running d) = Some d
running_cpu _ = None
