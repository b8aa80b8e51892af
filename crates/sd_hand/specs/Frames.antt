-- Homes that a change of the state does not name.
-- Source: this project's own.
use Rattle.std.specs.Prelude.{◌≢◌, ℕ}
use Rattle.sd_types.specs.declared.numbers.HomeId.{HomeId}
use Rattle.sd_state.specs.declared.states.State.{State}
use Rattle.sd_homes.specs.Standing.{look_of}
use Rattle.sd_homes.specs.declared.home.Home.{Home}
use Rattle.sd_homes.specs.Families.{home_id}
use Rattle.sd_hand.specs.Shown.{IsHome}

-- it is another home than this
abbrev pub IsNot : HomeId → Home → Type 0
IsNot k h = home_id h ≢ k

-- where it stands for its part of the one state after n entries, it stands for its part of the other after m
abbrev pub Stays : ℕ → ℕ → State → State → Home → Type 0
Stays n m s new h = IsHome n s (look_of s) h → IsHome m new (look_of new) h
