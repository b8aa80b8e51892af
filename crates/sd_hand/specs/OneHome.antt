-- All homes of a state, and in how many of their lists a thread stands.
-- Source: this project's own; that a chain has four locks or four channels, see `sd_homes`.
use Rattle.std.specs.Prelude.{◌≡◌, ℕ, ◌+◌, ◌<◌, ◌≤◌, length, List, [], ◌∷◌, Option, Some, None, if◌then◌else◌}
use Rattle.sd_types.specs.declared.numbers.HomeId.{HomeId}
use Rattle.sd_types.specs.declared.numbers.HomeId.TheVariants as home
use Rattle.sd_types.specs.declared.numbers.Side.TheVariants.{Writer, Reader}
use Rattle.sd_types.specs.Limits.{most_objects}
use Rattle.sd_state.specs.declared.states.State.{State}
use Rattle.sd_homes.specs.Numbers.{IsHomeOf}
use Rattle.sd_homes.specs.declared.list_id.ListId.{ListId}
use Rattle.sd_homes.specs.declared.list_id.ListId.TheVariants.{Runs, Queues, Urgent, Waits, Sleeps, Naps, Ends}
use Rattle.sd_homes.specs.declared.home.Home.{Home}
use Rattle.sd_homes.specs.Families.{home_id, list_in}
use Rattle.sd_homes.specs.Kinds.{has_id}
use Rattle.sd_hand.specs.Hands.{AreApart, IsHeld}
use Rattle.sd_hand.specs.Shown.{ShowsState}

-- the homes are all those of the state and no others, each once, and stand for their parts of it after n entries
pub record AreAllHomes (n : ℕ) (s : State) (hs : List (Option Home)) : Type 0 where
  pub shown : ShowsState n s hs
  pub apart : AreApart hs
  pub all : (k : HomeId) → IsHomeOf s k → IsHeld k hs
  pub only : (k : HomeId) → IsHeld k hs → IsHomeOf s k
  pub locks : length s.locks ≤ most_objects
  pub chans : length s.counts ≤ most_objects

-- the two sides of a lock
abbrev pub sides_of : ℕ → List ListId → List ListId
sides_of l sps = Waits (record { 0 = l }) Writer ∷ (Waits (record { 0 = l }) Reader ∷ sps)

abbrev pub sleeps_on : ℕ → ListId
sleeps_on k = Sleeps (record { 0 = k })

-- the lists of a home: its chain has the locks or the channels of one residue modulo 64
abbrev pub lists_at : HomeId → List ListId
lists_at (home.Cpu c) = Runs c ∷ (Queues c ∷ (Naps c ∷ (Ends c ∷ [])))
lists_at (home.RealTime p) = Urgent p ∷ []
lists_at (home.Chain i) = sides_of i (sides_of (i + 64) (sides_of (i + 128) (sides_of (i + 192) [])))
lists_at (home.Sleepers i) = sleeps_on i ∷ (sleeps_on (i + 64) ∷ (sleeps_on (i + 128) ∷ (sleeps_on (i + 192) ∷ [])))

-- in how many of these lists of a home a thread stands
abbrev pub how_often : ℕ → Home → List ListId → ℕ
how_often t h [] = 0
how_often t h (sp ∷ sps) = (if has_id t (list_in h sp) then 1 else 0) + how_often t h sps

-- in how many of the lists of all these homes
abbrev pub lists_with : ℕ → List (Option Home) → ℕ
lists_with t [] = 0
lists_with t (None ∷ hs) = lists_with t hs
lists_with t (Some h ∷ hs) = how_often t h (lists_at (home_id h)) + lists_with t hs

-- there are homes of the state, all of them, which stand for it after n entries, and in which each of its threads stands in one list
pub record StandsInHomes (n : ℕ) (s : State) : Type 0 where
  pub homes : List (Option Home)
  pub all : AreAllHomes n s homes
  pub once : (t : ℕ) → t < length s.threads → lists_with t homes ≡ 1
