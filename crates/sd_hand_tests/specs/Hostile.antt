-- A world that gives homes out one by one and follows a plan.
-- Source: this project's own.
use Rattle.std.specs.Prelude.{◌≡◌, ℕ, ◌+◌, ◌≤◌, false, ◌++◌, length, Some}
use Rattle.sd_types.specs.declared.numbers.CpuId.{CpuId}
use Rattle.sd_types.specs.declared.numbers.HomeId.{HomeId}
use Rattle.sd_types.specs.declared.numbers.ThreadId.{ThreadId}
use Rattle.sd_types.specs.declared.events.Which.{Which}
use Rattle.sd_machine.specs.Hints.{hint_shown}
use Rattle.sd_homes.specs.declared.home.Home.{Home}
use Rattle.sd_homes.specs.Families.{home_id}
use Rattle.sd_hand.specs.Hands.{HoldsMore, IsHeld, held, how_many_held}
use Rattle.sd_world.specs.declared.plain.PlainWorld.{PlainWorld}
use Rattle.sd_world.specs.Plain.{Stands, plain_meaning, told}
use Rattle.sd_world.specs.Worlds.{IsGood, IsListedIn, Meaning}
use Rattle.sd_hand_tests.specs.declared.hostile_world.HostileWorld.{HostileWorld}
use Rattle.sd_hand_tests.specs.Plan.{ArePossible}

-- all its homes in one hand: those that the processor holds, and the others
abbrev pub whole : HostileWorld → PlainWorld
whole x = record x.inner { acting = record { hand = record { slots = x.near.hand.slots ++ x.inner.acting.hand.slots }; actor = x.near.actor } }

-- the number that a processor shows
unfoldable pub hint_in : HostileWorld → Which → CpuId → ℕ
hint_in x kind d = hint_shown (told x.inner.work.now (whole x)) kind d

-- as a world: nobody else makes entries, and its homes are given out one by one
abbrev pub hostile_meaning : HostileWorld → Meaning
hostile_meaning x = record (plain_meaning (whole x)) { all = false; acting = x.near; stops = x.stops }

-- all its homes stand as a run on homes does, and there is room for those that the processor holds
pub record IsHostile (x : HostileWorld) : Type 0 where
  pub stands : Stands x.inner.work.now (whole x)
  pub actor : x.inner.acting.actor ≡ x.near.actor
  pub room : how_many_held x.near.hand.slots + how_many_held x.inner.acting.hand.slots ≤ length x.inner.acting.hand.slots
  pub possible : ArePossible x.plan.items
  pub good : IsGood (hostile_meaning x)

-- the processor holds the home
abbrev pub IsHeldNear : HostileWorld → HomeId → Type 0
IsHeldNear x k = IsHeld k x.near.hand.slots

-- the home of this number is not held, and the thread stands in it
pub record HasHome (x : HostileWorld) (t : ThreadId) (k : HomeId) : Type 0 where
  pub home : Home
  pub there : held k x.inner.acting.hand.slots ≡ Some home
  pub number : home_id home ≡ k
  pub listed : IsListedIn t home

-- the processor holds one home more, which is no longer among the others, and nothing else is changed
pub record Moves (x y : HostileWorld) (home : Home) : Type 0 where
  pub near : HoldsMore x.near.hand.slots home y.near.hand.slots
  pub others : HoldsMore y.inner.acting.hand.slots home x.inner.acting.hand.slots
  pub more : how_many_held y.near.hand.slots ≡ how_many_held x.near.hand.slots + 1
  pub fewer : how_many_held x.inner.acting.hand.slots ≡ how_many_held y.inner.acting.hand.slots + 1
  pub room : length y.inner.acting.hand.slots ≡ length x.inner.acting.hand.slots
  pub rest : y ≡ record x { near = record x.near { hand = y.near.hand }; inner = record x.inner { acting = record x.inner.acting { hand = y.inner.acting.hand } } }
