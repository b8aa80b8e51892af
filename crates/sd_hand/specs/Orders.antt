-- Homes that lie in the order of their numbers.
-- Source: this project's own.
use Rattle.std.specs.Prelude.{◌≡◌, ℕ, ◌+◌, ◌<◌, ◌≤◌, true, List, Option, None, length, get_or}
use Rattle.sd_types.specs.declared.numbers.HomeId.{HomeId}
use Rattle.sd_types.specs.declared.numbers.HomeId.TheVariants as id
use Rattle.sd_homes.specs.declared.home.Home.{Home}
use Rattle.sd_hand.specs.declared.ordering.Kind.{Kind}
use Rattle.sd_hand.specs.declared.ordering.Kind.TheVariants.{Cpu, RealTime, Chain, Sleepers}
use Rattle.sd_hand.specs.declared.order.Order.{Order}
use Rattle.sd_hand.specs.Hands.{AreApart, is_at}

-- the number of the i-th home of a kind
abbrev pub numbered : Kind → ℕ → HomeId
numbered Cpu i = id.Cpu (record { 0 = i })
numbered RealTime i = id.RealTime (record { 0 = i })
numbered Chain i = id.Chain i
numbered Sleepers i = id.Sleepers i

-- the home of this number lies in this slot
abbrev pub LiesAt : HomeId → ℕ → List (Option Home) → Type 0
LiesAt k i hs = is_at k (get_or hs i None) ≡ true

-- so many homes of a kind lie one behind another from a slot on
abbrev pub AreAt : Kind → ℕ → ℕ → List (Option Home) → Type 0
AreAt kind from count hs = (i : ℕ) → i < count → LiesAt (numbered kind i) (from + i) hs

-- the homes of each kind lie where the order tells
pub record IsOrder (o : Order) (hs : List (Option Home)) : Type 0 where
  pub cpus : AreAt Cpu 0 o.cpus hs
  pub sets : AreAt RealTime o.first_set o.sets hs
  pub chains : AreAt Chain o.first_chain o.chains hs
  pub sleepers : AreAt Sleepers o.first_sleepers o.chains hs

-- the slots of a hand: homes of different numbers, four slots at least, for a processor never needs more homes at once, and where they lie
pub record AreOrdered (o : Order) (hs : List (Option Home)) : Type 0 where
  pub apart : AreApart hs
  pub four : 4 ≤ length hs
  pub order : IsOrder o hs
