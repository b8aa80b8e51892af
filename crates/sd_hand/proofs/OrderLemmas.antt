-- Homes that lie in the order of their numbers: those that are found there, and what keeps them there.
use Rattle.std.proofs.Common.{◌≡◌, ℕ, zero, suc, ◌+◌, ◌<◌, ◌≤◌, List, [], ◌∷◌, length, get_or, set, slice_get, Option, Some, None, sym, ap, ◌∙◌, subst, arith}
use Rattle.std.specs.Prelude.{slice_set}
use Rattle.std.proofs.lemmas.List.{length-set}
use Rattle.sd_types.specs.declared.numbers.HomeId.{HomeId}
use Rattle.sd_homes.specs.declared.home.Home.{Home}
use Rattle.sd_homes.specs.Families.{home_id, same_home}
use Rattle.sd_hand.specs.declared.ordering.Kind.{Kind}
use Rattle.sd_hand.specs.declared.ordering.Kind.TheVariants.{Cpu, RealTime, Chain, Sleepers}
use Rattle.sd_hand.specs.declared.order.Order.{Order}
use Rattle.sd_hand.specs.Hands.{AreApart, AreSlots, HandSlots, IsSlot, is_at}
use Rattle.sd_hand.specs.Orders.{AreAt, AreOrdered, IsOrder, LiesAt, numbered}
use Rattle.sd_hand.proofs.CountLemmas.{slots_without}
use Rattle.sd_hand.proofs.GuideLemmas.{ShowsSlots, apart_changed, held_here, slot_guessed}
use Rattle.sd_hand.proofs.SlotLemmas.{held_id}

-- ---- a home that lies where its number tells
pub lies_inside : (k : HomeId) (hs : List (Option Home)) (i : ℕ) → LiesAt k i hs → i < length hs
lies_inside k [] i e = absurd cc
lies_inside k (x ∷ hs) zero e = omega arith
lies_inside k (x ∷ hs) (suc i) e = let rest = lies_inside k hs i e in omega (arith, rest)

-- the homes of a kind, of which one is asked for
pub record Lies (k : HomeId) (x : HandSlots) (i : ℕ) : Type 0 where
  pub inside : i < length x.slots
  pub slot : IsSlot k x.slots i

pub lies : (x : HandSlots) (hs : List (Option Home)) (kind : Kind) (from count i at : ℕ) → ShowsSlots x hs → AreApart hs → AreAt kind from count hs → i < count → at ≡ from + i → Lies (numbered kind i) x at
lies x hs kind from count i at shown apart each low is = subst (λ y. Lies (numbered kind i) y at) shown (record {
  inside = lies_inside (numbered kind i) hs at here;
  slot = slot_guessed (numbered kind i) hs at apart here;
})
  where
    here : LiesAt (numbered kind i) at hs
    here = subst (λ n. LiesAt (numbered kind i) n hs) (sym is) (each i low)

-- ---- a home that keeps its number
lies_set : (k : HomeId) (hs : List (Option Home)) (i j : ℕ) (h g : Home) (d : Option Home) → LiesAt k j hs → get_or hs i d ≡ Some h → home_id g ≡ home_id h → LiesAt k j (set hs i (Some g))
lies_set k [] i j h g d at e keeps = at
lies_set k (x ∷ hs) zero zero h g d at e keeps = ap (same_home k) keeps ∙ (ap (is_at k) (sym e) ∙ at)
lies_set k (x ∷ hs) zero (suc j) h g d at e keeps = at
lies_set k (x ∷ hs) (suc i) zero h g d at e keeps = at
lies_set k (x ∷ hs) (suc i) (suc j) h g d at e keeps = lies_set k hs i j h g d at e keeps

all_set : (kind : Kind) (from count : ℕ) (hs : List (Option Home)) (i : ℕ) (h g : Home) (d : Option Home) → AreAt kind from count hs → get_or hs i d ≡ Some h → home_id g ≡ home_id h → AreAt kind from count (set hs i (Some g))
all_set kind from count hs i h g d each e keeps n l = lies_set (numbered kind n) hs i (from + n) h g d (each n l) e keeps

order_set : (o : Order) (hs : List (Option Home)) (i : ℕ) (h g : Home) (d : Option Home) → IsOrder o hs → get_or hs i d ≡ Some h → home_id g ≡ home_id h → IsOrder o (set hs i (Some g))
order_set o hs i h g d order e keeps = record {
  cpus = all_set Cpu 0 o.cpus hs i h g d order.cpus e keeps;
  sets = all_set RealTime o.first_set o.sets hs i h g d order.sets e keeps;
  chains = all_set Chain o.first_chain o.chains hs i h g d order.chains e keeps;
  sleepers = all_set Sleepers o.first_sleepers o.chains hs i h g d order.sleepers e keeps;
}

-- the slots of a hand after a change of a home
pub slots_changed : {o : Order} (hs : List (Option Home)) (i : ℕ) (h g : Home) (m : Option Home) → AreOrdered o hs → m ≡ get_or hs i m → m ≡ Some h → home_id g ≡ home_id h → AreOrdered o (slice_set hs i (Some g))
slots_changed {o} hs i h g m a e is keeps = record {
  apart = apart_changed hs i h g m a.apart e is keeps;
  four = subst (λ n. 4 ≤ n) (sym (length-set hs i (Some g))) a.four;
  order = order_set o hs i h g m a.order (sym e ∙ is) keeps;
}

-- ---- a home comes to a free slot
lies_filled : (k : HomeId) (hs : List (Option Home)) (i j : ℕ) (g : Home) → LiesAt k j hs → slice_get hs i ≡ Some None → LiesAt k j (set hs i (Some g))
lies_filled k [] i j g at e = at
lies_filled k (x ∷ hs) zero zero g at e = let none : x ≡ None = cc in let no = rw none at at in absurd cc
lies_filled k (x ∷ hs) zero (suc j) g at e = at
lies_filled k (x ∷ hs) (suc i) zero g at e = at
lies_filled k (x ∷ hs) (suc i) (suc j) g at e = lies_filled k hs i j g at e

all_filled : (kind : Kind) (from count : ℕ) (hs : List (Option Home)) (i : ℕ) (g : Home) → AreAt kind from count hs → slice_get hs i ≡ Some None → AreAt kind from count (set hs i (Some g))
all_filled kind from count hs i g each e n l = lies_filled (numbered kind n) hs i (from + n) g (each n l) e

pub order_filled : (o : Order) (hs : List (Option Home)) (i : ℕ) (g : Home) → IsOrder o hs → slice_get hs i ≡ Some None → IsOrder o (set hs i (Some g))
order_filled o hs i g order e = record {
  cpus = all_filled Cpu 0 o.cpus hs i g order.cpus e;
  sets = all_filled RealTime o.first_set o.sets hs i g order.sets e;
  chains = all_filled Chain o.first_chain o.chains hs i g order.chains e;
  sleepers = all_filled Sleepers o.first_sleepers o.chains hs i g order.sleepers e;
}

-- ---- where nothing is known
pub no_order : (o : Order) (hs : List (Option Home)) → o.cpus ≡ 0 → o.sets ≡ 0 → o.chains ≡ 0 → IsOrder o hs
no_order o hs cpus sets chains = record {
  cpus = λ n l. absurd (omega (arith, l, cpus));
  sets = λ n l. absurd (omega (arith, l, sets));
  chains = λ n l. absurd (omega (arith, l, chains));
  sleepers = λ n l. absurd (omega (arith, l, chains));
}

-- the slots alone
pub slots_of : {o : Order} (hs : List (Option Home)) → AreOrdered o hs → AreSlots hs
slots_of hs a = record { apart = a.apart; four = a.four }

-- a home is given out, and nothing is known of where the others lie
pub slots_unordered : {o : Order} (none : Order) (hs : List (Option Home)) (i : ℕ) (m : Option Home) → m ≡ None → AreOrdered o hs → (none.cpus ≡ 0) × (none.sets ≡ 0) × (none.chains ≡ 0) → AreOrdered none (slice_set hs i m)
slots_unordered none hs i m e a zeros =
    let left = slots_without hs i m e (slots_of hs a) in
    record { apart = left.apart; four = left.four; order = no_order none (slice_set hs i m) zeros.0 zeros.1 zeros.2 }

-- ---- the home that lies in the slot of a number has it
pub number_here : (x : HandSlots) (hs : List (Option Home)) (k : HomeId) (i : ℕ) (h : Home) (m : Option Home) → ShowsSlots x hs → IsSlot k x.slots i → m ≡ get_or hs i m → m ≡ Some h → home_id h ≡ k
number_here x hs k i h m shown slot e is = sym (held_id k h x.slots (held_here x hs k i h m shown slot e is))
