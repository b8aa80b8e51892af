-- A change takes each key of the state after it from somewhere: from the state before, or from the entry. Where two states
-- with keys in one order take them from the same places, their keys are in one order afterwards.
use Rattle.std.proofs.Common.{◌≡◌, ℕ, ◌+◌, true, false, ℤ, negsuc, int_lt, Option, Some, None, is_some, refl, sym, ◌∙◌, arith, le_refl}
use Rattle.std.specs.Prelude.{IfSome}
use Rattle.std.proofs.lemmas.Bool.Decides.{nat_tests}
use Rattle.std.proofs.lemmas.Int.{ints}
use Rattle.sd_basics.proofs.Numbers.{int_not_below_itself}
use Rattle.sd_state.specs.declared.states.State.{State}
use Rattle.sd_machine.specs.Changes.{back_key}
use Rattle.sd_encoding.specs.Order.{Holder, IsKeyBefore, IsSameOrder, KeysFit, is_below, key_held}
use Rattle.sd_encoding.proofs.AlikeLemmas.{there_alike}
use Rattle.sd_encoding.proofs.KeyLemmas.{back_fits, front_fits}

-- no key, that of a holder in the state before, or the one that the entry gives at the back or at the front of a queue
pub data Source : Type 0 where
  Gone : Source
  From : Holder → Source
  Back : Source
  Front : Source

abbrev pub key_from : ℕ → State → Source → Option ℤ
key_from n s Gone = None
key_from n s (From a) = key_held s a
key_from n s Back = Some (back_key n)
key_from n s Front = Some (negsuc n)

-- two states whose keys have the same order, those of the one of entries before entry n, those of the other before entry m
pub record AreAlike (n m : ℕ) (x s : State) : Type 0 where
  pub same : IsSameOrder x s
  pub own : KeysFit n x
  pub keys : KeysFit m s

below_back : (n : ℕ) (key : Option ℤ) → IfSome key (IsKeyBefore n) → is_below key (Some (back_key n)) ≡ is_some key
below_back n None h = refl
below_back n (Some key) h = h.back n (le_refl n)

back_below : (n : ℕ) (key : ℤ) → int_lt key (back_key n) ≡ true → int_lt (back_key n) key ≡ false
back_below n key h = grind (arith, nat_tests, ints)

not_back_below : (n : ℕ) (key : Option ℤ) → IfSome key (IsKeyBefore n) → is_below (Some (back_key n)) key ≡ false
not_back_below n None h = refl
not_back_below n (Some key) h = back_below n key (h.back n (le_refl n))

front_below : (n : ℕ) (key : Option ℤ) → IfSome key (IsKeyBefore n) → is_below (Some (negsuc n)) key ≡ is_some key
front_below n None h = refl
front_below n (Some key) h = h.front n (le_refl n)

front_above : (n : ℕ) (key : ℤ) → int_lt (negsuc n) key ≡ true → int_lt key (negsuc n) ≡ false
front_above n key h = grind (arith, nat_tests, ints)

not_below_front : (n : ℕ) (key : Option ℤ) → IfSome key (IsKeyBefore n) → is_below key (Some (negsuc n)) ≡ false
not_below_front n None h = refl
not_below_front n (Some key) h = front_above n key (h.front n (le_refl n))

front_back : (n : ℕ) → int_lt (negsuc n) (back_key n) ≡ true
front_back n = grind (arith, nat_tests, ints)

not_back_front : (n : ℕ) → int_lt (back_key n) (negsuc n) ≡ false
not_back_front n = grind (arith, nat_tests, ints)

none_below : (key : Option ℤ) → is_below key None ≡ false
none_below None = refl
none_below (Some key) = refl

-- the order of any two keys, wherever they come from
pub order_from : (n m : ℕ) (x s : State) → AreAlike n m x s → (a b : Source) → is_below (key_from n x a) (key_from n x b) ≡ is_below (key_from m s a) (key_from m s b)
order_from n m x s h Gone b = refl
order_from n m x s h (From a) Gone = none_below (key_held x a) ∙ sym (none_below (key_held s a))
order_from n m x s h (From a) (From b) = h.same.order a b
order_from n m x s h (From a) Back = below_back n (key_held x a) (h.own.before a) ∙ there_alike x s h.same.bare a ∙ sym (below_back m (key_held s a) (h.keys.before a))
order_from n m x s h (From a) Front = not_below_front n (key_held x a) (h.own.before a) ∙ sym (not_below_front m (key_held s a) (h.keys.before a))
order_from n m x s h Back Gone = refl
order_from n m x s h Back (From b) = not_back_below n (key_held x b) (h.own.before b) ∙ sym (not_back_below m (key_held s b) (h.keys.before b))
order_from n m x s h Back Back = int_not_below_itself (back_key n) ∙ sym (int_not_below_itself (back_key m))
order_from n m x s h Back Front = not_back_front n ∙ sym (not_back_front m)
order_from n m x s h Front Gone = refl
order_from n m x s h Front (From b) = front_below n (key_held x b) (h.own.before b) ∙ there_alike x s h.same.bare b ∙ sym (front_below m (key_held s b) (h.keys.before b))
order_from n m x s h Front Back = front_back n ∙ sym (front_back m)
order_from n m x s h Front Front = int_not_below_itself (negsuc n) ∙ sym (int_not_below_itself (negsuc m))

-- the entry after which there may be a key from there
abbrev pub since : ℕ → Source → ℕ
since n Gone = n
since n (From a) = n
since n Back = n + 1
since n Front = n + 1

pub fits_from : (n : ℕ) (s : State) → KeysFit n s → (a : Source) → IfSome (key_from n s a) (IsKeyBefore (since n a))
fits_from n s fit Gone = tt
fits_from n s fit (From a) = fit.before a
fits_from n s fit Back = back_fits n
fits_from n s fit Front = front_fits n
