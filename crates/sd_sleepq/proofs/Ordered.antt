-- Queues that stay in order of rank and key, and the channels that they serve.
use Rattle.std.proofs.Common.{◌≡◌, ℕ, ℤ, zero, suc, ◌<◌, ◌+◌, ◌*◌, ◌/◌, true, is_some, Option, Some, None, List, [], ◌∷◌, length, get_or, slice_get, set, refl, sym, ap, ◌∙◌, subst, arith, w64}
use mir.Val.{to_z, of_z, SFits}
use Rattle.std.proofs.lemmas.Int.{to_z-of_z}
use Rattle.std.proofs.lemmas.List.{get_or-set_same, get_or-set_other, set-get_or}
use Rattle.std.proofs.lemmas.Option.{get_or_from_slice_get}
use Rattle.sd_boxq.specs.Order.{find_id, drop_id, IsRanked}
use Rattle.sd_sleepq.specs.Among.{AreRanked, IsHolder, find_among}
use Rattle.sd_sleepq.specs.Sleepers.{Sleepers, IsOfChain, sleepers_of, with_sleepers, Leaves, SleepsThere, AreApart}

-- a key that is passed on is the key
pub same_number : (z : ℤ) → SFits w64 z → to_z w64 (of_z w64 z) ≡ z
same_number z f = to_z-of_z w64 z f

module _ {X : Type 0} (rank : X → ℕ) (key : X → ℤ) where
  pub AreRanked-set : (qs : List (List X)) (i : ℕ) (q : List X) → AreRanked rank key qs → IsRanked rank key q → AreRanked rank key (set qs i q)
  AreRanked-set [] i q a r = tt
  AreRanked-set (y ∷ qs) zero q a r = (r, a.1)
  AreRanked-set (y ∷ qs) (suc i) q a r = (a.0, AreRanked-set qs i q a.1 r)

  AreRanked-at : (qs : List (List X)) (i : ℕ) → AreRanked rank key qs → IsRanked rank key (get_or qs i [])
  AreRanked-at [] i a = tt
  AreRanked-at (y ∷ qs) zero a = a.0
  AreRanked-at (y ∷ qs) (suc i) a = AreRanked-at qs i a.1

  pub IsRanked-read : (qs : List (List X)) (i : ℕ) (q : List X) → slice_get qs i ≡ Some q → AreRanked rank key qs → IsRanked rank key q
  IsRanked-read qs i q e a = subst (IsRanked rank key) (get_or_from_slice_get qs i q [] e) (AreRanked-at qs i a)

-- ---- the first queue that has an id
module _ {X : Type 0} (id : X → ℕ) (n : ℕ) where
  found : (qs : List (List X)) (i : ℕ) (x : X) → i < length qs → find_id id n (get_or qs i []) ≡ Some x
      → ((j : ℕ) → j < i → find_id id n (get_or qs j []) ≡ None) → find_among id n qs ≡ Some x
  found [] i x h e f = absurd (omega arith)
  found (q ∷ qs) zero x h e f = rw e refl
  found (q ∷ qs) (suc i) x h e f =
      let none : find_id id n q ≡ None = f 0 (omega arith) in
      let rest = found qs i x (omega arith) e (λ j b. f (suc j) (omega arith)) in rw none rest

  by_holder : (qs : List (List X)) (i : ℕ) (o : Option X) → find_id id n (get_or qs i []) ≡ o → IsHolder id n qs i → find_among id n qs ≡ find_id id n (get_or qs i [])
  by_holder qs i None e h = let none : is_some {T = X} None ≡ true = sym (ap is_some e) ∙ h.1 in absurd cc
  by_holder qs i (Some x) e h = found qs i x h.0 e h.2 ∙ sym e

  pub found_there : (qs : List (List X)) (i : ℕ) → IsHolder id n qs i → find_among id n qs ≡ find_id id n (get_or qs i [])
  found_there qs i h = by_holder qs i (find_id id n (get_or qs i [])) refl h

-- ---- channels
module _ {X : Type 0} (c : Sleepers X) (four : length c.queues ≡ 4) where
  pub are_apart : AreApart c
  are_apart = record {
    here = λ k xs h. let b = h.0 in get_or-set_same c.queues (k / 64) xs [] (omega arith);
    others = λ k m xs h g d. get_or-set_other c.queues (k / 64) (m / 64) xs [] (λ e. d (number k m h g e));
    same = λ k h. ap (λ (qs : List (List X)). record c { queues = qs }) (set-get_or c.queues (k / 64) []);
    again = λ k xs ys h. ap (λ (qs : List (List X)). record c { queues = qs }) (set-set c.queues (k / 64) xs ys);
  }
    where
      number : (k m : ℕ) → IsOfChain c k → IsOfChain c m → m / 64 ≡ k / 64 → m ≡ k
      number k m h g e = let a = h.1 in let b = g.1 in omega arith

      set-set : (qs : List (List X)) (i : ℕ) (xs ys : List X) → set (set qs i xs) i ys ≡ set qs i ys
      set-set [] i xs ys = refl
      set-set (q ∷ qs) zero xs ys = refl
      set-set (q ∷ qs) (suc i) xs ys = ap (λ rs. q ∷ rs) (set-set qs i xs ys)

  -- the first sleeper with an id leaves
  pub has_left : (id : X → ℕ) (n i : ℕ) (x : X) (q : List X) → c.chain < 64 → IsHolder id n c.queues i → slice_get c.queues i ≡ Some q → find_id id n q ≡ Some x
      → Leaves id n c (64 * i + c.chain) x (record c { queues = set c.queues i (drop_id id n q) })
  has_left id n i x q small h e f =
      let inside = h.0 in
      let k = 64 * i + c.chain in
      let of_this : IsOfChain c k = (omega arith, omega arith) in
      let index : k / 64 ≡ i = omega arith in
      let queue : get_or c.queues i [] ≡ q = get_or_from_slice_get c.queues i q [] e in
      let sleepers : sleepers_of c k ≡ q = ap (λ j. get_or c.queues j []) index ∙ queue in
      let new : Sleepers X = record c { queues = set c.queues i (drop_id id n q) } in
      let rest : new ≡ with_sleepers c k (drop_id id n (sleepers_of c k)) =
      ap (λ (qs : List (List X)). record c { queues = qs }) (ap (λ j. set c.queues j (drop_id id n q)) (sym index) ∙ ap (λ r. set c.queues (k / 64) (drop_id id n r)) (sym sleepers)) in
      record {
        of_chain = of_this;
        first = found_there id n c.queues i h ∙ ap (find_id id n) queue ∙ f;
        here = ap (find_id id n) sleepers ∙ f;
        before = λ m g b. h.2 (m / 64) (below m g b);
        rest = rest;
        left = ap (λ d. sleepers_of d k) rest ∙ are_apart.here k (drop_id id n (sleepers_of c k)) of_this;
        others = λ m g d. ap (λ e. sleepers_of e m) rest ∙ are_apart.others k m (drop_id id n (sleepers_of c k)) of_this g d;
      }
    where
      below : (m : ℕ) → IsOfChain c m → m < 64 * i + c.chain → m / 64 < i
      below m g b = let a = g.1 in omega arith

  pub sleeps_there : (id : X → ℕ) (n i : ℕ) → c.chain < 64 → IsHolder id n c.queues i → SleepsThere id n c (64 * i + c.chain)
  sleeps_there id n i small h =
      let inside = h.0 in
      let k = 64 * i + c.chain in
      let of_this : IsOfChain c k = (omega arith, omega arith) in
      let index : k / 64 ≡ i = omega arith in
      let found = found_there id n c.queues i h in
      record {
        of_chain = of_this;
        some = ap is_some found ∙ h.1;
        here = ap (λ j. find_id id n (get_or c.queues j [])) index ∙ sym found;
      }
