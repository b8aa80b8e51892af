-- The turnstiles that serve the locks of a chain against its waiters.
use Rattle.std.proofs.Common.{◌≡◌, ℕ, ℤ, zero, suc, ◌+◌, ◌*◌, ◌/◌, ◌%◌, ◌<◌, ◌≤◌, Bool, true, max, List, [], ◌∷◌, ◌++◌, length, get_or, set, drop, slice_get, IfSome, ◌≢◌, Option, Some, None, is_some, refl, sym, ap, ◌∙◌, arith, subst, length-set}
use Rattle.std.specs.Option.{option_map, option_or}
use Rattle.std.proofs.lemmas.List.{set-get_or, get_or-set_same, get_or-set_other, drop_more}
use Rattle.std.proofs.lemmas.Option.{get_or_from_slice_get}
use Rattle.std.proofs.lemmas.Bool.Decides.{nat_tests}
use Rattle.sd_types.specs.declared.numbers.Side.{Side}
use Rattle.sd_types.specs.declared.numbers.Side.TheVariants.{Writer, Reader}
use Rattle.sd_boxq.specs.Order.{insert_before, insert_ranked, precedes, find_first, drop_first, find_id, drop_id, IsRanked, IsNowhere, IsBest}
use Rattle.sd_boxq.proofs.InOrder.{IsRanked-insert, best_first}
use Rattle.sd_turnstile.specs.Waiters.{Waiters, Blocked, nobody, on_side, with_side, waiter_count, IsOfChain, of_lock, waiters_at, with_waiters, AreRanked, AreApart, higher, highest, highest_waiter, find_in, find_among, Leaves, WaitsThere}
use Rattle.sd_turnstile.specs.Serving.{served, held, IsServed, AreServed, all_served, all_held, all_waiting, IsHolder}

-- ---- lengths
pub length-insert : {X : Type 0} (q : X → Bool) (x : X) (xs : List X) → length (insert_before q x xs) ≡ suc (length xs)
length-insert q x [] = refl
length-insert q x (y ∷ xs) = grind (arith, length-insert q x xs)

pub length-drop_first : {X : Type 0} (p : X → Bool) (x : X) (xs : List X) → find_first p xs ≡ Some x → length xs ≡ suc (length (drop_first p xs))
length-drop_first p x [] e = absurd cc
length-drop_first p x (y ∷ xs) e = grind (arith, length-drop_first p x xs)

pub length-drop_front : {X : Type 0} (x : X) (xs : List X) → slice_get xs 0 ≡ Some x → length xs ≡ suc (length (drop 1 xs))
length-drop_front x [] e = absurd cc
length-drop_front x (y ∷ xs) e = refl

module _ {X : Type 0} where
  pub count-side : (w : Waiters X) (side : Side) (xs : List X) → waiter_count (with_side w side xs) + length (on_side w side) ≡ waiter_count w + length xs
  count-side w Writer xs = omega arith
  count-side w Reader xs = omega arith

  -- ---- the locks of a chain
  abbrev pub view : ℕ → List (Option (Waiters X)) → Blocked X
  view k ss = record { chain = k; locks = all_served ss }

  served_at : (ss : List (Option (Waiters X))) (p : ℕ) → get_or (all_served ss) p nobody ≡ served (get_or ss p None)
  served_at [] p = refl
  served_at (s ∷ ss) zero = refl
  served_at (s ∷ ss) (suc p) = served_at ss p

  served-set : (ss : List (Option (Waiters X))) (p : ℕ) (s : Option (Waiters X)) → all_served (set ss p s) ≡ set (all_served ss) p (served s)
  served-set [] p s = refl
  served-set (t ∷ ss) zero s = refl
  served-set (t ∷ ss) (suc p) s = ap (λ ws. served t ∷ ws) (served-set ss p s)

  module _ (k : ℕ) (ss : List (Option (Waiters X))) (b : Blocked X) (l : ℕ) (s : Option (Waiters X)) (v : view k ss ≡ b) (e : slice_get ss (l / 64) ≡ Some s) (h : l < 256) (n : length ss ≡ 4) where
    pub lock_is : of_lock b l ≡ served s
    lock_is = ap (λ c. of_lock c l) (sym v) ∙ served_at ss (l / 64) ∙ ap served (get_or_from_slice_get ss (l / 64) s None e)

    pub lock_set : (t : Option (Waiters X)) (side : Side) (f : List X → List X) → served t ≡ with_side (served s) side (f (on_side (served s) side))
        → view k (set ss (l / 64) t) ≡ with_waiters b l side (f (waiters_at b l side))
    lock_set t side f w =
        let same : served t ≡ with_side (of_lock b l) side (f (on_side (of_lock b l) side)) = w ∙ ap (λ u. with_side u side (f (on_side u side))) (sym lock_is) in
        ap (λ (ws : List (Waiters X)). record { chain = k; locks = ws }) (served-set ss (l / 64) t ∙ ap (set (all_served ss) (l / 64)) same)
        ∙ ap (λ (c : Blocked X). record c { locks = set c.locks (l / 64) (with_side (of_lock b l) side (f (on_side (of_lock b l) side))) }) v

  pub nobody_there : (side : Side) → on_side {T = X} nobody side ≡ []
  nobody_there Writer = refl
  nobody_there Reader = refl

  pub nobody_less : (side : Side) (f : List X → List X) → f [] ≡ [] → nobody ≡ with_side nobody side (f (on_side nobody side))
  nobody_less Writer f e = ap (λ (xs : List X). record { writers = xs; readers = [] }) (sym e)
  nobody_less Reader f e = ap (λ (xs : List X). record { writers = []; readers = xs }) (sym e)

  -- what stands at an index stands there by each name
  pub renamed : (ss : List (Option (Waiters X))) (p : ℕ) (s t : Option (Waiters X)) → s ≡ t → slice_get ss p ≡ Some s → slice_get ss p ≡ Some t
  renamed ss p s t e = subst (λ o. slice_get ss p ≡ Some o) e

  pub nobody_leaves : (w : Waiters X) (side : Side) → slice_get (on_side w side) 0 ≡ None → with_side w side (drop 1 (on_side w side)) ≡ w
  nobody_leaves w Writer e = by w.writers refl e
    where
      by : (xs : List X) → w.writers ≡ xs → slice_get xs 0 ≡ None → with_side w Writer (drop 1 w.writers) ≡ w
      by [] h e = ap (with_side w Writer) (ap (drop 1) h ∙ sym h)
      by (x ∷ xs) h e = absurd cc
  nobody_leaves w Reader e = by w.readers refl e
    where
      by : (xs : List X) → w.readers ≡ xs → slice_get xs 0 ≡ None → with_side w Reader (drop 1 w.readers) ≡ w
      by [] h e = ap (with_side w Reader) (ap (drop 1) h ∙ sym h)
      by (x ∷ xs) h e = absurd cc

  pub set_same : (ss : List (Option (Waiters X))) (p : ℕ) (s t : Option (Waiters X)) → slice_get ss p ≡ Some s → t ≡ s → set ss p t ≡ ss
  set_same ss p s t e h = ap (set ss p) (h ∙ sym (get_or_from_slice_get ss p s s e)) ∙ set-get_or ss p s

  pub as_many : (ss : List (Option (Waiters X))) → length (all_served ss) ≡ length ss
  as_many [] = refl
  as_many (s ∷ ss) = ap suc (as_many ss)

  -- ---- locks are apart
  pub are_apart : (c : Blocked X) → length c.locks ≡ 4 → AreApart c
  are_apart c four = record {
    of_lock_here = there;
    here = λ l side xs h. ap (λ w. on_side w side) (there l side xs h) ∙ on_with (of_lock c l) side xs;
    other_side = λ l side other xs h d. ap (λ w. on_side w other) (there l side xs h) ∙ on_other (of_lock c l) side other xs d;
    other_locks = λ l m side xs h g d. get_or-set_other c.locks (l / 64) (m / 64) (with_side (of_lock c l) side xs) nobody (λ e. d (number l m h g e));
    same = λ l side h.
        ap (λ (ws : List (Waiters X)). record c { locks = ws }) (ap (set c.locks (l / 64)) (with_on (of_lock c l) side) ∙ set-get_or c.locks (l / 64) nobody);
    again = λ l side xs ys h.
        ap (λ w. record c { locks = set (set c.locks (l / 64) (with_side (of_lock c l) side xs)) (l / 64) (with_side w side ys) }) (there l side xs h)
        ∙ ap (λ (ws : List (Waiters X)). record c { locks = ws }) (set-set c.locks (l / 64) _ _ ∙ ap (set c.locks (l / 64)) (with_with (of_lock c l) side xs ys));
  }
    where
      there : (l : ℕ) (side : Side) (xs : List X) → IsOfChain c l → of_lock (with_waiters c l side xs) l ≡ with_side (of_lock c l) side xs
      there l side xs h = let b = h.0 in get_or-set_same c.locks (l / 64) (with_side (of_lock c l) side xs) nobody (omega arith)

      number : (l m : ℕ) → IsOfChain c l → IsOfChain c m → m / 64 ≡ l / 64 → m ≡ l
      number l m h g e = let a = h.1 in let b = g.1 in omega arith

      on_with : (w : Waiters X) (side : Side) (xs : List X) → on_side (with_side w side xs) side ≡ xs
      on_with w Writer xs = refl
      on_with w Reader xs = refl

      on_other : (w : Waiters X) (side other : Side) (xs : List X) → other ≢ side → on_side (with_side w side xs) other ≡ on_side w other
      on_other w Writer Writer xs d = absurd (d refl)
      on_other w Writer Reader xs d = refl
      on_other w Reader Writer xs d = refl
      on_other w Reader Reader xs d = absurd (d refl)

      with_on : (w : Waiters X) (side : Side) → with_side w side (on_side w side) ≡ w
      with_on w Writer = refl
      with_on w Reader = refl

      with_with : (w : Waiters X) (side : Side) (xs ys : List X) → with_side (with_side w side xs) side ys ≡ with_side w side ys
      with_with w Writer xs ys = refl
      with_with w Reader xs ys = refl

      set-set : (ws : List (Waiters X)) (i : ℕ) (v w : Waiters X) → set (set ws i v) i w ≡ set ws i w
      set-set [] i v w = refl
      set-set (u ∷ ws) zero v w = refl
      set-set (u ∷ ws) (suc i) v w = ap (λ vs. u ∷ vs) (set-set ws i v w)

  -- ---- as many turnstiles as waiters
  held-set : (ss : List (Option (Waiters X))) (p : ℕ) (s t : Option (Waiters X)) → slice_get ss p ≡ Some s → p < length ss → all_held (set ss p t) + held s ≡ all_held ss + held t
  held-set [] p s t e h = absurd (omega arith)
  held-set (u ∷ ss) zero s t e h = let there : u ≡ s = cc in let same = ap held there in omega arith
  held-set (u ∷ ss) (suc p) s t e h = let rest = held-set ss p s t e (omega arith) in omega arith

  waiting-set : (ss : List (Option (Waiters X))) (p : ℕ) (s t : Option (Waiters X)) → slice_get ss p ≡ Some s → p < length ss
      → all_waiting (set ss p t) + waiter_count (served s) ≡ all_waiting ss + waiter_count (served t)
  waiting-set [] p s t e h = absurd (omega arith)
  waiting-set (u ∷ ss) zero s t e h =
      let there : u ≡ s = cc in let same : waiter_count (served u) ≡ waiter_count (served s) = ap (λ o. waiter_count (served o)) there in omega arith
  waiting-set (u ∷ ss) (suc p) s t e h = let rest = waiting-set ss p s t e (omega arith) in omega arith

module _ {X : Type 0} (rank : X → ℕ) (key : X → ℤ) where
  abbrev pub Both : Waiters X → Type 0
  Both w = (IsRanked rank key w.writers) × (IsRanked rank key w.readers)

  pub both_of : (s : Option (Waiters X)) → IsServed rank key s → Both (served s)
  both_of None h = (tt, tt)
  both_of (Some w) h = (h.0, h.1)

  pub ranked_side : (w : Waiters X) (side : Side) → Both w → IsRanked rank key (on_side w side)
  ranked_side w Writer h = h.0
  ranked_side w Reader h = h.1

  pub both_with : (w : Waiters X) (side : Side) (xs : List X) → Both w → IsRanked rank key xs → Both (with_side w side xs)
  both_with w Writer xs h r = (r, h.1)
  both_with w Reader xs h r = (h.0, r)

  pub served_by : (s : Option (Waiters X)) → Both (served s) → (held s ≡ 1 → 0 < waiter_count (served s)) → IsServed rank key s
  served_by None b h = tt
  served_by (Some w) b h = (b.0, b.1, h refl)

  pub AreServed-at : (ss : List (Option (Waiters X))) (p : ℕ) (s : Option (Waiters X)) → AreServed rank key ss → slice_get ss p ≡ Some s → p < length ss → IsServed rank key s
  AreServed-at [] p s a e h = absurd (omega arith)
  AreServed-at (t ∷ ss) zero s a e h = let there : t ≡ s = cc in subst (IsServed rank key) there a.0
  AreServed-at (t ∷ ss) (suc p) s a e h = AreServed-at ss p s a.1 e (omega arith)

  pub AreServed-set : (ss : List (Option (Waiters X))) (p : ℕ) (s : Option (Waiters X)) → AreServed rank key ss → IsServed rank key s → AreServed rank key (set ss p s)
  AreServed-set [] p s a h = tt
  AreServed-set (t ∷ ss) zero s a h = (h, a.1)
  AreServed-set (t ∷ ss) (suc p) s a h = (a.0, AreServed-set ss p s a.1 h)

  one_less : (s : Option (Waiters X)) → IsServed rank key s → held s ≤ waiter_count (served s)
  one_less None h = omega arith
  one_less (Some w) h = let more = h.2 in omega arith

  no_more : (ss : List (Option (Waiters X))) → AreServed rank key ss → all_held ss ≤ all_waiting ss
  no_more [] a = omega arith
  no_more (s ∷ ss) a = let here = one_less s a.0 in let rest = no_more ss a.1 in omega arith

  surplus : (ss : List (Option (Waiters X))) (p : ℕ) (s : Option (Waiters X)) → AreServed rank key ss → slice_get ss p ≡ Some s → p < length ss
      → all_held ss + waiter_count (served s) ≤ all_waiting ss + held s
  surplus [] p s a e h = absurd (omega arith)
  surplus (t ∷ ss) zero s a e h =
      let rest = no_more ss a.1 in let there : t ≡ s = cc in let same : waiter_count (served t) ≡ waiter_count (served s) = ap (λ o. waiter_count (served o)) there in let one = ap held there in omega arith
  surplus (t ∷ ss) (suc p) s a e h = let rest = surplus ss p s a.1 e (omega arith) in let here = one_less t a.0 in omega arith

  abbrev pub Sound : ℕ → List (Option (Waiters X)) → ℕ → Type 0
  Sound k ss f = (k < 64) × (length ss ≡ 4) × (AreServed rank key ss) × (all_held ss + f ≡ all_waiting ss)

  pub Sound-set : (k : ℕ) (ss : List (Option (Waiters X))) (f f' p : ℕ) (s t : Option (Waiters X)) → Sound k ss f → slice_get ss p ≡ Some s → p < 4
      → IsServed rank key t → held t + f' + waiter_count (served s) ≡ held s + f + waiter_count (served t) → Sound k (set ss p t) f'
  Sound-set k ss f f' p s t i e h d c =
      let n = i.1 in
      let inside : p < length ss = omega arith in
      let one = held-set ss p s t e inside in
      let other = waiting-set ss p s t e inside in
      let all = i.3 in
      (i.0, length-set ss p t ∙ n, AreServed-set ss p t i.2 d, omega arith)

  -- a waiter comes
  pub Sound-comes : (k : ℕ) (ss : List (Option (Waiters X))) (f f' p : ℕ) (s : Option (Waiters X)) (w : Waiters X) (side : Side) (x : X)
      → Sound k ss f → slice_get ss p ≡ Some s → p < 4 → w ≡ with_side (served s) side (insert_ranked rank key x (on_side (served s) side)) → f' ≡ f + held s
      → Sound k (set ss p (Some w)) f'
  Sound-comes k ss f f' p s w side x i e h c d =
      let n = i.1 in
      let inside : p < length ss = omega arith in
      let old = both_of s (AreServed-at ss p s i.2 e inside) in
      let xs = on_side (served s) side in
      let long = length-insert (precedes rank key x) x xs in
      let new = subst Both (sym c) (both_with (served s) side _ old (IsRanked-insert rank key x xs (ranked_side (served s) side old))) in
      let total = ap waiter_count c in
      let sum = count-side (served s) side (insert_ranked rank key x xs) in
      let more : waiter_count w ≡ suc (waiter_count (served s)) = omega arith in
      Sound-set k ss f f' p s (Some w) i e h (new.0, new.1, omega arith) (omega arith)

  -- a waiter leaves
  pub spare_there : (k : ℕ) (ss : List (Option (Waiters X))) (f p : ℕ) (w u : Waiters X) (side : Side) (xs : List X)
      → Sound k ss f → slice_get ss p ≡ Some (Some w) → p < 4 → u ≡ with_side w side xs → length (on_side w side) ≡ suc (length xs)
      → 0 < waiter_count u → 0 < f
  spare_there k ss f p w u side xs i e h c m o =
      let n = i.1 in
      let inside : p < length ss = omega arith in
      let most = surplus ss p (Some w) i.2 e inside in
      let total = ap waiter_count c in
      let sum = count-side w side xs in
      let all = i.3 in
      omega arith

  pub Sound-leaves : (k : ℕ) (ss : List (Option (Waiters X))) (f f' p : ℕ) (w u : Waiters X) (t : Option (Waiters X)) (side : Side) (xs : List X)
      → Sound k ss f → slice_get ss p ≡ Some (Some w) → p < 4 → u ≡ with_side w side xs → length (on_side w side) ≡ suc (length xs) → IsRanked rank key xs
      → served t ≡ u → (held t ≡ 1 → 0 < waiter_count u) → f' + held t ≡ f → Sound k (set ss p t) f'
  Sound-leaves k ss f f' p w u t side xs i e h c m r q b d =
      let n = i.1 in
      let inside : p < length ss = omega arith in
      let old = both_of (Some w) (AreServed-at ss p (Some w) i.2 e inside) in
      let new = subst Both (sym (q ∙ c)) (both_with w side xs old r) in
      let total = ap waiter_count c in
      let same = ap waiter_count q in
      let sum = count-side w side xs in
      Sound-set k ss f f' p (Some w) t i e h (served_by t new (λ o. let more = b o in omega arith)) (omega arith)

  pub ranked_at : (k : ℕ) (ss : List (Option (Waiters X))) (f p : ℕ) (s : Option (Waiters X)) → Sound k ss f → slice_get ss p ≡ Some s → p < 4 → Both (served s)
  ranked_at k ss f p s i e h = let n = i.1 in let inside : p < length ss = omega arith in both_of s (AreServed-at ss p s i.2 e inside)

  pub Sound-same : (k : ℕ) (ss : List (Option (Waiters X))) (f p : ℕ) (s t : Option (Waiters X)) → Sound k ss f → slice_get ss p ≡ Some s → t ≡ s → Sound k (set ss p t) f
  Sound-same k ss f p s t i e h = subst (λ us. Sound k us f) (sym (set_same ss p s t e h)) i

  both_there : (ss : List (Option (Waiters X))) (p : ℕ) → AreServed rank key ss → Both (served (get_or ss p None))
  both_there [] p a = (tt, tt)
  both_there (s ∷ ss) zero a = both_of s a.0
  both_there (s ∷ ss) (suc p) a = both_there ss p a.1

  -- each side of each lock is in order
  pub are_ranked : (k : ℕ) (ss : List (Option (Waiters X))) (b : Blocked X) → AreServed rank key ss → view k ss ≡ b → AreRanked rank key b
  are_ranked k ss b a v l side =
      subst (λ c. IsRanked rank key (waiters_at c l side)) v
      (subst (λ w. IsRanked rank key (on_side w side)) (sym (served_at ss (l / 64))) (ranked_side _ side (both_there ss (l / 64) a)))

  pub first_best : (xs : List X) (o : Option X) → IsRanked rank key xs → o ≡ slice_get xs 0 → IfSome o (λ x. IsBest (λ _. true) (precedes rank key) x xs)
  first_best xs o r e = best_first rank key (λ _. true) xs o r (e ∙ first xs)
    where
      first : (xs : List X) → slice_get xs 0 ≡ find_first (λ _. true) xs
      first [] = refl
      first (x ∷ xs) = refl

  -- ---- the greatest rank
  higher-assoc : (a b c : Option ℕ) → higher a (higher b c) ≡ higher (higher a b) c
  higher-assoc None b c = refl
  higher-assoc (Some r) None c = refl
  higher-assoc (Some r) (Some s) None = refl
  higher-assoc (Some r) (Some s) (Some t) = ap Some (omega arith)

  highest-append : (xs ys : List X) → highest rank (xs ++ ys) ≡ higher (highest rank xs) (highest rank ys)
  highest-append [] ys = refl
  highest-append (x ∷ xs) ys = ap (higher (Some (rank x))) (highest-append xs ys) ∙ higher-assoc (Some (rank x)) (highest rank xs) (highest rank ys)

  topped : (x : X) (xs : List X) → IsNowhere (λ y. precedes rank key y x) xs → higher (Some (rank x)) (highest rank xs) ≡ Some (rank x)
  topped x [] n = refl
  topped x (y ∷ xs) n =
      let less : rank y ≤ rank x = grind (arith, nat_tests, n.0) in
      let top : max (rank x) (rank y) ≡ rank x = omega arith in
      higher-assoc (Some (rank x)) (Some (rank y)) (highest rank xs) ∙ ap (λ r. higher (Some r) (highest rank xs)) top ∙ topped x xs n.1

  highest_first : (xs : List X) → IsRanked rank key xs → highest rank xs ≡ option_map rank (slice_get xs 0)
  highest_first [] r = refl
  highest_first (x ∷ xs) r = topped x xs r.0

  pub highest_both : (w : Waiters X) → IsRanked rank key w.writers → IsRanked rank key w.readers
      → higher (option_map rank (slice_get w.writers 0)) (option_map rank (slice_get w.readers 0)) ≡ highest_waiter rank w
  highest_both w a b = sym (highest-append w.writers w.readers ∙ ap (λ o. higher o (highest rank w.readers)) (highest_first w.writers a) ∙ ap (higher (option_map rank (slice_get w.writers 0))) (highest_first w.readers b))

-- ---- the first waiter with an id
module _ {X : Type 0} (id : X → ℕ) (n : ℕ) where
  sooner : (o p : Option X) → is_some o ≡ true → option_or o p ≡ o
  sooner None p h = absurd cc
  sooner (Some x) p h = refl

  pub is_holder : (ss : List (Option (Waiters X))) (p : ℕ) (w : Waiters X) (side : Side) → p < length ss → slice_get ss p ≡ Some (Some w)
      → find_among id n (all_served (drop p ss)) ≡ find_among id n (all_served ss)
      → is_some (find_in id n w) ≡ true → find_id id n (on_side w side) ≡ find_in id n w → IsHolder id n ss p side
  is_holder ss p w side h e k m f =
      let here : get_or ss p None ≡ Some w = get_or_from_slice_get ss p (Some w) None e in
      let step : find_among id n (all_served (drop p ss)) ≡ find_among id n (all_served (Some w ∷ drop (p + 1) ss)) =
      ap (λ ts. find_among id n (all_served ts)) (drop_more ss p None h ∙ ap (λ s. s ∷ drop (p + 1) ss) here) in
      let all = sym k ∙ step ∙ sooner (find_in id n w) (find_among id n (all_served (drop (p + 1) ss))) m in
      (h, ap is_some all ∙ m, ap (λ s. find_id id n (on_side (served s) side)) here ∙ f ∙ sym all)

module _ {X : Type 0} (id : X → ℕ) (n : ℕ) (ss : List (Option (Waiters X))) (p : ℕ) (side : Side) (h : IsHolder id n ss p side) where
  pub found_there : (s : Option (Waiters X)) → slice_get ss p ≡ Some s → find_id id n (on_side (served s) side) ≡ find_among id n (all_served ss)
  found_there s e = ap (λ o. find_id id n (on_side (served o) side)) (sym (get_or_from_slice_get ss p s None e)) ∙ h.2

  pub is_found : (s : Option (Waiters X)) → slice_get ss p ≡ Some s → find_id id n (on_side (served s) side) ≡ None → ⊥
  is_found s e k = let none : is_some {T = X} None ≡ true = ap is_some (sym k ∙ found_there s e) ∙ h.1 in cc

  pub is_taken : (s : Option (Waiters X)) → slice_get ss p ≡ Some s → s ≡ None → ⊥
  is_taken s e k = is_found s e (ap (λ o. find_id id n (on_side (served o) side)) k ∙ ap (find_id id n) (nobody_there side))

  module _ (k : ℕ) (b : Blocked X) (v : view k ss ≡ b) (small : k < 64) (four : length ss ≡ 4) (s : Option (Waiters X)) (e : slice_get ss p ≡ Some s) where
    lock : (64 * p + k) / 64 ≡ p
    lock = omega arith

    here : slice_get ss ((64 * p + k) / 64) ≡ Some s
    here = ap (slice_get ss) lock ∙ e

    of_this : 64 * p + k < 256
    of_this = let i = h.0 in omega arith

    rest_of : (t : Option (Waiters X)) → served t ≡ with_side (served s) side (drop_id id n (on_side (served s) side))
        → view k (set ss p t) ≡ with_waiters b (64 * p + k) side (drop_id id n (waiters_at b (64 * p + k) side))
    rest_of t w = ap (λ q. view k (set ss q t)) (sym lock) ∙ lock_set k ss b (64 * p + k) s v here of_this four t side (drop_id id n) w

    pub has_left : (x : X) (t : Option (Waiters X)) → find_id id n (on_side (served s) side) ≡ Some x
        → served t ≡ with_side (served s) side (drop_id id n (on_side (served s) side)) → Leaves id n b (64 * p + k) side x (view k (set ss p t))
    has_left x t f w =
        let number : (64 * p + k) % 64 ≡ k = omega arith in
        record {
          of_chain = (of_this, number ∙ ap (λ c. c.chain) v);
          first = ap (λ c. find_among id n c.locks) (sym v) ∙ sym (found_there s e) ∙ f;
          here = ap (λ u. find_id id n (on_side u side)) (lock_is k ss b (64 * p + k) s v here of_this four) ∙ f;
          rest = rest_of t w;
        }

    pub waits_there : WaitsThere id n b (64 * p + k) side
    waits_there =
        let number : (64 * p + k) % 64 ≡ k = omega arith in
        record {
          of_chain = (of_this, number ∙ ap (λ c. c.chain) v);
          some = ap (λ c. is_some (find_among id n c.locks)) (sym v) ∙ h.1;
          here = ap (λ u. find_id id n (on_side u side)) (lock_is k ss b (64 * p + k) s v here of_this four) ∙ found_there s e ∙ ap (λ c. find_among id n c.locks) v;
        }
