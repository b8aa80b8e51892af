-- The greatest effective priority of the waiters of a lock, on both sides, and whether there are any.
use Rattle.std.proofs.Common.{◌≡◌, ℕ, zero, suc, ◌≤◌, max, Bool, true, false, ◌==◌, List, [], ◌∷◌, ◌++◌, Option, Some, None, is_some, slice_get, refl, sym, ap, ◌∙◌, arith, ◌⊎◌, inl, inr}
use Rattle.std.specs.List.{list_any}
use Rattle.std.proofs.lemmas.Bool.{eqb-true, eq-eqb, and_parts}
use Rattle.sd_types.specs.declared.numbers.LockId.{LockId}
use Rattle.sd_types.specs.declared.numbers.Side.{Side}
use Rattle.sd_types.specs.declared.numbers.Side.TheVariants.{Writer, Reader}
use Rattle.sd_types.specs.Priorities.{eff}
use Rattle.sd_boxq.specs.Order.{find_id}
use Rattle.sd_turnstile.specs.Waiters.{higher, highest}
use Rattle.sd_record.specs.Records.{ThreadRecord}
use Rattle.sd_state.specs.declared.states.Place.{Place}
use Rattle.sd_state.specs.declared.states.Place.TheVariants.{Waiting}
use Rattle.sd_state.specs.declared.states.ThreadState.{ThreadState}
use Rattle.sd_state.specs.declared.states.State.{State}
use Rattle.sd_state.specs.States.{same_side}
use Rattle.sd_machine.specs.Threads.{is_waiting, is_waiting_at, greater, greatest_waiting, has_waiters}
use Rattle.sd_homes.specs.declared.list_id.ListId.TheVariants.{Waits}
use Rattle.sd_homes.specs.Standing.{record_of, id_of, rank_of, look_of, Lists}
use Rattle.sd_homes.specs.Lists.{IdsDiffer}
use Rattle.sd_homes.proofs.StandingLemmas.{Stood, stood, shown}

-- the greatest number that a test lets through, of what can be found
pub record IsMost (has : ℕ → Type 0) (m : ℕ) : Type 0 where
  pub is : has m
  pub most : (k : ℕ) → has k → k ≤ m

abbrev pub IsGreatest : (ℕ → Type 0) → Option ℕ → Type 0
IsGreatest has None = (k : ℕ) → has k → ⊥
IsGreatest has (Some m) = IsMost has m

pub one_greatest : (has has' : ℕ → Type 0) (o u : Option ℕ) → ((k : ℕ) → has k → has' k) → ((k : ℕ) → has' k → has k) → IsGreatest has o → IsGreatest has' u → o ≡ u
one_greatest has has' None None f g a b = refl
one_greatest has has' None (Some m) f g a b = absurd (a m (g m b.is))
one_greatest has has' (Some m) None f g a b = absurd (b m (f m a.is))
one_greatest has has' (Some m) (Some k) f g a b = let low = b.most m (f m a.is) in let high = a.most k (g k b.is) in ap Some (omega arith)

-- ---- of the threads
-- a thread with this effective priority waits
pub record HasWaiter (l : ℕ) (xs : List ThreadState) (k : ℕ) : Type 0 where
  pub at : ℕ
  pub thread : ThreadState
  pub there : slice_get xs at ≡ Some thread
  pub waits : is_waiting l thread.place ≡ true
  pub priority : eff thread.body ≡ k

waiter_behind : (l : ℕ) (x : ThreadState) (xs : List ThreadState) (k : ℕ) → HasWaiter l xs k → HasWaiter l (x ∷ xs) k
waiter_behind l x xs k w = record { at = suc w.at; thread = w.thread; there = w.there; waits = w.waits; priority = w.priority }

waiter_here : (l : ℕ) (x : ThreadState) (xs : List ThreadState) → is_waiting l x.place ≡ true → HasWaiter l (x ∷ xs) (eff x.body)
waiter_here l x xs e = record { at = zero; thread = x; there = refl; waits = e; priority = refl }

either_waits_by : (l : ℕ) (x : ThreadState) (xs : List ThreadState) (k at : ℕ) (y : ThreadState) → slice_get (x ∷ xs) at ≡ Some y → is_waiting l y.place ≡ true → eff y.body ≡ k
    → ((is_waiting l x.place ≡ true) × (eff x.body ≡ k)) ⊎ HasWaiter l xs k
either_waits_by l x xs k zero y e w p = let same : x ≡ y = cc in inl (ap (λ z. is_waiting l z.place) same ∙ w, ap (λ z. eff z.body) same ∙ p)
either_waits_by l x xs k (suc at) y e w p = inr (record { at = at; thread = y; there = e; waits = w; priority = p })

most_more : (l : ℕ) (x : ThreadState) (xs : List ThreadState) (o : Option ℕ) → is_waiting l x.place ≡ true → IsGreatest (HasWaiter l xs) o
    → IsGreatest (HasWaiter l (x ∷ xs)) (Some (greater (eff x.body) o))
most_more l x xs None e g = record {
  is = waiter_here l x xs e;
  most = λ k w. elim (either_waits_by l x xs k w.at w.thread w.there w.waits w.priority) [ inl h ↦ (let p = h.1 in omega arith) | inr r ↦ absurd (g k r) ];
}
most_more l x xs (Some m) e g = record {
  is = elim (cases_max m (eff x.body)) [
    | inl p ↦ rw p (waiter_here l x xs e)
    | inr p ↦ rw p (waiter_behind l x xs m g.is)
  ];
  most = λ k w. elim (either_waits_by l x xs k w.at w.thread w.there w.waits w.priority) [ inl h ↦ (let p = h.1 in omega arith) | inr r ↦ (let p = g.most k r in omega arith) ];
}
  where
    cases_max : (a b : ℕ) → (max b a ≡ b) ⊎ (max b a ≡ a)
    cases_max a b = grind arith

same_less : (l : ℕ) (x : ThreadState) (xs : List ThreadState) (o : Option ℕ) → is_waiting l x.place ≡ false → IsGreatest (HasWaiter l xs) o
    → IsGreatest (HasWaiter l (x ∷ xs)) o
same_less l x xs None e g = λ k w. elim (either_waits_by l x xs k w.at w.thread w.there w.waits w.priority) [ inl h ↦ (let no = h.0 in absurd cc) | inr r ↦ g k r ]
same_less l x xs (Some m) e g = record {
  is = waiter_behind l x xs m g.is;
  most = λ k w. elim (either_waits_by l x xs k w.at w.thread w.there w.waits w.priority) [ inl h ↦ (let no = h.0 in absurd cc) | inr r ↦ g.most k r ];
}

pub waiting_greatest : (l : ℕ) (xs : List ThreadState) → IsGreatest (HasWaiter l xs) (greatest_waiting l xs)
unfolding greatest_waiting
waiting_greatest l [] = λ k w. let none = w.there in absurd cc
waiting_greatest l (x ∷ xs) = by (is_waiting l x.place) refl (waiting_greatest l xs)
  where
    by : (b : Bool) → is_waiting l x.place ≡ b → IsGreatest (HasWaiter l xs) (greatest_waiting l xs) → IsGreatest (HasWaiter l (x ∷ xs)) (greatest_waiting l (x ∷ xs))
    by true e g = rw e (most_more l x xs (greatest_waiting l xs) e g)
    by false e g = rw e (same_less l x xs (greatest_waiting l xs) e g)

-- ---- of the lists
abbrev pub IsIn : ThreadRecord → List ThreadRecord → Type 0
IsIn r [] = ⊥
IsIn r (x ∷ xs) = (x ≡ r) ⊎ IsIn r xs

pub record HasRank (rs : List ThreadRecord) (k : ℕ) : Type 0 where
  pub item : ThreadRecord
  pub inside : IsIn item rs
  pub rank : rank_of item ≡ k

rank_behind : (x : ThreadRecord) (xs : List ThreadRecord) (k : ℕ) → HasRank xs k → HasRank (x ∷ xs) k
rank_behind x xs k h = record { item = h.item; inside = inr h.inside; rank = h.rank }

rank_here : (x : ThreadRecord) (xs : List ThreadRecord) → HasRank (x ∷ xs) (rank_of x)
rank_here x xs = record { item = x; inside = inl refl; rank = refl }

either_rank_by : (x : ThreadRecord) (xs : List ThreadRecord) (k : ℕ) (r : ThreadRecord) → (x ≡ r) ⊎ IsIn r xs → rank_of r ≡ k → (rank_of x ≡ k) ⊎ HasRank xs k
either_rank_by x xs k r (inl e) p = inl (ap rank_of e ∙ p)
either_rank_by x xs k r (inr i) p = inr (record { item = r; inside = i; rank = p })

rank_more : (x : ThreadRecord) (xs : List ThreadRecord) (o : Option ℕ) → IsGreatest (HasRank xs) o → IsGreatest (HasRank (x ∷ xs)) (higher (Some (rank_of x)) o)
rank_more x xs None g = record {
  is = rank_here x xs;
  most = λ k h. elim (either_rank_by x xs k h.item h.inside h.rank) [ inl p ↦ omega arith | inr r ↦ absurd (g k r) ];
}
rank_more x xs (Some m) g = record {
  is = elim (cases_max m (rank_of x)) [
    | inl p ↦ rw p (rank_here x xs)
    | inr p ↦ rw p (rank_behind x xs m g.is)
  ];
  most = λ k h. elim (either_rank_by x xs k h.item h.inside h.rank) [ inl p ↦ omega arith | inr r ↦ (let p = g.most k r in omega arith) ];
}
  where
    cases_max : (a b : ℕ) → (max b a ≡ b) ⊎ (max b a ≡ a)
    cases_max a b = grind arith

pub highest_greatest : (rs : List ThreadRecord) → IsGreatest (HasRank rs) (highest rank_of rs)
highest_greatest [] = λ k h. h.inside
highest_greatest (x ∷ xs) = rank_more x xs (highest rank_of xs) (highest_greatest xs)

-- ---- one is the other
in-left : (r : ThreadRecord) (ws rs : List ThreadRecord) → IsIn r ws → IsIn r (ws ++ rs)
in-left r [] rs h = absurd h
in-left r (x ∷ ws) rs (inl e) = inl e
in-left r (x ∷ ws) rs (inr h) = inr (in-left r ws rs h)

in-right : (r : ThreadRecord) (ws rs : List ThreadRecord) → IsIn r rs → IsIn r (ws ++ rs)
in-right r [] rs h = h
in-right r (x ∷ ws) rs h = inr (in-right r ws rs h)

in-either : (r : ThreadRecord) (ws rs : List ThreadRecord) → IsIn r (ws ++ rs) → IsIn r ws ⊎ IsIn r rs
in-either r [] rs h = inr h
in-either r (x ∷ ws) rs (inl e) = inl (inl e)
in-either r (x ∷ ws) rs (inr h) = elim (in-either r ws rs h) [ inl i ↦ inl (inr i) | inr i ↦ inr i ]

pub found-in : (t : ℕ) (r : ThreadRecord) (rs : List ThreadRecord) → find_id id_of t rs ≡ Some r → IsIn r rs
found-in t r [] e = absurd cc
found-in t r (x ∷ xs) e = by (id_of x == t) refl (found-in t r xs)
  where
    by : (b : Bool) → (id_of x == t) ≡ b → (find_id id_of t xs ≡ Some r → IsIn r xs) → IsIn r (x ∷ xs)
    by true f g = let is = rw f at e in inl cc
    by false f g = inr (g (rw f at e))

pub in-found : (r : ThreadRecord) (rs : List ThreadRecord) → IdsDiffer id_of rs → IsIn r rs → find_id id_of (id_of r) rs ≡ Some r
in-found r [] d h = absurd h
in-found r (x ∷ xs) d (inl e) = rw (ap (λ z. id_of z == id_of r) e ∙ eq-eqb (id_of r) (id_of r) refl) (ap Some e)
in-found r (x ∷ xs) d (inr h) = by (id_of x == id_of r) refl (in-found r xs d.1 h)
  where
    by : (b : Bool) → (id_of x == id_of r) ≡ b → find_id id_of (id_of r) xs ≡ Some r → find_id id_of (id_of r) (x ∷ xs) ≡ Some r
    by true f found = let none : find_id id_of (id_of r) xs ≡ None = ap (λ k. find_id id_of k xs) (sym (eqb-true (id_of x) (id_of r) f)) ∙ d.0 in absurd cc
    by false f found = rw f found

side_by : (l : LockId) (place : Place) → is_waiting l.0 place ≡ true → (is_waiting_at l.0 Writer place ≡ true) ⊎ (is_waiting_at l.0 Reader place ≡ true)
side_by l (Waiting m Writer k) e = inl (rw e refl)
side_by l (Waiting m Reader k) e = inr (rw e refl)
side_by l _ e = absurd cc

any_side : (l : LockId) (side : Side) (place : Place) → is_waiting_at l.0 side place ≡ true → is_waiting l.0 place ≡ true
any_side l side (Waiting m other k) e = (and_parts (m.0 == l.0) (same_side side other) e).0
any_side l side _ e = absurd cc

module _ (n : ℕ) (s : State) (l : LockId) (ws rs : List ThreadRecord) (a : Lists n (Waits l Writer) ws (look_of s)) (b : Lists n (Waits l Reader) rs (look_of s)) where
  to_rank : (k : ℕ) → HasWaiter l.0 s.threads k → HasRank (ws ++ rs) k
  to_rank k h = elim (side_by l h.thread.place h.waits) [
    | inl w ↦ record { item = record_of h.at h.thread; inside = in-left (record_of h.at h.thread) ws rs (found-in h.at (record_of h.at h.thread) ws (shown n (Waits l Writer) ws (look_of s) h.at h.thread a h.there w)); rank = h.priority }
    | inr w ↦ record { item = record_of h.at h.thread; inside = in-right (record_of h.at h.thread) ws rs (found-in h.at (record_of h.at h.thread) rs (shown n (Waits l Reader) rs (look_of s) h.at h.thread b h.there w)); rank = h.priority }
  ]

  waiter_of : (side : Side) (k : ℕ) (r : ThreadRecord) → rank_of r ≡ k → Stood (Waits l side) (look_of s) (id_of r) r → HasWaiter l.0 s.threads k
  waiter_of side k r e st = record { at = id_of r; thread = st.thread; there = st.there; waits = any_side l side st.thread.place st.on; priority = ap rank_of st.is ∙ e }

  to_waiter : (k : ℕ) → HasRank (ws ++ rs) k → HasWaiter l.0 s.threads k
  to_waiter k h = elim (in-either h.item ws rs h.inside) [
    | inl i ↦ waiter_of Writer k h.item h.rank (stood n (Waits l Writer) ws (look_of s) (id_of h.item) h.item a (in-found h.item ws a.once i))
    | inr i ↦ waiter_of Reader k h.item h.rank (stood n (Waits l Reader) rs (look_of s) (id_of h.item) h.item b (in-found h.item rs b.once i))
  ]

  pub greatest_shown : greatest_waiting l.0 s.threads ≡ highest rank_of (ws ++ rs)
  greatest_shown =
      one_greatest (HasWaiter l.0 s.threads) (HasRank (ws ++ rs)) (greatest_waiting l.0 s.threads) (highest rank_of (ws ++ rs)) to_rank to_waiter
      (waiting_greatest l.0 s.threads) (highest_greatest (ws ++ rs))

-- whether there are any
some_waits : (l : ℕ) (xs : List ThreadState) → list_any (λ x. is_waiting l x.place) xs ≡ is_some (greatest_waiting l xs)
unfolding greatest_waiting
some_waits l [] = refl
some_waits l (x ∷ xs) = by (is_waiting l x.place) refl (some_waits l xs)
  where
    by : (c : Bool) → is_waiting l x.place ≡ c → list_any (λ x. is_waiting l x.place) xs ≡ is_some (greatest_waiting l xs)
        → list_any (λ x. is_waiting l x.place) (x ∷ xs) ≡ is_some (greatest_waiting l (x ∷ xs))
    by true e r = rw e refl
    by false e r = rw e r

pub waiters_shown : (n : ℕ) (s : State) (l : LockId) (ws rs : List ThreadRecord) → Lists n (Waits l Writer) ws (look_of s) → Lists n (Waits l Reader) rs (look_of s)
    → has_waiters s l.0 ≡ is_some (highest rank_of (ws ++ rs))
unfolding has_waiters
waiters_shown n s l ws rs a b = some_waits l.0 s.threads ∙ ap is_some (greatest_shown n s l ws rs a b)
