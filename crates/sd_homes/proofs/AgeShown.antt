-- The thread that is looked at next when a queue ages.
use Rattle.std.proofs.Common.{◌≡◌, ℕ, ◌+◌, ◌-◌, ◌<◌, ◌≤◌, min, Bool, true, false, not, ◌&&◌, nat_le, List, [], ◌∷◌, length, drop, get_or, Option, Some, None, option_map, position, refl, sym, ap, ◌∙◌, arith, ◌⊎◌, inl, inr, get_or-drop, length-drop}
use Rattle.std.specs.List.{position_or_len}
use Rattle.std.proofs.lemmas.Bool.{and_parts, cases_lt, not-true, leb-true, le-leb}
use Rattle.std.proofs.lemmas.Bool.Decides.{nat_tests}
use Rattle.std.proofs.lemmas.List.Sums.{prefix_len_passes}
use Rattle.std.proofs.lemmas.List.Quantifiers.{position-Some}
use Rattle.std.proofs.lemmas.Option.{slice_get-get_or, slice_get_within, get_or_from_slice_get}
use Rattle.sd_types.specs.declared.numbers.CpuId.{CpuId}
use Rattle.sd_record.specs.Records.{ThreadRecord}
use Rattle.sd_state.specs.declared.states.ThreadState.{ThreadState}
use Rattle.sd_state.specs.declared.states.State.{State}
use Rattle.sd_state.specs.States.{no_thread, is_queued}
use Rattle.sd_machine.specs.Threads.{next_to_age, is_ts}
use Rattle.sd_homes.specs.declared.list_id.ListId.TheVariants.{Queues}
use Rattle.sd_homes.specs.Standing.{record_of, id_of, look_of, ages, earlier, least_to_age, Lists}
use Rattle.sd_homes.proofs.StandingLemmas.{stood, shown}
use Rattle.sd_homes.proofs.WaitShown.{IsIn, found-in, in-found}

-- the least number of which this holds
pub record IsFirst (has : ℕ → Type 0) (m : ℕ) : Type 0 where
  pub is : has m
  pub least : (k : ℕ) → has k → m ≤ k

abbrev pub IsLeast : (ℕ → Type 0) → Option ℕ → Type 0
IsLeast has None = (k : ℕ) → has k → ⊥
IsLeast has (Some m) = IsFirst has m

pub one_least : (has has' : ℕ → Type 0) (o u : Option ℕ) → ((k : ℕ) → has k → has' k) → ((k : ℕ) → has' k → has k) → IsLeast has o → IsLeast has' u → o ≡ u
one_least has has' None None f g a b = refl
one_least has has' None (Some m) f g a b = absurd (a m (g m b.is))
one_least has has' (Some m) None f g a b = absurd (b m (f m a.is))
one_least has has' (Some m) (Some k) f g a b = let low = b.least m (f m a.is) in let high = a.least k (g k b.is) in ap Some (omega arith)

-- ---- of the threads
pub record HasAging (p : ThreadState → Bool) (u : ℕ) (xs : List ThreadState) (k : ℕ) : Type 0 where
  pub from : u ≤ k
  pub inside : k < length xs
  pub passes : p (get_or xs k no_thread) ≡ true

fails_before : (p : ThreadState → Bool) (ys : List ThreadState) → position p ys ≡ None → (k : ℕ) → k < length ys → p (get_or ys k no_thread) ≡ false
fails_before p ys none k inside =
    let far : k < position_or_len p ys = grind (arith, nat_tests) in
    not-true (p (get_or ys k no_thread)) (prefix_len_passes (λ x. not (p x)) ys k no_thread far)

there_by : (p : ThreadState → Bool) (u : ℕ) (xs : List ThreadState) (k : ℕ) → HasAging p u xs k → p (get_or (drop u xs) (k - u) no_thread) ≡ true
there_by p u xs k h =
    let f = h.from in
    let same : u + (k - u) ≡ k = omega arith in
    ap p (get_or-drop u xs (k - u) no_thread ∙ ap (λ i. get_or xs i no_thread) same) ∙ h.passes

length_by : (u : ℕ) (xs : List ThreadState) (k : ℕ) → u ≤ k → k < length xs → k - u < length (drop u xs)
length_by u xs k h l = omega (arith, length-drop u xs)

pub position_least : (p : ThreadState → Bool) (u : ℕ) (xs : List ThreadState) (o : Option ℕ) → position p (drop u xs) ≡ o → IsLeast (HasAging p u xs) (option_map (λ i. u + i) o)
position_least p u xs None e = λ k h.
    let no = fails_before p (drop u xs) e (k - u) (length_by u xs k h.from h.inside) in
    let yes = there_by p u xs k h in
    absurd cc
position_least p u xs (Some i) e =
    let found = position-Some p (drop u xs) i no_thread e in
    let inside : u + i < length xs = omega (arith, length-drop u xs, found.0) in
    record {
      is = record { from = omega arith; inside = inside; passes = ap p (sym (get_or-drop u xs i no_thread)) ∙ found.1 };
      least = λ k h. elim (cases_lt k (u + i)) [
        | inl less ↦
            let f = h.from in
            let no = found.2 (k - u) (omega arith) in
            let yes = there_by p u xs k h in
            absurd cc
        | inr more ↦ more
      ];
    }

-- ---- of the records
pub record HasRecord (u : ℕ) (rs : List ThreadRecord) (k : ℕ) : Type 0 where
  pub item : ThreadRecord
  pub inside : IsIn item rs
  pub number : id_of item ≡ k
  pub passes : ages u item ≡ true

record_behind : (u : ℕ) (x : ThreadRecord) (xs : List ThreadRecord) (k : ℕ) → HasRecord u xs k → HasRecord u (x ∷ xs) k
record_behind u x xs k h = record { item = h.item; inside = inr h.inside; number = h.number; passes = h.passes }

record_here : (u : ℕ) (x : ThreadRecord) (xs : List ThreadRecord) → ages u x ≡ true → HasRecord u (x ∷ xs) (id_of x)
record_here u x xs e = record { item = x; inside = inl refl; number = refl; passes = e }

either_record : (u : ℕ) (x : ThreadRecord) (xs : List ThreadRecord) (k : ℕ) (r : ThreadRecord) → (x ≡ r) ⊎ IsIn r xs → id_of r ≡ k → ages u r ≡ true
    → ((id_of x ≡ k) × (ages u x ≡ true)) ⊎ HasRecord u xs k
either_record u x xs k r (inl e) n p = inl (ap id_of e ∙ n, ap (ages u) e ∙ p)
either_record u x xs k r (inr i) n p = inr (record { item = r; inside = i; number = n; passes = p })

least_more : (u : ℕ) (x : ThreadRecord) (xs : List ThreadRecord) (o : Option ℕ) → ages u x ≡ true → IsLeast (HasRecord u xs) o → IsLeast (HasRecord u (x ∷ xs)) (Some (earlier (id_of x) o))
least_more u x xs None e g = record {
  is = record_here u x xs e;
  least = λ k h. elim (either_record u x xs k h.item h.inside h.number h.passes) [ inl p ↦ (let q = p.0 in omega arith) | inr r ↦ absurd (g k r) ];
}
least_more u x xs (Some m) e g = record {
  is = elim (cases_min m (id_of x)) [ inl p ↦ rw p (record_here u x xs e) | inr p ↦ rw p (record_behind u x xs m g.is) ];
  least = λ k h. elim (either_record u x xs k h.item h.inside h.number h.passes) [ inl p ↦ (let q = p.0 in omega arith) | inr r ↦ (let q = g.least k r in omega arith) ];
}
  where
    cases_min : (a b : ℕ) → (min b a ≡ b) ⊎ (min b a ≡ a)
    cases_min a b = grind arith

least_same : (u : ℕ) (x : ThreadRecord) (xs : List ThreadRecord) (o : Option ℕ) → ages u x ≡ false → IsLeast (HasRecord u xs) o → IsLeast (HasRecord u (x ∷ xs)) o
least_same u x xs None e g = λ k h. elim (either_record u x xs k h.item h.inside h.number h.passes) [ inl p ↦ (let no = p.1 in absurd cc) | inr r ↦ g k r ]
least_same u x xs (Some m) e g = record {
  is = record_behind u x xs m g.is;
  least = λ k h. elim (either_record u x xs k h.item h.inside h.number h.passes) [ inl p ↦ (let no = p.1 in absurd cc) | inr r ↦ g.least k r ];
}

pub record_least : (u : ℕ) (rs : List ThreadRecord) → IsLeast (HasRecord u rs) (least_to_age u rs)
record_least u [] = λ k h. h.inside
record_least u (x ∷ xs) = by (ages u x) refl (record_least u xs)
  where
    by : (b : Bool) → ages u x ≡ b → IsLeast (HasRecord u xs) (least_to_age u xs) → IsLeast (HasRecord u (x ∷ xs)) (least_to_age u (x ∷ xs))
    by true e g = rw e (least_more u x xs (least_to_age u xs) e g)
    by false e g = rw e (least_same u x xs (least_to_age u xs) e g)

-- ---- one is the other
module _ (n : ℕ) (s : State) (c : CpuId) (u : ℕ) (rs : List ThreadRecord) (l : Lists n (Queues c) rs (look_of s)) where
  abbrev pub on : ThreadState → Bool
  on x = is_queued c.0 x.place && is_ts x.body.class

  to_record : (k : ℕ) → HasAging on u s.threads k → HasRecord u rs k
  to_record k h =
      let x = get_or s.threads k no_thread in
      let parts = and_parts (is_queued c.0 x.place) (is_ts x.body.class) h.passes in
      let found = shown n (Queues c) rs (look_of s) k x l (slice_get-get_or s.threads k no_thread h.inside) parts.0 in
      record { item = record_of k x; inside = found-in k (record_of k x) rs found; number = refl; passes = rw (le-leb u k h.from, parts.1) refl }

  to_aging : (k : ℕ) → HasRecord u rs k → HasAging on u s.threads k
  to_aging k h =
      let st = stood n (Queues c) rs (look_of s) (id_of h.item) h.item l (in-found h.item rs l.once h.inside) in
      let parts = and_parts (nat_le u (id_of h.item)) (is_ts h.item.body.class) h.passes in
      let num = h.number in
      let here : get_or s.threads (id_of h.item) no_thread ≡ st.thread = get_or_from_slice_get s.threads (id_of h.item) st.thread no_thread st.there in
      let class : is_ts st.thread.body.class ≡ true = ap (λ r. is_ts r.body.class) st.is ∙ parts.1 in
      let within = slice_get_within s.threads (id_of h.item) st.thread st.there in
      let from = leb-true u (id_of h.item) parts.0 in
      record { from = omega arith; inside = omega arith; passes = ap (λ i. on (get_or s.threads i no_thread)) (sym num) ∙ rw here (rw (st.on, class) refl) }

  pub next_to_age_shown : next_to_age s c.0 u ≡ least_to_age u rs
  unfolding next_to_age
  next_to_age_shown =
      one_least (HasAging on u s.threads) (HasRecord u rs) (option_map (λ i. u + i) (position on (drop u s.threads))) (least_to_age u rs) to_record to_aging
      (position_least on u s.threads (position on (drop u s.threads)) refl) (record_least u rs)
