-- Keys in one queue differ, since the key of a thread that is put on one after n entries was not in use before.
use Rattle.std.proofs.Common.{◌≡◌, ◌≢◌, ℕ, ◌+◌, ◌<◌, Bool, true, false, length, ℤ, pos, negsuc, neg_ℤ, ◌<ℤ◌, ◌≤ℤ◌, ◌⊎◌, refl, sym, ap, ◌∙◌, subst, inl, inr, arith}
use Rattle.std.proofs.lemmas.Bool.{false≢true, cases_eq}
use Rattle.std.proofs.lemmas.Int.{ints}
use Rattle.sd_types.specs.declared.works.Work.{Work}
use Rattle.sd_state.specs.declared.states.Place.{Place}
use Rattle.sd_state.specs.declared.states.Place.TheVariants.{Queued, RealTime, Waiting, Asleep}
use Rattle.sd_state.specs.States.{first_back_key, key_of}
use Rattle.sd_state.specs.Opening.{opening}
use Rattle.sd_state.specs.Invariants.{has_key, same_queue}
use Rattle.sd_state.proofs.Chosen.{places}
use Rattle.sd_state.proofs.Openings.{opening_key}

-- a change of what each thread or each processor has
pub data Change (X : Type 0) : Type 0 where
  Keep : Change X
  Put : ℕ → X → Change X

-- one thread, lock or processor t gets x
pub record IsPut {X : Type 0} (t : ℕ) (x : X) (f g : ℕ → X) : Type 0 where
  pub at : g t ≡ x
  pub others : (u : ℕ) → u ≢ t → g u ≡ f u

-- from f to g
abbrev pub IsChanged : {X : Type 0} → Change X → (ℕ → X) → (ℕ → X) → Type 0
IsChanged Keep f g = (u : ℕ) → g u ≡ f u
IsChanged (Put t x) f g = IsPut t x f g

-- a key that may be in use after n entries
pub record IsWithin (n : ℕ) (k : ℤ) : Type 0 where
  pub least : neg_ℤ (pos n) ≤ℤ k
  pub greatest : k <ℤ pos (first_back_key + n)

-- a key that entry n gives
abbrev pub IsNew : ℕ → ℤ → Type 0
IsNew n k = (k ≡ pos (first_back_key + n)) ⊎ (k ≡ negsuc n)

new_within : (n : ℕ) (k : ℤ) → IsNew n k → IsWithin (n + 1) k
new_within n k (inl e) = record { least = omega (arith, ints); greatest = omega (arith, ints) }
new_within n k (inr e) = record { least = omega (arith, ints); greatest = omega (arith, ints) }

more_within : (n : ℕ) (k : ℤ) → IsWithin n k → IsWithin (n + 1) k
more_within n k h = let a = h.least in let b = h.greatest in record { least = omega (arith, ints); greatest = omega (arith, ints) }

new_differs : (n : ℕ) (k j : ℤ) → IsNew n k → IsWithin n j → k ≡ j → ⊥
new_differs n k j (inl e) h same = let a = h.least in let b = h.greatest in omega (arith, ints)
new_differs n k j (inr e) h same = let a = h.least in let b = h.greatest in omega (arith, ints)

-- what is in a queue has a key
first_has_key : (p q : Place) → same_queue p q ≡ true → has_key p ≡ true
first_has_key (Queued c k) q e = refl
first_has_key (RealTime c k) q e = refl
first_has_key (Waiting l side k) q e = refl
first_has_key (Asleep ch k) q e = refl
first_has_key _ q e = absurd (false≢true e)

second_has_key : (p q : Place) → same_queue p q ≡ true → has_key q ≡ true
second_has_key p (Queued c k) e = refl
second_has_key p (RealTime c k) e = refl
second_has_key p (Waiting l side k) e = refl
second_has_key p (Asleep ch k) e = refl
second_has_key (Queued c k) _ e = absurd (false≢true e)
second_has_key (RealTime c k) _ e = absurd (false≢true e)
second_has_key (Waiting l side k) _ e = absurd (false≢true e)
second_has_key (Asleep ch k) _ e = absurd (false≢true e)
second_has_key _ _ e = absurd (false≢true e)

pub record KeysAt (n : ℕ) (f : ℕ → Place) : Type 0 where
  pub within : (t : ℕ) → has_key (f t) ≡ true → IsWithin n (key_of (f t))
  pub differ : (t u : ℕ) → same_queue (f t) (f u) ≡ true → key_of (f t) ≡ key_of (f u) → t ≡ u

-- the change gives a key
abbrev pub gives_key : Change Place → Bool
gives_key Keep = false
gives_key (Put t p) = has_key p

abbrev pub given_key : Change Place → ℤ
given_key Keep = pos 0
given_key (Put t p) = key_of p

-- a key that entry n gives is new
abbrev pub GivesNew : ℕ → Change Place → Type 0
GivesNew n m = gives_key m ≡ true → IsNew n (given_key m)

module _ (n : ℕ) (f g : ℕ → Place) (t : ℕ) (p : Place) (new : GivesNew n (Put t p)) (keys : KeysAt n f) (put : IsPut t p f g) where
  was : (v : ℕ) → t ≢ v → g v ≡ f v
  was v other = put.others v (λ e. other (sym e))

  put_within : (v : ℕ) → has_key (g v) ≡ true → IsWithin (n + 1) (key_of (g v))
  put_within v has = elim (cases_eq t v) [
    | inl is ↦
        let here : g v ≡ p = ap g (sym is) ∙ put.at in
        new_within n (key_of (g v)) (subst (λ q. IsNew n (key_of q)) (sym here) (new (ap has_key (sym here) ∙ has)))
    | inr other ↦ more_within n (key_of (g v)) (subst (λ q. IsWithin n (key_of q)) (sym (was v other)) (keys.within v (ap has_key (sym (was v other)) ∙ has)))
  ]

  -- no other thread in the queue has the new key
  put_apart : (v u : ℕ) → t ≡ v → t ≢ u → has_key (g v) ≡ true → has_key (g u) ≡ true → key_of (g v) ≡ key_of (g u) → ⊥
  put_apart v u is other has too same =
      let here : g v ≡ p = ap g (sym is) ∙ put.at in
      new_differs n (key_of p) (key_of (f u)) (new (ap has_key (sym here) ∙ has)) (keys.within u (ap has_key (sym (was u other)) ∙ too))
      (ap key_of (sym here) ∙ same ∙ ap key_of (was u other))

  put_differ : (v u : ℕ) → same_queue (g v) (g u) ≡ true → key_of (g v) ≡ key_of (g u) → v ≡ u
  put_differ v u queue same =
      let has = first_has_key (g v) (g u) queue in
      let too = second_has_key (g v) (g u) queue in
      elim (cases_eq t v) [
        | inl is ↦ elim (cases_eq t u) [ inl at ↦ sym is ∙ at | inr other ↦ absurd (put_apart v u is other has too same) ]
        | inr other ↦ elim (cases_eq t u) [
          | inl at ↦ absurd (put_apart u v at other too has (sym same))
          | inr apart ↦ keys.differ v u (subst (λ q. same_queue q (f u) ≡ true) (was v other) (subst (λ q. same_queue (g v) q ≡ true) (was u apart) queue))
              (ap key_of (sym (was v other)) ∙ same ∙ ap key_of (was u apart))
        ]
      ]

pub keys_after : (n : ℕ) (f g : ℕ → Place) (m : Change Place) → GivesNew n m → KeysAt n f → IsChanged m f g → KeysAt (n + 1) g
keys_after n f g Keep new keys same = record {
  within = λ t has. more_within n (key_of (g t)) (subst (λ q. IsWithin n (key_of q)) (sym (same t)) (keys.within t (ap has_key (sym (same t)) ∙ has)));
  differ = λ t u queue e. keys.differ t u (subst (λ q. same_queue q (f u) ≡ true) (same t) (subst (λ q. same_queue (g t) q ≡ true) (same u) queue)) (ap key_of (sym (same t)) ∙ e ∙ ap key_of (same u));
}
keys_after n f g (Put t p) new keys put = record { within = put_within n f g t p new keys put; differ = put_differ n f g t p new keys put }

first_within : (w : Work) (t : ℕ) (k : ℤ) → t < length w.threads → k ≡ pos t → IsWithin 0 k
first_within w t k here e = let most = w.most_threads in record { least = omega (arith, ints); greatest = omega (arith, ints) }

pub first_keys : (w : Work) → KeysAt 0 (places (opening w))
first_keys w = record {
  within = λ t has. let key = opening_key w t has in first_within w t _ key.0 key.1;
  differ = λ t u queue same.
      let one = opening_key w t (first_has_key (places (opening w) t) (places (opening w) u) queue) in
      let other = opening_key w u (second_has_key (places (opening w) t) (places (opening w) u) queue) in
      let e : pos t ≡ pos u = sym one.1 ∙ same ∙ other.1 in
      cc;
}
