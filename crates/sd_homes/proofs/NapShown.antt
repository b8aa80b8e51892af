-- The nap that is over first.
use Rattle.std.proofs.Common.{◌≡◌, ℕ, ◌<◌, ℤ, pos, Bool, true, false, ◌==◌, ◌&&◌, ◌||◌, nat_lt, int_lt, int_le, List, [], ◌∷◌, length, get_or, Option, Some, option_map, refl, sym, ap, ◌∙◌, arith}
use Rattle.std.specs.Ordering.{int_eq}
use Rattle.std.proofs.lemmas.Bool.{and_parts, false_from_ne_true, eq-eqb}
use Rattle.std.proofs.lemmas.Bool.Decides.{nat_tests}
use Rattle.std.proofs.lemmas.Int.{ints}
use Rattle.std.proofs.lemmas.Option.{slice_get-get_or, slice_get_within, get_or_from_slice_get}
use Rattle.sd_types.specs.declared.numbers.CpuId.{CpuId}
use Rattle.sd_boxq.specs.Order.{find_id, precedes_keyed, IsKeyed}
use Rattle.sd_record.specs.Records.{ThreadRecord}
use Rattle.sd_state.specs.declared.states.Place.{Place}
use Rattle.sd_state.specs.declared.states.Place.TheVariants.{Napping}
use Rattle.sd_state.specs.declared.states.State.{State}
use Rattle.sd_state.specs.States.{no_thread, cpu_of}
use Rattle.sd_state.proofs.BestLemmas.{best_by_is, IsBestBelow}
use Rattle.sd_machine.specs.Threads.{first_due, is_due, due_of, naps_less}
use Rattle.sd_homes.specs.declared.list_id.ListId.TheVariants.{Naps}
use Rattle.sd_homes.specs.Standing.{is_napping, record_key, record_of, id_of, key_in, look_of, due_front, Lists}
use Rattle.sd_homes.proofs.ListLemmas.{nowhere_found, found_id}
use Rattle.sd_homes.proofs.StandingLemmas.{stood, shown}

due_by : (c : CpuId) (count : ℕ) (place : Place) → is_due c.0 count place ≡ (is_napping c.0 place && int_le (record_key place) (pos count))
due_by c count (Napping d due) = refl
due_by c count _ = refl

less_by : (c : CpuId) (x y : Place) → is_napping c.0 x ≡ true → is_napping c.0 y ≡ true → nat_lt (due_of x) (due_of y) ≡ int_lt (record_key x) (record_key y)
less_by c (Napping d due) (Napping e other) on on' = refl
less_by c _ _ on on' = absurd cc

-- what does not precede the first
not_less : (k j : ℤ) (t u : ℕ) → (int_lt k j || (int_eq k j && nat_lt t u)) ≡ false → int_lt k j ≡ false
not_less k j t u e = grind (arith, nat_tests, ints)

then_less : (k j : ℤ) (t u : ℕ) → t < u → (int_lt k j || (int_eq k j && nat_lt t u)) ≡ false → int_lt j k ≡ true
then_less k j t u h e = grind (arith, nat_tests, ints)

still_not : (k j count : ℤ) → int_le j count ≡ false → int_lt k j ≡ false → int_le k count ≡ false
still_not k j count a b = grind (arith, nat_tests, ints)

-- the first, and what is behind it
behind_first : (r : ThreadRecord) (rs : List ThreadRecord) (k : ℕ) (q : ThreadRecord) → IsKeyed key_in id_of (r ∷ rs) → find_id id_of k (r ∷ rs) ≡ Some q
    → int_lt (key_in q) (key_in r) ≡ false
behind_first r rs k q o e = by (id_of r == k) refl
  where
    by : (b : Bool) → (id_of r == k) ≡ b → int_lt (key_in q) (key_in r) ≡ false
    by true f = let is = rw f at e in let same : r ≡ q = cc in ap (λ z. int_lt (key_in z) (key_in r)) (sym same) ∙ itself (key_in r)
      where
        itself : (z : ℤ) → int_lt z z ≡ false
        itself z = grind (arith, ints)
    by false f = not_less (key_in q) (key_in r) (id_of q) (id_of r) (nowhere_found id_of (λ y. precedes_keyed key_in id_of y r) k q rs o.0 (rw f at e))

before_first : (r : ThreadRecord) (rs : List ThreadRecord) (k : ℕ) (q : ThreadRecord) → IsKeyed key_in id_of (r ∷ rs) → find_id id_of k (r ∷ rs) ≡ Some q → k < id_of r
    → int_lt (key_in r) (key_in q) ≡ true
before_first r rs k q o e h = by (id_of r == k) refl
  where
    by : (b : Bool) → (id_of r == k) ≡ b → int_lt (key_in r) (key_in q) ≡ true
    by true f = let is = rw f at e in let same : r ≡ q = cc in let num = found_id id_of k q (r ∷ rs) e in let one : id_of r ≡ k = ap id_of same ∙ num in absurd (omega arith)
    by false f =
        let num = found_id id_of k q (r ∷ rs) e in
        let less : id_of q < id_of r = omega arith in
        then_less (key_in q) (key_in r) (id_of q) (id_of r) less (nowhere_found id_of (λ y. precedes_keyed key_in id_of y r) k q rs o.0 (rw f at e))

module _ (n : ℕ) (s : State) (c : CpuId) (count : ℕ) where
  abbrev pub IsFirstDue : Option ℕ → Type 0
  IsFirstDue o = IsBestBelow (λ x. is_due c.0 count x.place) naps_less no_thread s.threads (length s.threads) o

  napper : (rs : List ThreadRecord) → Lists n (Naps c) rs (look_of s) → (k : ℕ) → k < length s.threads → is_due c.0 count (get_or s.threads k no_thread).place ≡ true
      → (find_id id_of k rs ≡ Some (record_of k (get_or s.threads k no_thread))) × (is_napping c.0 (get_or s.threads k no_thread).place ≡ true)
      × (int_le (record_key (get_or s.threads k no_thread).place) (pos count) ≡ true)
  napper rs l k h due =
      let parts = and_parts (is_napping c.0 (get_or s.threads k no_thread).place) (int_le (record_key (get_or s.threads k no_thread).place) (pos count)) (sym (due_by c count (get_or s.threads k no_thread).place) ∙ due) in
      (shown n (Naps c) rs (look_of s) k (get_or s.threads k no_thread) l (slice_get-get_or s.threads k no_thread h) parts.0, parts.0, parts.1)

  first_by : (rs : List ThreadRecord) → Lists n (Naps c) rs (look_of s) → IsFirstDue (option_map id_of (due_front count rs))
  first_by [] l = λ k h. false_from_ne_true (is_due c.0 count (get_or s.threads k no_thread).place) (λ due. let f = (napper [] l k h due).0 in absurd cc)
  first_by (r ∷ rs) l = by (int_le (key_in r) (pos count)) refl
    where
      by : (b : Bool) → int_le (key_in r) (pos count) ≡ b → IsFirstDue (option_map id_of (due_front count (r ∷ rs)))
      by false e =
          rw e (λ k h. false_from_ne_true (is_due c.0 count (get_or s.threads k no_thread).place) (λ due.
          let f = napper (r ∷ rs) l k h due in
          let no = still_not (record_key (get_or s.threads k no_thread).place) (key_in r) (pos count) e
          (behind_first r rs k (record_of k (get_or s.threads k no_thread)) l.arranged f.0) in
          let yes = f.2 in
          absurd cc))
      by true e =
          let self : (id_of r == id_of r) ≡ true = eq-eqb (id_of r) (id_of r) refl in
          let x = stood n (Naps c) (r ∷ rs) (look_of s) (id_of r) r l (rw self refl) in
          let here : get_or s.threads (id_of r) no_thread ≡ x.thread = get_or_from_slice_get s.threads (id_of r) x.thread no_thread x.there in
          rw e (record {
            inside = slice_get_within s.threads (id_of r) x.thread x.there;
            candidate = rw here (due_by c count x.thread.place ∙ rw (x.on, ap (λ z. int_le (key_in z) (pos count)) x.is ∙ e) refl);
            unbeaten = λ k h due.
                let f = napper (r ∷ rs) l k h due in
                rw here (less_by c (get_or s.threads k no_thread).place x.thread.place f.1 x.on
                ∙ ap (λ z. int_lt (record_key (get_or s.threads k no_thread).place) (key_in z)) x.is
                ∙ behind_first r rs k (record_of k (get_or s.threads k no_thread)) l.arranged f.0);
            first = λ k h due.
                let inside : k < length s.threads = (let w = slice_get_within s.threads (id_of r) x.thread x.there in omega arith) in
                let f = napper (r ∷ rs) l k inside due in
                rw here (less_by c x.thread.place (get_or s.threads k no_thread).place x.on f.1
                ∙ ap (λ z. int_lt (key_in z) (record_key (get_or s.threads k no_thread).place)) x.is
                ∙ before_first r rs k (record_of k (get_or s.threads k no_thread)) l.arranged f.0 h);
          })

  pub first_due_shown : (rs : List ThreadRecord) → Lists n (Naps c) rs (look_of s) → (cpu_of s c.0).count ≡ count → first_due s c.0 ≡ option_map id_of (due_front count rs)
  unfolding first_due
  first_due_shown rs l e = rw e (sym (best_by_is (λ x. is_due c.0 count x.place) naps_less no_thread s.threads (option_map id_of (due_front count rs)) (first_by rs l)))
