-- Ranks have the order of the keys, and states whose keys have the same order have the same ranks.
use Rattle.std.proofs.Common.{◌≡◌, ℕ, ◌+◌, ◌<◌, ◌≤◌, true, false, List, [], ◌∷◌, length, map, ℤ, pos, int_lt, Option, Some, None, refl, sym, ap, ◌∙◌, subst, arith, inl, inr}
use Rattle.std.specs.Prelude.{IfSome}
use Rattle.std.proofs.Math.ListN.{get_or-map}
use Rattle.std.proofs.lemmas.Bool.{cases_Bool, cases_lt}
use Rattle.std.proofs.lemmas.Bool.Decides.{nat_tests}
use Rattle.std.proofs.lemmas.Int.{ints}
use Rattle.std.proofs.lemmas.List.{ext_get_or, get_or_past, length-map}
use Rattle.std.proofs.lemmas.List.Sums.{count_by-le-length}
use Rattle.sd_basics.proofs.Numbers.{int_not_below_itself, int_below_zero}
use Rattle.sd_types.specs.declared.events.Duty.{Duty}
use Rattle.sd_types.specs.declared.events.Duty.TheVariants as duty
use Rattle.sd_state.specs.declared.states.CpuState.{CpuState}
use Rattle.sd_state.specs.declared.states.Place.{Place}
use Rattle.sd_state.specs.declared.states.Place.TheVariants.{Running, Queued, RealTime, Waiting, Asleep, Napping, Ended}
use Rattle.sd_state.specs.declared.states.ThreadState.{ThreadState}
use Rattle.sd_state.specs.declared.states.State.{State}
use Rattle.sd_state.specs.States.{cpu_of, no_cpu, no_thread, thread_of}
use Rattle.sd_machine.specs.Changes.{back_key}
use Rattle.sd_encoding.specs.Order.{Holder, OfThread, OfCpu, IsKeyBefore, IsSameOrder, IsSleeperKey, KeysFit, bare, bare_cpu, bare_duty, bare_place, bare_thread, is_below, key_at, key_held, key_in}
use Rattle.sd_encoding.specs.Ranks.{many_below, rank, ranked, ranked_cpu, ranked_duty, ranked_place, ranked_thread}
use Rattle.sd_encoding.proofs.AlikeLemmas.{body_same, cpu_alike, cpus_many, duty_alike, duty_rekeyed, duty_with, key_or_zero, place_alike, place_rekeyed, place_with, threads_many}
use Rattle.sd_encoding.proofs.CountLemmas.{count_less, count_more, count_same}

-- The keys of the state with ranks.

abbrev rank_held : State → Option ℤ → Option ℤ
rank_held s None = None
rank_held s (Some key) = Some (rank s key)

place_key : (s : State) (p : Place) → key_at (ranked_place s p) ≡ rank_held s (key_at p)
place_key s (Running c) = refl
place_key s p = refl

duty_key : (s : State) (d : Duty) → key_in (ranked_duty s d) ≡ rank_held s (key_in d)
duty_key s duty.Nothing = refl
duty_key s d = refl

thread_is : (s : State) (t : ℕ) → thread_of (ranked s) t ≡ ranked_thread s (thread_of s t)
thread_is s t = get_or-map (ranked_thread s) s.threads t no_thread

cpu_is : (s : State) (c : ℕ) → cpu_of (ranked s) c ≡ ranked_cpu s (cpu_of s c)
cpu_is s c = get_or-map (ranked_cpu s) s.cpus c no_cpu

held_is : (s : State) (a : Holder) → key_held (ranked s) a ≡ rank_held s (key_held s a)
held_is s (OfThread t) = ap (λ (x : ThreadState). key_at x.place) (thread_is s t) ∙ place_key s (thread_of s t).place
held_is s (OfCpu c) = ap (λ (x : CpuState). key_in x.duty) (cpu_is s c) ∙ duty_key s (cpu_of s c).duty

-- The order of ranks.

past_below : (o : Option ℤ) (k j : ℤ) → int_lt j k ≡ false → is_below o (Some k) ≡ true → is_below o (Some j) ≡ true
past_below None k j h e = cc
past_below (Some i) k j h e = by i k j h e
  where
    by : (i k j : ℤ) → int_lt j k ≡ false → int_lt i k ≡ true → int_lt i j ≡ true
    by i k j h e = grind (arith, nat_tests, ints)

not_back : (k j : ℤ) → int_lt k j ≡ true → int_lt j k ≡ false
not_back k j h = grind (arith, nat_tests, ints)

module _ (s : State) where
  not_more : (k j : ℤ) → int_lt j k ≡ false → many_below s k ≤ many_below s j
  not_more k j h =
      let threads = count_less no_thread (λ x. is_below (key_at x.place) (Some k)) (λ x. is_below (key_at x.place) (Some j)) s.threads (λ i. past_below (key_at (thread_of s i).place) k j h) in
      let cpus = count_less no_cpu (λ x. is_below (key_in x.duty) (Some k)) (λ x. is_below (key_in x.duty) (Some j)) s.cpus (λ i. past_below (key_in (cpu_of s i).duty) k j h) in
      omega arith

  more : (a : Holder) (k j : ℤ) → key_held s a ≡ Some k → int_lt k j ≡ true → many_below s k < many_below s j
  more (OfThread t) k j e h = elim (cases_lt t (length s.threads)) [
    | inl inside ↦
        let threads = count_more no_thread (λ x. is_below (key_at x.place) (Some k)) (λ x. is_below (key_at x.place) (Some j)) s.threads t inside (λ i. past_below (key_at (thread_of s i).place) k j (not_back k j h))
        (ap (λ o. is_below o (Some k)) e ∙ int_not_below_itself k) (ap (λ o. is_below o (Some j)) e ∙ h) in
        let cpus = count_less no_cpu (λ x. is_below (key_in x.duty) (Some k)) (λ x. is_below (key_in x.duty) (Some j)) s.cpus (λ i. past_below (key_in (cpu_of s i).duty) k j (not_back k j h)) in
        omega arith
    | inr past ↦
        let none : key_held s (OfThread t) ≡ None = ap (λ (x : ThreadState). key_at x.place) (get_or_past s.threads t no_thread past) in
        absurd (let f : None ≡ Some k = sym none ∙ e in cc)
  ]
  more (OfCpu c) k j e h = elim (cases_lt c (length s.cpus)) [
    | inl inside ↦
        let cpus = count_more no_cpu (λ x. is_below (key_in x.duty) (Some k)) (λ x. is_below (key_in x.duty) (Some j)) s.cpus c inside (λ i. past_below (key_in (cpu_of s i).duty) k j (not_back k j h))
        (ap (λ o. is_below o (Some k)) e ∙ int_not_below_itself k) (ap (λ o. is_below o (Some j)) e ∙ h) in
        let threads = count_less no_thread (λ x. is_below (key_at x.place) (Some k)) (λ x. is_below (key_at x.place) (Some j)) s.threads (λ i. past_below (key_at (thread_of s i).place) k j (not_back k j h)) in
        omega arith
    | inr past ↦
        let none : key_held s (OfCpu c) ≡ None = ap (λ (x : CpuState). key_in x.duty) (get_or_past s.cpus c no_cpu past) in
        absurd (let f : None ≡ Some k = sym none ∙ e in cc)
  ]

  less_pos : (a b : ℕ) → a < b → int_lt (pos a) (pos b) ≡ true
  less_pos a b h = grind (arith, nat_tests, ints)

  not_less_pos : (a b : ℕ) → b ≤ a → int_lt (pos a) (pos b) ≡ false
  not_less_pos a b h = grind (arith, nat_tests, ints)

  rank_order : (a : Holder) (k j : ℤ) → key_held s a ≡ Some k → int_lt (rank s k) (rank s j) ≡ int_lt k j
  rank_order a k j e = elim (cases_Bool (int_lt k j)) [
    | inl less ↦ less_pos (many_below s k) (many_below s j) (more a k j e less) ∙ sym less
    | inr not ↦ not_less_pos (many_below s k) (many_below s j) (not_more j k not) ∙ sym not
  ]

  held_order : (a : Holder) (o p : Option ℤ) → key_held s a ≡ o → is_below (rank_held s o) (rank_held s p) ≡ is_below o p
  held_order a None p e = refl
  held_order a (Some k) None e = refl
  held_order a (Some k) (Some j) e = rank_order a k j e

-- Without keys nothing has changed.

place_bare : (s : State) (p : Place) → bare_place (ranked_place s p) ≡ bare_place p
place_bare s (Running c) = refl
place_bare s p = refl

duty_bare : (s : State) (d : Duty) → bare_duty (ranked_duty s d) ≡ bare_duty d
duty_bare s duty.Nothing = refl
duty_bare s d = refl

map_over : {X : Type 0} (f g : X → X) (xs : List X) → ((x : X) → f (g x) ≡ f x) → map f (map g xs) ≡ map f xs
map_over f g [] h = refl
map_over f g (x ∷ xs) h = λ i. h x i ∷ map_over f g xs h i

ranked_bare : (s : State) → bare (ranked s) ≡ bare s
ranked_bare s =
    let threads : map bare_thread (map (ranked_thread s) s.threads) ≡ map bare_thread s.threads = map_over bare_thread (ranked_thread s) s.threads (λ x i. record x { place = place_bare s x.place i }) in
    let cpus : map bare_cpu (map (ranked_cpu s) s.cpus) ≡ map bare_cpu s.cpus = map_over bare_cpu (ranked_cpu s) s.cpus (λ x i. record x { duty = duty_bare s x.duty i }) in
    λ i. record s { threads = threads i; cpus = cpus i }

pub ranked_order : (s : State) → IsSameOrder (ranked s) s
ranked_order s = record {
  bare = ranked_bare s;
  order = λ a b. rw (held_is s a, held_is s b) (held_order s a (key_held s a) (key_held s b) refl);
}

-- Ranks are small, and none is below 0.

rank_small : (s : State) (key : ℤ) → many_below s key ≤ length s.threads + length s.cpus
rank_small s key =
    let threads = count_by-le-length (λ (x : ThreadState). is_below (key_at x.place) (Some key)) s.threads in
    let cpus = count_by-le-length (λ (x : CpuState). is_below (key_in x.duty) (Some key)) s.cpus in
    omega arith

back_above : (r n m : ℕ) → r < 4096 + n → n ≤ m → int_lt (pos r) (back_key m) ≡ true
back_above r n m h l = grind (arith, nat_tests, ints)

not_under : (r : ℕ) → int_lt (pos r) (pos 0) ≡ false
not_under r = grind (arith, nat_tests, ints)

rank_fits : (n : ℕ) (s : State) → length s.threads + length s.cpus < 4096 + n → (o : Option ℤ) → IfSome (rank_held s o) (IsKeyBefore n)
rank_fits n s small None = tt
rank_fits n s small (Some key) =
    let few : many_below s key < 4096 + n = (let r = rank_small s key in omega arith) in
    record { back = λ m l. back_above (many_below s key) n m few l; front = λ m l. int_below_zero (many_below s key) m }

sleeper_rank : (s : State) (p : Place) → IsSleeperKey (ranked_place s p)
sleeper_rank s (Asleep k key) = not_under (many_below s key)
sleeper_rank s p = tt

pub ranked_fits : (n : ℕ) (s : State) → length s.threads + length s.cpus < 4096 + n → KeysFit n (ranked s)
ranked_fits n s small = record {
  before = λ a. subst (λ o. IfSome o (IsKeyBefore n)) (sym (held_is s a)) (rank_fits n s small (key_held s a));
  sleepers = λ t. subst (λ (x : ThreadState). IsSleeperKey x.place) (sym (thread_is s t)) (sleeper_rank s (thread_of s t).place);
}

-- States whose keys have the same order are the same with ranks.

module _ (x s : State) (h : IsSameOrder x s) where
  many_same : (a : Holder) (k j : ℤ) → key_held x a ≡ Some k → key_held s a ≡ Some j → many_below x k ≡ many_below s j
  many_same a k j e f =
      let each : (b : Holder) → is_below (key_held x b) (Some k) ≡ is_below (key_held s b) (Some j) = λ b. ap (is_below (key_held x b)) (sym e) ∙ h.order b a ∙ ap (is_below (key_held s b)) f in
      let threads = count_same no_thread (λ y. is_below (key_at y.place) (Some k)) (λ y. is_below (key_at y.place) (Some j)) x.threads s.threads (threads_many x s h.bare) (λ t. each (OfThread t)) in
      let cpus = count_same no_cpu (λ y. is_below (key_in y.duty) (Some k)) (λ y. is_below (key_in y.duty) (Some j)) x.cpus s.cpus (cpus_many x s h.bare) (λ c. each (OfCpu c)) in
      λ i. threads i + cpus i

  rank_same : (a : Holder) (k j : ℤ) → key_held x a ≡ Some k → key_held s a ≡ Some j → rank x k ≡ rank s j
  rank_same a k j e f = ap pos (many_same a k j e f)

  place_ranked : (t : ℕ) (p : Place) (j : ℤ) → (thread_of x t).place ≡ p → (thread_of s t).place ≡ place_with p j → ranked_place x p ≡ ranked_place s (place_with p j)
  place_ranked t (Queued c k) j e f = ap (Queued c) (rank_same (OfThread t) k j (ap key_at e) (ap key_at f))
  place_ranked t (RealTime p k) j e f = ap (RealTime p) (rank_same (OfThread t) k j (ap key_at e) (ap key_at f))
  place_ranked t (Waiting l side k) j e f = ap (Waiting l side) (rank_same (OfThread t) k j (ap key_at e) (ap key_at f))
  place_ranked t (Asleep r k) j e f = ap (Asleep r) (rank_same (OfThread t) k j (ap key_at e) (ap key_at f))
  place_ranked t (Running c) j e f = refl
  place_ranked t (Napping c due) j e f = refl
  place_ranked t Ended j e f = refl

  duty_ranked : (c : ℕ) (d : Duty) (j : ℤ) → (cpu_of x c).duty ≡ d → (cpu_of s c).duty ≡ duty_with d j → ranked_duty x d ≡ ranked_duty s (duty_with d j)
  duty_ranked c (duty.Walk l seek k) j e f = ap (duty.Walk l seek) (rank_same (OfCpu c) k j (ap key_in e) (ap key_in f))
  duty_ranked c (duty.Rouse r k) j e f = ap (duty.Rouse r) (rank_same (OfCpu c) k j (ap key_in e) (ap key_in f))
  duty_ranked c d j e f = refl

  thread_ranked : (t : ℕ) → ranked_thread x (thread_of x t) ≡ ranked_thread s (thread_of s t)
  thread_ranked t =
      let j = key_or_zero (key_at (thread_of s t).place) in
      let is = place_rekeyed (thread_of x t).place (thread_of s t).place (place_alike x s h.bare t) in
      let place : ranked_place x (thread_of x t).place ≡ ranked_place s (thread_of s t).place = place_ranked t (thread_of x t).place j refl is ∙ ap (ranked_place s) (sym is) in
      λ i. record { body = body_same x s h.bare t i; place = place i }

  cpu_ranked : (c : ℕ) → ranked_cpu x (cpu_of x c) ≡ ranked_cpu s (cpu_of s c)
  cpu_ranked c =
      let j = key_or_zero (key_in (cpu_of s c).duty) in
      let is = duty_rekeyed (cpu_of x c).duty (cpu_of s c).duty (duty_alike x s h.bare c) in
      let duty : ranked_duty x (cpu_of x c).duty ≡ ranked_duty s (cpu_of s c).duty = duty_ranked c (cpu_of x c).duty j refl is ∙ ap (ranked_duty s) (sym is) in
      λ i. record (cpu_alike x s h.bare c i) { duty = duty i }

  threads_ranked : map (ranked_thread x) x.threads ≡ map (ranked_thread s) s.threads
  threads_ranked =
      ext_get_or no_thread (map (ranked_thread x) x.threads) (map (ranked_thread s) s.threads)
      (length-map x.threads (ranked_thread x) ∙ threads_many x s h.bare ∙ sym (length-map s.threads (ranked_thread s)))
      (λ t l. thread_is x t ∙ thread_ranked t ∙ sym (thread_is s t))

  cpus_ranked : map (ranked_cpu x) x.cpus ≡ map (ranked_cpu s) s.cpus
  cpus_ranked =
      ext_get_or no_cpu (map (ranked_cpu x) x.cpus) (map (ranked_cpu s) s.cpus)
      (length-map x.cpus (ranked_cpu x) ∙ cpus_many x s h.bare ∙ sym (length-map s.cpus (ranked_cpu s)))
      (λ c l. cpu_is x c ∙ cpu_ranked c ∙ sym (cpu_is s c))

  pub ranked_same : ranked x ≡ ranked s
  ranked_same =
      let rest = h.bare in
      λ i. record { threads = threads_ranked i; locks = (rest i).locks; cpus = cpus_ranked i; counts = (rest i).counts; open_cpus = (rest i).open_cpus }

-- and only those
pub same_ranked : (x s : State) → ranked x ≡ ranked s → IsSameOrder x s
same_ranked x s e =
    let a = ranked_order x in
    let b = ranked_order s in
    record {
      bare = sym a.bare ∙ ap bare e ∙ b.bare;
      order = λ p q. sym (a.order p q) ∙ ap (λ z. is_below (key_held z p) (key_held z q)) e ∙ b.order p q;
    }
