-- What an event comes to, of where threads stand, of priorities and of marks; and that a thread which goes to a place belongs there.
use Rattle.std.proofs.Common.{◌≡◌, ◌≢◌, ℕ, ◌<◌, ◌≤◌, Bool, true, false, not, ◌&&◌, ◌||◌, length, Option, Some, None, is_none, refl, sym, ap, ◌∙◌, subst, inl, inr, ◌⊎◌, arith, ℤ}
use Rattle.std.specs.Prelude.{if◌then◌else◌, filter, nat_lt, nat_le, ◌==◌}
use Rattle.std.specs.List.{Contains}
use Rattle.std.proofs.lemmas.Bool.{eqb-true}
use Rattle.std.proofs.lemmas.Bool.Decides.{nat_tests}
use Rattle.std.proofs.lemmas.Option.{same_Some, none-some}
use Rattle.sd_basics.proofs.Truths.{or_never}
use Rattle.sd_types.specs.declared.numbers.CpuId.{CpuId}
use Rattle.sd_types.specs.declared.bodies.ThreadBody.{ThreadBody}
use Rattle.sd_types.specs.declared.events.Put.{Put}
use Rattle.sd_types.specs.declared.events.Put.TheVariants.{Cpu, RealTime as OnRealTime}
use Rattle.sd_types.specs.declared.works.Work.{Work}
use Rattle.sd_types.specs.Priorities.{eff}
use Rattle.sd_rules.proofs.PartitionLemmas.{names-from_Contains}
use Rattle.sd_state.specs.declared.states.Place.{Place}
use Rattle.sd_state.specs.declared.states.Place.TheVariants.{Running, Queued, RealTime}
use Rattle.sd_state.specs.declared.states.State.{State}
use Rattle.sd_state.specs.States.{thread_of, cpu_of, is_running, is_queued, is_ready, set_of, eff_of}
use Rattle.sd_machine.specs.declared.plans.Requeue.TheVariants.{Stays, Behind, Anew}
use Rattle.sd_machine.specs.Threads.{open_of}
use Rattle.sd_machine.specs.Changes.{back_key, queue_place, place_put}
use Rattle.sd_machine.specs.Choosing.{cpus_or_bound, cpus_for, put_on, neighbours}
use Rattle.sd_machine.specs.Requeueing.{is_bound_to, requeue}
use Rattle.sd_state.specs.Invariants.{is_marked}
use Rattle.sd_state.proofs.OpeningSets.{same_set}
use Rattle.sd_frames.specs.Causes.{IsPut, IsRequeuedAt}
use Rattle.sd_invariants.specs.Laws.{is_in, is_runnable}
use Rattle.sd_invariants.proofs.Whole.{IsWhole}
use Rattle.sd_laws.specs.Belonging.{MayQueue, MayRun, BelongsAt, ThreadsBelong}
use Rattle.sd_laws.proofs.Alike.{Weight, heft, Alike, Weighed}
use Rattle.sd_laws.proofs.Goes.{All, Others, Goes, Single, Puts}
use Rattle.sd_invariants.proofs.Places.{only_item, never_stays, never_anew}
use Rattle.sd_types.proofs.SameLemmas.{same_cpu}
use Rattle.sd_invariants.proofs.Range.{in_filter}

-- what is known of a state of a run
pub record Known (w : Work) (s : State) : Type 0 where
  pub whole : IsWhole w s
  pub one : Single s
  pub some : (t : ℕ) → 0 < length (cpus_for w s t)
  pub homes : ThreadsBelong w s

-- thread t, with a priority made of x, belongs to the place
abbrev pub Home : Work → State → ℕ → Weight → Place → Type 0
Home w s t x place = BelongsAt s (set_of w t) (heft x) (thread_of s t).body.bound place

-- it is no place on a processor
abbrev pub IsOff : Place → Type 0
IsOff place = (d : ℕ) → is_running d place ≡ false

-- a thread keeps its priority, or stands on no dispatch queue
abbrev pub Rests : State → ℕ → Weight → Type 0
Rests s t x = (heft x ≡ eff_of s t) ⊎ (is_runnable (thread_of s t).place ≡ false)

-- where a thread runs, and now has a smaller priority than one on the queue, its processor is marked, or it had before
abbrev pub Remarks : State → State → ℕ → Weight → Type 0
Remarks s r t x =
    (d u : ℕ) → d < length s.cpus → is_running d (thread_of s t).place ≡ true → is_queued d (thread_of s u).place ≡ true → heft x < eff_of s u
    → (is_marked (cpu_of r d) ≡ true) ⊎ (eff_of s t < eff_of s u)

-- where one runs with a smaller priority than that of a thread that comes to the queue of another processor, that one is marked
abbrev pub Calls : State → State → ℕ → Place → Weight → Type 0
Calls s r c place x =
    (d v : ℕ) → d < length s.cpus → d ≢ c → is_queued d place ≡ true → is_running d (thread_of r v).place ≡ true → eff_of r v < heft x → is_marked (cpu_of r d) ≡ true

-- An event leaves all threads; changes the priority of one; makes one runnable; or one leaves the processor, or comes to it.
pub data Outcome (w : Work) (s r : State) (c : ℕ) : Type 0 where
  alike : Alike s r → Outcome w s r c
  weighed : (t : ℕ) (x : Weight) → Weighed s r t x → Rests s t x → Remarks s r t x → Outcome w s r c
  puts : (t : ℕ) (place : Place) (x : Weight) → Puts All s r t place x → Home w s t x place → IsOff place → IsOff (thread_of s t).place → Outcome w s r c
  leaves : (t : ℕ) (place : Place) (x : Weight) → Goes (Others c) s r t place x → is_running c (thread_of s t).place ≡ true → Home w s t x place → IsOff place
      → Calls s r c place x → Outcome w s r c
  comes : (t : ℕ) (k : CpuId) (x : Weight) → k.0 ≡ c → Goes (Others c) s r t (Running k) x → ((u : ℕ) → is_running c (thread_of s u).place ≡ false)
      → (cpu_of s c).set ≡ set_of w t → ((d : CpuId) → (thread_of s t).body.bound ≡ Some d → d.0 ≡ c)
      → ((u : ℕ) → is_queued c (thread_of s u).place ≡ true → eff_of s u ≤ heft x) → IsOff (thread_of s t).place → Outcome w s r c

-- The queue that suits a thread.

on_cpu : (p : ℕ) (b : Option CpuId) (x : CpuId) → Cpu x ≡ put_on p b x → b ≡ None → p < 100
on_cpu p None x e none = by (nat_le 100 p) refl e
  where
    by : (v : Bool) → nat_le 100 p ≡ v → Cpu x ≡ (if v && true then OnRealTime x else Cpu x) → p < 100
    by true is f = cc
    by false is f = grind (arith, nat_tests)
on_cpu p (Some d) x e none = cc

on_real : (p : ℕ) (b : Option CpuId) (x : CpuId) → OnRealTime x ≡ put_on p b x → (100 ≤ p) × (b ≡ None)
on_real p None x e = (by (nat_le 100 p) refl e, refl)
  where
    by : (v : Bool) → nat_le 100 p ≡ v → OnRealTime x ≡ (if v && true then OnRealTime x else Cpu x) → 100 ≤ p
    by true is f = grind (arith, nat_tests)
    by false is f = cc
on_real p (Some d) x e = absurd (by (nat_le 100 p) e)
  where
    by : (v : Bool) → OnRealTime x ≡ (if v && false then OnRealTime x else Cpu x) → ⊥
    by true f = cc
    by false f = cc

behind_is : (a b : Bool) (c d : CpuId) → (if a then Stays else if b then Behind c else Anew) ≡ Behind d → (c ≡ d) × (b ≡ true)
behind_is true b c d e = cc
behind_is false true c d e = (cc, refl)
behind_is false false c d e = cc

-- who stays keeps its priority, or stands on no queue
pub stays_rests : (place : Place) (old p : ℕ) (b : Option CpuId) → requeue place old p b ≡ Stays → (p ≡ old) ⊎ (is_runnable place ≡ false)
stays_rests (Queued c k) old p b e = by (old == p) (nat_lt p 100 || is_bound_to c b) refl e
  where
    by : (a v : Bool) → (old == p) ≡ a → (if a then Stays else if v then Behind c else Anew) ≡ Stays → (p ≡ old) ⊎ (is_runnable (Queued c k) ≡ false)
    by true v is f = inl (sym (eqb-true old p is))
    by false true is f = cc
    by false false is f = cc
stays_rests (RealTime q k) old p b e = by (old == p) refl e
  where
    by : (a : Bool) → (old == p) ≡ a → (if a then Stays else Anew) ≡ Stays → (p ≡ old) ⊎ (is_runnable (RealTime q k) ≡ false)
    by true is f = inl (sym (eqb-true old p is))
    by false is f = cc
stays_rests place old p b e = inr refl

pub put_off : (w : Work) (n t : ℕ) (at : Put) → IsOff (place_put w n t at)
put_off w n t (Cpu x) d = refl
put_off w n t (OnRealTime x) d = refl

pub queue_off : (w : Work) (t : ℕ) (c : CpuId) (key : ℤ) (b : ThreadBody) → IsOff (queue_place w t c key b)
queue_off w t c key b d = elim (nat_le 100 (eff b) && is_none b.bound) as (λ v. is_running d (if v then RealTime (set_of w t) key else Queued c key) ≡ false) [ true ↦ refl | false ↦ refl ]

pub queue_here : (w : Work) (t : ℕ) (c : CpuId) (key : ℤ) (b : ThreadBody) (d : ℕ) → is_queued d (queue_place w t c key b) ≡ true → d ≡ c.0
queue_here w t c key b d e = by (nat_le 100 (eff b) && is_none b.bound) e
  where
    by : (v : Bool) → is_queued d (if v then RealTime (set_of w t) key else Queued c key) ≡ true → d ≡ c.0
    by true f = cc
    by false f = sym (eqb-true c.0 d f)

module _ (w : Work) (s : State) (k : Known w s) where
  -- a processor on which a thread may run is of its set, and the one to which it is bound
  chosen_well : (t : ℕ) (x : CpuId) → Contains (cpus_for w s t) x → ((cpu_of s x.0).set ≡ set_of w t) × (((thread_of s t).body.bound ≡ None) ⊎ ((thread_of s t).body.bound ≡ Some x))
  unfolding cpus_for
  chosen_well t x has = by (thread_of s t).body.bound refl has
    where
      by : (b : Option CpuId) → (thread_of s t).body.bound ≡ b → Contains (cpus_or_bound (open_of s (set_of w t).0) b) x → ((cpu_of s x.0).set ≡ set_of w t) × ((b ≡ None) ⊎ (b ≡ Some x))
      by None is among = (same_set (cpu_of s x.0).set (set_of w t) (k.whole.opened.member (set_of w t).0 x.0 (names-from_Contains x (open_of s (set_of w t).0) among)).1, inl refl)
      by (Some d) is among =
          let same : d ≡ x = only_item d x among in
          (subst (λ (y : CpuId). (cpu_of s y.0).set ≡ set_of w t) same ((k.homes t).bound d is).0, inr (ap Some same))

  pub put_home : (n t : ℕ) (x : Weight) (at : Put) → IsPut w s t (heft x) at → Home w s t x (place_put w n t at)
  put_home n t x (Cpu d) put =
      let well = chosen_well t d (put.chosen (k.some t)) in
      (well.0, elim well.1 [ inl none ↦ inl (none, on_cpu (heft x) (thread_of s t).body.bound d put.suits none) | inr here ↦ inr here ])
  put_home n t x (OnRealTime d) put = let (high, none) = on_real (heft x) (thread_of s t).body.bound d put.suits in (high, none, refl)

  behind_home : (n t : ℕ) (x : Weight) (d : CpuId) → requeue (thread_of s t).place (eff_of s t) (heft x) (thread_of s t).body.bound ≡ Behind d → Home w s t x (Queued d (back_key n))
  behind_home n t x d e = by (thread_of s t).place (k.homes t).place e
    where
      bound : Option CpuId
      bound = (thread_of s t).body.bound

      test : (c : CpuId) (b : Option CpuId) → (nat_lt (heft x) 100 || is_bound_to c b) ≡ true → b ≡ None → heft x < 100
      test c None is none = low (nat_lt (heft x) 100) refl is
        where
          low : (v : Bool) → nat_lt (heft x) 100 ≡ v → (v || false) ≡ true → heft x < 100
          low true at f = grind (arith, nat_tests)
          low false at f = cc
      test c (Some d) is none = cc

      by : (place : Place) → BelongsAt s (set_of w t) (eff_of s t) bound place → requeue place (eff_of s t) (heft x) bound ≡ Behind d → Home w s t x (Queued d (back_key n))
      by (Queued c key) home is =
          let (same, tests) = behind_is (eff_of s t == heft x) (nat_lt (heft x) 100 || is_bound_to c bound) c d is in
          subst (λ (y : CpuId). ((cpu_of s y.0).set ≡ set_of w t) × MayQueue (heft x) bound y) same
          (home.0, elim home.1 [ inl low ↦ inl (low.0, test c bound tests low.0) | inr here ↦ inr here ])
      by (RealTime q key) home is = absurd (never_anew (eff_of s t == heft x) d is)
      by place home is = absurd (never_stays (eff_of s t == heft x) d is)

  pub requeued_home : (n t : ℕ) (x : Weight) (at : Put) → IsRequeuedAt w s t (heft x) (Some at) → Home w s t x (place_put w n t at)
  requeued_home n t x at (inl (d, e, goes)) = subst (λ q. Home w s t x (place_put w n t q)) (sym goes) (behind_home n t x d e)
  requeued_home n t x at (inr (e, put)) = put_home n t x at put

  -- of a thread that runs
  pub runs_at : (t : ℕ) (c : CpuId) → is_running c.0 (thread_of s t).place ≡ true → ((cpu_of s c.0).set ≡ set_of w t) × MayRun s (thread_of s t).body.bound c
  runs_at t c runs = by (thread_of s t).place (k.homes t).place runs
    where
      by : (place : Place) → BelongsAt s (set_of w t) (eff_of s t) (thread_of s t).body.bound place → is_running c.0 place ≡ true → ((cpu_of s c.0).set ≡ set_of w t) × MayRun s (thread_of s t).body.bound c
      by (Running d) home is = subst (λ (y : CpuId). ((cpu_of s y.0).set ≡ set_of w t) × MayRun s (thread_of s t).body.bound y) (same_cpu d c (eqb-true d.0 c.0 is)) home
      by place home is = cc

  -- of a thread on the queue of a processor
  pub queued_at : (t : ℕ) (c : CpuId) → is_queued c.0 (thread_of s t).place ≡ true → ((cpu_of s c.0).set ≡ set_of w t) × MayQueue (eff_of s t) (thread_of s t).body.bound c
  queued_at t c queued = by (thread_of s t).place (k.homes t).place queued
    where
      by : (place : Place) → BelongsAt s (set_of w t) (eff_of s t) (thread_of s t).body.bound place → is_queued c.0 place ≡ true → ((cpu_of s c.0).set ≡ set_of w t) × MayQueue (eff_of s t) (thread_of s t).body.bound c
      by (Queued d key) home is = subst (λ (y : CpuId). ((cpu_of s y.0).set ≡ set_of w t) × MayQueue (eff_of s t) (thread_of s t).body.bound y) (same_cpu d c (eqb-true d.0 c.0 is)) home
      by place home is = cc

  bound_here : (b : Option CpuId) (p : ℕ) (c : CpuId) → MayQueue p b c → (d : CpuId) → b ≡ Some d → d.0 ≡ c.0
  bound_here b p c (inl low) d is = absurd (none-some d (sym low.0 ∙ is))
  bound_here b p c (inr here) d is = ap (λ (y : CpuId). y.0) (same_Some d c (sym is ∙ here))

  -- of one that is ready for a processor
  pub ready_at : (t : ℕ) (c : CpuId) → is_ready c.0 (cpu_of s c.0).set.0 (thread_of s t).place ≡ true → ((cpu_of s c.0).set ≡ set_of w t) × ((d : CpuId) → (thread_of s t).body.bound ≡ Some d → d.0 ≡ c.0)
  ready_at t c ready = by (thread_of s t).place (k.homes t).place ready
    where
      bound : Option CpuId
      bound = (thread_of s t).body.bound

      by : (place : Place) → BelongsAt s (set_of w t) (eff_of s t) bound place → is_ready c.0 (cpu_of s c.0).set.0 place ≡ true → ((cpu_of s c.0).set ≡ set_of w t) × ((d : CpuId) → bound ≡ Some d → d.0 ≡ c.0)
      by (Queued e key) home is =
          let same : e ≡ c = same_cpu e c (eqb-true e.0 c.0 (or_never (e.0 == c.0) is)) in
          (ap (λ (y : CpuId). (cpu_of s y.0).set) (sym same) ∙ home.0, λ d at. bound_here bound (eff_of s t) e home.1 d at ∙ ap (λ (y : CpuId). y.0) same)
      by (RealTime q key) home is = (sym (same_set q (cpu_of s c.0).set (eqb-true q.0 (cpu_of s c.0).set.0 is)) ∙ home.2, λ d at. absurd (none-some d (sym home.1 ∙ at)))
      by place home is = cc

  -- a thread that leaves processor c for a queue
  pub queue_home : (t : ℕ) (c : CpuId) (key : ℤ) (x : Weight) → (cpu_of s c.0).set ≡ set_of w t → ((d : CpuId) → (thread_of s t).body.bound ≡ Some d → d.0 ≡ c.0) → heft x ≡ eff_of s t → Home w s t x (queue_place w t c key (thread_of s t).body)
  queue_home t c key x own bound same = by (nat_le 100 (eff_of s t)) (thread_of s t).body.bound refl bound
    where
      by : (v : Bool) (b : Option CpuId) → nat_le 100 (eff_of s t) ≡ v → ((d : CpuId) → b ≡ Some d → d.0 ≡ c.0) → BelongsAt s (set_of w t) (heft x) b (if v && is_none b then RealTime (set_of w t) key else Queued c key)
      by true None is at = ((let high : 100 ≤ eff_of s t = grind (arith, nat_tests) in omega (arith, high, same)), refl, refl)
      by false None is at = (own, inl (refl, (let low : eff_of s t < 100 = grind (arith, nat_tests) in omega (arith, low, same))))
      by true (Some d) is at = (own, inr (ap Some (same_cpu d c (at d refl))))
      by false (Some d) is at = (own, inr (ap Some (same_cpu d c (at d refl))))

  -- the other processors of a set
  pub neighbour_set : (c : ℕ) (v : CpuId) → Contains (neighbours s c) v → (cpu_of s v.0).set ≡ (cpu_of s c).set
  unfolding neighbours
  neighbour_set c v has =
      let listed : is_in v.0 (open_of s (cpu_of s c).set.0) ≡ true = in_filter (λ d. not (d.0 == c)) v.0 (open_of s (cpu_of s c).set.0) (names-from_Contains v (filter (λ d. not (d.0 == c)) (open_of s (cpu_of s c).set.0)) has) in
      same_set (cpu_of s v.0).set (cpu_of s c).set (k.whole.opened.member (cpu_of s c).set.0 v.0 listed).1
