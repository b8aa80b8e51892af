-- What the changes of which events are composed leave as it was.
use Rattle.std.proofs.Common.{◌≡◌, ℕ, ◌<◌, ◌≤◌, ◌%◌, ◌⊎◌, Bool, true, false, List, length, get_or, set, Option, refl, ap, ◌∙◌, sym, subst, inl, inr}
use Rattle.std.specs.Prelude.{◌-◌, if◌then◌else◌, nat_le}
use Rattle.std.proofs.lemmas.Bool.{cases_eq, cases_lt}
use Rattle.std.proofs.lemmas.List.{get_or-set_same, get_or-set_other}
use Rattle.std.proofs.lemmas.List.{set_past}
use Rattle.sd_types.specs.declared.bodies.ThreadBody.{ThreadBody}
use Rattle.sd_types.specs.declared.classes.ClassState.{ClassState}
use Rattle.sd_types.specs.declared.events.Duty.{Duty}
use Rattle.sd_types.specs.declared.events.Put.{Put}
use Rattle.sd_types.specs.declared.events.Put.TheVariants.{Cpu, RealTime as OnRealTime}
use Rattle.sd_types.specs.declared.numbers.CpuId.{CpuId}
use Rattle.sd_types.specs.declared.numbers.HomeId.TheVariants as home
use Rattle.sd_types.specs.declared.numbers.LockId.{LockId}
use Rattle.sd_types.specs.declared.numbers.SetId.{SetId}
use Rattle.sd_types.specs.declared.numbers.ThreadId.{ThreadId}
use Rattle.sd_types.specs.declared.works.Work.{Work}
use Rattle.sd_state.specs.declared.states.CpuState.{CpuState}
use Rattle.sd_state.specs.declared.states.LockState.{LockState}
use Rattle.sd_state.specs.declared.states.LockState.TheVariants.{Free}
use Rattle.sd_state.specs.declared.states.Place.{Place}
use Rattle.sd_state.specs.declared.states.Place.TheVariants.{Running}
use Rattle.sd_state.specs.declared.states.State.{State}
use Rattle.sd_state.specs.declared.states.ThreadState.{ThreadState}
use Rattle.sd_state.specs.States.{cpu_of, no_cpu, no_thread, thread_of, with_cpu, with_thread}
use Rattle.sd_state.specs.Operations.{op_over, ran, script_of}
use Rattle.sd_machine.specs.Bodies.{arrived}
use Rattle.sd_machine.specs.Changes.{bind, clear_marks, close, count_tick, cpu_put, finish_op, hold, join, leave, let_go, mark_over, marked, place_put, put, remark, run_on, run_tick, send_back, set_class, set_duty, set_kernel_mark, set_looped, set_mark, set_number, unbind, with_body}
use Rattle.sd_machine.specs.Threads.{no_cpus, with_count, with_lock, with_open}
use Rattle.sd_store.specs.declared.parts.Part.{Part}
use Rattle.sd_store.specs.declared.parts.Part.TheVariants.{Actor, Thread}
use Rattle.sd_store.specs.Parts.{IsAmong, put_parts, view_of}
use Rattle.sd_footprint.specs.Changed.{ChangesOnly, HasHome, IsNamed, MovesWithin, RanThere, SameActor}
use Rattle.sd_homes.specs.Standing.{home_of, home_of_place}
use Rattle.sd_frames.proofs.Parts.{same_item}

abbrev pub HasThread : List Part → ℕ → Type 0
HasThread ps t = IsAmong (Thread (record { 0 = t })) ps

abbrev pub HasCpu : List Part → ℕ → Type 0
HasCpu ps c = HasHome ps (home.Cpu (record { 0 = c }))

abbrev pub HasActor : List Part → ℕ → Type 0
HasActor ps c = IsAmong (Actor (record { 0 = c })) ps

-- One state after another.

abbrev pub Goes : List Part → ℕ → ThreadState → ThreadState → Type 0
Goes ps u x y = (y ≡ x) ⊎ MovesWithin ps u x y

at_home : (ps : List Part) (x y z : ThreadState) → (home_of y ≡ home_of x) ⊎ HasHome ps (home_of y) → (home_of z ≡ home_of y) ⊎ HasHome ps (home_of z) → (home_of z ≡ home_of x) ⊎ HasHome ps (home_of z)
at_home ps x y z (inl a) (inl b) = inl (b ∙ a)
at_home ps x y z (inr a) (inl b) = inr (subst (λ h. HasHome ps h) (sym b) a)
at_home ps x y z a (inr b) = inr b

goes_then : (ps : List Part) (u : ℕ) (x y z : ThreadState) → Goes ps u x y → Goes ps u y z → Goes ps u x z
goes_then ps u x y z a (inl b) = subst (λ q. Goes ps u x q) (sym b) a
goes_then ps u x y z (inl a) (inr b) = inr (subst (λ q. MovesWithin ps u q z) a b)
goes_then ps u x y z (inr a) (inr b) = inr (record { named = a.named; home = at_home ps x y z a.home b.home; ran = λ r. b.ran (a.ran r) })

same_then : {X : Type 0} {Q : Type 0} (x y z : X) → (y ≡ x) ⊎ Q → (z ≡ y) ⊎ Q → (z ≡ x) ⊎ Q
same_then x y z (inl a) (inl b) = inl (b ∙ a)
same_then x y z (inr q) b = inr q
same_then x y z (inl a) (inr q) = inr q

actor_then : {Q : Type 0} (x y z : CpuState) → SameActor x y ⊎ Q → SameActor y z ⊎ Q → SameActor x z ⊎ Q
actor_then x y z (inl a) (inl b) = inl (b.0 ∙ a.0, b.1 ∙ a.1)
actor_then x y z (inr q) b = inr q
actor_then x y z (inl a) (inr q) = inr q

pub changes_none : (ps : List Part) (s : State) → ChangesOnly ps s s
changes_none ps s = record {
  threads = λ u. inl refl;
  cpus = λ d. inl refl;
  actors = λ d. inl (refl, refl);
  locks = λ l. inl refl;
  chans = λ k. inl refl;
  sets = λ p. inl refl;
}

pub changes_then : (ps : List Part) (s r q : State) → ChangesOnly ps s r → ChangesOnly ps r q → ChangesOnly ps s q
changes_then ps s r q a b = record {
  threads = λ u. goes_then ps u (thread_of s u) (thread_of r u) (thread_of q u) (a.threads u) (b.threads u);
  cpus = λ d. same_then _ _ _ (a.cpus d) (b.cpus d);
  actors = λ d. actor_then (cpu_of s d) (cpu_of r d) (cpu_of q d) (a.actors d) (b.actors d);
  locks = λ l. same_then _ _ _ (a.locks l) (b.locks l);
  chans = λ k. same_then _ _ _ (a.chans k) (b.chans k);
  sets = λ p. same_then _ _ _ (a.sets p) (b.sets p);
}

pub changes_either : (ps : List Part) (s r q : State) (b : Bool) → ChangesOnly ps s r → ChangesOnly ps s q → ChangesOnly ps s (if b then r else q)
changes_either ps s r q true a b = a
changes_either ps s r q false a b = b

-- One item is written.

written : {X Y : Type 0} (part : X → Y) (xs : List X) (d : X) (t : ℕ) (x : X) (Q : ℕ → Type 0) → (part x ≡ part (get_or xs t d)) ⊎ Q t
    → (u : ℕ) → (part (get_or (set xs t x) u d) ≡ part (get_or xs u d)) ⊎ Q u
written part xs d t x Q (inl same) u = inl (same_item part xs d t x same u)
written part xs d t x Q (inr q) u = elim (cases_eq u t) [
  | inl is ↦ inr (subst Q (sym is) q)
  | inr other ↦ inl (ap part (get_or-set_other xs t u x d other))
]

pub changes_thread : (ps : List Part) (s : State) (t : ℕ) (y : ThreadState) → MovesWithin ps t (thread_of s t) y → ChangesOnly ps s (with_thread s t y)
changes_thread ps s t y moves = record {
  threads = λ u. elim (cases_eq u t) [
    | inl is ↦ subst (λ v. Goes ps v (thread_of s v) (thread_of (with_thread s t y) v)) (sym is) (here (cases_lt t (length s.threads)))
    | inr other ↦ inl (get_or-set_other s.threads t u y no_thread other)
  ];
  cpus = λ d. inl refl;
  actors = λ d. inl (refl, refl);
  locks = λ l. inl refl;
  chans = λ k. inl refl;
  sets = λ p. inl refl;
}
  where
    here : (t < length s.threads) ⊎ (length s.threads ≤ t) → Goes ps t (thread_of s t) (thread_of (with_thread s t y) t)
    here (inl inside) = inr (subst (λ q. MovesWithin ps t (thread_of s t) q) (sym (get_or-set_same s.threads t y no_thread inside)) moves)
    here (inr past) = inl (ap (λ xs. get_or xs t no_thread) (set_past s.threads t y past))

pub changes_cpu : (ps : List Part) (s : State) (c : ℕ) (z : CpuState) → (view_of z ≡ view_of (cpu_of s c)) ⊎ HasCpu ps c → SameActor (cpu_of s c) z ⊎ HasActor ps c → ChangesOnly ps s (with_cpu s c z)
changes_cpu ps s c z view actor = record {
  threads = λ u. inl refl;
  cpus = written view_of s.cpus no_cpu c z (HasCpu ps) view;
  actors = λ d. both d (written (λ (x : CpuState). x.count) s.cpus no_cpu c z (HasActor ps) (first actor) d) (written (λ (x : CpuState). x.duty) s.cpus no_cpu c z (HasActor ps) (second actor) d);
  locks = λ l. inl refl;
  chans = λ k. inl refl;
  sets = λ p. inl refl;
}
  where
    first : SameActor (cpu_of s c) z ⊎ HasActor ps c → (z.count ≡ (cpu_of s c).count) ⊎ HasActor ps c
    first (inl same) = inl same.0
    first (inr is) = inr is

    second : SameActor (cpu_of s c) z ⊎ HasActor ps c → (z.duty ≡ (cpu_of s c).duty) ⊎ HasActor ps c
    second (inl same) = inl same.1
    second (inr is) = inr is

    both : (d : ℕ) → ((cpu_of (with_cpu s c z) d).count ≡ (cpu_of s d).count) ⊎ HasActor ps d → ((cpu_of (with_cpu s c z) d).duty ≡ (cpu_of s d).duty) ⊎ HasActor ps d
        → SameActor (cpu_of s d) (cpu_of (with_cpu s c z) d) ⊎ HasActor ps d
    both d (inl a) (inl b) = inl (a, b)
    both d (inr q) b = inr q
    both d (inl a) (inr q) = inr q

pub changes_lock : (ps : List Part) (s : State) (l : ℕ) (x : LockState) → HasHome ps (home.Chain (l % 64)) → ChangesOnly ps s (with_lock s l x)
changes_lock ps s l x chain = record {
  threads = λ u. inl refl;
  cpus = λ d. inl refl;
  actors = λ d. inl (refl, refl);
  locks = written (λ (y : LockState). y) s.locks Free l x (λ m. HasHome ps (home.Chain (m % 64))) (inr chain);
  chans = λ k. inl refl;
  sets = λ p. inl refl;
}

pub changes_count : (ps : List Part) (s : State) (k n : ℕ) → HasHome ps (home.Sleepers (k % 64)) → ChangesOnly ps s (with_count s k n)
changes_count ps s k n chain = record {
  threads = λ u. inl refl;
  cpus = λ d. inl refl;
  actors = λ d. inl (refl, refl);
  locks = λ l. inl refl;
  chans = written (λ (m : ℕ). m) s.counts 0 k n (λ j. HasHome ps (home.Sleepers (j % 64))) (inr chain);
  sets = λ p. inl refl;
}

pub changes_open : (ps : List Part) (s : State) (p : ℕ) (cpus : List CpuId) → HasHome ps (home.RealTime (record { 0 = p })) → ChangesOnly ps s (with_open s p cpus)
changes_open ps s p cpus set = record {
  threads = λ u. inl refl;
  cpus = λ d. inl refl;
  actors = λ d. inl (refl, refl);
  locks = λ l. inl refl;
  chans = λ k. inl refl;
  sets = written (λ xs. xs.items) s.open_cpus no_cpus p (record { items = cpus }) (λ q. HasHome ps (home.RealTime (record { 0 = q }))) (inr set);
}

-- The body of a thread.

body_ran : (x : ThreadState) (b : ThreadBody) → b.last ≡ x.body.last → RanThere x → RanThere (record x { body = b })
body_ran x b last ran = λ c is. last ∙ ran c is

pub changes_body : (ps : List Part) (s : State) (t : ℕ) (b : ThreadBody) → HasThread ps t → b.last ≡ (thread_of s t).body.last → ChangesOnly ps s (with_body s t b)
changes_body ps s t b is last = changes_thread ps s t (record (thread_of s t) { body = b }) (record {
  named = inl is;
  home = inl (ap (home_of_place (thread_of s t).place) last);
  ran = body_ran (thread_of s t) b last;
})

pub changes_finish : (ps : List Part) (w : Work) (s : State) (t : ℕ) → HasThread ps t → ChangesOnly ps s (finish_op w s t)
unfolding finish_op
changes_finish ps w s t is = changes_body ps s t (op_over (script_of w t) (thread_of s t).body) is refl

ran_last : (w : Work) (t : ℕ) (b : ThreadBody) → (ran (script_of w t) b).last ≡ b.last
ran_last w t b = elim (nat_le b.run_left 1) as (λ q. (if q then op_over (script_of w t) b else record b { run_left = b.run_left - 1 }).last ≡ b.last) [ true ↦ refl | false ↦ refl ]

pub changes_run_tick : (ps : List Part) (w : Work) (s : State) (t : ℕ) → HasThread ps t → ChangesOnly ps s (run_tick w s t)
unfolding run_tick
changes_run_tick ps w s t is = changes_body ps s t (ran (script_of w t) (thread_of s t).body) is (ran_last w t (thread_of s t).body)

pub changes_class : (ps : List Part) (s : State) (t : ℕ) (class : ClassState) → HasThread ps t → ChangesOnly ps s (set_class s t class)
unfolding set_class
changes_class ps s t class is = changes_body ps s t _ is refl

pub changes_send_back : (ps : List Part) (s : State) (t : ℕ) → HasThread ps t → ChangesOnly ps s (send_back s t)
unfolding send_back
changes_send_back ps s t is = changes_body ps s t _ is refl

pub changes_hold : (ps : List Part) (s : State) (t : ℕ) (l : LockId) → HasThread ps t → ChangesOnly ps s (hold s t l)
unfolding hold
changes_hold ps s t l is = changes_body ps s t _ is refl

pub changes_let_go : (ps : List Part) (s : State) (t : ℕ) (l : LockId) → HasThread ps t → ChangesOnly ps s (let_go s t l)
unfolding let_go
changes_let_go ps s t l is = changes_body ps s t _ is refl

pub changes_number : (ps : List Part) (s : State) (t : ℕ) (l : LockId) (number : Option ℕ) → HasThread ps t → ChangesOnly ps s (set_number s t l number)
unfolding set_number
changes_number ps s t l number is = changes_body ps s t _ is refl

pub changes_looped : (ps : List Part) (s : State) (t : ℕ) (looped : Bool) → HasThread ps t → ChangesOnly ps s (set_looped s t looped)
unfolding set_looped
changes_looped ps s t looped is = changes_body ps s t _ is refl

-- A processor.

pub changes_duty : (ps : List Part) (s : State) (c : ℕ) (duty : Duty) → HasActor ps c → ChangesOnly ps s (set_duty s c duty)
unfolding set_duty
changes_duty ps s c duty is = changes_cpu ps s c _ (inl refl) (inr is)

pub changes_tick : (ps : List Part) (w : Work) (s : State) (c : ℕ) → HasActor ps c → ChangesOnly ps s (count_tick w s c)
unfolding count_tick
changes_tick ps w s c is = changes_cpu ps s c _ (inl refl) (inr is)

pub changes_marks : (ps : List Part) (s : State) (c : ℕ) → HasCpu ps c → ChangesOnly ps s (clear_marks s c)
unfolding clear_marks
changes_marks ps s c is = changes_cpu ps s c _ (inr is) (inl (refl, refl))

marked_same : (m : ℕ) (x : CpuState) → SameActor x (marked m x)
marked_same m x = elim (nat_le 100 m) as (λ b. SameActor x (if b then record x { kernel = true } else record x { user = true })) [ true ↦ (refl, refl) | false ↦ (refl, refl) ]

pub changes_mark : (ps : List Part) (s : State) (c m : ℕ) → HasCpu ps c → ChangesOnly ps s (set_mark s c m)
unfolding set_mark
changes_mark ps s c m is = changes_cpu ps s c _ (inr is) (inl (marked_same m (cpu_of s c)))

pub changes_kernel_mark : (ps : List Part) (s : State) (c : ℕ) → HasCpu ps c → ChangesOnly ps s (set_kernel_mark s c)
unfolding set_kernel_mark
changes_kernel_mark ps s c is = changes_cpu ps s c _ (inr is) (inl (refl, refl))

pub changes_mark_over : (ps : List Part) (s : State) (x m : ℕ) → HasCpu ps x → ChangesOnly ps s (mark_over s x m)
unfolding mark_over
changes_mark_over ps s x m is = changes_either ps s _ _ _ (changes_mark ps s x m is) (changes_none ps s)

pub changes_remark : (ps : List Part) (s : State) (x : ℕ) → HasCpu ps x → ChangesOnly ps s (remark s x)
unfolding remark
changes_remark ps s x is = changes_either ps s _ _ _ (changes_mark ps s x _ is) (changes_none ps s)

-- Threads come and go.

arrived_ran : (x : ThreadState) (c : CpuId) → RanThere (record { body = arrived c x.body; place = Running c })
arrived_ran x c = λ d is. running_same c d is
  where
    cpu_at : Place → CpuId
    cpu_at (Running e) = e
    cpu_at _ = c

    running_same : (c d : CpuId) → Running c ≡ Running d → c ≡ d
    running_same c d is = ap (λ (p : Place). cpu_at p) is

pub changes_run_on : (ps : List Part) (s : State) (t : ℕ) (c : CpuId) → HasThread ps t → HasCpu ps c.0 → ChangesOnly ps s (run_on s t c)
unfolding run_on
changes_run_on ps s t c is cpu = changes_thread ps s t _ (record { named = inl is; home = inr cpu; ran = λ r. arrived_ran (thread_of s t) c })

-- the place is none of a processor on which a thread runs
abbrev pub IsAway : Place → Type 0
IsAway place = (c : CpuId) → place ≡ Running c → ⊥

pub changes_leave_as : (ps : List Part) (s : State) (c : CpuId) (t : ℕ) (place : Place) → IsNamed ps t (thread_of s t)
    → (home_of_place place (thread_of s t).body.last ≡ home_of (thread_of s t)) ⊎ HasHome ps (home_of_place place (thread_of s t).body.last)
    → IsAway place → HasCpu ps c.0 → ChangesOnly ps s (leave s c.0 t place)
unfolding leave
changes_leave_as ps s c t place named to away cpu =
    changes_then ps s _ _
    (changes_thread ps s t _ (record { named = named; home = to; ran = λ r c is. absurd (away c is) }))
    (changes_cpu ps _ c.0 _ (inr cpu) (inl (refl, refl)))

pub changes_leave : (ps : List Part) (s : State) (c : CpuId) (t : ℕ) (place : Place) → HasThread ps t
    → HasHome ps (home_of_place place (thread_of s t).body.last) → IsAway place → HasCpu ps c.0 → ChangesOnly ps s (leave s c.0 t place)
changes_leave ps s c t place is to away cpu = changes_leave_as ps s c t place (inl is) (inr to) away cpu

-- the parts of one list are among those of another
abbrev pub AreAmong : List Part → List Part → Type 0
AreAmong qs ps = (p : Part) → IsAmong p qs → IsAmong p ps

put_away : (w : Work) (n t : ℕ) (at : Put) → IsAway (place_put w n t at)
put_away w n t (Cpu x) = λ c is. cc
put_away w n t (OnRealTime x) = λ c is. cc

put_home : (ps : List Part) (w : Work) (n : ℕ) (t : ThreadId) (at : Put) (last : CpuId) → AreAmong (put_parts w t at) ps → HasHome ps (home_of_place (place_put w n t.0 at) last)
put_home ps w n t (Cpu x) last all = all _ (inr (inl refl))
put_home ps w n t (OnRealTime x) last all = all _ (inr (inr (inl refl)))

pub changes_put : (ps : List Part) (w : Work) (s : State) (n : ℕ) (t : ThreadId) (at : Put) → AreAmong (put_parts w t at) ps → ChangesOnly ps s (put w s n t.0 at)
unfolding put
changes_put ps w s n t at all =
    changes_then ps s _ _
    (changes_thread ps s t.0 _ (record { named = inl (all _ (inl refl)); home = inr (put_home ps w n t at (thread_of s t.0).body.last all); ran = λ r c is. absurd (put_away w n t.0 at c is) }))
    (changes_mark_over ps _ (cpu_put at).0 _ (all _ (inr (inl refl))))

pub changes_close : (ps : List Part) (s : State) (d : CpuId) (to : SetId) → HasCpu ps d.0 → HasHome ps (home.RealTime (cpu_of s d.0).set) → ChangesOnly ps s (close s d to)
unfolding close
changes_close ps s d to cpu set = changes_then ps s _ _ (changes_open ps s _ _ set) (changes_cpu ps _ d.0 _ (inr cpu) (inl (refl, refl)))

pub changes_join : (ps : List Part) (s : State) (c : CpuId) (to : SetId) → HasCpu ps c.0 → HasHome ps (home.RealTime to) → ChangesOnly ps s (join s c to)
unfolding join
changes_join ps s c to cpu set = changes_then ps s _ _ (changes_open ps s _ _ set) (changes_cpu ps _ c.0 _ (inr cpu) (inl (refl, refl)))

pub changes_bind : (ps : List Part) (s : State) (t : ℕ) (d : CpuId) → HasThread ps t → HasCpu ps d.0 → ChangesOnly ps s (bind s t d)
unfolding bind
changes_bind ps s t d is cpu = changes_then ps s _ _ (changes_body ps s t _ is refl) (changes_cpu ps _ d.0 _ (inr cpu) (inl (refl, refl)))

pub changes_unbind : (ps : List Part) (s : State) (t : ℕ) (b : CpuId) → HasThread ps t → HasCpu ps b.0 → ChangesOnly ps s (unbind s t b)
unfolding unbind
changes_unbind ps s t b is cpu = changes_then ps s _ _ (changes_body ps s t _ is refl) (changes_cpu ps _ b.0 _ (inr cpu) (inl (refl, refl)))
