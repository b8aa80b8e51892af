-- What the changes of a state leave of where threads stand, of what their priorities are made of, and of the sets and marks of
-- processors.
use Rattle.std.proofs.Common.{◌≡◌, ℕ, ◌-◌, ◌<◌, Bool, true, false, ◌||◌, List, length, get_or, set, Option, Some, None, refl, sym, ap, ◌∙◌, subst, inl, inr, ◌⊎◌}
use Rattle.std.specs.Prelude.{if◌then◌else◌, is_some, nat_lt, nat_le}
use Rattle.std.proofs.lemmas.Bool.{cases_eq, cases_lt}
use Rattle.std.proofs.lemmas.List.{length-set, get_or-set_same, get_or-set_other}
use Rattle.std.proofs.lemmas.List.{set_past}
use Rattle.sd_basics.proofs.Truths.{or_always}
use Rattle.sd_types.specs.declared.numbers.CpuId.{CpuId}
use Rattle.sd_types.specs.declared.numbers.LockId.{LockId}
use Rattle.sd_types.specs.declared.numbers.Side.TheVariants.{Writer}
use Rattle.sd_types.specs.declared.numbers.ThreadId.{ThreadId}
use Rattle.sd_types.specs.declared.bodies.ThreadBody.{ThreadBody}
use Rattle.sd_types.specs.declared.classes.ClassState.{ClassState}
use Rattle.sd_types.specs.declared.events.Duty.{Duty}
use Rattle.sd_types.specs.declared.events.Event.{Event}
use Rattle.sd_types.specs.declared.scripts.Op.{Op}
use Rattle.sd_types.specs.declared.works.Work.{Work}
use Rattle.sd_types.specs.Priorities.{base_of, greatest_willed}
use Rattle.sd_types.specs.Willed.{Numbers, without_number, changed_number}
use Rattle.sd_state.specs.declared.states.Place.{Place}
use Rattle.sd_state.specs.declared.states.Place.TheVariants.{Waiting}
use Rattle.sd_state.specs.declared.states.LockState.{LockState}
use Rattle.sd_state.specs.declared.states.LockState.TheVariants.{Free, Owned, ReadHeld, Passing}
use Rattle.sd_state.specs.declared.states.CpuState.{CpuState}
use Rattle.sd_state.specs.declared.states.ThreadState.{ThreadState}
use Rattle.sd_state.specs.declared.states.State.{State}
use Rattle.sd_state.specs.States.{no_thread, no_cpu, thread_of, cpu_of, with_thread, with_cpu, is_running, eff_of}
use Rattle.sd_state.specs.Operations.{script_of, op_over, ran}
use Rattle.sd_machine.specs.Threads.{with_lock, with_count, has_waiters, best_waiter, best_ready, priority_of, runner}
use Rattle.sd_machine.specs.Bodies.{with_class}
use Rattle.sd_machine.specs.Changes.{with_body, finish_op, run_tick, set_class, send_back, hold, let_go, set_number, set_looped, set_duty, count_tick, marked, set_mark, set_kernel_mark, runs_below, mark_over, rivals, priority_or_zero, remark}
use Rattle.sd_machine.specs.Dispatching.{is_rivalled, charge}
use Rattle.sd_machine.specs.Sleeping.{roused_on}
use Rattle.sd_machine.specs.Locking.{free_or_passed, release_from, unblocked_on, passed_on, after_owner, after_reader}
use Rattle.sd_machine.specs.Prioritising.{walk_from}
use Rattle.sd_machine.specs.Events.{drop_ageing}
use Rattle.sd_state.specs.Invariants.{is_marked}
use Rattle.sd_state.proofs.KeyLemmas.{IsPut}
use Rattle.sd_machine.proofs.Moves.{IsSame}
use Rattle.sd_frames.proofs.Parts.{put_item, same_item, put_same, same_put}
use Rattle.sd_frames.proofs.Words.{of_threads}
use Rattle.sd_frames.proofs.CpuWords.{of_cpus}
use Rattle.sd_frames.proofs.PlaceTable.{place_part}
use Rattle.sd_frames.proofs.HoldTable.{bound_part}
use Rattle.sd_invariants.proofs.OpenLemmas.{place_part as set_part}
use Rattle.sd_frames.proofs.Found.{runner_found}

-- What an effective priority is made of.

abbrev pub Weight : Type 0
Weight = ClassState × Numbers

abbrev pub weight_part : ThreadState → Weight
weight_part x = (x.body.class, x.body.willed.items)

-- the effective priority
abbrev pub heft : Weight → ℕ
heft x = greatest_willed (base_of x.0) x.1

-- both marks
abbrev pub marks_part : CpuState → Bool × Bool
marks_part x = (x.user, x.kernel)

-- a thread runs on the processor
pub record IsBusy (s : State) (d : ℕ) : Type 0 where
  pub who : ℕ
  pub runs : is_running d (thread_of s who).place ≡ true

-- Relations of two states.

-- threads stand where they stood, bound as they were, and processors are of the sets of which they were
pub record Keeps (s r : State) : Type 0 where
  pub many : length r.threads ≡ length s.threads
  pub cpus : length r.cpus ≡ length s.cpus
  pub places : IsSame (of_threads place_part s) (of_threads place_part r)
  pub bounds : IsSame (of_threads bound_part s) (of_threads bound_part r)
  pub sets : IsSame (of_cpus set_part s) (of_cpus set_part r)

pub then_keeps : (s r q : State) → Keeps s r → Keeps r q → Keeps s q
then_keeps s r q a b = record { many = b.many ∙ a.many; cpus = b.cpus ∙ a.cpus; places = λ u. b.places u ∙ a.places u; bounds = λ u. b.bounds u ∙ a.bounds u; sets = λ u. b.sets u ∙ a.sets u }

-- who runs in one runs in the other
pub busy_back : (s r : State) (d : ℕ) → Keeps s r → IsBusy r d → IsBusy s d
busy_back s r d k b = record { who = b.who; runs = ap (is_running d) (sym (k.places b.who)) ∙ b.runs }

pub busy_on : (s r : State) (d : ℕ) → Keeps s r → IsBusy s d → IsBusy r d
busy_on s r d k b = record { who = b.who; runs = ap (is_running d) (k.places b.who) ∙ b.runs }

-- marks may be set, and are only where a thread runs
pub record MoreMarks (s r : State) : Type 0 where
  pub kernel : (d : ℕ) → (cpu_of s d).kernel ≡ true → (cpu_of r d).kernel ≡ true
  pub marks : (d : ℕ) → is_marked (cpu_of s d) ≡ true → is_marked (cpu_of r d) ≡ true
  pub fresh : (d : ℕ) → is_marked (cpu_of r d) ≡ true → (is_marked (cpu_of s d) ≡ true) ⊎ IsBusy s d

pub then_more : (s r q : State) → Keeps s r → MoreMarks s r → MoreMarks r q → MoreMarks s q
then_more s r q k a b = record {
  kernel = λ d e. b.kernel d (a.kernel d e);
  marks = λ d e. b.marks d (a.marks d e);
  fresh = λ d e. elim (b.fresh d e) [ inl was ↦ a.fresh d was | inr busy ↦ inr (busy_back s r d k busy) ];
}

pub more_same : (s r : State) → IsSame (of_cpus marks_part s) (of_cpus marks_part r) → MoreMarks s r
more_same s r same = record {
  kernel = λ d e. ap (λ (x : Bool × Bool). x.1) (same d) ∙ e;
  marks = λ d e. ap (λ (x : Bool × Bool). x.0 || x.1) (same d) ∙ e;
  fresh = λ d e. inl (ap (λ (x : Bool × Bool). x.0 || x.1) (sym (same d)) ∙ e);
}

-- nothing of this changes
pub record Calm (s r : State) : Type 0 where
  pub keeps : Keeps s r
  pub marks : IsSame (of_cpus marks_part s) (of_cpus marks_part r)
  pub weights : IsSame (of_threads weight_part s) (of_threads weight_part r)

-- marks are set
pub record Alike (s r : State) : Type 0 where
  pub keeps : Keeps s r
  pub marks : MoreMarks s r
  pub weights : IsSame (of_threads weight_part s) (of_threads weight_part r)

-- the priority of thread t is made of x
pub record Weighs (s r : State) (t : ℕ) (x : Weight) : Type 0 where
  pub keeps : Keeps s r
  pub marks : IsSame (of_cpus marks_part s) (of_cpus marks_part r)
  pub weights : IsPut t x (of_threads weight_part s) (of_threads weight_part r)

-- and marks are set
pub record Weighed (s r : State) (t : ℕ) (x : Weight) : Type 0 where
  pub keeps : Keeps s r
  pub marks : MoreMarks s r
  pub weights : IsPut t x (of_threads weight_part s) (of_threads weight_part r)

pub all_calm : (s : State) → Calm s s
all_calm s = record { keeps = record { many = refl; cpus = refl; places = λ u. refl; bounds = λ u. refl; sets = λ u. refl }; marks = λ u. refl; weights = λ u. refl }

pub then_calm : (s r q : State) → Calm s r → Calm r q → Calm s q
then_calm s r q a b = record { keeps = then_keeps s r q a.keeps b.keeps; marks = λ u. b.marks u ∙ a.marks u; weights = λ u. b.weights u ∙ a.weights u }

pub calm_alike : (s r : State) → Calm s r → Alike s r
calm_alike s r a = record { keeps = a.keeps; marks = more_same s r a.marks; weights = a.weights }

pub then_alike : (s r q : State) → Alike s r → Alike r q → Alike s q
then_alike s r q a b = record { keeps = then_keeps s r q a.keeps b.keeps; marks = then_more s r q a.keeps a.marks b.marks; weights = λ u. b.weights u ∙ a.weights u }

pub calm_weighs : (s r q : State) (t : ℕ) (x : Weight) → Calm s r → Weighs r q t x → Weighs s q t x
calm_weighs s r q t x a b = record { keeps = then_keeps s r q a.keeps b.keeps; marks = λ u. b.marks u ∙ a.marks u; weights = same_put t x a.weights b.weights }

pub weighs_calm : (s r q : State) (t : ℕ) (x : Weight) → Weighs s r t x → Calm r q → Weighs s q t x
weighs_calm s r q t x a b = record { keeps = then_keeps s r q a.keeps b.keeps; marks = λ u. b.marks u ∙ a.marks u; weights = put_same t x a.weights b.weights }

pub weighs_alike : (s r q : State) (t : ℕ) (x : Weight) → Weighs s r t x → Alike r q → Weighed s q t x
weighs_alike s r q t x a b = record { keeps = then_keeps s r q a.keeps b.keeps; marks = then_more s r q a.keeps (more_same s r a.marks) b.marks; weights = put_same t x a.weights b.weights }

pub weighed_alike : (s r q : State) (t : ℕ) (x : Weight) → Weighed s r t x → Alike r q → Weighed s q t x
weighed_alike s r q t x a b = record { keeps = then_keeps s r q a.keeps b.keeps; marks = then_more s r q a.keeps a.marks b.marks; weights = put_same t x a.weights b.weights }

pub either_calm : (s r q : State) (b : Bool) → Calm s r → Calm s q → Calm s (if b then r else q)
either_calm s r q true a b = a
either_calm s r q false a b = b

-- One thread or processor is written.

pub thread_calm : (s : State) (t : ℕ) (x : ThreadState) → x.place ≡ (thread_of s t).place → x.body.bound ≡ (thread_of s t).body.bound → weight_part x ≡ weight_part (thread_of s t) → Calm s (with_thread s t x)
thread_calm s t x place bound weight = record {
  keeps = record {
    many = length-set s.threads t x;
    cpus = refl;
    places = same_item place_part s.threads no_thread t x place;
    bounds = same_item bound_part s.threads no_thread t x bound;
    sets = λ u. refl;
  };
  marks = λ u. refl;
  weights = same_item weight_part s.threads no_thread t x weight;
}

pub body_weighs : (s : State) (t : ℕ) (b : ThreadBody) → t < length s.threads → b.bound ≡ (thread_of s t).body.bound → Weighs s (with_body s t b) t (b.class, b.willed.items)
body_weighs s t b inside bound = record {
  keeps = record {
    many = length-set s.threads t (record (thread_of s t) { body = b });
    cpus = refl;
    places = same_item place_part s.threads no_thread t (record (thread_of s t) { body = b }) refl;
    bounds = same_item bound_part s.threads no_thread t (record (thread_of s t) { body = b }) bound;
    sets = λ u. refl;
  };
  marks = λ u. refl;
  weights = put_item weight_part s.threads no_thread t (record (thread_of s t) { body = b }) inside;
}

pub cpu_calm : (s : State) (c : ℕ) (y : CpuState) → set_part y ≡ set_part (cpu_of s c) → marks_part y ≡ marks_part (cpu_of s c) → Calm s (with_cpu s c y)
cpu_calm s c y its_set its_marks = record {
  keeps = record { many = refl; cpus = length-set s.cpus c y; places = λ u. refl; bounds = λ u. refl; sets = same_item set_part s.cpus no_cpu c y its_set };
  marks = same_item marks_part s.cpus no_cpu c y its_marks;
  weights = λ u. refl;
}

-- a processor that is read is the one that is written, or as it was
pub cpu_cases : (s : State) (c : ℕ) (y : CpuState) (d : ℕ) → ((d ≡ c) × (cpu_of (with_cpu s c y) d ≡ y)) ⊎ (cpu_of (with_cpu s c y) d ≡ cpu_of s d)
cpu_cases s c y d = elim (cases_lt c (length s.cpus)) [
  | inl inside ↦ elim (cases_eq d c) [
    | inl is ↦ inl (is, ap (λ i. get_or (set s.cpus c y) i no_cpu) is ∙ get_or-set_same s.cpus c y no_cpu inside)
    | inr other ↦ inr (get_or-set_other s.cpus c d y no_cpu other)
  ]
  | inr past ↦ inr (ap (λ xs. get_or xs d no_cpu) (set_past s.cpus c y past))
]

-- a processor is marked on which a thread runs
pub mark_more : (s : State) (c : ℕ) (y : CpuState) → ((cpu_of s c).kernel ≡ true → y.kernel ≡ true) → (is_marked (cpu_of s c) ≡ true → is_marked y ≡ true) → IsBusy s c → MoreMarks s (with_cpu s c y)
mark_more s c y kernel marks busy = record {
  kernel = λ d e. elim (cpu_cases s c y d) [
    | inl (is, now) ↦ ap (λ (x : CpuState). x.kernel) now ∙ kernel (subst (λ i. (cpu_of s i).kernel ≡ true) is e)
    | inr same ↦ ap (λ (x : CpuState). x.kernel) same ∙ e
  ];
  marks = λ d e. elim (cpu_cases s c y d) [
    | inl (is, now) ↦ ap is_marked now ∙ marks (subst (λ i. is_marked (cpu_of s i) ≡ true) is e)
    | inr same ↦ ap is_marked same ∙ e
  ];
  fresh = λ d e. elim (cpu_cases s c y d) [
    | inl (is, now) ↦ inr (subst (λ i. IsBusy s i) (sym is) busy)
    | inr same ↦ inl (ap is_marked (sym same) ∙ e)
  ];
}

pub marked_alike : (s : State) (c : ℕ) (y : CpuState) → set_part y ≡ set_part (cpu_of s c) → ((cpu_of s c).kernel ≡ true → y.kernel ≡ true) → (is_marked (cpu_of s c) ≡ true → is_marked y ≡ true) → IsBusy s c → Alike s (with_cpu s c y)
marked_alike s c y its_set kernel marks busy = record {
  keeps = record { many = refl; cpus = length-set s.cpus c y; places = λ u. refl; bounds = λ u. refl; sets = same_item set_part s.cpus no_cpu c y its_set };
  marks = mark_more s c y kernel marks busy;
  weights = λ u. refl;
}

-- Words.

pub lock_calm : (s : State) (l : ℕ) (x : LockState) → Calm s (with_lock s l x)
lock_calm s l x = record { keeps = record { many = refl; cpus = refl; places = λ u. refl; bounds = λ u. refl; sets = λ u. refl }; marks = λ u. refl; weights = λ u. refl }

pub count_calm : (s : State) (k n : ℕ) → Calm s (with_count s k n)
count_calm s k n = record { keeps = record { many = refl; cpus = refl; places = λ u. refl; bounds = λ u. refl; sets = λ u. refl }; marks = λ u. refl; weights = λ u. refl }

pub set_duty_calm : (s : State) (c : ℕ) (d : Duty) → Calm s (set_duty s c d)
unfolding set_duty
set_duty_calm s c d = cpu_calm s c _ refl refl

pub count_tick_calm : (w : Work) (s : State) (c : ℕ) → Calm s (count_tick w s c)
unfolding count_tick
count_tick_calm w s c = cpu_calm s c _ refl refl

pub drop_calm : (s : State) (c : ℕ) (e : Event) → Calm s (drop_ageing s c e)
unfolding drop_ageing
drop_calm s c e = set_duty_calm s c _

pub finish_op_calm : (w : Work) (s : State) (t : ℕ) → Calm s (finish_op w s t)
unfolding finish_op
finish_op_calm w s t = thread_calm s t _ refl refl refl

ran_bound : (ops : List Op) (b : ThreadBody) → (ran ops b).bound ≡ b.bound
ran_bound ops b = elim (nat_le b.run_left 1) as (λ v. (if v then op_over ops b else record b { run_left = b.run_left - 1 }).bound ≡ b.bound) [ true ↦ refl | false ↦ refl ]

ran_weight : (ops : List Op) (b : ThreadBody) (place : Place) → weight_part (record { body = ran ops b; place = place }) ≡ weight_part (record { body = b; place = place })
ran_weight ops b place = elim (nat_le b.run_left 1) as (λ v. weight_part (record { body = if v then op_over ops b else record b { run_left = b.run_left - 1 }; place = place }) ≡ weight_part (record { body = b; place = place })) [ true ↦ refl | false ↦ refl ]

pub run_tick_calm : (w : Work) (s : State) (t : ℕ) → Calm s (run_tick w s t)
unfolding run_tick
run_tick_calm w s t = thread_calm s t _ refl (ran_bound (script_of w t) (thread_of s t).body) (ran_weight (script_of w t) (thread_of s t).body (thread_of s t).place)

pub send_back_calm : (s : State) (t : ℕ) → Calm s (send_back s t)
unfolding send_back
send_back_calm s t = thread_calm s t _ refl refl refl

pub hold_calm : (s : State) (t : ℕ) (l : LockId) → Calm s (hold s t l)
unfolding hold
hold_calm s t l = thread_calm s t _ refl refl refl

pub set_looped_calm : (s : State) (t : ℕ) (b : Bool) → Calm s (set_looped s t b)
unfolding set_looped
set_looped_calm s t b = thread_calm s t _ refl refl refl

pub set_class_weighs : (s : State) (t : ℕ) (k : ClassState) → t < length s.threads → Weighs s (set_class s t k) t (k, (thread_of s t).body.willed.items)
unfolding set_class
set_class_weighs s t k inside = body_weighs s t (with_class (thread_of s t).body k) inside refl

pub set_number_weighs : (s : State) (t : ℕ) (l : LockId) (o : Option ℕ) → t < length s.threads → Weighs s (set_number s t l o) t ((thread_of s t).body.class, changed_number l o (thread_of s t).body.willed.items)
unfolding set_number
set_number_weighs s t l o inside = body_weighs s t _ inside refl

pub let_go_weighs : (s : State) (t : ℕ) (l : LockId) → t < length s.threads → Weighs s (let_go s t l) t ((thread_of s t).body.class, without_number l (thread_of s t).body.willed.items)
unfolding let_go
let_go_weighs s t l inside = body_weighs s t _ inside refl

pub walk_from_calm : (s : State) (c : CpuId) (u : ThreadId) (place : Place) → Calm s (walk_from s c u place)
walk_from_calm s c u (Waiting l side k) = set_duty_calm s c.0 _
walk_from_calm s c u _ = all_calm s

lock_duty_calm : (s : State) (c l : ℕ) (x : LockState) (d : Duty) → Calm s (set_duty (with_lock s l x) c d)
lock_duty_calm s c l x d = then_calm s (with_lock s l x) _ (lock_calm s l x) (set_duty_calm _ c d)

free_or_passed_calm : (s : State) (c : CpuId) (l : LockId) (d : Duty) → Calm s (free_or_passed s c l d)
free_or_passed_calm s c l d = either_calm s _ _ (has_waiters s l.0) (lock_duty_calm s c.0 l.0 (Passing c 0) d) (lock_calm s l.0 Free)

pub release_calm : (w : Work) (s : State) (c : CpuId) (l : LockId) (x : LockState) → Calm s (release_from w s c l x)
release_calm w s c l Free = all_calm s
release_calm w s c l (Owned o) = free_or_passed_calm s c l (after_owner w s l)
release_calm w s c l (ReadHeld n) = either_calm s _ _ (nat_le n 1) (free_or_passed_calm s c l (after_reader s l)) (lock_calm s l.0 (ReadHeld (n - 1)))
release_calm w s c l (Passing d r) = lock_calm s l.0 (Passing d (r - 1))

pub unblocked_on_calm : (s : State) (c : CpuId) (l : LockId) (b : Bool) → Calm s (unblocked_on s c l b)
unblocked_on_calm s c l true = all_calm s
unblocked_on_calm s c l false = lock_duty_calm s c.0 l.0 Free _

pub passed_on_calm : (s : State) (c : CpuId) (l : LockId) (x : LockState) → Calm s (passed_on s c l x)
passed_on_calm s c l (Passing d r) = either_calm s _ _ (nat_lt 0 r) (lock_duty_calm s c.0 l.0 (ReadHeld r) _)
    (either_calm s _ _ (is_some (best_waiter s l.0 Writer)) (set_duty_calm s c.0 _) (lock_duty_calm s c.0 l.0 Free _))
passed_on_calm s c l _ = set_duty_calm s c.0 _

pub roused_on_calm : (s : State) (c : CpuId) (o : Option ℕ) → Calm s (roused_on s c o)
roused_on_calm s c None = set_duty_calm s c.0 _
roused_on_calm s c (Some u) = all_calm s

-- Marks.

kernel_marked : (m : ℕ) (x : CpuState) → x.kernel ≡ true → (marked m x).kernel ≡ true
kernel_marked m x e = elim (nat_le 100 m) as (λ b. (if b then record x { kernel = true } else record x { user = true }).kernel ≡ true) [ true ↦ refl | false ↦ e ]

pub marked_is : (m : ℕ) (x : CpuState) → is_marked (marked m x) ≡ true
marked_is m x = elim (nat_le 100 m) as (λ b. is_marked (if b then record x { kernel = true } else record x { user = true }) ≡ true) [ true ↦ or_always x.user | false ↦ refl ]

marked_set : (m : ℕ) (x : CpuState) → set_part (marked m x) ≡ set_part x
marked_set m x = elim (nat_le 100 m) as (λ b. set_part (if b then record x { kernel = true } else record x { user = true }) ≡ set_part x) [ true ↦ refl | false ↦ refl ]

pub set_mark_alike : (s : State) (c m : ℕ) → IsBusy s c → Alike s (set_mark s c m)
unfolding set_mark
set_mark_alike s c m busy = marked_alike s c (marked m (cpu_of s c)) (marked_set m (cpu_of s c)) (kernel_marked m (cpu_of s c)) (λ e. marked_is m (cpu_of s c)) busy

pub set_kernel_mark_alike : (s : State) (c : ℕ) → IsBusy s c → Alike s (set_kernel_mark s c)
unfolding set_kernel_mark
set_kernel_mark_alike s c busy = marked_alike s c (record (cpu_of s c) { kernel = true }) refl (λ e. refl) (λ e. or_always (cpu_of s c).user) busy

-- the runner that a search finds
pub busy_by : (s : State) (c r : ℕ) → runner s c ≡ Some r → IsBusy s c
busy_by s c r e = record { who = r; runs = (runner_found s c r e).stands }

pub mark_over_alike : (s : State) (x m : ℕ) → Alike s (mark_over s x m)
unfolding mark_over
mark_over_alike s x m = by (runner s x) refl
  where
    by : (o : Option ℕ) → runner s x ≡ o → Alike s (if runs_below m (priority_of s o) then set_mark s x m else s)
    by None e = calm_alike s s (all_calm s)
    by (Some r) e = elim (nat_lt (eff_of s r) m) as (λ b. Alike s (if b then set_mark s x m else s)) [ true ↦ set_mark_alike s x m (busy_by s x r e) | false ↦ calm_alike s s (all_calm s) ]

pub remark_alike : (s : State) (x : ℕ) → Alike s (remark s x)
unfolding remark
remark_alike s x = by (priority_of s (best_ready s x)) (runner s x) refl
  where
    by : (m o : Option ℕ) → runner s x ≡ o → Alike s (if rivals m (priority_of s o) then set_mark s x (priority_or_zero m) else s)
    by None o e = calm_alike s s (all_calm s)
    by (Some m) None e = calm_alike s s (all_calm s)
    by (Some m) (Some r) e = elim (nat_lt (eff_of s r) m) as (λ b. Alike s (if b then set_mark s x m else s)) [ true ↦ set_mark_alike s x m (busy_by s x r e) | false ↦ calm_alike s s (all_calm s) ]

-- the running thread is charged with its tick
pub charge_alike : (s : State) (c t : ℕ) (expired : Bool) → is_running c (thread_of s t).place ≡ true → Alike s (charge s c t expired)
unfolding charge
charge_alike s c t expired runs =
    elim (is_rivalled expired (eff_of s t) (priority_of s (best_ready s c))) as (λ b. Alike s (if b then set_mark (send_back s t) c (priority_or_zero (priority_of s (best_ready s c))) else s)) [
      | true ↦ then_alike s (send_back s t) _ (calm_alike s _ (send_back_calm s t))
          (set_mark_alike _ c _ (busy_on s (send_back s t) c (send_back_calm s t).keeps (record { who = t; runs = runs })))
      | false ↦ calm_alike s s (all_calm s)
    ]
