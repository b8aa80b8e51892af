-- The events that change a set or a binding: what they leave of places, priorities and marks.
use Rattle.std.proofs.Common.{◌≡◌, ◌≢◌, ℕ, ◌<◌, ◌≤◌, Bool, true, false, not, ◌&&◌, ◌||◌, List, length, set, Option, Some, None, is_none, refl, sym, ap, ◌∙◌, subst, inl, inr, arith}
use Rattle.std.specs.Prelude.{if◌then◌else◌, is_some, nat_lt, ◌==◌}
use Rattle.std.proofs.lemmas.Bool.{cases_eq, eqb-true, or_parts}
use Rattle.std.proofs.lemmas.Bool.Decides.{nat_tests}
use Rattle.std.proofs.lemmas.List.{length-set, get_or-set_same}
use Rattle.sd_basics.proofs.Numbers.{same_itself}
use Rattle.sd_types.specs.declared.numbers.CpuId.{CpuId}
use Rattle.sd_types.specs.declared.numbers.SetId.{SetId}
use Rattle.sd_types.specs.declared.events.AssignAnswer.TheVariants as assign
use Rattle.sd_types.specs.declared.events.BindAnswer.TheVariants as bind_answer
use Rattle.sd_types.specs.declared.events.Put.{Put}
use Rattle.sd_types.specs.declared.works.Work.{Work}
use Rattle.sd_state.specs.declared.states.Place.{Place}
use Rattle.sd_state.specs.declared.states.Place.TheVariants.{Running}
use Rattle.sd_state.specs.declared.states.CpuState.{CpuState}
use Rattle.sd_state.specs.declared.states.ThreadState.{ThreadState}
use Rattle.sd_state.specs.declared.states.State.{State}
use Rattle.sd_state.specs.States.{no_thread, no_cpu, thread_of, cpu_of, with_cpu, is_running, set_of, eff_of}
use Rattle.sd_state.proofs.OpeningSets.{same_set}
use Rattle.sd_machine.specs.Threads.{open_of, with_open, runner, has_ended}
use Rattle.sd_machine.specs.Changes.{with_cpu_in, without_cpu, with_body, place_put, set_kernel_mark, put, put_where, close, join, bind, unbind}
use Rattle.sd_machine.specs.Prioritising.{is_privileged, uid_of}
use Rattle.sd_machine.specs.SetChanges.{assign_answer, cleared, assigned, joined, is_misbound, is_closing, bind_put, bind_to, called_back, rebound, pbound}
use Rattle.sd_machine.proofs.HolderLemmas.{count_one}
use Rattle.sd_machine.proofs.Moves.{IsSame}
use Rattle.sd_frames.proofs.Parts.{same_item}
use Rattle.sd_frames.proofs.Words.{of_threads}
use Rattle.sd_frames.proofs.PlaceTable.{place_part}
use Rattle.sd_frames.proofs.HoldTable.{bound_part}
use Rattle.sd_invariants.proofs.BoundLemmas.{is_bound_at, bound_threads}
use Rattle.sd_laws.proofs.Alike.{weight_part, heft, marks_part, IsBusy, MoreMarks, more_same, Alike, all_calm, calm_alike, busy_by, set_kernel_mark_alike, finish_op_calm}
use Rattle.sd_laws.proofs.Goes.{All, Puts, put_puts, puts_alike}

-- Threads stand where they stood with their priorities, and marks may be set where a thread runs.
pub record Stands (s r : State) : Type 0 where
  pub many : length r.threads ≡ length s.threads
  pub cpus : length r.cpus ≡ length s.cpus
  pub places : IsSame (of_threads place_part s) (of_threads place_part r)
  pub weights : IsSame (of_threads weight_part s) (of_threads weight_part r)
  pub marks : MoreMarks s r

pub alike_stands : (s r : State) → Alike s r → Stands s r
alike_stands s r a = record { many = a.keeps.many; cpus = a.keeps.cpus; places = a.keeps.places; weights = a.weights; marks = a.marks }

same_stands : (s : State) → Stands s s
same_stands s = record { many = refl; cpus = refl; places = λ v. refl; weights = λ v. refl; marks = more_same s s (λ v. refl) }

busy_back : (s r : State) (d : ℕ) → Stands s r → IsBusy r d → IsBusy s d
busy_back s r d a b = record { who = b.who; runs = ap (is_running d) (sym (a.places b.who)) ∙ b.runs }

pub then_stands : (s r q : State) → Stands s r → Stands r q → Stands s q
then_stands s r q a b = record {
  many = b.many ∙ a.many;
  cpus = b.cpus ∙ a.cpus;
  places = λ u. b.places u ∙ a.places u;
  weights = λ u. b.weights u ∙ a.weights u;
  marks = record {
    kernel = λ d e. b.marks.kernel d (a.marks.kernel d e);
    marks = λ d e. b.marks.marks d (a.marks.marks d e);
    fresh = λ d e. elim (b.marks.fresh d e) [ inl was ↦ a.marks.fresh d was | inr busy ↦ inr (busy_back s r d a busy) ];
  };
}

-- one thread or processor is written, but for places, priorities and marks
body_stands : (s : State) (t : ℕ) (x : ThreadState) → x.place ≡ (thread_of s t).place → weight_part x ≡ weight_part (thread_of s t) → Stands s (record s { threads = set s.threads t x })
body_stands s t x place weight = record {
  many = length-set s.threads t x;
  cpus = refl;
  places = same_item place_part s.threads no_thread t x place;
  weights = same_item weight_part s.threads no_thread t x weight;
  marks = more_same s _ (λ u. refl);
}

cpu_stands : (s : State) (c : ℕ) (y : CpuState) → marks_part y ≡ marks_part (cpu_of s c) → Stands s (with_cpu s c y)
cpu_stands s c y its_marks = record {
  many = refl;
  cpus = length-set s.cpus c y;
  places = λ u. refl;
  weights = λ u. refl;
  marks = more_same s _ (same_item marks_part s.cpus no_cpu c y its_marks);
}

-- Sets.

open_stands : (s : State) (p : ℕ) (cpus : List CpuId) → Stands s (with_open s p cpus)
open_stands s p cpus = record { many = refl; cpus = refl; places = λ u. refl; weights = λ u. refl; marks = more_same s _ (λ u. refl) }

close_stands : (s : State) (d : CpuId) (to : SetId) → Stands s (close s d to)
unfolding close
close_stands s d to = then_stands s _ _ (open_stands s (cpu_of s d.0).set.0 (without_cpu d (open_of s (cpu_of s d.0).set.0))) (cpu_stands (with_open s (cpu_of s d.0).set.0 (without_cpu d (open_of s (cpu_of s d.0).set.0))) d.0 (record (cpu_of s d.0) { closing = Some to }) refl)

join_stands : (s : State) (c : CpuId) (to : SetId) → Stands s (join s c to)
unfolding join
join_stands s c to = then_stands s _ _ (open_stands s to.0 (with_cpu_in c (open_of s to.0))) (cpu_stands (with_open s to.0 (with_cpu_in c (open_of s to.0))) c.0 (record (cpu_of s c.0) { set = to; closing = None }) refl)

pub joined_stands : (s : State) (c : CpuId) (to : SetId) → Stands s (joined s c to)
unfolding joined
joined_stands s c to = join_stands s c to

cleared_alike : (s : State) (d : CpuId) → Alike s (cleared s d (runner s d.0))
cleared_alike s d = by (runner s d.0) refl
  where
    by : (o : Option ℕ) → runner s d.0 ≡ o → Alike s (cleared s d o)
    by None e = calm_alike s s (all_calm s)
    by (Some r) e = set_kernel_mark_alike s d.0 (busy_by s d.0 r e)

runner_closed : (s : State) (d : CpuId) (to : SetId) → runner (close s d to) d.0 ≡ runner s d.0
unfolding close runner
runner_closed s d to = refl

pub assigned_stands : (w : Work) (s : State) (t : ℕ) (d : CpuId) (to : SetId) → Stands s (assigned w s t d to assign.Changed)
unfolding assigned
assigned_stands w s t d to =
    then_stands s (close s d to) _ (close_stands s d to) (then_stands _ (cleared (close s d to) d (runner s d.0)) _
    (subst (λ o. Stands (close s d to) (cleared (close s d to) d o)) (runner_closed s d to) (alike_stands _ _ (cleared_alike (close s d to) d)))
    (alike_stands _ _ (calm_alike _ _ (finish_op_calm w _ t))))

-- nobody is bound to a processor that may close
granted_assignment : (w : Work) (s : State) (t : ℕ) (d : CpuId) (to : SetId) → assign.Changed ≡ assign_answer w s t d to → nat_lt 0 (cpu_of s d.0).bound ≡ false
unfolding assign_answer
granted_assignment w s t d to e = by (not (is_privileged w t)) ((cpu_of s d.0).set.0 == to.0) (is_some (cpu_of s d.0).closing) (length (open_of s (cpu_of s d.0).set.0) == 1) (nat_lt 0 (cpu_of s d.0).bound) e
  where
    by : (a b c one n : Bool) → assign.Changed ≡ (if a then assign.EPERM else if b then assign.EINVAL else if (c || one || n) then assign.EBUSY else assign.Changed) → n ≡ false
    by true b c one n e = cc
    by false true c one n e = cc
    by false false true one n e = cc
    by false false false true n e = cc
    by false false false false true e = cc
    by false false false false false e = refl

pub none_bound : (w : Work) (s : State) (t : ℕ) (d : CpuId) (to : SetId) → assign.Changed ≡ assign_answer w s t d to → (cpu_of s d.0).bound ≡ bound_threads s d.0 → (u : ℕ) → u < length s.threads → (f : CpuId) → (thread_of s u).body.bound ≡ Some f → f.0 ≢ d.0
none_bound w s t d to answer counts u inside f is same =
    let zero : nat_lt 0 (cpu_of s d.0).bound ≡ false = granted_assignment w s t d to answer in
    let none : (cpu_of s d.0).bound ≤ 0 = grind (arith, nat_tests) in
    let one = count_one (λ v. is_bound_at d.0 (bound_part (thread_of s v))) u (length s.threads) inside (ap (is_bound_at d.0) is ∙ ap (λ i. i == d.0) same ∙ same_itself d.0) in
    omega (arith, none, counts, one)

-- Bindings.

bind_stands : (s : State) (t : ℕ) (d : CpuId) → Stands s (bind s t d)
unfolding bind
bind_stands s t d = then_stands s (with_body s t (record (thread_of s t).body { bound = Some d })) _ (body_stands s t (record (thread_of s t) { body = record (thread_of s t).body { bound = Some d } }) refl refl) (cpu_stands _ d.0 _ refl)

unbind_stands : (s : State) (t : ℕ) (b : CpuId) → Stands s (unbind s t b)
unfolding unbind
unbind_stands s t b = then_stands s (with_body s t (record (thread_of s t).body { bound = None })) _ (body_stands s t (record (thread_of s t) { body = record (thread_of s t).body { bound = None } }) refl refl) (cpu_stands _ b.0 _ refl)

called_stands : (s : State) (d : CpuId) (u : ℕ) (place : Place) → (thread_of s u).place ≡ place → Stands s (called_back s d place)
called_stands s d u (Running c) is = by (c.0 == d.0)
  where
    by : (b : Bool) → Stands s (if b then s else set_kernel_mark s c.0)
    by true = same_stands s
    by false = alike_stands s _ (set_kernel_mark_alike s c.0 (record { who = u; runs = ap (is_running c.0) is ∙ same_itself c.0 }))
called_stands s d u place is = same_stands s

pub rebound_stands : (s : State) (u : ℕ) (d b : Option CpuId) → Stands s (rebound s u d b)
rebound_stands s u (Some d) b = then_stands s (bind s u d) _ (bind_stands s u d) (called_stands (bind s u d) d u (thread_of s u).place ((bind_stands s u d).places u))
rebound_stands s u None (Some b) = unbind_stands s u b
rebound_stands s u None None = same_stands s

-- a thread that runs elsewhere is called back
pub called_kernel : (s : State) (u : ℕ) (d : CpuId) (b : Option CpuId) (c : CpuId) → c.0 < length s.cpus → (thread_of s u).place ≡ Running c → d.0 ≢ c.0 → (cpu_of (rebound s u (Some d) b) c.0).kernel ≡ true
unfolding set_kernel_mark
called_kernel s u d b c inside is other =
    let q : State = bind s u d in
    let many = (bind_stands s u d).cpus in
    subst (λ p. (cpu_of (called_back q d p) c.0).kernel ≡ true) (sym is)
    (subst (λ v. (cpu_of (if v then q else with_cpu q c.0 (record (cpu_of q c.0) { kernel = true })) c.0).kernel ≡ true) (sym apart)
    (ap (λ (x : CpuState). x.kernel) (get_or-set_same q.cpus c.0 (record (cpu_of q c.0) { kernel = true }) no_cpu (omega (arith, inside, many)))))
  where
    apart : (c.0 == d.0) ≡ false
    apart = let unlike : c.0 ≢ d.0 = (λ e. other (sym e)) in grind (arith, nat_tests)

-- what a binding that is granted asks
pub record IsBindable (w : Work) (s : State) (u : ℕ) (d : CpuId) : Type 0 where
  pub free : (thread_of s u).body.bound ≡ None
  pub own : (cpu_of s d.0).set ≡ set_of w u
  pub stays_open : (cpu_of s d.0).closing ≡ None

granted_binding : (w : Work) (s : State) (t u : ℕ) (d : Option CpuId) (at : Option Put) → bind_answer.Changed at ≡ bind_to w s t u d → (is_misbound w s u (thread_of s u).body.bound d ≡ false) × (is_closing s d ≡ false)
unfolding bind_to
granted_binding w s t u d at e = by (has_ended (thread_of s u).place) (is_misbound w s u (thread_of s u).body.bound d) (not (is_privileged w t) && not (uid_of w t == uid_of w u)) (is_closing s d) e
  where
    by : (a b c x : Bool) → bind_answer.Changed at ≡ (if a then bind_answer.ESRCH else if b then bind_answer.EINVAL else if c then bind_answer.EPERM else if x then bind_answer.EBUSY else bind_answer.Changed (bind_put s u d)) → (b ≡ false) × (x ≡ false)
    by true b c x e = cc
    by false true c x e = cc
    by false false true x e = cc
    by false false false true e = cc
    by false false false false e = (refl, refl)

pub bindable : (w : Work) (s : State) (t u : ℕ) (d : CpuId) (at : Option Put) → bind_answer.Changed at ≡ bind_to w s t u (Some d) → IsBindable w s u d
bindable w s t u d at e =
    let tests = granted_binding w s t u (Some d) at e in
    record {
      free = unbound (thread_of s u).body.bound (or_parts (is_some (thread_of s u).body.bound) _ tests.0).0;
      own = same_set (cpu_of s d.0).set (set_of w u) (eqb-true (cpu_of s d.0).set.0 (set_of w u).0 (unnot ((cpu_of s d.0).set.0 == (set_of w u).0) (or_parts (is_some (thread_of s u).body.bound) _ tests.0).1));
      stays_open = opened (cpu_of s d.0).closing tests.1;
    }
  where
    unbound : (b : Option CpuId) → is_some b ≡ false → b ≡ None
    unbound None e = refl
    unbound (Some x) e = cc

    opened : (b : Option SetId) → is_some b ≡ false → b ≡ None
    opened None e = refl
    opened (Some x) e = cc

    unnot : (a : Bool) → not a ≡ false → a ≡ true
    unnot true e = refl
    unnot false e = cc

pub unbindable : (w : Work) (s : State) (t u : ℕ) (at : Option Put) → bind_answer.Changed at ≡ bind_to w s t u None → (b : CpuId) × ((thread_of s u).body.bound ≡ Some b)
unbindable w s t u at e = by (thread_of s u).body.bound refl (granted_binding w s t u None at e).0
  where
    by : (o : Option CpuId) → (thread_of s u).body.bound ≡ o → is_none o ≡ false → (b : CpuId) × ((thread_of s u).body.bound ≡ Some b)
    by None is f = cc
    by (Some b) is f = (b, is)

-- What a binding that is granted comes to: the thread stays, or is put on a queue.
abbrev pub BindIs : Work → State → State → ℕ → ℕ → Option Put → Type 0
BindIs w s r n u None = Stands s r
BindIs w s r n u (Some a) = (q : State) × Stands s q × Puts All q r u (place_put w n u a) (weight_part (thread_of q u))

pub pbound_is : (w : Work) (s0 s : State) (n t u : ℕ) (d : Option CpuId) (at : Option Put) → Stands s0 s → u < length s0.threads → BindIs w s0 (pbound w s n t u d (bind_answer.Changed at)) n u at
unfolding pbound put_where
pbound_is w s0 s n t u d None before inside =
    then_stands s0 s _ before (then_stands s (rebound s u d (thread_of s u).body.bound) _ (rebound_stands s u d (thread_of s u).body.bound) (alike_stands _ _ (calm_alike _ _ (finish_op_calm w _ t))))
pbound_is w s0 s n t u d (Some a) before inside =
    let q : State = rebound s u d (thread_of s u).body.bound in
    let there : Stands s0 q = then_stands s0 s q before (rebound_stands s u d (thread_of s u).body.bound) in
    let many = there.many in
    (q, there, puts_alike All q (put w q n u a) _ u _ _ (put_puts w q n u a (omega (arith, many, inside))) (calm_alike _ _ (finish_op_calm w _ t)))

-- where the thread stands then
abbrev pub place_bound : Work → State → ℕ → ℕ → Option Put → Place
place_bound w s n u None = (thread_of s u).place
place_bound w s n u (Some a) = place_put w n u a

module _ (w : Work) (s r : State) (n u : ℕ) where
  pub bind_place : (at : Option Put) → BindIs w s r n u at → (thread_of r u).place ≡ place_bound w s n u at
  bind_place None is = is.places u
  bind_place (Some a) is = is.2.goes.places.at

  pub bind_others : (at : Option Put) → BindIs w s r n u at → (v : ℕ) → v ≢ u → (thread_of r v).place ≡ (thread_of s v).place
  bind_others None is v other = is.places v
  bind_others (Some a) is v other = is.2.goes.places.others v other ∙ is.1.places v

  pub bind_eff : (at : Option Put) → BindIs w s r n u at → (v : ℕ) → eff_of r v ≡ eff_of s v
  bind_eff None is v = ap heft (is.weights v)
  bind_eff (Some a) is v = elim (cases_eq v u) [
    | inl same ↦ subst (λ i. eff_of r i ≡ eff_of s i) (sym same) (ap heft (is.2.goes.weights.at ∙ is.1.weights u))
    | inr other ↦ ap heft (is.2.goes.weights.others v other ∙ is.1.weights v)
  ]

  pub bind_kernel : (at : Option Put) → BindIs w s r n u at → (d : ℕ) → (cpu_of s d).kernel ≡ true → (cpu_of r d).kernel ≡ true
  bind_kernel None is d e = is.marks.kernel d e
  bind_kernel (Some a) is d e = is.2.goes.kernel d tt (is.1.marks.kernel d e)

-- the processor on which it runs elsewhere is marked
pub pbound_kernel : (w : Work) (s : State) (n t u : ℕ) (d c : CpuId) → c.0 < length s.cpus → (thread_of s u).place ≡ Running c → d.0 ≢ c.0 → (cpu_of (pbound w s n t u (Some d) (bind_answer.Changed None)) c.0).kernel ≡ true
unfolding pbound put_where
pbound_kernel w s n t u d c inside is other =
    ap (λ (x : Bool × Bool). x.1) ((finish_op_calm w (rebound s u (Some d) (thread_of s u).body.bound) t).marks c.0) ∙ called_kernel s u d (thread_of s u).body.bound c inside is other
