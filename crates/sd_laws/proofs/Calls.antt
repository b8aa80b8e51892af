-- A processor is marked on which a thread runs with a smaller priority than one that is ready: behind a tick with which the quantum
-- expires, and where the priority of the running thread may have fallen.
use Rattle.std.proofs.Common.{◌≡◌, ℕ, ◌<◌, ◌≤◌, Bool, true, false, [], ◌∷◌, length, Option, Some, None, refl, sym, ap, ◌∙◌, arith}
use Rattle.std.specs.Prelude.{if◌then◌else◌, nat_lt, nat_le}
use Rattle.std.proofs.lemmas.Bool.{false≢true, or_left}
use Rattle.std.proofs.lemmas.Bool.Decides.{nat_tests}
use Rattle.std.proofs.lemmas.List.{get_or-set_same}
use Rattle.sd_types.specs.declared.classes.ClassState.{ClassState}
use Rattle.sd_types.specs.declared.classes.ClassState.TheVariants.{Ts, Fx, Sys, Rt}
use Rattle.sd_types.specs.declared.works.Work.{Work}
use Rattle.sd_types.specs.Priorities.{base_of, greatest_willed}
use Rattle.sd_types.specs.Willed.{Numbers}
use Rattle.sd_rules.specs.ClassRules.{class_expires, class_requeue, ts_tick, fx_tick, rt_tick}
use Rattle.sd_state.specs.declared.states.State.{State}
use Rattle.sd_state.specs.States.{no_cpu, thread_of, cpu_of, is_running, is_queued, is_real_time, is_ready, eff_of}
use Rattle.sd_state.specs.Best.{best_ready_among as best_of}
use Rattle.sd_machine.specs.Threads.{runner, best_ready, priority_of}
use Rattle.sd_machine.specs.Bodies.{ticked_class}
use Rattle.sd_machine.specs.Changes.{send_back, marked, set_mark, rivals, priority_or_zero, remark}
use Rattle.sd_machine.specs.Dispatching.{is_rivalled, charge}
use Rattle.sd_state.specs.Invariants.{is_marked}
use Rattle.sd_state.proofs.Chosen.{none_ready, best_greatest}
use Rattle.sd_frames.proofs.Found.{runner_found}
use Rattle.sd_frames.proofs.Searches.{nobody_runs}
use Rattle.sd_laws.proofs.Alike.{marked_is}
use Rattle.sd_laws.proofs.Goes.{Single}

-- the best that is ready, as the laws of the first machine speak of it
ready_is : (s : State) (c : ℕ) → best_ready s c ≡ best_of c (cpu_of s c).set.0 s.threads
unfolding best_ready best_of
ready_is s c = refl

queued_ready : (s : State) (c u : ℕ) → is_queued c (thread_of s u).place ≡ true → is_ready c (cpu_of s c).set.0 (thread_of s u).place ≡ true
queued_ready s c u queued = or_left (is_queued c (thread_of s u).place) (is_real_time (cpu_of s c).set.0 (thread_of s u).place) queued

-- where one is queued there is a best, and it has no smaller priority
pub some_ready : (s : State) (c u : ℕ) → is_queued c (thread_of s u).place ≡ true → best_ready s c ≡ None → ⊥
some_ready s c u queued e = none_ready s c (cpu_of s c).set.0 (sym (ready_is s c) ∙ e) u (queued_ready s c u queued)

pub most_ready : (s : State) (c b u : ℕ) → best_ready s c ≡ Some b → is_queued c (thread_of s u).place ≡ true → eff_of s u ≤ eff_of s b
most_ready s c b u e queued = best_greatest s c (cpu_of s c).set.0 b u (sym (ready_is s c) ∙ e) (queued_ready s c u queued)

marked_now : (s : State) (c m : ℕ) → c < length s.cpus → is_marked (cpu_of (set_mark s c m) c) ≡ true
unfolding set_mark
marked_now s c m inside = ap is_marked (get_or-set_same s.cpus c (marked m (cpu_of s c)) no_cpu inside) ∙ marked_is m (cpu_of s c)

back_cpus : (s : State) (t c : ℕ) → c < length s.cpus → c < length (send_back s t).cpus
unfolding send_back
back_cpus s t c inside = inside

pub charge_called : (s : State) (c t u : ℕ) → c < length s.cpus → is_queued c (thread_of s u).place ≡ true → eff_of s t < eff_of s u → is_marked (cpu_of (charge s c t true) c) ≡ true
unfolding charge
charge_called s c t u inside queued less = by (best_ready s c) refl
  where
    by : (o : Option ℕ) → best_ready s c ≡ o → is_marked (cpu_of (if is_rivalled true (eff_of s t) (priority_of s o) then set_mark (send_back s t) c (priority_or_zero (priority_of s o)) else s) c) ≡ true
    by None e = absurd (some_ready s c u queued e)
    by (Some b) e =
        let most = most_ready s c b u e queued in
        let test : nat_le (eff_of s t) (eff_of s b) ≡ true = (let le : eff_of s t ≤ eff_of s b = omega (arith, most, less) in grind (arith, nat_tests)) in
        rw test (marked_now (send_back s t) c (eff_of s b) (back_cpus s t c inside))

pub remark_called : (s : State) (x t u : ℕ) → Single s → x < length s.cpus → is_running x (thread_of s t).place ≡ true → is_queued x (thread_of s u).place ≡ true → eff_of s t < eff_of s u
    → is_marked (cpu_of (remark s x) x) ≡ true
unfolding remark
remark_called s x t u one inside runs queued less = by (best_ready s x) refl (runner s x) refl
  where
    by : (o : Option ℕ) → best_ready s x ≡ o → (p : Option ℕ) → runner s x ≡ p
        → is_marked (cpu_of (if rivals (priority_of s o) (priority_of s p) then set_mark s x (priority_or_zero (priority_of s o)) else s) x) ≡ true
    by None e p f = absurd (some_ready s x u queued e)
    by (Some b) e None f = absurd (false≢true (sym (nobody_runs s x f t) ∙ runs))
    by (Some b) e (Some r) f =
        let most = most_ready s x b u e queued in
        let is : r ≡ t = one x r t (runner_found s x r f).stands runs in
        let same : eff_of s r ≡ eff_of s t = ap (eff_of s) is in
        let test : nat_lt (eff_of s r) (eff_of s b) ≡ true = (let small : eff_of s r < eff_of s b = omega (arith, most, less, same) in grind (arith, nat_tests)) in
        rw test (marked_now s x (eff_of s b) inside)

-- Base priorities.

-- a tick that does not end the quantum leaves the base priority
pub tick_base : (w : Work) (k : ClassState) → class_expires k ≡ false → base_of (ticked_class w k) ≡ base_of k
unfolding ts_tick fx_tick rt_tick
tick_base w (Ts s) goes_on = rw goes_on refl
tick_base w (Fx s) goes_on = refl
tick_base w (Sys s) goes_on = refl
tick_base w (Rt s) goes_on = refl

pub requeue_base : (b : Bool) (k : ClassState) → base_of (class_requeue b k) ≡ base_of k
requeue_base true (Ts s) = refl
requeue_base false (Ts s) = refl
requeue_base b (Fx s) = refl
requeue_base b (Sys s) = refl
requeue_base b (Rt s) = refl

-- with another base priority below a bound the greatest stays below it
pub other_base : (n m most : ℕ) (ws : Numbers) → m < most → greatest_willed n ws < most → greatest_willed m ws < most
other_base n m most [] less all = less
other_base n m most (v ∷ ws) less all = let more = other_base n m most ws less (omega (arith, all)) in omega (arith, more, all)
