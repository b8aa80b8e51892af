-- What changes of a thread or of a processor leave as it was: the operation at which a thread stands, its place, all threads,
-- and the set of each processor.
use Rattle.std.proofs.Common.{◌≡◌, ℕ, ◌<◌, Bool, true, false, length, List, Option, Some, None, refl, sym, ap, ◌∙◌, subst, arith}
use Rattle.std.proofs.lemmas.Grind.{common_steps}
use Rattle.std.specs.Prelude.{slice_index_or}
use Rattle.sd_types.specs.declared.classes.ClassState.{ClassState}
use Rattle.sd_types.specs.declared.events.Put.{Put}
use Rattle.sd_types.specs.declared.works.Work.{Work}
use Rattle.sd_state.specs.declared.states.CpuState.{CpuState}
use Rattle.sd_state.specs.declared.states.State.{State}
use Rattle.sd_state.specs.declared.states.ThreadState.{ThreadState}
use Rattle.sd_state.specs.States.{thread_of, cpu_of, no_thread, with_cpu, with_thread, eff_of}
use Rattle.sd_state.specs.Operations.{script_of}
use Rattle.sd_machine.specs.Changes.{cpu_put, mark_over, place_put, priority_or_zero, put, put_where, remark, rivals, runs_below, set_class, set_mark, with_place}
use Rattle.sd_machine.specs.Threads.{best_ready, priority_of, runner}

-- One thread, one processor.

-- a change of one thread that keeps its operation
pub kept_op : (s : State) (u t : ℕ) (x : ThreadState) → x.body.op ≡ (thread_of s u).body.op → (thread_of (with_thread s u x) t).body.op ≡ (thread_of s t).body.op
kept_op s u t x same = grind (arith, common_steps)

-- a change of one thread that keeps its class state
pub kept_class : (s : State) (u t : ℕ) (x : ThreadState) → x.body.class ≡ (thread_of s u).body.class → (thread_of (with_thread s u x) t).body.class ≡ (thread_of s t).body.class
kept_class s u t x same = grind (arith, common_steps)

-- a change of one processor that keeps its set
pub kept_set : (s : State) (c d : ℕ) (x : CpuState) → x.set ≡ (cpu_of s c).set → (cpu_of (with_cpu s c x) d).set ≡ (cpu_of s d).set
kept_set s c d x same = grind (arith, common_steps)

-- a thread that stands at one of its operations still does where it stands at the same
pub inside : (w : Work) (s r : State) (t : ℕ) → (thread_of r t).body.op ≡ (thread_of s t).body.op → (thread_of s t).body.op < length (script_of w t)
    → (thread_of r t).body.op < length (script_of w t)
inside w s r t same here = subst (λ (m : ℕ). m < length (script_of w t)) (sym same) here

-- All threads.

pub same_op : (s r : State) (t : ℕ) → r.threads ≡ s.threads → (thread_of r t).body.op ≡ (thread_of s t).body.op
same_op s r t e = ap (λ (xs : List ThreadState). (slice_index_or xs t no_thread).body.op) e

pub same_place : (s r : State) (t : ℕ) → r.threads ≡ s.threads → (thread_of r t).place ≡ (thread_of s t).place
same_place s r t e = ap (λ (xs : List ThreadState). (slice_index_or xs t no_thread).place) e

mark_threads : (s : State) (c m : ℕ) → (set_mark s c m).threads ≡ s.threads
unfolding set_mark
mark_threads s c m = refl

pub over_threads : (s : State) (c m : ℕ) → (mark_over s c m).threads ≡ s.threads
unfolding mark_over
over_threads s c m = by (runs_below m (priority_of s (runner s c))) refl
  where
    by : (b : Bool) → runs_below m (priority_of s (runner s c)) ≡ b → (mark_over s c m).threads ≡ s.threads
    by true e = rw e (mark_threads s c m)
    by false e = rw e refl

pub remark_threads : (s : State) (c : ℕ) → (remark s c).threads ≡ s.threads
unfolding remark
remark_threads s c = by (rivals (priority_of s (best_ready s c)) (priority_of s (runner s c))) refl
  where
    by : (b : Bool) → rivals (priority_of s (best_ready s c)) (priority_of s (runner s c)) ≡ b → (remark s c).threads ≡ s.threads
    by true e = rw e (mark_threads s c (priority_or_zero (priority_of s (best_ready s c))))
    by false e = rw e refl

-- Changes of threads.

-- each thread stands at the same operation
abbrev pub Keeps : State → State → Type 0
Keeps s r = (t : ℕ) → (thread_of r t).body.op ≡ (thread_of s t).body.op

pub class_op : (s : State) (u : ℕ) (class : ClassState) → Keeps s (set_class s u class)
unfolding set_class
class_op s u class t = kept_op s u t _ refl

pub put_op : (w : Work) (s : State) (n u : ℕ) (at : Put) → Keeps s (put w s n u at)
unfolding put
put_op w s n u at t =
    let r = with_place s u (place_put w n u at) in
    same_op r (mark_over r (cpu_put at).0 (eff_of s u)) t (over_threads r (cpu_put at).0 (eff_of s u))
    ∙ kept_op s u t (record (thread_of s u) { place = place_put w n u at }) refl

pub where_op : (w : Work) (s : State) (n u : ℕ) (at : Option Put) → Keeps s (put_where w s n u at)
unfolding put_where
where_op w s n u None t = refl
where_op w s n u (Some at) t = put_op w s n u at t
