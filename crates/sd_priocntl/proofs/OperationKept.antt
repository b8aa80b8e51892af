-- The operation at which a thread stands is kept where a thread gets other parameters.
use Rattle.std.proofs.Common.{◌≡◌, ℕ, ◌<◌, Bool, true, false, length, Option, Some, refl, ◌∙◌}
use Rattle.std.specs.Prelude.{nat_lt, Result, Ok, Err}
use Rattle.sd_types.specs.declared.numbers.CpuId.{CpuId}
use Rattle.sd_types.specs.declared.numbers.ThreadId.{ThreadId}
use Rattle.sd_types.specs.declared.classes.ClassParms.{ClassParms}
use Rattle.sd_types.specs.declared.classes.ClassState.{ClassState}
use Rattle.sd_types.specs.declared.events.Denied.{Denied}
use Rattle.sd_types.specs.declared.events.Put.{Put}
use Rattle.sd_types.specs.declared.scripts.Op.{Op}
use Rattle.sd_types.specs.declared.scripts.Op.TheVariants.{Prio}
use Rattle.sd_types.specs.declared.works.Work.{Work}
use Rattle.sd_state.specs.declared.states.Place.{Place}
use Rattle.sd_state.specs.declared.states.Place.TheVariants.{Running, Waiting}
use Rattle.sd_state.specs.declared.states.State.{State}
use Rattle.sd_state.specs.States.{thread_of, eff_of}
use Rattle.sd_state.specs.Operations.{script_of}
use Rattle.sd_machine.specs.Changes.{remark, set_class, set_duty}
use Rattle.sd_machine.specs.Prioritising.{answer_to, changed_by, changed_on, changed_to, new_class, walk_from}
use Rattle.sd_machine.specs.Requeueing.{reordered, reordered_at}
use Rattle.sd_dispatcher.proofs.Kept.{Keeps, class_op, inside, remark_threads, same_op, where_op}

reordered_op : (w : Work) (s : State) (n u old : ℕ) (at : Option Put) → Keeps s (reordered w s n u old at)
unfolding reordered
reordered_op w s n u old at t = on (thread_of s u).place
  where
    on : (place : Place) → (thread_of (reordered_at w s n u old at place) t).body.op ≡ (thread_of s t).body.op
    on (Running x) = by (nat_lt (eff_of s u) old) refl
      where
        by : (b : Bool) → nat_lt (eff_of s u) old ≡ b → (thread_of (reordered_at w s n u old at (Running x)) t).body.op ≡ (thread_of s t).body.op
        by true e = rw e (same_op s (remark s x.0) t (remark_threads s x.0))
        by false e = rw e refl
    on _ = where_op w s n u at t

walk_op : (s : State) (c : CpuId) (u : ThreadId) (place : Place) → Keeps s (walk_from s c u place)
unfolding set_duty
walk_op s c u (Waiting l side k) t = refl
walk_op s c u _ t = refl

to_op : (w : Work) (s : State) (n : ℕ) (c : CpuId) (u : ThreadId) (at : Option Put) (class : ClassState) → Keeps s (changed_to w s n c u at class)
to_op w s n c u at class t =
    let r = set_class s u.0 class in
    walk_op (reordered w r n u.0 (eff_of s u.0) at) c u (thread_of s u.0).place t ∙ reordered_op w r n u.0 (eff_of s u.0) at t ∙ class_op s u.0 class t

by_op : (w : Work) (s : State) (n : ℕ) (c : CpuId) (u : ThreadId) (at : Option Put) (a : Result ClassParms Denied) → Keeps s (changed_by w s n c u at a)
by_op w s n c u at (Err denied) t = refl
by_op w s n c u at (Ok parms) t = to_op w s n c u at (new_class w s u.0 parms) t

on_op : (w : Work) (s : State) (n : ℕ) (c : CpuId) (v : ℕ) (u : ThreadId) (at : Option Put) (o : Option Op) → Keeps s (changed_on w s n c v u at o)
on_op w s n c v u at (Some (Prio x r)) t = by_op w s n c u at (answer_to w s v u.0 r) t
on_op w s n c v u at _ t = refl

pub changed_inside : (w : Work) (s : State) (n : ℕ) (c : CpuId) (t : ℕ) (u : ThreadId) (at : Option Put) (o : Option Op) → (thread_of s t).body.op < length (script_of w t)
    → (thread_of (changed_on w s n c t u at o) t).body.op < length (script_of w t)
changed_inside w s n c t u at o here = inside w s (changed_on w s n c t u at o) t (on_op w s n c t u at o t) here
