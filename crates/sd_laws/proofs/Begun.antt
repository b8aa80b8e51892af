-- The walks that an event begins, takes on or ends.
use Rattle.std.proofs.Common.{◌≡◌, ℕ, ◌<◌, Bool, ◌||◌, List, length, get_or, Option, Some, None, refl, sym, ap, ◌∙◌, subst, inl, inr}
use Rattle.std.specs.Prelude.{Ok, ℤ}
use Rattle.sd_types.specs.declared.numbers.CpuId.{CpuId}
use Rattle.sd_types.specs.declared.numbers.LockId.{LockId}
use Rattle.sd_types.specs.declared.numbers.ThreadId.{ThreadId}
use Rattle.sd_types.specs.declared.classes.ClassParms.{ClassParms}
use Rattle.sd_types.specs.declared.events.Denied.{Denied}
use Rattle.sd_types.specs.declared.events.Duty.{Duty}
use Rattle.sd_types.specs.declared.events.Duty.TheVariants as duty
use Rattle.sd_types.specs.declared.events.Event.{Event}
use Rattle.sd_types.specs.declared.events.Event.TheVariants.{Block, Will, End as WalkEnd, Prio}
use Rattle.sd_types.specs.declared.events.PrioAnswer.TheVariants.{Changed, Refused}
use Rattle.sd_types.specs.declared.events.Put.{Put}
use Rattle.sd_types.specs.declared.scripts.Op.TheVariants as op
use Rattle.sd_types.specs.declared.scripts.Request.{Request}
use Rattle.sd_types.specs.declared.works.Work.{Work}
use Rattle.sd_machine.specs.Graphs as G
use Rattle.sd_state.proofs.KeyLemmas.{IsPut}
use Rattle.sd_machine.proofs.Moves.{put_cases}
use Rattle.sd_state.specs.declared.states.Place.{Place}
use Rattle.sd_state.specs.declared.states.Place.TheVariants.{Waiting}
use Rattle.sd_state.specs.declared.states.ThreadState.{ThreadState}
use Rattle.sd_state.specs.declared.states.State.{State}
use Rattle.sd_state.specs.States.{no_thread, thread_of, cpu_of, eff_of}
use Rattle.sd_state.specs.Operations.{op_of}
use Rattle.sd_machine.specs.Threads.{greatest_waiting}
use Rattle.sd_machine.specs.Changes.{back_key, set_class, set_number, set_looped, set_duty}
use Rattle.sd_machine.specs.Requeueing.{reordered}
use Rattle.sd_machine.specs.Walking.{is_back, next_walk, walked, willed, walk_ended}
use Rattle.sd_machine.specs.Prioritising.{answer_to, new_class, walk_from, changed_by, changed_on, reprioritised}
use Rattle.sd_machine.specs.LockGraph.{wait_of, walk_of}
use Rattle.sd_machine.specs.Events.{dropped_duty, drop_ageing, effect, after}
use Rattle.sd_machine.proofs.ShapeLemmas.{IsShaped, then_shape, set_class_shape, set_number_shape, set_looped_shape, reordered_shape}
use Rattle.sd_frames.proofs.CpuWords as C
use Rattle.sd_frames.proofs.LockTable as T
use Rattle.sd_frames.proofs.LockTable.{duty_part, duty_marks}
use Rattle.sd_frames.proofs.Parts.{same_put, put_same, same_is_put}
use Rattle.sd_frames.proofs.PassLemmas.{drop_duties}
use Rattle.sd_frames.proofs.ReleaseLemmas.{drop_shape}
use Rattle.sd_laws.proofs.Fields.{same_threads}
use Rattle.sd_laws.proofs.WalkTable.{walk_part, walk_marks, Walks, drop_walks}

-- processor c has this walk, or none, and the others have theirs
pub record WalkIs (s r : State) (c : ℕ) (v : Option G.Walk) : Type 0 where
  pub put : IsPut c v (C.of_cpus walk_part s) (C.of_cpus walk_part r)

pub duty_walk : (s r : State) (c : ℕ) (d : Duty) → T.DutyIs s r c d → WalkIs s r c (walk_of d)
duty_walk s r c d a = record { put = record { at = ap walk_of a.put.at; others = λ e other. ap walk_of (a.put.others e other) } }

pub walks_then : (s r q : State) (c : ℕ) (v : Option G.Walk) → Walks s r → WalkIs r q c v → WalkIs s q c v
walks_then s r q c v a b = record { put = same_put c v a.each b.put }

then_walks : (s r q : State) (c : ℕ) (v : Option G.Walk) → WalkIs s r c v → Walks r q → WalkIs s q c v
then_walks s r q c v a b = record { put = put_same c v a.put b.each }

pub none_walks : (s r : State) (c : ℕ) → WalkIs s r c None → walk_of (cpu_of s c).duty ≡ None → Walks s r
none_walks s r c a free = record {
  each = λ d. elim (put_cases c None _ _ a.put d) [
    | inl me ↦ me.1 ∙ sym (ap (λ e. walk_of (cpu_of s e).duty) me.0 ∙ free)
    | inr other ↦ other.1
  ];
}

-- A thread blocks: a walk begins at the lock.

pub block_walk : (w : Work) (s : State) (n : ℕ) (c : CpuId) (t : ThreadId) (l : LockId) → c.0 < length s.cpus
    → WalkIs s (after w s n c (Block t l)) c.0 (Some (record { lock = l.0; seek = t.0; key = back_key n }))
unfolding after effect
block_walk w s n c t l here =
    walks_then s (drop_ageing s c.0 (Block t l)) _ c.0 _ (drop_walks s c.0 (Block t l))
    (duty_walk _ _ c.0 _ (T.blocked_duty w (drop_ageing s c.0 (Block t l)) n c t.0 l (T.cpu_there s _ c.0 (drop_shape s c.0 (Block t l)) here)))

-- A thread gets other class parameters: a walk begins where it waits.

abbrev pub begun : ThreadId → Option G.Wait → Option G.Walk
begun u None = None
begun u (Some v) = Some (record { lock = v.lock; seek = u.0; key = v.key })

walk_from_walk : (s : State) (c : CpuId) (u : ThreadId) (p : Place) → c.0 < length s.cpus → walk_of (cpu_of s c.0).duty ≡ None → WalkIs s (walk_from s c u p) c.0 (begun u (wait_of p))
walk_from_walk s c u (Waiting l side k) here free = duty_walk s _ c.0 (duty.Walk l u k) (T.set_duty_is s c.0 (duty.Walk l u k) here)
walk_from_walk s c u p here free = record { put = same_is_put c.0 None (λ e. refl) free }

changed_by_walk : (w : Work) (s : State) (n : ℕ) (c : CpuId) (u : ThreadId) (at : Option Put) (parms : ClassParms) → c.0 < length s.cpus → walk_of (cpu_of s c.0).duty ≡ None
    → WalkIs s (changed_by w s n c u at (Ok parms)) c.0 (begun u (wait_of (thread_of s u.0).place))
changed_by_walk w s n c u at parms here free =
    let x : State = reordered w (set_class s u.0 (new_class w s u.0 parms)) n u.0 (eff_of s u.0) at in
    let a : Walks s x = C.then_kept walk_part s (set_class s u.0 (new_class w s u.0 parms)) _ (C.set_class_kept walk_part walk_marks s u.0 _) (C.reordered_kept walk_part walk_marks w _ n u.0 (eff_of s u.0) at) in
    let shape : IsShaped s x = then_shape s _ _ (set_class_shape s u.0 (new_class w s u.0 parms)) (reordered_shape w _ n u.0 (eff_of s u.0) at) in
    walks_then s x _ c.0 _ a (walk_from_walk x c u (thread_of s u.0).place (T.cpu_there s x c.0 shape here) (a.each c.0 ∙ free))

reprioritised_walk : (w : Work) (s : State) (n : ℕ) (c : CpuId) (t : ℕ) (u v : ThreadId) (r : Request) (p : ℕ) (at : Option Put) (parms : ClassParms)
    → op_of w t (thread_of s t).body ≡ Some (op.Prio v r) → answer_to w s t u.0 r ≡ Ok parms → c.0 < length s.cpus → walk_of (cpu_of s c.0).duty ≡ None
    → WalkIs s (reprioritised w s n c t u (Changed p at)) c.0 (begun u (wait_of (thread_of s u.0).place))
unfolding reprioritised
reprioritised_walk w s n c t u v r p at parms asks ok here free =
    then_walks s (changed_on w s n c t u at (op_of w t (thread_of s t).body)) _ c.0 _
    (subst (λ o. WalkIs s (changed_on w s n c t u at o) c.0 (begun u (wait_of (thread_of s u.0).place))) (sym asks)
    (subst (λ a. WalkIs s (changed_by w s n c u at a) c.0 (begun u (wait_of (thread_of s u.0).place))) (sym ok) (changed_by_walk w s n c u at parms here free)))
    (C.finish_op_kept walk_part walk_marks w _ t)

pub prio_walk : (w : Work) (s : State) (n : ℕ) (c : CpuId) (t u v : ThreadId) (r : Request) (p : ℕ) (at : Option Put) (parms : ClassParms)
    → op_of w t.0 (thread_of s t.0).body ≡ Some (op.Prio v r) → answer_to w s t.0 u.0 r ≡ Ok parms → c.0 < length s.cpus → walk_of (cpu_of s c.0).duty ≡ None
    → WalkIs s (after w s n c (Prio t u (Changed p at))) c.0 (begun u (wait_of (thread_of s u.0).place))
unfolding after effect drop_ageing set_duty
prio_walk w s n c t u v r p at parms asks ok here free =
    let e : Event = Prio t u (Changed p at) in
    let a : Walks s (drop_ageing s c.0 e) = drop_walks s c.0 e in
    let b : WalkIs (drop_ageing s c.0 e) (reprioritised w (drop_ageing s c.0 e) n c t.0 u (Changed p at)) c.0 (begun u (wait_of (thread_of s u.0).place)) =
    reprioritised_walk w (drop_ageing s c.0 e) n c t.0 u v r p at parms asks ok (T.cpu_there s _ c.0 (drop_shape s c.0 e) here) (a.each c.0 ∙ free) in
    record { put = same_put c.0 _ a.each b.put }

refused_walks : (w : Work) (s : State) (n : ℕ) (c : CpuId) (t : ℕ) (u : ThreadId) (denied : Denied) → Walks s (reprioritised w s n c t u (Refused denied))
unfolding reprioritised
refused_walks w s n c t u denied = C.finish_op_kept walk_part walk_marks w s t

pub refused_prio_walks : (w : Work) (s : State) (n : ℕ) (c : CpuId) (t u : ThreadId) (denied : Denied) → Walks s (after w s n c (Prio t u (Refused denied)))
unfolding after effect
refused_prio_walks w s n c t u denied = C.then_kept walk_part s (drop_ageing s c.0 (Prio t u (Refused denied))) _ (drop_walks s c.0 (Prio t u (Refused denied))) (refused_walks w _ n c t.0 u denied)

-- A walk goes on, or ends.

willed_duty : (w : Work) (s : State) (n : ℕ) (c : CpuId) (l : LockId) (o : ThreadId) (at : Option Put) → c.0 < length s.cpus
    → T.DutyIs s (willed w s n c l o at) c.0 (next_walk (cpu_of s c.0).duty o (thread_of s o.0).body.looped (thread_of s o.0).place)
unfolding willed
willed_duty w s n c l o at here =
    let b : Bool = (thread_of s o.0).body.looped || is_back (cpu_of s c.0).duty o (thread_of s o.0).place in
    let x : State = set_looped (set_number s o.0 l (greatest_waiting l.0 s.threads)) o.0 b in
    let a : C.Kept duty_part s x = C.then_kept duty_part s _ _ (C.set_number_kept duty_part duty_marks s o.0 l (greatest_waiting l.0 s.threads)) (C.set_looped_kept duty_part duty_marks _ o.0 b) in
    let shape : IsShaped s x = then_shape s _ _ (set_number_shape s o.0 l (greatest_waiting l.0 s.threads)) (set_looped_shape _ o.0 b) in
    T.then_duties s (walked s c l o) _ c.0 _ (T.duties_then s x _ c.0 _ a (T.set_duty_is x c.0 _ (T.cpu_there s x c.0 shape here))) (C.reordered_kept duty_part duty_marks w _ n o.0 (eff_of s o.0) at)

-- the duty after an entry that takes a walk on, where the processor had that of the walk
pub will_duty : (w : Work) (s : State) (n : ℕ) (c : CpuId) (l : LockId) (o : ThreadId) (p : ℕ) (at : Option Put) (seek : ThreadId) (key : ℤ) → c.0 < length s.cpus → (cpu_of s c.0).duty ≡ duty.Walk l seek key
    → T.DutyIs s (after w s n c (Will l o p at)) c.0 (next_walk (duty.Walk l seek key) o (thread_of s o.0).body.looped (thread_of s o.0).place)
unfolding after effect
will_duty w s n c l o p at seek key here is = by (drop_ageing s c.0 (Will l o p at)) kept (same_threads s c.0 (Will l o p at)) (T.cpu_there s _ c.0 (drop_shape s c.0 (Will l o p at)) here)
  where
    kept : C.Kept duty_part s (drop_ageing s c.0 (Will l o p at))
    kept = drop_duties s c.0 (Will l o p at) (ap (λ d. dropped_duty (Will l o p at) d) is ∙ sym is)

    by : (q : State) → C.Kept duty_part s q → q.threads ≡ s.threads → c.0 < length q.cpus → T.DutyIs s (willed w q n c l o at) c.0 (next_walk (duty.Walk l seek key) o (thread_of s o.0).body.looped (thread_of s o.0).place)
    by q a threads inside = T.duties_then s q _ c.0 _ a
        (subst (λ (xs : List ThreadState). T.DutyIs q (willed w q n c l o at) c.0 (next_walk (duty.Walk l seek key) o (get_or xs o.0 no_thread).body.looped (get_or xs o.0 no_thread).place)) threads
        (subst (λ d. T.DutyIs q (willed w q n c l o at) c.0 (next_walk d o (thread_of q o.0).body.looped (thread_of q o.0).place)) (a.each c.0 ∙ is) (willed_duty w q n c l o at inside)))

walk_ended_duty : (s : State) (c : CpuId) → c.0 < length s.cpus → T.DutyIs s (walk_ended s c) c.0 duty.Nothing
unfolding walk_ended
walk_ended_duty s c here = T.set_duty_is s c.0 duty.Nothing here

pub end_duty : (w : Work) (s : State) (n : ℕ) (c : CpuId) (l : LockId) (seek : ThreadId) (key : ℤ) → c.0 < length s.cpus → (cpu_of s c.0).duty ≡ duty.Walk l seek key → T.DutyIs s (after w s n c (WalkEnd l)) c.0 duty.Nothing
unfolding after effect
end_duty w s n c l seek key here is =
    T.duties_then s (drop_ageing s c.0 (WalkEnd l)) _ c.0 _ (drop_duties s c.0 (WalkEnd l) (ap (λ d. dropped_duty (WalkEnd l) d) is ∙ sym is))
    (walk_ended_duty _ c (T.cpu_there s _ c.0 (drop_shape s c.0 (WalkEnd l)) here))
