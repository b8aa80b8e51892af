-- Where a thread runs for a tick, or leaves its processor: the parts that are ready, who runs, and the queue to which the
-- thread goes.
use Rattle.std.proofs.Common.{◌≡◌, ℕ, Bool, true, false, [], ◌∷◌, refl, sym, ap, ◌∙◌}
use Rattle.std.specs.Prelude.{List, Option, Result, Ok, Err, IfErr, nat_le}
use Rattle.sd_types.specs.declared.numbers.CpuId.{CpuId}
use Rattle.sd_types.specs.declared.numbers.SetId.{SetId}
use Rattle.sd_types.specs.declared.numbers.ThreadId.{ThreadId}
use Rattle.sd_types.specs.declared.bodies.ThreadBody.{ThreadBody}
use Rattle.sd_types.specs.declared.classes.ClassState.{ClassState}
use Rattle.sd_types.specs.declared.events.End.{End}
use Rattle.sd_types.specs.declared.scripts.Op.{Op}
use Rattle.sd_types.specs.declared.works.Work.{Work}
use Rattle.sd_types.specs.Priorities.{eff}
use Rattle.sd_state.specs.declared.states.Place.TheVariants.{Running}
use Rattle.sd_state.specs.declared.states.State.{State}
use Rattle.sd_state.specs.States.{thread_of, cpu_of}
use Rattle.sd_state.specs.Operations.{ran, script_of}
use Rattle.sd_rules.specs.ClassRules.{class_expires, class_requeue}
use Rattle.sd_machine.specs.Bodies.{ticked_class}
use Rattle.sd_machine.specs.Changes.{clear_marks, count_tick, counted, key_at, leave, run_tick, set_class}
use Rattle.sd_machine.specs.Dispatching.{charge, preempted, ticked}
use Rattle.sd_machine.specs.Needs.{CanFinish, RunsNobody}
use Rattle.sd_machine.specs.Threads.{runner}
use Rattle.sd_machine.proofs.PlaceLemmas.{class_place}
use Rattle.sd_dispatcher.specs.Touched.{queue_for}
use Rattle.sd_dispatcher.proofs.Kept.{kept_class, kept_set}
use Rattle.sd_store.specs.declared.parts.Part.{Part}
use Rattle.sd_store.specs.Parts.{cpu_part, ready_parts, real_time_part}

pub same_ready : (s r : State) (c : CpuId) → (cpu_of r c.0).set ≡ (cpu_of s c.0).set → ready_parts r c ≡ ready_parts s c
same_ready s r c e = ap (λ (p : SetId). cpu_part c ∷ (real_time_part p ∷ [])) e

pub ready_counted : (w : Work) (s : State) (c d : CpuId) → ready_parts (count_tick w s c.0) d ≡ ready_parts s d
unfolding count_tick
ready_counted w s c d = same_ready s (count_tick w s c.0) d (kept_set s c.0 d.0 (counted w (cpu_of s c.0)) refl)

pub counted_finish : (w : Work) (s : State) (c : ℕ) (t : ThreadId) → CanFinish w s t → CanFinish w (count_tick w s c) t
unfolding count_tick
counted_finish w s c t here = here

pub counted_class : (w : Work) (s : State) (c t : ℕ) (expires : Bool) → expires ≡ class_expires (thread_of s t).body.class → expires ≡ class_expires (thread_of (count_tick w s c) t).body.class
unfolding count_tick
counted_class w s c t expires here = here

pub ready_classed : (s : State) (t : ℕ) (class : ClassState) (d : CpuId) → ready_parts (set_class s t class) d ≡ ready_parts s d
unfolding set_class
ready_classed s t class d = refl

pub ready_ticked : (w : Work) (s : State) (c t : ℕ) (class : ClassState) (d : CpuId) → ready_parts (set_class (run_tick w (count_tick w s c) t) t class) d ≡ ready_parts s d
unfolding count_tick run_tick set_class
ready_ticked w s c t class d = same_ready s (count_tick w s c) d (kept_set s c d.0 (counted w (cpu_of s c)) refl)

-- a tick of the operation leaves the class as it was
ran_class : (ops : List Op) (b : ThreadBody) → (ran ops b).class ≡ b.class
ran_class ops b = by (nat_le b.run_left 1) refl
  where
    by : (d : Bool) → nat_le b.run_left 1 ≡ d → (ran ops b).class ≡ b.class
    by true e = rw e refl
    by false e = rw e refl

tick_class : (w : Work) (s : State) (t : ℕ) → (thread_of (run_tick w s t) t).body.class ≡ (thread_of s t).body.class
unfolding run_tick
tick_class w s t = kept_class s t t (record (thread_of s t) { body = ran (script_of w t) (thread_of s t).body }) (ran_class (script_of w t) (thread_of s t).body)

-- a tick of which the class was read before
pub ticked_by : (w : Work) (s : State) (c t : ℕ) (expires : Bool) → expires ≡ class_expires (thread_of (count_tick w s c) t).body.class
    → charge (set_class (run_tick w (count_tick w s c) t) t (ticked_class w (thread_of (count_tick w s c) t).body.class)) c t expires ≡ ticked w s c t
unfolding ticked
ticked_by w s c t expires e =
    let r = run_tick w (count_tick w s c) t in
    ap (λ (b : Bool). charge (set_class r t (ticked_class w (thread_of (count_tick w s c) t).body.class)) c t b) e
    ∙ ap (λ (k : ClassState). charge (set_class r t (ticked_class w k)) c t (class_expires k)) (sym (tick_class w (count_tick w s c) t))

pub runs_classed : (s : State) (t : ThreadId) (class : ClassState) (c : CpuId) → (thread_of s t.0).place ≡ Running c → (thread_of (set_class s t.0 class) t.0).place ≡ Running c
runs_classed s t class c runs = class_place s t.0 t.0 class ∙ runs

-- a processor without marks runs what it ran
pub free_unmarked : (s : State) (c d : CpuId) → RunsNobody s d → RunsNobody (clear_marks s c.0) d
unfolding runner clear_marks
free_unmarked s c d free = free

-- what was lacking afterwards was lacking before, of a store that has the same parts
pub missed : {A L : Type 0} (r : Result A L) (part : L → Part) (before after : Part → Bool) (P Q : L → Type 0) → after ≡ before → ((q : L) → P q → Q q)
    → IfErr r (λ q. P q × (after (part q) ≡ false)) → IfErr r (λ q. Q q × (before (part q) ≡ false))
missed (Ok a) part before after P Q e f lack = tt
missed (Err q) part before after P Q e f lack = (f q lack.0, sym (ap (λ (has : Part → Bool). has (part q)) e) ∙ lack.1)

-- a thread that leaves for its queue by what its body was before
pub left_preempted : (w : Work) (s : State) (n : ℕ) (c : CpuId) (t : ℕ) (end : End) (b : ThreadBody) (p : ℕ) (bound : Option CpuId) (class : ClassState)
    → b ≡ (thread_of s t).body → p ≡ eff b → bound ≡ b.bound → class ≡ class_requeue b.back b.class
    → leave (set_class s t class) c.0 t (queue_for w t c (key_at n end) p bound) ≡ preempted w s n c t end
unfolding preempted
left_preempted w s n c t end b p bound class is e f g =
    ap (λ (k : ClassState). leave (set_class s t k) c.0 t (queue_for w t c (key_at n end) p bound)) g
    ∙ ap (λ (q : ℕ). leave (set_class s t (class_requeue b.back b.class)) c.0 t (queue_for w t c (key_at n end) q bound)) e
    ∙ ap (λ (o : Option CpuId). leave (set_class s t (class_requeue b.back b.class)) c.0 t (queue_for w t c (key_at n end) (eff b) o)) f
    ∙ ap (λ (x : ThreadBody). leave (set_class s t (class_requeue x.back x.class)) c.0 t (queue_for w t c (key_at n end) (eff x) x.bound)) is
