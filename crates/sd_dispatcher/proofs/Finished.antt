-- An operation is over before its thread leaves its processor: that gives the state that it gives when it is over afterwards.
use Rattle.std.proofs.Common.{◌≡◌, ℕ, List, Option, refl, sym, ap, ◌∙◌}
use Rattle.std.specs.Prelude.{slice_set}
use Rattle.sd_types.specs.declared.numbers.CpuId.{CpuId}
use Rattle.sd_types.specs.declared.numbers.ThreadId.{ThreadId}
use Rattle.sd_types.specs.declared.bodies.ThreadBody.{ThreadBody}
use Rattle.sd_types.specs.declared.works.Work.{Work}
use Rattle.sd_types.specs.Priorities.{eff}
use Rattle.sd_state.specs.declared.states.Place.{Place}
use Rattle.sd_state.specs.declared.states.Place.TheVariants.{Running}
use Rattle.sd_state.specs.declared.states.State.{State}
use Rattle.sd_state.specs.declared.states.ThreadState.{ThreadState}
use Rattle.sd_state.specs.States.{cpu_of, thread_of, eff_of}
use Rattle.sd_state.specs.Operations.{op_over, script_of}
use Rattle.sd_machine.specs.Bodies.{departed}
use Rattle.sd_machine.specs.Changes.{back_key, finish_op, leave, unmarked}
use Rattle.sd_machine.specs.Dispatching.{yielded}
use Rattle.sd_machine.proofs.PlaceLemmas.{kept_place}
use Rattle.sd_store.proofs.TickLemmas.{twice}
use Rattle.sd_dispatcher.specs.Touched.{queue_for}

pub finished_left : (w : Work) (s : State) (c t : ℕ) (place : Place) → leave (finish_op w s t) c t place ≡ finish_op w (leave s c t place) t
unfolding finish_op leave
finished_left w s c t place =
    let over : ThreadState → ThreadState = λ x. record x { body = op_over (script_of w t) x.body } in
    let gone : ThreadState → ThreadState = λ x. record { body = departed (cpu_of s c).count x.body; place = place } in
    ap (λ (xs : List ThreadState). record s { threads = xs; cpus = slice_set s.cpus c (unmarked (cpu_of s c)) })
    (twice over gone s.threads t ∙ sym (twice gone over s.threads t))

pub runs_finished : (w : Work) (s : State) (t : ThreadId) (c : CpuId) → (thread_of s t.0).place ≡ Running c → (thread_of (finish_op w s t.0) t.0).place ≡ Running c
unfolding finish_op
runs_finished w s t c runs = kept_place s t.0 t.0 (record (thread_of s t.0) { body = op_over (script_of w t.0) (thread_of s t.0).body }) refl ∙ runs

-- a thread that leaves for its queue by what its body was before
pub left_yielded : (w : Work) (s : State) (n : ℕ) (c : CpuId) (t : ℕ) (b : ThreadBody) (p : ℕ) (bound : Option CpuId)
    → b ≡ (thread_of s t).body → p ≡ eff b → bound ≡ b.bound → leave (finish_op w s t) c.0 t (queue_for w t c (back_key n) p bound) ≡ yielded w s n c t
unfolding yielded
left_yielded w s n c t b p bound is e f =
    let r = finish_op w s t in
    ap (λ (q : ℕ). leave r c.0 t (queue_for w t c (back_key n) q bound)) e ∙ ap (λ (o : Option CpuId). leave r c.0 t (queue_for w t c (back_key n) (eff b) o)) f
    ∙ ap (λ (x : ThreadBody). leave r c.0 t (queue_for w t c (back_key n) (eff x) x.bound)) is
    ∙ finished_left w s c.0 t (queue_for w t c (back_key n) (eff_of s t) (thread_of s t).body.bound)
