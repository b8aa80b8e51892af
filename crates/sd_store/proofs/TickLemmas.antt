-- A tick and the class state after it: one change of the body gives the state that two changes give.
use Rattle.std.proofs.Common.{◌≡◌, ℕ, zero, suc, List, [], ◌∷◌, refl, ap, subst, sym}
use Rattle.std.specs.Prelude.{Result, Ok, Err, slice_index_or, slice_set}
use Rattle.sd_types.specs.declared.classes.ClassState.{ClassState}
use Rattle.sd_types.specs.declared.numbers.ThreadId.{ThreadId}
use Rattle.sd_types.specs.declared.works.Work.{Work}
use Rattle.sd_state.specs.declared.states.State.{State}
use Rattle.sd_state.specs.declared.states.ThreadState.{ThreadState}
use Rattle.sd_state.specs.States.{no_thread, thread_of}
use Rattle.sd_state.specs.Operations.{ran, script_of}
use Rattle.sd_machine.specs.Bodies.{ticked_class, with_class}
use Rattle.sd_machine.specs.Changes.{run_tick, set_class, with_body}
use Rattle.sd_machine.specs.Needs.{CanFinish}
use Rattle.sd_store.specs.Words.{Does}

abbrev pub read : List ThreadState → ℕ → ThreadState
read xs t = slice_index_or xs t no_thread

-- one thread changes twice
pub twice : (f g : ThreadState → ThreadState) (xs : List ThreadState) (t : ℕ)
    → slice_set (slice_set xs t (f (read xs t))) t (g (read (slice_set xs t (f (read xs t))) t)) ≡ slice_set xs t (g (f (read xs t)))
twice f g [] t = refl
twice f g (x ∷ xs) zero = refl
twice f g (x ∷ xs) (suc t) = ap (λ (ys : List ThreadState). x ∷ ys) (twice f g xs t)

pub ticked_once : (w : Work) (s : State) (t : ℕ) (class : ClassState)
    → set_class (run_tick w s t) t class ≡ with_body s t (with_class (ran (script_of w t) (thread_of s t).body) class)
unfolding run_tick set_class
ticked_once w s t class =
    let runs : ThreadState → ThreadState = λ x. record x { body = ran (script_of w t) x.body } in
    let classed : ThreadState → ThreadState = λ x. record x { body = with_class x.body class } in
    ap (λ (xs : List ThreadState). record s { threads = xs }) (twice runs classed s.threads t)

-- what one change does, two do
pub does_ticked : {A L : Type 0} (shows shows' : ℕ → State → Type 0) (r : Result A L) (w : Work) (t : ThreadId)
    → Does shows shows' r (λ s. CanFinish w s t) (λ s. with_body s t.0 (with_class (ran (script_of w t.0) (thread_of s t.0).body) (ticked_class w (thread_of s t.0).body.class)))
    → Does shows shows' r (λ s. CanFinish w s t) (λ s. set_class (run_tick w s t.0) t.0 (ticked_class w (thread_of s t.0).body.class))
does_ticked shows shows' (Ok a) w t does =
    λ n s shown can. subst (λ (q : State). shows' n q) (sym (ticked_once w s t.0 (ticked_class w (thread_of s t.0).body.class))) (does n s shown can)
does_ticked shows shows' (Err q) w t does = tt
