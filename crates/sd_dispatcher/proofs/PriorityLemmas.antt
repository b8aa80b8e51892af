-- The priority of a thread in another class state is told by its body before: of one that has woken up, and of one that was aged.
use Rattle.std.proofs.Common.{◌≡◌, ℕ, zero, suc, List, [], ◌∷◌, refl, sym, ap}
use Rattle.std.specs.Prelude.{slice_set}
use Rattle.sd_types.specs.declared.classes.ClassState.{ClassState}
use Rattle.sd_types.specs.declared.works.Work.{Work}
use Rattle.sd_types.specs.Priorities.{eff, eff_as}
use Rattle.sd_state.specs.declared.states.State.{State}
use Rattle.sd_state.specs.declared.states.ThreadState.{ThreadState}
use Rattle.sd_state.specs.States.{no_body, thread_of, eff_of}
use Rattle.sd_machine.specs.Bodies.{aged_class, woken_class}
use Rattle.sd_machine.specs.Changes.{set_class}
use Rattle.sd_machine.specs.Sleeping.{woken_priority}
use Rattle.sd_store.proofs.TickLemmas.{read}

abbrev classed : (ClassState → ClassState) → ThreadState → ThreadState
classed f x = record x { body = record x.body { class = f x.body.class } }

-- where the class of one that is no thread stays
by_list : (f : ClassState → ClassState) → f no_body.class ≡ no_body.class → (xs : List ThreadState) (t : ℕ)
    → eff (read (slice_set xs t (classed f (read xs t))) t).body ≡ eff_as (f (read xs t).body.class) (read xs t).body
by_list f same [] t = ap (λ (k : ClassState). eff_as k no_body) (sym same)
by_list f same (x ∷ xs) zero = refl
by_list f same (x ∷ xs) (suc t) = by_list f same xs t

pub woken_effective : (w : Work) (s : State) (t : ℕ) → eff_of (set_class s t (woken_class w (thread_of s t).body.class)) t ≡ woken_priority w s t
unfolding set_class
woken_effective w s t = by_list (woken_class w) refl s.threads t

pub aged_effective : (w : Work) (s : State) (t : ℕ) → eff_of (set_class s t (aged_class w (thread_of s t).body.class)) t ≡ eff_as (aged_class w (thread_of s t).body.class) (thread_of s t).body
unfolding set_class
aged_effective w s t = by_list (aged_class w) refl s.threads t
