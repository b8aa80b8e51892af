-- The initial state is a state of a run without entries.
use Rattle.std.proofs.Common.{◌≡◌, subst, sym}
use Rattle.sd_types.specs.declared.works.Work.{Work}
use Rattle.sd_state.specs.declared.states.State.{State}
use Rattle.sd_state.specs.Opening.{opening}
use Rattle.sd_machine.specs.Runs.{IsReached}
use Rattle.sd_invariants.proofs.Induction.{opening_reached}

pub first_reached : (w : Work) (s : State) → s ≡ opening w → IsReached w 0 s
first_reached w s is = subst (λ x. IsReached w 0 x) (sym is) (opening_reached w)
