-- What holds of a run that was made holds of what is returned of it.
use Rattle.std.proofs.Common.{◌≡◌, List, Result, Ok, Err, sym, ap, ◌∙◌, subst}
use Rattle.std.specs.Prelude.{IfErr, IfOk, IsErrOf, OnOk}
use Rattle.sd_types.specs.declared.events.Entry.{Entry}
use Rattle.sd_types.specs.declared.events.Stop.{Stop}
use Rattle.sd_types.specs.declared.events.Stop.TheVariants.{Full, Memory}
use Rattle.sd_types.specs.declared.works.Work.{Work}
use Rattle.sd_state.specs.declared.states.State.{State}
use Rattle.sd_state.specs.Opening.{opening}
use Rattle.sd_machine.specs.Runs.{final, IsComplete}
use Rattle.sd_rounds.specs.declared.rounds.Finished.{Finished}

pub finished : (r : Result Finished Stop) (es : List Entry) (P : List Entry → Type 0) → IfOk r (λ z. z.entries.items ≡ es) → P es → IfOk r (λ z. P z.entries.items)
finished (Ok z) es P same is = subst P (sym same) is
finished (Err stop) es P same is = tt

pub finished_state : (w : Work) (r : Result Finished Stop) (es : List Entry) → IfOk r (λ z. z.entries.items ≡ es) → IfOk r (λ z. z.state ≡ final w (opening w) es)
    → IfOk r (λ z. z.state ≡ final w (opening w) z.entries.items)
finished_state w (Ok z) es same is = is ∙ ap (final w (opening w)) (sym same)
finished_state w (Err stop) es same is = tt

pub finished_complete : (w : Work) (r : Result Finished Stop) (s : State) → IfOk r (λ z. z.state ≡ s) → IsComplete w s → IfOk r (λ z. IsComplete w z.state)
finished_complete w (Ok z) s same is = subst (IsComplete w) (sym same) is
finished_complete w (Err stop) s same is = tt

pub not_full : {P : Type 0} (r : Result Finished Stop) → IfErr r (λ stop. stop ≡ Memory) → IsErrOf r Full → P
not_full (Ok z) memory is_full = absurd cc
not_full (Err stop) memory is_full = absurd cc

pub whenever : {P : Type 0} (r : Result Finished Stop) → P → OnOk r P
whenever (Ok z) is = is
whenever (Err stop) is = tt
