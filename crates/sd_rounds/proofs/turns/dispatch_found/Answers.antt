use Rattle.std.proofs.Common.{◌≡◌, ℕ, Some, None, refl, sym, ap, ◌∙◌}
use Rattle.sd_types.specs.declared.events.Event.TheVariants.{Dispatch}
use Rattle.sd_types.specs.declared.numbers.ThreadId.{ThreadId}
use Rattle.sd_state.specs.declared.states.State.{State}
use Rattle.sd_machine.specs.declared.plans.Plan.TheVariants.{Make}
use Rattle.sd_machine.specs.Dispatching.{dispatch_plan}
use Rattle.sd_hand.specs.Ranked.{ranked_in}
use Rattle.sd_rounds.proofs.turns.dispatch_found.Goals as goal

dispatched : (t : ThreadId) (p : ℕ) (s : State) (u : ℕ) → Some (t, p) ≡ Some (ranked_in s u) → Make (Dispatch t p) ≡ dispatch_plan s (Some u)
dispatched t p s u e = let same : (t, p) ≡ ranked_in s u = cc in ap (λ (found : ThreadId × ℕ). Make (Dispatch found.0 found.1)) same

pub returns-in-None : goal.returns-in-None
returns-in-None c s None e = refl
returns-in-None c s (Some u) e = absurd cc

pub returns-in-Some : goal.returns-in-Some
returns-in-Some c s None e = absurd cc
returns-in-Some c s (Some u) e = dispatched c.in-Some.t c.in-Some.p s u (sym c.in-Some.is ∙ e)
