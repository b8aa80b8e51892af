use Rattle.std.proofs.Common.{List, ap, ◌∙◌, w64}
use Rattle.std.proofs.lemmas.Int.{to_z-of_z}
use Rattle.std.specs.Prelude.{ℤ}
use Rattle.sd_state.specs.declared.states.ThreadState.{ThreadState}
use Rattle.sd_flat.specs.declared.standings.Standing.TheVariants as standing
use Rattle.sd_machine.specs.Threads.{best_sleeper_below}
use Rattle.sd_flat.specs.Standings.{best_standing}
use Rattle.sd_flat.proofs.scans.best_sleeper_below.Goals as goal

pub returns-clause-value : goal.returns-clause-value
unfolding best_sleeper_below best_standing
returns-clause-value c small =
    c.thread_at.ensures.value small ∙ c.best_standing.ensures.value ∙ ap (λ (z : ℤ). best_standing (standing.AsleepBelow c.args.k z) c.items.result.now) (to_z-of_z w64 c.args.below c.ranges.below)
    ∙ ap (λ (xs : List ThreadState). best_standing (standing.AsleepBelow c.args.k c.args.below) xs) c.items.ensures
