use Rattle.std.proofs.Common.{List, ap, ◌∙◌}
use Rattle.sd_state.specs.declared.states.ThreadState.{ThreadState}
use Rattle.sd_flat.specs.declared.standings.Standing.TheVariants as standing
use Rattle.sd_state.specs.declared.states.CpuState.{CpuState}
use Rattle.sd_machine.specs.Threads.{best_ready}
use Rattle.sd_flat.specs.Standings.{best_standing}
use Rattle.sd_flat.proofs.scans.best_ready.Goals as goal

pub returns-clause-value : goal.returns-clause-value
unfolding best_ready best_standing
returns-clause-value c small =
    c.thread_at.ensures.value small ∙ c.best_standing.ensures.value ∙ ap (λ (xs : List ThreadState). best_standing (standing.Ready c.args.c c.cpu_of.result.set) xs) c.items.ensures
    ∙ ap (λ (x : CpuState). best_standing (standing.Ready c.args.c x.set) c.args.s.now.threads) c.cpu_of.ensures
