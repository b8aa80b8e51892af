use Rattle.std.proofs.Common.{List, ap, ◌∙◌}
use Rattle.sd_state.specs.declared.states.ThreadState.{ThreadState}
use Rattle.sd_state.specs.declared.states.CpuState.{CpuState}
use Rattle.sd_machine.specs.Threads.{first_due}
use Rattle.sd_flat.specs.Standings.{first_over}
use Rattle.sd_flat.proofs.scans.first_due.Goals as goal

pub returns-clause-value : goal.returns-clause-value
unfolding first_due first_over
returns-clause-value c small =
    c.thread_at.ensures.value small ∙ c.first_over.ensures.value ∙ ap (λ (xs : List ThreadState). first_over c.args.c.0 c.cpu_of.result.count xs) c.items.ensures
    ∙ ap (λ (x : CpuState). first_over c.args.c.0 x.count c.args.s.now.threads) c.cpu_of.ensures
