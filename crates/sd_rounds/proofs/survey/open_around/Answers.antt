use Rattle.std.proofs.Common.{ap, ◌∙◌}
use Rattle.sd_machine.specs.Threads.{open_of}
use Rattle.sd_store.specs.declared.parts.CpuView.{CpuView}
use Rattle.sd_rounds.proofs.survey.open_around.Goals as goal

pub returns-in-Ok-open_cpus-clause-value : goal.returns-in-Ok-open_cpus-clause-value
returns-in-Ok-open_cpus-clause-value c = λ n s sh. c.in-Ok-open_cpus.ensures.value n s sh ∙ ap (λ (v : CpuView). open_of s v.set.0) (c.in-Ok.ensures.value n s sh)
