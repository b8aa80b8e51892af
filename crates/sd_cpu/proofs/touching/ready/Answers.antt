use Rattle.std.proofs.Common.{[], ◌∷◌, subst}
use Rattle.sd_types.specs.declared.numbers.SetId.{SetId}
use Rattle.sd_store.specs.Parts.{cpu_part, real_time_part}
use Rattle.sd_cpu.specs.Has.{Has}
use Rattle.sd_cpu.proofs.HasLemmas.{also}
use Rattle.sd_cpu.proofs.touching.ready.Goals as goal

pub returns : goal.returns
returns c = λ n s shown.
    subst (λ (p : SetId). Has c.args.x.now c.real_time.result (cpu_part c.args.d ∷ real_time_part p ∷ [])) (c.set_on.ensures n s shown)
    (also c.args.x.now c.real_time.result (cpu_part c.args.d) _ c.in_ok-cpu.ensures.0 c.real_time.ensures)
