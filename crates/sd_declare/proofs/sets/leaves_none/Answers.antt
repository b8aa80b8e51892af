use Rattle.std.proofs.Common.{List, length, arith}
use Rattle.std.proofs.lemmas.Bool.Decides.{nat_tests}
use Rattle.sd_types.specs.declared.numbers.CpuId.{CpuId}
use Rattle.sd_lines.specs.Words.{Word}
use Rattle.sd_declare.specs.Kept.{set_kept}
use Rattle.sd_declare.proofs.PlaceLemmas.{sum_kept}
use Rattle.sd_declare.proofs.sets.leaves_none.Goals as goal

pub returns-clause-value : goal.returns-clause-value
returns-clause-value c =
    let kept = sum_kept set_kept (λ (s : Word × List CpuId). length s.1) c.args.d.now.sets.items in
    grind (arith, nat_tests, kept)
