use Rattle.std.proofs.Common.{List, arith}
use Rattle.std.specs.Prelude.{nat_eq}
use Rattle.std.specs.List.{list_any}
use Rattle.sd_types.specs.declared.numbers.CpuId.{CpuId}
use Rattle.sd_lines.specs.Words.{Word}
use Rattle.sd_declare.specs.Kept.{set_kept}
use Rattle.sd_declare.proofs.PlaceLemmas.{any_kept}
use Rattle.sd_declare.proofs.sets.is_taken_cpu.Goals as goal

pub returns : goal.returns
returns c =
    let kept = any_kept set_kept (λ (s : Word × List CpuId). list_any (λ (e : CpuId). nat_eq e.0 c.args.cpu) s.1) c.args.d.now.sets.items in
    grind (arith, kept)
