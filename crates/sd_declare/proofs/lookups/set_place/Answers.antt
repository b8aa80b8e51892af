use Rattle.std.proofs.Common.{List, arith}
use Rattle.sd_types.specs.declared.numbers.CpuId.{CpuId}
use Rattle.sd_types.specs.Works.{same_bytes}
use Rattle.sd_lines.specs.Words.{Word}
use Rattle.sd_lines.specs.Said.{word_of}
use Rattle.sd_declare.specs.Declarations.{set_place}
use Rattle.sd_declare.specs.Kept.{set_kept}
use Rattle.sd_declare.proofs.PlaceLemmas.{place_kept}
use Rattle.sd_declare.proofs.lookups.set_place.Goals as goal

pub returns-clause-value : goal.returns-clause-value
unfolding set_place
returns-clause-value c =
    let kept = place_kept set_kept (λ (x : Word × List CpuId). same_bytes x.0 (word_of c.args.name.now)) c.args.d.now.sets.items in
    grind (arith, kept)
