use Rattle.std.proofs.Common.{arith, ◌&&◌}
use Rattle.sd_types.specs.Works.{same_bytes}
use Rattle.sd_lines.specs.Said.{word_of}
use Rattle.sd_declare.proofs.PlaceLemmas.{any_kept}
use Rattle.sd_tasks.specs.Above.{Member, is_gated}
use Rattle.sd_tasks.specs.Kept.{member_kept}
use Rattle.sd_tasks.proofs.facts.is_gate.Goals as goal

pub returns : goal.returns
returns c =
    let kept = any_kept member_kept (λ (m : Member). is_gated m && same_bytes m.name (word_of c.args.name.now)) c.args.facts.now.threads.items in
    grind (arith, kept)
