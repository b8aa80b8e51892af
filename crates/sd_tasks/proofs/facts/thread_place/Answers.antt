use Rattle.std.proofs.Common.{arith}
use Rattle.sd_types.specs.Works.{same_bytes}
use Rattle.sd_lines.specs.Said.{word_of}
use Rattle.sd_declare.proofs.PlaceLemmas.{place_kept}
use Rattle.sd_tasks.specs.Above.{Member, thread_place}
use Rattle.sd_tasks.specs.Kept.{member_kept}
use Rattle.sd_tasks.proofs.facts.thread_place.Goals as goal

pub returns : goal.returns
unfolding thread_place
returns c =
    let kept = place_kept member_kept (λ (m : Member). same_bytes m.name (word_of c.args.name.now)) c.args.facts.now.threads.items in
    grind (arith, kept)
