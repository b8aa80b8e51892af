use Rattle.std.proofs.Common.{arith}
use Rattle.sd_types.specs.Works.{same_bytes}
use Rattle.sd_lines.specs.Words.{Word}
use Rattle.sd_lines.specs.Said.{word_of}
use Rattle.sd_declare.proofs.PlaceLemmas.{any_kept}
use Rattle.sd_tasks.proofs.facts.is_chan_name.Goals as goal

pub returns : goal.returns
returns c =
    let kept = any_kept word_of (λ (k : Word). same_bytes k (word_of c.args.name.now)) c.args.facts.now.chans.items in
    grind (arith, kept)
