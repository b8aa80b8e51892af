use Rattle.std.proofs.Common.{List, arith, ℕ}
use Rattle.sd_types.specs.Works.{same_bytes}
use Rattle.sd_lines.specs.Words.{Word}
use Rattle.sd_lines.specs.Said.{word_of}
use Rattle.sd_declare.proofs.PlaceLemmas.{place_kept, place_within}
use Rattle.sd_tasks.specs.Above.{set_place}
use Rattle.sd_tasks.specs.Kept.{set_kept}
use Rattle.sd_tasks.proofs.facts.set_place.Goals as goal

pub returns-clause-value : goal.returns-clause-value
unfolding set_place
returns-clause-value c =
    let kept = place_kept set_kept (λ (s : Word × List ℕ). same_bytes s.0 (word_of c.args.name.now)) c.args.facts.now.sets.items in
    grind (arith, kept)

pub returns-clause-bound : goal.returns-clause-bound
returns-clause-bound c =
    let within = place_within set_kept (λ (s : Word × List ℕ). same_bytes s.0 (word_of c.args.name.now)) c.args.facts.now.sets.items in
    grind (arith, within)
