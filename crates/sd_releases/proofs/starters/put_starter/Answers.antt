use Rattle.std.proofs.Common.{ℕ, List, ◌∷◌, [], ◌++◌, ap, ◌∙◌}
use Rattle.std.specs.Prelude.{codes}
use Rattle.sd_tasks.specs.Kept.{above_kept}
use Rattle.sd_tasks.specs.Written.{written}
use Rattle.sd_tasks.specs.WrittenKept.{lines_kept}
use Rattle.sd_releases.specs.Starters.{starter_ops, starter_script}
use Rattle.sd_releases.proofs.ScriptLemmas.{block_written}
use Rattle.sd_releases.proofs.starters.put_starter.Goals as goal

pub returns : goal.returns
unfolding starter_script
returns c =
    let old = lines_kept c.args.lines.now.items in
    let head = c.in_ok-push_parts.ensures ∙ ap (λ (name : List ℕ). old ++ written (codes "script " ++ name) c.args.number ∷ []) (c.deref.ensures.value ∙ c.in_ok-name.ensures) in
    let ops = c.in_ok-put_starter_ops.ensures
    ∙ ap (λ (p : ℕ). lines_kept c.push_parts.new.lines.items ++ starter_ops (above_kept c.args.facts.now) c.args.number p) c.partition.ensures in
    block_written old _ _ _ _ _ _ head ops c.in_ok-push_end.ensures
