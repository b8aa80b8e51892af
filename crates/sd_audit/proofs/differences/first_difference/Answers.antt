use Rattle.std.proofs.Common.{◌≡◌, ◌∙◌, rules}
use Rattle.sd_audit.proofs.CommonLemmas.{newlines_are_lines}
use Rattle.sd_audit.proofs.differences.first_difference.Goals as goal

pub returns-else-eq-clause-some : goal.returns-else-eq-clause-some
returns-else-eq-clause-some c =
    let differs : c.args.text.now ≡ c.args.other.now → ⊥ = search rules in
    (c.newlines_before.ensures.value ∙ newlines_are_lines c.args.text.now c.args.other.now differs, differs)
