use Rattle.std.proofs.Common.{◌++◌, List, ℕ, sym, ap, subst, ◌∙◌}
use Rattle.sd_text.specs.Lines.{EndsLine}
use Rattle.sd_gen.specs.Generated.{generated}
use Rattle.sd_program.proofs.ClosingLemmas.{generated-ends}
use Rattle.sd_program.proofs.tables.print_generated.Goals as goal

pub print_text-requires : goal.print_text-requires
print_text-requires g c =
    let n = c.args.number in
    let text = c.deref.ensures.value ∙ c.in_ok-generate.ensures.ok ∙ ap (λ (xs : List ℕ). xs ++ generated n) c.new-text.ensures.items in
    subst EndsLine (sym text) (generated-ends n)
