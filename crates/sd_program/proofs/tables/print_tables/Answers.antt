use Rattle.std.proofs.Common.{◌++◌, List, ℕ, sym, ap, subst, ◌∙◌}
use Rattle.sd_text.specs.Lines.{EndsLine}
use Rattle.sd_canonical.specs.Blocks.{tables_text}
use Rattle.sd_program.proofs.ClosingLemmas.{tables-ends}
use Rattle.sd_program.proofs.tables.print_tables.Goals as goal

pub print_text-requires : goal.print_text-requires
print_text-requires g c =
    let w = c.args.work.now in
    let text = c.deref.ensures.value ∙ c.in_ok-write_tables.ensures.ok ∙ ap (λ (xs : List ℕ). xs ++ tables_text w) c.new-text.ensures.items in
    subst EndsLine (sym text) (tables-ends w)
