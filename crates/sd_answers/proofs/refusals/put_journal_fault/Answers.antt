use Rattle.std.proofs.Common.{◌≤◌, List, ℕ, length, sym, ap, subst, ◌∙◌}
use Rattle.std.specs.Prelude.{decimal}
use Rattle.sd_text.specs.Lines.{IsOneLine}
use Rattle.sd_answers.proofs.RefusalLemmas.{after-short, before-short, journal-one_line, journal-same, journal-length}
use Rattle.sd_answers.proofs.refusals.put_journal_fault.Goals as goal

pub put_parts-requires-clause-one_line : goal.put_parts-requires-clause-one_line
put_parts-requires-clause-one_line g c =
    let same = journal-same c.args.fault c.words_before.result.now c.as_bytes.result.now c.words_after.result.now c.words_before.ensures
    (c.as_bytes.ensures.value ∙ c.format.ensures.text ∙ ap decimal c.journal_number.ensures) c.words_after.ensures in
    subst IsOneLine (sym same) (journal-one_line c.args.fault)

pub put_parts-requires-clause-short : goal.put_parts-requires-clause-short
put_parts-requires-clause-short g c =
    journal-length c.words_before.result.now c.as_bytes.result.now c.words_after.result.now
    (subst (λ (x : List ℕ). length x ≤ 24) (sym c.words_before.ensures) (before-short c.args.fault).1)
    (subst (λ (x : List ℕ). length x ≤ 40) (sym c.as_bytes.ensures.value) c.format.ensures.short)
    (subst (λ (x : List ℕ). length x ≤ 24) (sym c.words_after.ensures) (after-short c.args.fault).1)
