use Rattle.std.proofs.Common.{ℕ, ◌-◌, take, drop, sym, ap, subst, ◌∙◌, arith}
use Rattle.std.proofs.lemmas.Bool.{false≢true}
use Rattle.sd_answers.specs.Cuts.{IsCut}
use Rattle.sd_answers.proofs.CutLemmas.{passed_more, cut_here}
use Rattle.sd_answers.proofs.cuts.find_cut.Goals as goal

pub returns-then-is_journal-clause-cut : goal.returns-then-is_journal-clause-cut
returns-then-is_journal-clause-cut c =
    let text = c.args.text.now in
    let at = c.in-Some.ensures in
    let line = c.is_journal.ensures.0 c.if-is_journal.true in
    subst (λ (n : ℕ). IsCut text (take c.lines.from text) (drop n text)) (sym c.min.ensures)
    (cut_here text c.lines.from c.in-Some.end c.lines.invariant.passed at.within.0 at.within.1 at.newline
    (sym line ∙ ap (λ (n : ℕ). take (c.in-Some.end - n) (drop n text)) at.start))

pub lines-preserved : goal.lines-preserved
lines-preserved c =
    let text = c.args.text.now in
    let at = c.in-Some.ensures in
    let within = at.within in
    record {
      passed = passed_more text _ c.lines.from c.in-Some.end c.lines.invariant.passed at.line within.0 at.newline
          (ap (λ (n : ℕ). take (c.in-Some.end - n) (drop n text)) at.start) (λ same. false≢true (sym c.if-is_journal.false ∙ c.is_journal.ensures.1 same));
      within = omega (arith, within.1);
    }
