use Rattle.std.proofs.Common.{ap}
use Rattle.std.proofs.lemmas.Result.{on_ok_weaker}
use Rattle.sd_text.specs.Numbers.{digits_if}
use Rattle.sd_report.proofs.FieldLemmas.{four_more}
use Rattle.sd_report.proofs.sheets.push_longest.Goals as goal

pub returns : goal.returns
returns c =
    on_ok_weaker c.push_field.result
    (λ last xs has.
    let all = last _ (c.in_ok-push_figure-3.ensures _ (c.in_ok-push_figure-2.ensures _ (c.in_ok-push_figure.ensures xs has))) in (
      four_more xs _ _ _ _ _ _ _ _ _ all.0 (ap digits_if c.longest_ticks.ensures) (ap digits_if c.longest_first.ensures) (ap digits_if c.longest_last.ensures) c.holder.ensures,
      all.1,
    ))
    c.push_field.ensures
