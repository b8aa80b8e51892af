use Rattle.std.proofs.Common.{refl}
use Rattle.std.proofs.lemmas.Result.{on_ok_weaker}
use Rattle.sd_report.proofs.FieldLemmas.{three_more}
use Rattle.sd_report.proofs.set_sheets.push_numbers.Goals as goal

pub returns : goal.returns
returns c =
    on_ok_weaker c.push_field.result
    (λ last xs has.
    let all = last _ (c.in_ok-push_figure-2.ensures _ (c.in_ok-push_figure.ensures xs has)) in
    (three_more xs _ _ _ _ _ _ _ all.0 refl refl refl, all.1))
    c.push_field.ensures
