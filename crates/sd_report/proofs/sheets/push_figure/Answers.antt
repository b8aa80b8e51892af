use Rattle.std.proofs.Common.{ℕ, List, [], ◌∷◌, ◌++◌, ap, ◌∙◌}
use Rattle.std.proofs.lemmas.Result.{on_ok_weaker}
use Rattle.sd_report.proofs.sheets.push_figure.Goals as goal

pub returns : goal.returns
returns c =
    on_ok_weaker c.push_field.result
    (λ last xs has.
    let all = last xs has in
    (all.0 ∙ ap (λ (text : List ℕ). xs ++ text ∷ []) (c.deref.ensures.value ∙ c.in_ok-text.ensures), all.1))
    c.push_field.ensures
