use Rattle.std.proofs.Common.{◌++◌, ap, ◌∙◌}
use Rattle.std.proofs.lemmas.Result.{on_ok_weaker}
use Rattle.sd_report.specs.Words.{subject_name}
use Rattle.sd_report.proofs.FieldLemmas.{four_more}
use Rattle.sd_report.proofs.sheets.push_words.Goals as goal

pub returns : goal.returns
returns c =
    on_ok_weaker c.push_field-4.result
    (λ last xs has.
    let all = last _ (c.in_ok-push_field-3.ensures _ (c.in_ok-push_field-2.ensures _ (c.in_ok-push_field.ensures xs has))) in (
      four_more xs _ _ _ _ _ _ _ _ _ all.0 c.subject_word.ensures
          (c.deref.ensures.value ∙ c.in_ok-put_subject_name.ensures ∙ ap (λ text. text ++ subject_name c.args.work.now c.args.x.now.subject) c.new-name.ensures.items)
          c.measure_word.ensures c.row_object.ensures,
      all.1,
    ))
    c.push_field-4.ensures
