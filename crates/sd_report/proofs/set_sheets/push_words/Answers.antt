use Rattle.std.proofs.Common.{refl}
use Rattle.std.proofs.lemmas.Result.{on_ok_weaker}
use Rattle.sd_report.proofs.FieldLemmas.{four_more}
use Rattle.sd_report.proofs.set_sheets.push_words.Goals as goal

pub returns : goal.returns
returns c =
    on_ok_weaker c.push_field-4.result
    (λ last xs has.
    let all = last _ (c.in_ok-push_field-3.ensures _ (c.in_ok-push_field-2.ensures _ (c.in_ok-push_field.ensures xs has))) in
    (four_more xs _ _ _ _ _ _ _ _ _ all.0 refl c.thread_name.ensures refl c.chan_name.ensures, all.1))
    c.push_field-4.ensures
