use Rattle.std.proofs.Common.{ℕ, List, [], ◌++◌, ap, ◌∙◌}
use Rattle.std.proofs.lemmas.Result.{on_ok_weaker}
use Rattle.csv.specs.Writing.{default_writer, row_text}
use Rattle.sd_report.specs.SetSheets.{set_row}
use Rattle.sd_report.proofs.set_sheets.put_row.Goals as goal

pub returns : goal.returns
unfolding set_row
returns c =
    let new = c.new-fields.ensures in
    let all = c.in_ok-push_no_longest.ensures _ (c.in_ok-push_numbers.ensures _ (c.in_ok-push_words.ensures [] (new.fields, new.partial))) in
    on_ok_weaker c.put_record.result
    (λ appended. appended ∙ ap (λ (fields : List (List ℕ)). c.args.out.now.items ++ row_text default_writer fields) all.0)
    c.put_record.ensures
