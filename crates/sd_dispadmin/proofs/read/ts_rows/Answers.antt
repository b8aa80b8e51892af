use Rattle.std.proofs.Common.{◌≡◌, true, List, ℕ, ap, sym, subst, ◌∙◌, arith}
use Rattle.sd_dispadmin.specs.TableText.{is_within, ts_columns}
use Rattle.sd_dispadmin.proofs.RowLemmas.{all_at}
use Rattle.sd_dispadmin.proofs.read.ts_rows.Goals as goal

pub ts_row-requires-clause-within : goal.ts_row-requires-clause-within
ts_row-requires-clause-within c =
    let at = all_at (is_within ts_columns) _ c.args.rows.now c.loop-numbers.numbers-index c.numbers-item.result c.requires.within (omega arith) in
    subst (λ (l : List ℕ). is_within ts_columns l ≡ true) (sym (c.as_slice.ensures.value ∙ ap (λ r. r.items) c.numbers-item.is)) at
