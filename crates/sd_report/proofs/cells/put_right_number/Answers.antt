use Rattle.std.proofs.Common.{◌≡◌, ◌-◌, ◌++◌, List, ℕ, length, take, drop, sym, ap, subst, ◌∙◌, rules}
use Rattle.std.specs.Prelude.{OnOk}
use Rattle.std.specs.Fmt.{decimal}
use Rattle.std.proofs.lemmas.Fmt.{length-decimal-le}
use Rattle.std.proofs.lemmas.List.{take_rest}
use Rattle.sd_report.proofs.CellLemmas.{end_is_cell}
use Rattle.sd_report.proofs.cells.put_right_number.Goals as goal

pub write_digits-start-requires : goal.write_digits-start-requires
write_digits-start-requires c = search (rules, length-decimal-le 20)

pub returns : goal.returns
returns c =
    let text : List ℕ = c.write_digits-start.new.buf in
    let k = c.min.result in
    let made = c.write_digits-start.ensures in
    let long : length text ≡ 32 = search rules in
    let put : OnOk c.extend_from_slice.result (c.extend_from_slice.new.self.items ≡ c.args.out.now.items ++ take (32 - k) (drop k text)) = search rules in
    subst (λ (cell : List ℕ). OnOk c.extend_from_slice.result (c.extend_from_slice.new.self.items ≡ c.args.out.now.items ++ cell))
    (ap (λ n. take (n - k) (drop k text)) (sym long) ∙ take_rest text k
    ∙ ap (λ n. drop n text) c.min.ensures
    ∙ end_is_cell text (decimal c.args.n) c.write_digits-start.result c.args.width made.start c.requires made.before made.written) put
