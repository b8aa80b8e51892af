use Rattle.std.proofs.Common.{ℕ, ◌≤◌, ◌-◌, List, [], ◌∷◌, ◌++◌, append_assoc, replicate, sym, ap, ◌∙◌, take, arith}
use Rattle.std.specs.Fmt.{decimal}
use Rattle.std.specs.List.{flat_map}
use Rattle.sd_entries.proofs.TextLemmas.{zeros_from_first}
use Rattle.sd_entries.proofs.entries.put_zeros.Goals as goal

pub returns-clause-text : goal.returns-clause-text
returns-clause-text c =
    let text = take c.args.from c.args.line.now in
    let zeros = flat_map (λ m. 44 ∷ decimal m) (replicate (c.args.count - 1) 0) in
    let other = c.if-count-eq0.false in
    let some : 1 ≤ c.args.count = omega (arith, other) in
    c.put_comma_zeros.ensures.text ∙ ap (λ (xs : List ℕ). xs ++ zeros) c.put_byte-from.ensures.text
    ∙ append_assoc text (48 ∷ []) zeros ∙ ap (λ (xs : List ℕ). text ++ xs) (sym (zeros_from_first c.args.count some))
