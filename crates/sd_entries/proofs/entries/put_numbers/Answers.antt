use Rattle.std.proofs.Common.{ℕ, List, ◌∷◌, ◌++◌, get_or, take, drop, append_assoc, sym, ap, ◌∙◌}
use Rattle.std.specs.Fmt.{decimal}
use Rattle.std.specs.List.{flat_map}
use Rattle.std.proofs.lemmas.List.{take_rest}
use Rattle.sd_entries.proofs.TextLemmas.{numbers_from_first}
use Rattle.sd_entries.proofs.entries.put_numbers.Goals as goal

pub returns-in-len1-up-clause-text : goal.returns-in-len1-up-clause-text
returns-in-len1-up-clause-text c =
    let text = take c.args.from c.args.line.now in
    let first = decimal (get_or c.args.numbers.now 0 0) in
    let rest = flat_map (λ m. 44 ∷ decimal m) (drop 1 c.args.numbers.now) in
    c.put_comma_numbers.ensures.text ∙ ap (λ (ns : List ℕ). take c.put_small-from.result c.put_small-from.new.line ++ flat_map (λ m. 44 ∷ decimal m) ns) (take_rest c.args.numbers.now 1)
    ∙ ap (λ (xs : List ℕ). xs ++ rest) c.put_small-from.ensures.text ∙ append_assoc text first rest
    ∙ ap (λ (xs : List ℕ). text ++ xs) (sym (numbers_from_first c.args.numbers.now c.in-len1-up.len_at_least))
