use Rattle.std.proofs.Common.{ℕ, List, ◌++◌, ap, sym, ◌∙◌}
use Rattle.std.proofs.lemmas.List.{append_assoc}
use Rattle.sd_basics.proofs.Ranges.{flat_range_more}
use Rattle.sd_gen.specs.Generated.{number_line}
use Rattle.sd_gen.proofs.threads.put_lines.Goals as goal

pub loop-i-preserved : goal.loop-i-preserved
loop-i-preserved c =
    let word = c.args.word.now in
    let l = c.loop-i in
    c.in_ok-put_number_line.ensures ∙ ap (λ (xs : List ℕ). xs ++ number_line word l.i) l.invariant
    ∙ append_assoc c.args.out.now.items _ (number_line word l.i) ∙ ap (λ (xs : List ℕ). c.args.out.now.items ++ xs) (sym (flat_range_more (number_line word) l.i))
