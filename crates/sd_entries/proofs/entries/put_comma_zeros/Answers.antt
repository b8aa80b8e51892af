use Rattle.std.proofs.Common.{ℕ, List, [], ◌∷◌, ◌++◌, append_assoc, replicate, sym, ap, ◌∙◌, take, arith}
use Rattle.std.specs.Fmt.{decimal}
use Rattle.std.specs.List.{flat_map}
use Rattle.sd_entries.proofs.TextLemmas.{zeros_on}
use Rattle.sd_entries.proofs.entries.put_comma_zeros.Goals as goal

pub loop-preserved : goal.loop-preserved
loop-preserved c =
    let text = take c.args.from c.args.line.now in
    let zeros = flat_map (λ m. 44 ∷ decimal m) (replicate c.loop.counter 0) in
    let behind = c.put_two-end.ensures.end in
    let so_far = c.loop.invariant.end in
    record {
      text = c.put_two-end.ensures.text ∙ ap (λ (xs : List ℕ). xs ++ 44 ∷ 48 ∷ []) c.loop.invariant.text
          ∙ append_assoc text zeros (44 ∷ 48 ∷ []) ∙ ap (λ (xs : List ℕ). text ++ xs) (sym (zeros_on c.loop.counter));
      end = omega (arith, behind, so_far);
    }
