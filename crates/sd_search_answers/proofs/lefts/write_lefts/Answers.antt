use Rattle.std.proofs.Common.{ℕ, List, ◌++◌, append_assoc, sym, ap, ◌∙◌}
use Rattle.std.specs.List.{flat_map, range_with_len}
use Rattle.sd_basics.proofs.Ranges.{flat_range_more}
use Rattle.sd_search_answers.specs.Lefts.{line_if_left}
use Rattle.sd_search_answers.proofs.lefts.write_lefts.Goals as goal

pub loop-t-preserved : goal.loop-t-preserved
loop-t-preserved c =
    let line = line_if_left c.args.work.now c.args.state.now in
    let out = c.args.out.now.items in
    c.in_ok-put_line_if_left.ensures
    ∙ ap (λ (text : List ℕ). text ++ line c.loop-t.t) c.loop-t.invariant
    ∙ append_assoc out (flat_map line (range_with_len 0 c.loop-t.t)) (line c.loop-t.t)
    ∙ ap (λ (text : List ℕ). out ++ text) (sym (flat_range_more line c.loop-t.t))
