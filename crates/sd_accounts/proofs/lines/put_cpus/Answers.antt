use Rattle.std.proofs.Common.{ℕ, List, ◌++◌, append_assoc, sym, ap, ◌∙◌}
use Rattle.std.specs.List.{flat_map, range_with_len}
use Rattle.sd_basics.proofs.Ranges.{flat_range_more}
use Rattle.sd_accounts.specs.Counters.{counted_cpu_line}
use Rattle.sd_accounts.proofs.lines.put_cpus.Goals as goal

pub loop-c-preserved : goal.loop-c-preserved
loop-c-preserved c =
    let line = counted_cpu_line c.args.cpus.now in
    let out = c.args.out.now.items in
    c.in_ok-put_cpu_line.ensures
    ∙ ap (λ (text : List ℕ). text ++ line c.loop-c.c) c.loop-c.invariant
    ∙ append_assoc out (flat_map line (range_with_len 0 c.loop-c.c)) (line c.loop-c.c)
    ∙ ap (λ (text : List ℕ). out ++ text) (sym (flat_range_more line c.loop-c.c))
