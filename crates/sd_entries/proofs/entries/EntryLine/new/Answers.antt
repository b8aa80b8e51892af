use Rattle.std.proofs.Common.{◌+◌, ℕ, List, length, sym, ap, arith}
use Rattle.sd_entries.proofs.TextLemmas.{last_alone}
use Rattle.sd_entries.proofs.entries.EntryLine.new.Goals as goal

pub invariant_of-result : goal.invariant_of-result
invariant_of-result c = record {
  begin = ap (λ (ds : List ℕ). 19 + length ds) (last_alone 0 (omega arith));
  stand = sym (last_alone 0 (omega arith));
}
