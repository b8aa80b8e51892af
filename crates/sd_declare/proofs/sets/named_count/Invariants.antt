use Rattle.std.proofs.Common.{◌≡◌, length, take, sum_by}
use Rattle.sd_declare.proofs.sets.named_count.Given as goal

-- the processors of the sets that were passed
abbrev pub invariant-loop-set : goal.invariant-loop-set
invariant-loop-set l = l.count ≡ sum_by (λ s. length s.1) (take l.set-index l.sets)
