use Rattle.std.proofs.Common.{◌≡◌, take}
use Rattle.sd_stretches.specs.Rows.{own_ranks}
use Rattle.sd_stretches.proofs.rows.own_ranks.Given as goal

abbrev pub invariant-loop-x : goal.invariant-loop-x
invariant-loop-x l = l.own.items ≡ own_ranks l.t (take l.x-index l.ranks)
