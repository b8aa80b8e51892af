use Rattle.std.proofs.Common.{◌≡◌, take}
use Rattle.sd_stretches.specs.Rows.{own_onsets}
use Rattle.sd_stretches.proofs.rows.own_onsets.Given as goal

abbrev pub invariant-loop-x : goal.invariant-loop-x
invariant-loop-x l = l.own.items ≡ own_onsets l.t (take l.x-index l.onsets)
