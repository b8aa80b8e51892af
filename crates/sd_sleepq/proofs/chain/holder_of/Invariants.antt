use Rattle.std.proofs.Common.{◌≡◌, ℕ, ◌<◌, None, get_or, []}
use Rattle.sd_boxq.specs.Order.{find_id}
use Rattle.sd_sleepq.proofs.chain.holder_of.Given as goal

abbrev pub invariant-loop-index : goal.invariant-loop-index
invariant-loop-index g l = (i : ℕ) → i < l.index → find_id g.T.Ranked.id l.id (get_or l.queues i []) ≡ None
