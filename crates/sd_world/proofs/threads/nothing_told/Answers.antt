use Rattle.std.proofs.Common.{None, map, option_copied, refl, sym, subst}
use Rattle.sd_world.specs.Told.{AreTold}
use Rattle.sd_world.proofs.EndedLemmas.{none_more}
use Rattle.sd_world.proofs.threads.nothing_told.Goals as goal

pub loop-preserved : goal.loop-preserved
loop-preserved c s = subst (λ xs. AreTold s (map option_copied xs)) (sym c.in_ok-push.ensures.items) (none_more option_copied c.loop.told.items None refl s (c.loop.invariant s))
