use Rattle.std.proofs.Common.{sym, subst}
use Rattle.sd_world.specs.Plain.{AreCpus}
use Rattle.sd_threads.proofs.world.TableWorldWorld.hints.Goals as goal

pub numbers-requires-clause-there : goal.numbers-requires-clause-there
numbers-requires-clause-there c = subst (λ w. AreCpus w c.as_slice.result.now) c.requires.work (subst (AreCpus c.args.work.now) (sym c.as_slice.ensures.value) c.requires.there)
