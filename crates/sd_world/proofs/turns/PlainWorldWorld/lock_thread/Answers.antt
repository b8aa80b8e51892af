use Rattle.std.proofs.Common.{sym, ◌∙◌}
use Rattle.std.proofs.lemmas.Bool.{false≢true}
use Rattle.sd_store.specs.declared.parts.Part.TheVariants.{Thread}
use Rattle.sd_world.proofs.PlainLemmas.{has_there}
use Rattle.sd_world.proofs.WorldLemmas.{locks}
use Rattle.sd_world.proofs.turns.PlainWorldWorld.lock_thread.Goals as goal

pub unreachable-requires : goal.unreachable-requires
unreachable-requires c =
    let x = c.args.self.now in
    false≢true (sym c.in-Err.ensures.1 ∙ has_there x.work.now x c.requires.good.stands (Thread c.args.t) c.requires.can.there)

pub returns-clause-locks : goal.returns-clause-locks
returns-clause-locks c = locks c.args.self.now c.args.t c.in-Ok.at c.home_at.result c.requires.good c.home_at.ensures c.in-Ok.ensures
