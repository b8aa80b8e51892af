use Rattle.std.proofs.Common.{refl}
use Rattle.sd_world.proofs.WorldLemmas.{counts_same}
use Rattle.sd_threads.specs.Tables.{world_meaning}
use Rattle.sd_threads.proofs.AsWorld.{behind_as}
use Rattle.sd_threads.proofs.world.TableWorld.compare.Goals as goal

pub returns-then-d-own-clause-reads : goal.returns-then-d-own-clause-reads
returns-then-d-own-clause-reads c = counts_same (world_meaning c.args.self.now)

pub returns-then-count-own-clause-reads : goal.returns-then-count-own-clause-reads
returns-then-count-own-clause-reads c = c.count_of-count.ensures.reads.reads

pub returns-clause-reads : goal.returns-clause-reads
returns-clause-reads c = c.count_of-count.ensures.reads.reads

pub returns-clause-compares : goal.returns-clause-compares
returns-clause-compares c =
    behind_as (world_meaning c.args.self.now) (world_meaning c.count_of-count.new.self) c.args.d.0 c.count_of-count.result refl c.count_of-count.ensures.reads c.if-count-own.false c.requires.cpu c.if-d-own.false
