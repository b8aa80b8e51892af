use Rattle.std.proofs.Common.{refl, ◌∙◌, arith}
use Rattle.sd_world.proofs.WorldLemmas.{counts_same}
use Rattle.sd_threads.specs.Tables.{world_meaning}
use Rattle.sd_threads.proofs.AsWorld.{behind_then, counts_then, level_more}
use Rattle.sd_threads.proofs.world.TableWorldWorld.behind.Goals as goal

pub loop-d-init : goal.loop-d-init
loop-d-init c = record { good = c.requires.good; table = refl; level = record { reads = counts_same (world_meaning c.args.self.now); level = λ e i. absurd (omega (arith, i)) } }

pub loop-d-preserved : goal.loop-d-preserved
loop-d-preserved c =
    let i = c.loop-d.invariant in
    record {
      good = c.compare.ensures.good;
      table = c.compare.ensures.table ∙ i.table;
      level = level_more (world_meaning c.args.self.now) (world_meaning c.loop-d.self) (world_meaning c.compare.new.self) c.loop-d.d i.level c.in-None.ensures.reads c.in-None.ensures.compares;
    }

pub returns-in-Some-clause-reads : goal.returns-in-Some-clause-reads
returns-in-Some-clause-reads c =
    counts_then (world_meaning c.args.self.now) (world_meaning c.loop-d.self) (world_meaning c.compare.new.self) c.loop-d.invariant.level.reads c.in-Some.ensures.reads

pub returns-in-Some-clause-finds : goal.returns-in-Some-clause-finds
returns-in-Some-clause-finds c =
    behind_then (world_meaning c.args.self.now) (world_meaning c.loop-d.self) (world_meaning c.compare.new.self) c.in-Some.found.cpu.0 c.in-Some.found.count refl c.loop-d.invariant.level.reads c.in-Some.ensures.compares
