use Rattle.std.proofs.Common.{List, true, refl, ap}
use Rattle.sd_tasks.specs.Above.{Member}
use Rattle.sd_tasks.specs.Kept.{above_kept}
use Rattle.sd_tasks.proofs.Loops.{given_kept}
use Rattle.sd_tasks.proofs.facts.mark_given.Goals as goal

pub returns : goal.returns
returns c = λ m found.
    ap (λ (ts : List Member). record (above_kept c.args.facts.now) { threads = ts })
    (given_kept c.args.facts.now.threads.items c.args.place c.index_mut.result.now (record c.index_mut.result.now { is_given = true }) m c.requires c.index_mut.ensures.value refl found)
