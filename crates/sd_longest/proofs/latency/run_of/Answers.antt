use Rattle.std.proofs.Common.{List, ◌++◌, ap, ◌∙◌}
use Rattle.sd_types.specs.declared.numbers.CpuId.{CpuId}
use Rattle.sd_search.specs.Graphs.{packed, steps_of}
use Rattle.sd_longest.specs.Edges.{rows_of}
use Rattle.sd_longest.proofs.WaitWalkLemmas.{run_there}
use Rattle.sd_longest.proofs.latency.run_of.Goals as goal

pub returns : goal.returns
returns c =
    let g = c.args.graph.now in
    let path = c.deref-2.ensures.value ∙ c.in_ok-append.ensures ∙ ap (λ (ds : List CpuId). c.in_ok-path.path.items ++ ds) c.deref.ensures.value in
    run_there c.args.work.now (packed g) (steps_of g) g.done c.requires.gathered c.args.thread (rows_of c.args._rows.now) c.requires.rows c.args.wait.now c.requires.found c.in_ok-path.path.items c.deref-2.result.now c.whole_run.result
    c.in_ok-path.ensures.spelled path c.whole_run.ensures
