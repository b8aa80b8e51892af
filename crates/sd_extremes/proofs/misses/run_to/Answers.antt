use Rattle.sd_search.specs.Graphs.{packed, steps_of}
use Rattle.sd_search.proofs.TellLemmas.{inside_at}
use Rattle.sd_extremes.proofs.MissLemmas.{spelled_miss}
use Rattle.sd_extremes.proofs.misses.run_to.Goals as goal

pub path-requires-clause-inside : goal.path-requires-clause-inside
path-requires-clause-inside c = let m = c.requires.missed in inside_at (packed c.args.graph.now) c.args.i m.state m.at

pub returns : goal.returns
returns c =
    let g = c.args.graph.now in
    spelled_miss c.args.work.now (packed g) c.args.thread (steps_of g) g.done c.requires.gathered c.args.i c.in_ok-path.path.items c.deref.result.now c.witness.result c.requires.missed c.in_ok-path.ensures.spelled c.deref.ensures.value
    c.witness.ensures
