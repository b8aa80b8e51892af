use Rattle.std.proofs.Common.{List, ◌∙◌, subst}
use Rattle.sd_types.specs.declared.numbers.CpuId.{CpuId}
use Rattle.sd_search.specs.Graphs.{packed, steps_of}
use Rattle.sd_search.proofs.TellLemmas.{inside_at}
use Rattle.sd_extremes.specs.WholeRuns.{GoesOn}
use Rattle.sd_extremes.proofs.MarkLemmas.{ends_there}
use Rattle.sd_extremes.proofs.ends.ending_at.Goals as goal

pub path-requires-clause-inside : goal.path-requires-clause-inside
path-requires-clause-inside c = let m = c.requires.mark in inside_at (packed c.args.graph.now) c.args.mark.state m.state m.at

pub returns-clause-ending : goal.returns-clause-ending
returns-clause-ending c =
    let g = c.args.graph.now in
    let w = c.args.work.now in
    let m = c.requires.mark in
    let es = c.in_ok-entries.entries.items in
    let go = subst (λ (ps : List CpuId). GoesOn w ps es) (c.deref.ensures.value ∙ c.in_ok-push.ensures.items) c.in_ok-entries.ensures in
    record {
      run = go.whole;
      ends = ends_there w (packed g) c.args.thread (steps_of g) g.done c.requires.gathered c.args.mark m c.in_ok-path.path.items (c.in_ok-path.ensures.spelled m.state m.at) es go;
    }
