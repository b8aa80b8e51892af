use Rattle.std.proofs.Common.{◌+◌, sym, ap, ◌∙◌, subst}
use Rattle.std.proofs.lemmas.Bool.{false≢true}
use Rattle.sd_state.specs.declared.states.CpuState.{CpuState}
use Rattle.sd_search.specs.Graphs.{packed, steps_of}
use Rattle.sd_search.proofs.PathLemmas.{fit_at}
use Rattle.sd_extremes.specs.declared.marks.Span.{Span}
use Rattle.sd_extremes.specs.Marks.{IsBefore, IsSpan}
use Rattle.sd_extremes.proofs.MarkLemmas.{look_no, look_yes}
use Rattle.sd_extremes.proofs.scanning.look.Goals as goal

pub ends_now-requires-clause-fit : goal.ends_now-requires-clause-fit
ends_now-requires-clause-fit c = let g = c.args.graph.now in fit_at c.args.work.now (packed g) (steps_of g) g.done c.requires.gathered c.args.i c.args.state.now c.requires.at

pub returns-then-ends_now : goal.returns-then-ends_now
returns-then-ends_now c =
    let w = c.args.work.now in
    let bs = packed c.args.graph.now in
    subst (λ (s : Span). IsSpan w bs c.args.thread (IsBefore c.args.i (c.args.c.0 + 1)) s) (sym c.with_mark.ensures)
    (look_yes w bs c.args.thread c.args.i c.args.state.now c.requires.at c.args.c c.cpu_of.result.count c.args.span (ap (λ (y : CpuState). y.count) c.cpu_of.ensures) (c.ends_now.ensures.0 c.if-ends_now.true) c.requires.spans)

pub returns-else-ends_now : goal.returns-else-ends_now
returns-else-ends_now c =
    look_no c.args.work.now (packed c.args.graph.now) c.args.thread c.args.i c.args.state.now c.requires.at c.args.c c.args.span (λ now. false≢true (sym c.if-ends_now.false ∙ c.ends_now.ensures.1 now)) c.requires.spans
