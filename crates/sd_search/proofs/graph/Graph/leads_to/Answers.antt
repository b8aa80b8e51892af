use Rattle.std.proofs.Common.{◌≡◌, ◌<◌, length, refl, ◌∙◌, arith}
use Rattle.std.proofs.lemmas.Bool.{eqb-true}
use Rattle.std.proofs.lemmas.Option.{slice_get_read}
use Rattle.sd_search.specs.Graphs.{packed, steps_of}
use Rattle.sd_search.proofs.FinalLemmas.{never_ends}
use Rattle.sd_search.proofs.graph.Graph.leads_to.Goals as goal

pub returns : goal.returns
returns c = λ is ends.
    let g = c.args.self.now in
    let step = c.index.result.now in
    let many : c.len.result ≡ length g.steps.items = c.len.ensures ∙ g.steps.ok.0 in
    let inside : c.args.to < length g.steps.items = let less = c.if-to-len.false in omega (arith, less, many) in
    let some : 0 < c.args.to = omega (arith, c.if-to-eq0.false) in
    let at = slice_get_read g.steps.items (length g.steps.items) c.args.to step refl inside c.index.ensures in
    never_ends c.args.work.now (packed g) (steps_of g) g.done c.requires.gathered c.args.i c.args.to step some at (eqb-true step.before c.args.i is) ends
