use Rattle.std.proofs.Common.{sym, subst, ap, ◌∙◌, suc}
use Rattle.sd_boxq.specs.Links.{links_of, has_some}
use Rattle.sd_boxq.specs.Search.{is_wanted, index_behind}
use Rattle.sd_boxq.specs.Boxes.{BoxOf, boxes_from}
use Rattle.sd_boxq.proofs.Gaps.{Searched, search_starts, search_sees, search_passes, last_is}
use Rattle.sd_boxq.proofs.nodes.Nodes.gap.Goals as goal

pub loop-more-init : goal.loop-more-init
loop-more-init g c =
    let p = is_wanted g.T.Ranked.rank g.T.Ranked.key g.T.Ranked.id c.args.wanted.now in
    let ls = links_of c.args.self.now.blocks in
    let xs = c.args.self.now.items in
    let r = c.cursor-rest.result in
    let e = c.cursor-rest.ensures in
    let begins = search_starts p ls xs r.index r.links r.rest e.0 e.2 e.1 e.3 in
    (begins, tt, c.is_any-more.ensures.1 ∙ ap has_some (sym e.1))

pub returns-then-passes-clause-found : goal.returns-then-passes-clause-found
returns-then-passes-clause-found g c =
    let p = is_wanted g.T.Ranked.rank g.T.Ranked.key g.T.Ranked.id c.args.wanted.now in
    let ls = links_of c.args.self.now.blocks in
    let xs = c.args.self.now.items in
    let k = index_behind c.loop-more.before in
    let r = c.step-spot.result in
    let b : BoxOf g.row.T.Denot = (r.0.at, r.0.index, r.1.now) in
    let bs = boxes_from r.3.index r.3.links r.3.rest in
    let rest = c.loop-more.rest in
    let here = subst (λ ds. Searched p ls xs k ds) {x = boxes_from rest.index rest.links rest.rest} c.step-spot.ensures.0 c.loop-more.invariant.0 in
    let sees = search_sees p ls xs k b bs here in
    (sees.0, sees.1, sees.2, last_is r.3.index r.3.links r.3.rest r.2 k _ r.3.ok c.step-spot.ensures.2 sees.3)

pub loop-more-preserved : goal.loop-more-preserved
loop-more-preserved g c =
    let p = is_wanted g.T.Ranked.rank g.T.Ranked.key g.T.Ranked.id c.args.wanted.now in
    let ls = links_of c.args.self.now.blocks in
    let xs = c.args.self.now.items in
    let k = index_behind c.loop-more.before in
    let r = c.step-spot.result in
    let b : BoxOf g.row.T.Denot = (r.0.at, r.0.index, r.1.now) in
    let bs = boxes_from r.3.index r.3.links r.3.rest in
    let rest = c.loop-more.rest in
    let here = subst (λ ds. Searched p ls xs k ds) {x = boxes_from rest.index rest.links rest.rest} c.step-spot.ensures.0 c.loop-more.invariant.0 in
    let sees = search_sees p ls xs k b bs here in
    let passed = search_passes p ls xs k b bs here c.if-passes.ensures in
    (subst (λ n. Searched p ls xs (suc n) bs) (sym sees.0) passed, sees.1, c.step-spot.ensures.2)
