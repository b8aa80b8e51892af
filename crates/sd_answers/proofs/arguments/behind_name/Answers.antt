use Rattle.std.proofs.Common.{rules, ap, ◌∙◌}
use Rattle.std.specs.Vec.Iter.{into_iter_items, into_iter_len}
use Rattle.std.proofs.lemmas.Iterator.Adapters.{fact_from_collect, YieldsList-from_skip, YieldsList-from_vec}
use Rattle.sd_answers.proofs.arguments.behind_name.Goals as goal

pub returns : goal.returns
returns c =
    let all = c.args.all in
    let source = c.skip.ensures.source in
    let left = YieldsList-from_skip 1 (YieldsList-from_vec (into_iter_items all) (ap into_iter_items source) (ap into_iter_len source ∙ all.rest.ok.0)) c.skip.ensures.count in
    let taken = fact_from_collect _ c.collect.result c.collect.ensures.ran left in
    search rules
