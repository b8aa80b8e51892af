use Rattle.std.proofs.Common.{sym, ap, ◌∙◌, []}
use Rattle.std.proofs.lemmas.Option.{get_or_from_slice_get}
use Rattle.sd_boxq.specs.Order.{find_id}
use Rattle.sd_sleepq.specs.Among.{find_among}
use Rattle.sd_sleepq.proofs.Ordered.{found_there}
use Rattle.sd_sleepq.proofs.chain.SleepChain.find.Goals as goal

pub returns-in-Some-clause-value : goal.returns-in-Some-clause-value
returns-in-Some-clause-value g c =
    let id = g.T.Ranked.id in
    c.find.ensures ∙ ap (find_id id c.args.id) (sym (get_or_from_slice_get c.self.inside.queues c.in-Some.index _ [] c.at.ensures))
    ∙ sym (found_there id c.args.id c.self.inside.queues c.in-Some.index c.in-Some.ensures) ∙ ap (λ s. find_among id c.args.id s.queues) c.self.view_is
