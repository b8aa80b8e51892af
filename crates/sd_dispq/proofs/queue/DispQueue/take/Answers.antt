use Rattle.std.proofs.Common.{ap, ◌∙◌}
use Rattle.sd_boxq.specs.Order.{find_id, drop_id}
use Rattle.sd_dispq.proofs.queue.DispQueue.take.Goals as goal

pub greatest_of-self-inside-requires : goal.greatest_of-self-inside-requires
greatest_of-self-inside-requires g c = record { count = c.take-taken.ensures.count ∙ c.self.invariant.0; levelled = c.take-taken.ensures.levelled c.self.invariant.1 }

pub invariant_of-self : goal.invariant_of-self
invariant_of-self g c = (c.take-taken.ensures.count ∙ c.self.invariant.0, c.take-taken.ensures.levelled c.self.invariant.1, c.greatest_of-self-inside.ensures)

pub returns : goal.returns
returns g c = record {
  taken = c.take-taken.ensures.taken ∙ ap (find_id g.T.Ranked.id c.args.id) c.self.view_is;
  rest = c.take-taken.ensures.rest ∙ ap (drop_id g.T.Ranked.id c.args.id) c.self.view_is;
}
