use Rattle.std.proofs.Common.{subst, sym, ap, ◌∙◌}
use Rattle.sd_boxq.specs.Order.{drop_id, find_id}
use Rattle.sd_homes.specs.Standing.{id_of}
use Rattle.sd_homes.specs.ReadyIndexes.{Indexes}
use Rattle.sd_homes.proofs.IndexLemmas.{absent_same, at_rank}
use Rattle.sd_homes.proofs.NewestLemmas.{at_most_taken}
use Rattle.sd_homes.proofs.ready.ReadyQueue.take.Goals as goal

pub invariant_of-self : goal.invariant_of-self
invariant_of-self c =
    let rest = c.take_ranked.ensures.rest (at_rank c.in-At.priority (find_id id_of c.args.id c.self.inside.queue) (c.in-At.ensures c.self.inside.queue c.self.invariant.1)) in
    (at_most_taken c.self.inside.newest c.args.id c.self.inside.queue _ c.self.invariant.0 rest, subst (Indexes c.forget.new.self) (sym rest) (c.forget.ensures c.self.inside.queue c.self.invariant.1))

pub invariant_of-self-in-Nowhere : goal.invariant_of-self-in-Nowhere
invariant_of-self-in-Nowhere c =
    let none = c.in-Nowhere.ensures c.self.inside.queue c.self.invariant.1 in
    (c.self.invariant.0, subst (Indexes c.forget.new.self) (sym (absent_same c.args.id c.self.inside.queue none)) (c.forget.ensures c.self.inside.queue c.self.invariant.1))

pub invariant_of-self-in-Unknown : goal.invariant_of-self-in-Unknown
invariant_of-self-in-Unknown c =
    let rest = c.take.ensures.rest in
    (at_most_taken c.self.inside.newest c.args.id c.self.inside.queue _ c.self.invariant.0 rest, subst (Indexes c.forget.new.self) (sym rest) (c.forget.ensures c.self.inside.queue c.self.invariant.1))

pub returns-in-Nowhere-clause-rest : goal.returns-in-Nowhere-clause-rest
returns-in-Nowhere-clause-rest c =
    let none = c.in-Nowhere.ensures c.self.inside.queue c.self.invariant.1 in
    absent_same c.args.id c.self.inside.queue none ∙ ap (drop_id id_of c.args.id) c.self.view_is
