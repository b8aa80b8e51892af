use Rattle.std.proofs.Common.{Option, ◌+◌, sym, ap, ◌∙◌, subst}
use Rattle.sd_types.specs.declared.events.Put.{Put}
use Rattle.sd_machine.specs.Requeueing.{reordered}
use Rattle.sd_locks.proofs.Same.{stays}
use Rattle.sd_locks.proofs.walking.moved.Goals as goal

pub returns-then-stays-clause-value : goal.returns-then-stays-clause-value
returns-then-stays-clause-value g c s shows can =
    let w = c.args.work.now in
    let is = c.stays.ensures c.if-stays.true in
    let same = ap (λ (at : Option Put). reordered w s c.args.number c.args.o.0 c.args.old at) is.1 ∙ stays w s c.args.number c.args.o.0 c.args.old (can is.0) in
    subst (λ r. g.S.Look.shows c.args.x.now (c.args.number + 1) r) (sym same) (g.S.Look.later c.args.x.now c.args.number s shows)
