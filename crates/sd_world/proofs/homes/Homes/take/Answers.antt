use Rattle.std.proofs.Common.{refl}
use Rattle.sd_world.proofs.GivenLemmas.{not_there, taken_none, taken_some}
use Rattle.sd_world.proofs.homes.Homes.take.Goals as goal

pub returns-in-None-clause-none : goal.returns-in-None-clause-none
returns-in-None-clause-none c = (not_there c.args.self.now (record { cpus = c.self.inside.cpus; sets = c.self.inside.sets }) c.self.inside.slots.items c.args.k c.self.view_is c.self.invariant (c.in-None.ensures).number, refl)

pub returns-in-Some-clause-none : goal.returns-in-Some-clause-none
returns-in-Some-clause-none c =
    let at = c.in-Some.ensures in
    taken_none c.args.self.now (record { cpus = c.self.inside.cpus; sets = c.self.inside.sets }) c.self.inside.slots.items c.args.k c.in-Some.i c.take.result c.index_mut.result.now c.take.new.self c.self.view_is c.self.invariant at.number at.inside
    c.take.ensures.value c.index_mut.ensures.value c.take.ensures.after

pub returns-in-Some-clause-some : goal.returns-in-Some-clause-some
returns-in-Some-clause-some c =
    let at = c.in-Some.ensures in
    taken_some c.args.self.now (record { cpus = c.self.inside.cpus; sets = c.self.inside.sets }) c.self.inside.slots.items c.args.k c.in-Some.i c.take.result c.index_mut.result.now c.take.new.self c.self.view_is c.self.invariant at.number at.inside
    c.take.ensures.value c.index_mut.ensures.value c.take.ensures.after
