use Rattle.std.proofs.Common.{IfSome, None, Some, sym, subst}
use Rattle.sd_world.specs.Plain.{AreCpus}
use Rattle.sd_cpu.specs.Attempts.{AreRead}
use Rattle.sd_cpu.proofs.MeaningLemmas.{looks_same, looks_still}
use Rattle.sd_cpu.proofs.attempts.read_hints.Goals as goal

pub hints-requires-clause-there : goal.hints-requires-clause-there
hints-requires-clause-there g c = subst (λ o. IfSome o (λ r. AreCpus c.args.work.now r.cpus.items)) c.in-Some.is c.requires.there

pub returns-in-None-clause-looks : goal.returns-in-None-clause-looks
returns-in-None-clause-looks g c = looks_same (g.W.World.meaning c.args.world.now)

pub returns-in-None-clause-read : goal.returns-in-None-clause-read
returns-in-None-clause-read g c = subst (λ o. AreRead (g.W.World.meaning c.args.world.now) (g.W.World.meaning c.args.world.now) o None) (sym c.in-None.is) tt

pub returns-in-Some-clause-looks : goal.returns-in-Some-clause-looks
returns-in-Some-clause-looks g c =
    let r = c.hints.ensures.reads in
    looks_still (g.W.World.meaning c.args.world.now) (g.W.World.meaning c.hints.new.self) r.stays r.quiet r.acting

pub returns-in-Some-clause-read : goal.returns-in-Some-clause-read
returns-in-Some-clause-read g c =
    let r = c.hints.ensures.reads in
    subst (λ o. AreRead (g.W.World.meaning c.args.world.now) (g.W.World.meaning c.hints.new.self) o (Some c.hints.result)) (sym c.in-Some.is) (r.which, r.hinted, r.own)
