use Rattle.std.proofs.Common.{refl, inl, inr, subst}
use Rattle.sd_hand.specs.Hands.{IsHeld}
use Rattle.sd_world.specs.Homes.{IsNumber}
use Rattle.sd_world.proofs.GivenLemmas.{given_back, held_there}
use Rattle.sd_world.proofs.homes.Homes.give.Goals as goal

pub returns-in-None-clause-refused : goal.returns-in-None-clause-refused
returns-in-None-clause-refused c = (refl, refl, inl (subst (λ k. IsNumber c.args.self.now.sizes k → ⊥) c.id.ensures (c.in-None.ensures).number))

pub returns-in-Some-index-clause-refused : goal.returns-in-Some-index-clause-refused
returns-in-Some-index-clause-refused c =
    let at = c.in-Some.ensures in (
      refl,
      refl,
      inr (subst (λ k. IsHeld k c.args.self.now.slots) c.id.ensures
          (held_there c.args.self.now (record { cpus = c.self.inside.cpus; sets = c.self.inside.sets }) c.self.inside.slots.items c.id.result c.in-Some.i c.in-Some-index.field-0 c.index-in-Some.result.now c.self.view_is c.self.invariant at.number at.inside c.index-in-Some.ensures c.in-Some-index.is)),
    )

pub returns-in-None-index-clause-given : goal.returns-in-None-index-clause-given
returns-in-None-index-clause-given c =
    let at = c.in-Some.ensures in
    given_back c.args.self.now (record { cpus = c.self.inside.cpus; sets = c.self.inside.sets }) c.self.inside.slots.items c.args.home c.id.result c.in-Some.i c.index-in-Some.result.now c.self.view_is c.self.invariant at.number at.inside c.index-in-Some.ensures c.in-None-index.is c.id.ensures
