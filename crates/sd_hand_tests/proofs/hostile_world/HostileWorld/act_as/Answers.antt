use Rattle.std.proofs.Common.{refl, sym, ap, ◌∙◌, subst}
use Rattle.sd_world.specs.Plain.{Stands}
use Rattle.sd_hand_tests.proofs.HostileLemmas.{alone_stands, goes_on}
use Rattle.sd_hand_tests.proofs.hostile_world.HostileWorld.act_as.Goals as goal

pub act_as-requires-clause-stands : goal.act_as-requires-clause-stands
act_as-requires-clause-stands c = alone_stands c.args.self.now c.args.work.now c.requires.work c.requires.good c.requires.empty

pub returns-clause-good : goal.returns-clause-good
returns-clause-good c =
    let x = c.args.self.now in
    let i = c.act_as.new.self in
    goes_on (record x { inner = i; near = record x.near { actor = i.acting.actor } })
    (subst (λ w. Stands w i) (c.requires.work ∙ sym (ap (λ b. b.now) c.act_as.ensures.work)) c.act_as.ensures.stands) refl c.requires.empty c.requires.good.possible
