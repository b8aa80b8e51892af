use Rattle.std.proofs.Common.{length, sym, subst}
use Rattle.sd_world.specs.Told.{AreActorsOf}
use Rattle.sd_world.specs.Plain.{told}
use Rattle.sd_world.proofs.PlainLemmas.{reached, told_ok}
use Rattle.sd_world.proofs.plain.PlainWorld.state.Goals as goal

pub state_of-requires : goal.state_of-requires
state_of-requires c =
    let w = c.args.work.now in
    let x = c.args.self.now in
    (length x.entries.items, told w x, reached w x c.requires.stands, c.requires.stands.all, subst (AreActorsOf (told w x)) (sym c.deref.ensures.value) c.requires.stands.actors)

pub returns : goal.returns
returns c =
    let w = c.args.work.now in
    let x = c.args.self.now in
    told_ok w x c.requires.stands c.state_of.result c.deref.result.now (subst (AreActorsOf (told w x)) (sym c.deref.ensures.value) c.requires.stands.actors) c.state_of.ensures
