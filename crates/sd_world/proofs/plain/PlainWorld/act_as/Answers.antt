use Rattle.std.proofs.Common.{◌≡◌, ◌<◌, length, sym, subst, arith}
use Rattle.std.specs.Prelude.{slice_get, Some, vec_len}
use Rattle.sd_world.specs.Plain.{told}
use Rattle.sd_world.proofs.ActorLemmas.{at_index}
use Rattle.sd_world.proofs.PlainLemmas.{acts_now, actor_inside}
use Rattle.sd_world.proofs.plain.PlainWorld.act_as.Goals as goal
use Rattle.sd_types.proofs.SameLemmas.{same_cpu}

pub index-requires : goal.index-requires
index-requires c =
    let inside : c.args.c.0 < length c.args.self.now.actors.items = actor_inside c.args.work.now c.args.self.now c.requires.stands c.args.c c.requires.cpu in
    let many : vec_len c.args.self.now.actors ≡ length c.args.self.now.actors.items = grind arith in
    omega (arith, inside, many)

pub returns-clause-stands : goal.returns-clause-stands
returns-clause-stands c =
    let w = c.args.work.now in
    let x = c.args.self.now in
    let inside = actor_inside w x c.requires.stands c.args.c c.requires.cpu in
    let at = at_index (told w x) x.actors.items c.args.c.0 c.index.result.now c.requires.stands.actors inside c.index.ensures in
    acts_now w x c.index.result.now c.requires.stands (subst (λ i. slice_get x.actors.items i ≡ Some c.index.result.now) (sym (c.requires.stands.actors.each c.args.c.0 c.index.result.now at).cpu) at)

pub returns-clause-acts : goal.returns-clause-acts
returns-clause-acts c =
    let w = c.args.work.now in
    let x = c.args.self.now in
    let inside = actor_inside w x c.requires.stands c.args.c c.requires.cpu in
    let at = at_index (told w x) x.actors.items c.args.c.0 c.index.result.now c.requires.stands.actors inside c.index.ensures in
    same_cpu c.index.result.now.cpu c.args.c (c.requires.stands.actors.each c.args.c.0 c.index.result.now at).cpu
