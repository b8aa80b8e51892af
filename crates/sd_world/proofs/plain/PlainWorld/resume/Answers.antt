use Rattle.std.proofs.Common.{◌≡◌, length, slice_get, Some, refl, sym, ap, ◌∙◌, subst, arith}
use Rattle.std.proofs.lemmas.Option.{slice_get-get_or}
use Rattle.sd_hand.specs.OneHome.{AreAllHomes}
use Rattle.std.specs.Prelude.{vec_len}
use Rattle.sd_world.proofs.PlainLemmas.{few_cpus, some_cpus, stands_begun}
use Rattle.sd_world.proofs.plain.PlainWorld.resume.Goals as goal

pub actors_of-requires : goal.actors_of-requires
actors_of-requires c = record { few = few_cpus c.args.work.now c.args.s.now c.args.entries.items c.requires.run c.requires.state }

pub index-actor-requires : goal.index-actor-requires
index-actor-requires c =
    let some = some_cpus c.args.work.now c.args.s.now c.args.entries.items c.requires.run c.requires.state c.in_ok-actors.actors.items c.in_ok-actors.ensures in
    let many : vec_len c.in_ok-actors.actors ≡ length c.in_ok-actors.actors.items = grind arith in
    omega (arith, some, many)

pub returns-clause-stands : goal.returns-clause-stands
returns-clause-stands c =
    let w = c.args.work.now in
    let s = c.args.s.now in
    let es = c.args.entries.items in
    let actors = c.in_ok-actors.actors.items in
    let number : c.len.result ≡ length es = c.len.ensures in
    let first : slice_get actors 0 ≡ Some c.index-actor.result.now =
    slice_get-get_or actors 0 c.index-actor.result.now (some_cpus w s es c.requires.run c.requires.state actors c.in_ok-actors.ensures) ∙ ap Some (sym c.index-actor.ensures) in
    stands_begun w s es c.requires.run c.requires.state
    (record { work = c.args.work; acting = record { hand = c.into_hand.result; actor = c.index-actor.result.now }; actors = c.in_ok-actors.actors; entries = c.args.entries })
    c.in_ok-homes.homes.slots c.requires.stood refl (subst (λ n. AreAllHomes n s c.in_ok-homes.homes.slots) number c.in_ok-homes.ensures.all) c.into_hand.ensures c.in_ok-actors.ensures first
