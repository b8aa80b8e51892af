use Rattle.std.proofs.Common.{◌≡◌, ◌<◌, ◌∙◌, ap, get_or, length, subst, arith}
use Rattle.sd_types.specs.declared.events.Duty.TheVariants.{Nothing}
use Rattle.sd_hand.specs.declared.acting.Actor.{Actor}
use Rattle.sd_state.specs.States.{cpu_of, no_cpu}
use Rattle.sd_world.proofs.ListLemmas.{all_made, one_more}
use Rattle.sd_world.proofs.PartLemmas.{actor_at, actor_inside, own_number}
use Rattle.sd_world.proofs.parts.cpus_of.Goals as goal

abbrev no_actor : Actor
no_actor = record { cpu = record { 0 = 0 }; count = 0; duty = Nothing }

pub loop-c-init : goal.loop-c-init
loop-c-init c s told are = c.new-cpus.ensures.items

pub cpu_of-requires : goal.cpu_of-requires
cpu_of-requires c =
    let (s, told, are) = c.requires in
    (s, told, actor_inside s c.args.actors.now c.loop-c.c no_actor are c.loop-c-test.true)

pub loop-c-preserved : goal.loop-c-preserved
loop-c-preserved c s told are =
    let inside : c.loop-c.c < length s.cpus = subst (λ n. c.loop-c.c < n) are.many c.loop-c-test.true in
    let is = actor_at s c.args.actors.now c.loop-c.c no_actor are c.loop-c-test.true in
    one_more s.cpus c.loop-c.cpus.items c.push.new.self.items c.loop-c.c c.cpu_of.result no_cpu inside (c.loop-c.invariant s told are)
    (c.cpu_of.ensures s told (own_number s c.loop-c.c (get_or c.args.actors.now c.loop-c.c no_actor) is) ∙ ap (cpu_of s) is.cpu) c.in_ok-push.ensures.items

pub returns : goal.returns
returns c s told are =
    let high = c.loop-c-test.false in
    let end = c.loop-c.auto.c-end in
    let many = are.many in
    let last : c.loop-c.c ≡ length s.cpus = omega (arith, many) in
    all_made s.cpus c.loop-c.cpus.items c.loop-c.c last (c.loop-c.invariant s told are)
