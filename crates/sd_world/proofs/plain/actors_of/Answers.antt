use Rattle.std.proofs.Common.{◌≡◌, length, ap, ◌∙◌, arith}
use Rattle.sd_world.proofs.ActorLemmas.{all_first, none_first, one_first}
use Rattle.sd_world.proofs.plain.actors_of.Goals as goal

pub loop-c-init : goal.loop-c-init
loop-c-init c = none_first c.args.s.now c.new-actors.result.items c.new-actors.ensures.items

pub loop-c-preserved : goal.loop-c-preserved
loop-c-preserved c =
    one_first c.args.s.now c.loop-c.c c.loop-c.actors.items c.push.new.self.items c.actor_of.result c.loop-c.invariant c.actor_of.ensures c.in_ok-push.ensures.items

pub returns : goal.returns
returns c =
    let high = c.loop-c-test.false in
    let end = c.loop-c.auto.c-end in
    let last : c.loop-c.c ≡ length c.items-cpus.result.now = omega arith in
    all_first c.args.s.now c.loop-c.c c.loop-c.actors.items c.loop-c.invariant (last ∙ ap length c.items-cpus.ensures)
