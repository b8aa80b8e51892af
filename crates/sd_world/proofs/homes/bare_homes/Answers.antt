use Rattle.std.proofs.Common.{◌≡◌, length, ap, subst, arith}
use Rattle.sd_world.specs.Homes.{AreBare, IsNumberAt, how_many, sizes_of}
use Rattle.sd_world.proofs.ComeLemmas.{bare_more, bare_none}
use Rattle.sd_world.proofs.homes.bare_homes.Goals as goal

pub loop-i-init : goal.loop-i-init
loop-i-init c = bare_none c.args.s.now c.new-slots.result.items c.new-slots.ensures.items

pub loop-i-preserved : goal.loop-i-preserved
loop-i-preserved c =
    bare_more c.args.s.now c.loop-i.i c.loop-i.slots.items c.push.new.self.items c.number_at.result c.in_ok-bare_home.field-0 c.loop-i.invariant
    (subst (λ z. IsNumberAt z c.loop-i.i c.number_at.result) (λ j. record { cpus = length (c.items-cpus.ensures j); sets = length (c.items-sets.ensures j) }) c.number_at.ensures)
    c.in_ok-bare_home.ensures.0 c.in_ok-bare_home.ensures.1 c.in_ok-push.ensures.items

pub returns : goal.returns
returns c =
    let cpus = ap length c.items-cpus.ensures in
    let sets = ap length c.items-sets.ensures in
    let high = c.loop-i-test.false in
    let end = c.loop-i.auto.i-end in
    let all : c.loop-i.i ≡ how_many (sizes_of c.args.s.now) = omega arith in
    subst (λ m. AreBare c.args.s.now m c.loop-i.slots.items) all c.loop-i.invariant
