use Rattle.std.proofs.Common.{◌≡◌, ap, ◌∙◌, arith}
use Rattle.sd_homes.specs.Homes.{how_many, is_chan_of}
use Rattle.sd_homes.proofs.Lengths.{left_count}
use Rattle.sd_homes.proofs.sleepers.SleepersHome.take_sleeper.Goals as goal

pub invariant_of-self : goal.invariant_of-self
invariant_of-self c =
    let of = ap (λ v. is_chan_of v.sleepers c.args.k.0) c.self.view_is ∙ c.requires in
    let r = left_count c.self.inside.sleepers c.take_at.new.self c.args.k.0 c.from.result c.self.inside.rack c.take_at.result of c.self.invariant.0 c.self.invariant.2 c.take_at.ensures.rest c.take_at.ensures.taken in
    let none : how_many c.take_at.result ≡ 0 = ap how_many c.in-None.is in
    let count = r.1 in
    (r.0, c.self.invariant.1, omega arith)

pub equipped-requires : goal.equipped-requires
equipped-requires c =
    let of = ap (λ v. is_chan_of v.sleepers c.args.k.0) c.self.view_is ∙ c.requires in
    let r = left_count c.self.inside.sleepers c.take_at.new.self c.args.k.0 c.from.result c.self.inside.rack c.take_at.result of c.self.invariant.0 c.self.invariant.2 c.take_at.ensures.rest c.take_at.ensures.taken in
    let one : how_many c.take_at.result ≡ 1 = ap how_many c.in-Some.is in
    let count = r.1 in
    omega arith

pub invariant_of-self-in-Some : goal.invariant_of-self-in-Some
invariant_of-self-in-Some c =
    let of = ap (λ v. is_chan_of v.sleepers c.args.k.0) c.self.view_is ∙ c.requires in
    let r = left_count c.self.inside.sleepers c.take_at.new.self c.args.k.0 c.from.result c.self.inside.rack c.take_at.result of c.self.invariant.0 c.self.invariant.2 c.take_at.ensures.rest c.take_at.ensures.taken in
    let one : how_many c.take_at.result ≡ 1 = ap how_many c.in-Some.is in
    let count = r.1 in
    let less = c.equipped.ensures.rack in
    (r.0, c.self.invariant.1, omega arith)
