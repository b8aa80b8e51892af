use Rattle.std.proofs.Common.{ap, sym, ◌∙◌}
use Rattle.sd_homes.specs.Homes.{is_chan_of}
use Rattle.sd_homes.proofs.Lengths.{come_count}
use Rattle.sd_homes.proofs.sleepers.SleepersHome.put_sleeper.Goals as goal

pub invariant_of-self : goal.invariant_of-self
invariant_of-self c =
    let of = ap (λ v. is_chan_of v.sleepers c.args.k.0) c.self.view_is ∙ c.requires in
    let r = come_count c.self.inside.sleepers c.sleep.new.self c.args.k.0 c.self.inside.rack c.into_parts-node.result.0 of c.self.invariant.0 c.self.invariant.2 c.sleep.ensures in
    (r.0, c.self.invariant.1, c.put.ensures ∙ sym r.1)
