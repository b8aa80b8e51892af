use Rattle.std.proofs.Common.{ap, ◌∙◌}
use Rattle.sd_types.specs.declared.numbers.HomeId.TheVariants.{RealTime}
use Rattle.sd_homes.specs.Families.{open_in}
use Rattle.sd_world.proofs.PartLemmas.{never_lacks, open_is}
use Rattle.sd_world.proofs.parts.open_of.Goals as goal

pub unreachable-requires : goal.unreachable-requires
unreachable-requires c = let (s, told, inside) = c.requires in never_lacks c.args.hand.now.slots s told (RealTime c.args.p) inside c.in-Err.ensures.1

pub returns : goal.returns
returns c s told =
    let a = c.in-Ok.ensures in
    c.in-Ok-try_from.ensures.0 ∙ (c.open_cpus.ensures.value ∙ (ap open_in a.2 ∙ open_is c.args.hand.now.slots s told c.args.p a.0 a.1))
