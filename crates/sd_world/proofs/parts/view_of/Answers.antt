use Rattle.std.proofs.Common.{sym, ap, ◌∙◌}
use Rattle.sd_types.specs.declared.numbers.HomeId.TheVariants.{Cpu}
use Rattle.sd_homes.specs.Families.{view_in}
use Rattle.sd_hand.proofs.SlotLemmas.{held_id}
use Rattle.sd_hand.proofs.TellLemmas.{has_view}
use Rattle.sd_world.proofs.PartLemmas.{never_lacks, view_is}
use Rattle.sd_world.proofs.parts.view_of.Goals as goal

pub unreachable-requires : goal.unreachable-requires
unreachable-requires c = let (s, told, inside) = c.requires in never_lacks c.args.hand.now.slots s told (Cpu c.args.c) inside c.in-Err.ensures.1

pub unreachable-requires-in-None : goal.unreachable-requires-in-None
unreachable-requires-in-None c =
    let a = c.in-Ok.ensures in
    has_view c.args.c a.0 (held_id (Cpu c.args.c) a.0 c.args.hand.now.slots a.1) (ap view_in (sym a.2) ∙ sym c.view.ensures ∙ c.in-None.is)

pub returns : goal.returns
returns c s told =
    let a = c.in-Ok.ensures in
    view_is c.args.hand.now.slots s told c.args.c a.0 c.in-Some.view a.1 (sym c.in-Some.is ∙ c.view.ensures ∙ ap view_in a.2)
