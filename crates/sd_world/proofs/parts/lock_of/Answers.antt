use Rattle.std.proofs.Common.{◌%◌, sym, ap, ◌∙◌, arith}
use Rattle.sd_types.specs.declared.numbers.HomeId.TheVariants.{Chain}
use Rattle.sd_homes.specs.Families.{lock_in}
use Rattle.sd_hand.specs.Hands.{held}
use Rattle.sd_world.proofs.PartLemmas.{lock_is, never_lacks}
use Rattle.sd_world.proofs.parts.lock_of.Goals as goal

pub unreachable-requires : goal.unreachable-requires
unreachable-requires c =
    let (s, told) = c.requires in
    never_lacks c.args.hand.now.slots s told (Chain (c.args.l.0 % 64)) (omega arith) (ap (λ k. held k c.args.hand.now.slots) (sym c.home_of_lock.ensures) ∙ c.in-Err.ensures.1)

pub returns : goal.returns
returns c s told =
    let a = c.in-Ok.ensures in
    c.lock.ensures ∙ (ap (lock_in c.args.l.0) a.2 ∙ lock_is c.args.hand.now.slots s told c.args.l a.0 (ap (λ k. held k c.args.hand.now.slots) (sym c.home_of_lock.ensures) ∙ a.1))
