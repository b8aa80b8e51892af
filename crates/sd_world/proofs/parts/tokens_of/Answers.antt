use Rattle.std.proofs.Common.{◌%◌, sym, ap, ◌∙◌, arith}
use Rattle.sd_types.specs.declared.numbers.HomeId.TheVariants.{Sleepers}
use Rattle.sd_homes.specs.Families.{tokens_in}
use Rattle.sd_hand.specs.Hands.{held}
use Rattle.sd_world.proofs.PartLemmas.{never_lacks, tokens_are}
use Rattle.sd_world.proofs.parts.tokens_of.Goals as goal

pub unreachable-requires : goal.unreachable-requires
unreachable-requires c =
    let (s, told) = c.requires in
    never_lacks c.args.hand.now.slots s told (Sleepers (c.args.k.0 % 64)) (omega arith) (ap (λ k. held k c.args.hand.now.slots) (sym c.home_of_chan.ensures) ∙ c.in-Err.ensures.1)

pub returns : goal.returns
returns c s told =
    let a = c.in-Ok.ensures in
    c.tokens.ensures ∙ (ap (tokens_in c.args.k.0) a.2 ∙ tokens_are c.args.hand.now.slots s told c.args.k a.0 (ap (λ k. held k c.args.hand.now.slots) (sym c.home_of_chan.ensures) ∙ a.1))
