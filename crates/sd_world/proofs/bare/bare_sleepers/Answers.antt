use Rattle.std.proofs.Common.{ap, sym, subst}
use Rattle.sd_homes.specs.declared.home.Home.{Home}
use Rattle.sd_homes.specs.Families.{home_id}
use Rattle.sd_world.specs.Homes.{IsBare}
use Rattle.sd_world.proofs.BareLemmas.{four_tokens, sleepers_are_bare}
use Rattle.sd_world.proofs.bare.bare_sleepers.Goals as goal

pub returns : goal.returns
returns c =
    let made = four_tokens c.args.s.now c.args.i c.from-first.result c.tokens_of.result c.tokens_of-2.result c.tokens_of-3.result c.tokens_of-4.result c.new-counts.result c.new.result c.in_ok-new.field-0
    c.from-first.ensures c.tokens_of.ensures c.tokens_of-2.ensures c.tokens_of-3.ensures c.tokens_of-4.ensures c.new-counts.ensures c.new.ensures c.in_ok-new.ensures in
    (ap home_id made, subst (λ (h : Home). IsBare c.args.s.now h) (sym made) (sleepers_are_bare c.args.s.now c.args.i c.requires))
