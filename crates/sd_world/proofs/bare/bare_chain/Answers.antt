use Rattle.std.proofs.Common.{ap, sym, subst}
use Rattle.sd_homes.specs.declared.home.Home.{Home}
use Rattle.sd_homes.specs.Families.{home_id}
use Rattle.sd_world.specs.Homes.{IsBare}
use Rattle.sd_world.proofs.BareLemmas.{chain_is_bare, four_steps}
use Rattle.sd_world.proofs.bare.bare_chain.Goals as goal

pub returns : goal.returns
returns c =
    let made = four_steps c.args.s.now c.args.i c.from-first.result c.new-home.result c.set_lock.new.self c.set_lock-2.new.self c.set_lock-3.new.self c.set_lock-4.new.self c.in_ok-new.field-0
    c.lock_of.result c.lock_of-2.result c.lock_of-3.result c.lock_of-4.result c.requires c.new-home.ensures c.from-first.ensures
    c.lock_of.ensures c.lock_of-2.ensures c.lock_of-3.ensures c.lock_of-4.ensures c.set_lock.ensures c.set_lock-2.ensures c.set_lock-3.ensures c.set_lock-4.ensures c.in_ok-new.ensures in
    (ap home_id made, subst (λ (h : Home). IsBare c.args.s.now h) (sym made) (chain_is_bare c.args.s.now c.args.i c.requires))
