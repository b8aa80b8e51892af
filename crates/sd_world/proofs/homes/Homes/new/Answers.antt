use Rattle.std.proofs.Common.{◌≡◌, ◌∙◌, length, subst, sym}
use Rattle.sd_world.specs.Homes.{AllHomes, ArePlaced, sizes_of}
use Rattle.sd_world.proofs.ComeLemmas.{all_homes, bare_placed, few_homes, one_list, shows_none}
use Rattle.sd_world.proofs.homes.Homes.new.Goals as goal

pub bare_homes-requires : goal.bare_homes-requires
bare_homes-requires c = record { few = few_homes c.args.work.now c.args.number c.args.s.now c.requires }

pub invariant_of-homes : goal.invariant_of-homes
invariant_of-homes c =
    let same : record { cpus = length c.items.result.now; sets = length c.items-2.result.now } ≡ sizes_of c.args.s.now = (λ j. record { cpus = length (c.items.ensures j); sets = length (c.items-2.ensures j) }) in
    subst (λ z. ArePlaced z c.in_ok-bare_homes.field-0.items) (sym same) (bare_placed c.args.s.now c.in_ok-bare_homes.field-0.items c.in_ok-bare_homes.ensures)

pub settle-requires-clause-bare : goal.settle-requires-clause-bare
settle-requires-clause-bare c =
    shows_none c.args.s.now (record { cpus = length c.items.result.now; sets = length c.items-2.result.now }) c.in_ok-bare_homes.field-0.items
    (λ j. record { cpus = length (c.items.ensures j); sets = length (c.items-2.ensures j) }) c.in_ok-bare_homes.ensures

pub returns-clause-all : goal.returns-clause-all
returns-clause-all c =
    all_homes c.args.work.now c.args.number c.args.s.now c.settle.new.self.sizes c.settle.new.self.slots c.requires
    (c.in_ok-settle.ensures.sizes ∙ (λ j. record { cpus = length (c.items.ensures j); sets = length (c.items-2.ensures j) }))
    (subst (λ (x : AllHomes). ArePlaced x.sizes x.slots) c.homes.view_is c.homes.invariant) c.in_ok-settle.ensures.all c.in_ok-settle.ensures.shows

pub returns-clause-one : goal.returns-clause-one
returns-clause-one c = one_list c.args.work.now c.args.number c.args.s.now c.settle.new.self.slots c.requires (returns-clause-all c)
