use Rattle.std.proofs.Common.{◌∙◌, ap, sym, subst}
use Rattle.sd_world.specs.Homes.{IsNumber, index_of}
use Rattle.sd_shared_rule.specs.Places.{sizes}
use Rattle.sd_shared_table.proofs.WordLemmas.{listed_number, listed_place, listed_there}
use Rattle.sd_shared_table.proofs.words.place_of.Goals as goal

pub index_in-requires : goal.index_in-requires
index_in-requires c =
    let w = c.args.work.now in
    record { there = subst (IsNumber (sizes w)) (sym c.home_at.ensures) (listed_number w c.args.world.now c.requires.stands c.args.t.0 c.in-Ok.at c.in-Ok.ensures) }

pub unreachable-requires : goal.unreachable-requires
unreachable-requires c = listed_there c.args.work.now c.args.world.now c.requires.stands c.args.t.0 c.requires.there c.in-Err.ensures.1

pub returns : goal.returns
returns c =
    let w = c.args.work.now in
    c.index_in.ensures ∙ (ap (index_of (sizes w)) c.home_at.ensures ∙ listed_place w c.args.world.now c.requires.stands c.args.t.0 c.in-Ok.at c.in-Ok.ensures)
