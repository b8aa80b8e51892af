use Rattle.std.proofs.Common.{[], sym, subst}
use Rattle.sd_world.specs.Told.{AreActorsOf}
use Rattle.sd_shared_rule.specs.Places.{now}
use Rattle.sd_shared_table.specs.Seats.{id_of}
use Rattle.sd_shared_table.specs.Whole.{AreSeats}
use Rattle.sd_shared_table.proofs.OpeningLemmas.{actors_begun, all_held, opens_with}
use Rattle.sd_shared_table.proofs.shared.Shared.open.Goals as goal

pub words_of-requires : goal.words_of-requires
words_of-requires c = record { stands = c.in_ok-world.ensures.stands }

pub slots_of-requires : goal.slots_of-requires
slots_of-requires c = record { all = λ k number. all_held c.args.work.now c.in_ok-world.world c.in_ok-world.ensures.stands c.in_ok-world.ensures.entries k number }

pub of_parts-requires-clause-kept : goal.of_parts-requires-clause-kept
of_parts-requires-clause-kept c =
    opens_with c.args.work.now c.in_ok-world.world c.in_ok-world.ensures.stands c.in_ok-world.ensures.entries c.in_ok-words.words.items c.in_ok-slots.slots.items c.in_ok-words.ensures c.in_ok-slots.ensures

pub of_parts-requires-clause-counts : goal.of_parts-requires-clause-counts
of_parts-requires-clause-counts c = (c.in_ok-words.ensures.many, c.in_ok-slots.ensures.many)

pub seats-requires-clause-maker : goal.seats-requires-clause-maker
seats-requires-clause-maker c = c.in_ok-shared.ensures.maker

pub seats-requires-clause-actors : goal.seats-requires-clause-actors
seats-requires-clause-actors c =
    subst (λ w. AreActorsOf (now w []) c.deref.result.now) (sym c.in_ok-shared.ensures.work)
    (subst (AreActorsOf (now c.args.work.now [])) (sym c.deref.ensures.value) (actors_begun c.args.work.now c.in_ok-world.world c.in_ok-world.ensures.stands c.in_ok-world.ensures.entries))

pub returns-clause-work : goal.returns-clause-work
returns-clause-work c = c.in_ok-shared.ensures.work

pub returns-clause-seats : goal.returns-clause-seats
returns-clause-seats c = subst (λ w. AreSeats (id_of c.in_ok-shared.shared) w c.in_ok-seats.seats.items) c.in_ok-shared.ensures.work c.in_ok-seats.ensures.seats

pub returns-clause-fresh : goal.returns-clause-fresh
returns-clause-fresh c = c.in_ok-seats.ensures.fresh
