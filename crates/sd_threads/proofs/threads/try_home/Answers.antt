use Rattle.std.proofs.Common.{◌-◌, ◌<◌, refl, sym, ap, ◌∙◌, subst, arith}
use Rattle.sd_world.proofs.NumberLemmas.{index_below, same_number}
use Rattle.sd_shared_rule.specs.declared.views.View.TheVariants.{Works}
use Rattle.sd_shared_rule.specs.Places.{home_count, sizes}
use Rattle.sd_shared_rule.specs.Plays.{desk_of}
use Rattle.sd_shared_table.specs.declared.seat.Seat.{Seat}
use Rattle.sd_shared_table.specs.Seats.{work_of}
use Rattle.sd_shared_table.proofs.Fitting.{fits_missed}
use Rattle.sd_threads.proofs.Locking as L
use Rattle.sd_threads.proofs.threads.try_home.Goals as goal

pub grab-found-requires-clause-inside : goal.grab-found-requires-clause-inside
grab-found-requires-clause-inside c =
    let w = work_of c.args.shared.now in
    subst (λ i. i < home_count w) c.requires.number.0 (index_below (sizes w) c.args.k c.requires.number.1)

pub returns-then-found-ne0-clause-fits : goal.returns-then-found-ne0-clause-fits
returns-then-found-ne0-clause-fits c =
    let s = c.args.seat.now in
    let f = c.requires.fits in
    let told = c.grab-found.ensures.told in
    fits_missed (work_of c.args.shared.now) _ s (record { place = c.grab-found.new.place; acting = s.acting; order = s.order; log = s.log }) told.0 c.args.index c.grab-found.result f told.1 (c.grab-found.ensures.table ∙ f.table) (told.3 c.if-found-ne0.true).1 refl refl refl

pub returns-then-found-ne0-clause-tries : goal.returns-then-found-ne0-clause-tries
returns-then-found-ne0-clause-tries c =
    let s = c.args.seat.now in
    let f = c.requires.fits in
    let told = c.grab-found.ensures.told in (
      refl,
      L.misses_at (work_of c.args.shared.now) _ s f (record { place = c.grab-found.new.place; acting = s.acting; order = s.order; log = s.log }) told.0 c.args.index c.grab-found.result c.args.k (c.grab-found.result - 1) c.requires.number told.1 (c.grab-found.ensures.table ∙ f.table) (told.3 c.if-found-ne0.true).1 refl refl
          (let ne = c.if-found-ne0.true in omega (arith, ne)),
    )

pub look-again-requires-clause-table : goal.look-again-requires-clause-table
look-again-requires-clause-table c = c.grab-found.ensures.table ∙ c.requires.fits.table

pub look-again-requires-clause-desk : goal.look-again-requires-clause-desk
look-again-requires-clause-desk c =
    let hit = c.grab-found.ensures.told.2 c.if-found-ne0.false in
    ap (λ m. m.0) hit.2 ∙ ap Works (sym (ap (λ m. desk_of m.0) hit.2))

pub lift-requires-clause-out : goal.lift-requires-clause-out
lift-requires-clause-out c =
    let w = work_of c.args.shared.now in
    let s = c.args.seat.now in
    let f = c.requires.fits in
    let told1 = c.grab-found.ensures.told in
    let hit = told1.2 c.if-found-ne0.false in
    let told2 = c.look-again.ensures.told in
    (hit.0, same_number (sizes w) _ c.args.k hit.1.placed.number c.requires.number.1 (hit.1.placed.index ∙ sym c.requires.number.0), L.in_front w _ s f c.args.k c.args.index c.requires.number hit.0 told1.0 told2.0 c.args.t.0 c.look-again.result c.grab-found.new.place.me c.look-again.new.place.me told1.1 hit.1 hit.2 told2.1 told2.2)

pub lift-requires-clause-table : goal.lift-requires-clause-table
lift-requires-clause-table c = c.look-again.ensures.table ∙ (c.grab-found.ensures.table ∙ c.requires.fits.table)

pub lift-requires-clause-fresh : goal.lift-requires-clause-fresh
lift-requires-clause-fresh c = L.not_held (work_of c.args.shared.now) _ c.args.seat.now c.requires.fits c.args.k c.args.index c.requires.number c.requires.fresh

pub returns-then-again-index-clause-fits : goal.returns-then-again-index-clause-fits
returns-then-again-index-clause-fits c =
    let w = work_of c.args.shared.now in
    let s = c.args.seat.now in
    let f = c.requires.fits in
    let told1 = c.grab-found.ensures.told in
    let hit = told1.2 c.if-found-ne0.false in
    let told2 = c.look-again.ensures.told in
    let s2 : Seat = record { place = c.look-again.new.place; acting = s.acting; order = s.order; log = s.log } in
    L.fits_locked w _ s f c.args.k c.args.index c.requires.number hit.0 told1.0 told2.0 c.args.t.0 c.look-again.result c.grab-found.new.place.me c.look-again.new.place.me told1.1 hit.1 hit.2 told2.1 told2.2 s2 c.lift.new.seat refl (c.look-again.ensures.table ∙ (c.grab-found.ensures.table ∙ f.table)) refl refl refl c.lift.ensures.lifted

pub returns-then-again-index-clause-tries : goal.returns-then-again-index-clause-tries
returns-then-again-index-clause-tries c =
    let w = work_of c.args.shared.now in
    let s = c.args.seat.now in
    let f = c.requires.fits in
    let told1 = c.grab-found.ensures.told in
    let hit = told1.2 c.if-found-ne0.false in
    let told2 = c.look-again.ensures.told in
    let s2 : Seat = record { place = c.look-again.new.place; acting = s.acting; order = s.order; log = s.log } in
    (refl, L.locks_thread w _ s f c.args.k c.args.index c.requires.number hit.0 told1.0 told2.0 c.args.t.0 c.look-again.result c.grab-found.new.place.me c.look-again.new.place.me told1.1 hit.1 hit.2 told2.1 told2.2 s2 c.lift.new.seat refl (c.look-again.ensures.table ∙ (c.grab-found.ensures.table ∙ f.table)) refl refl refl c.lift.ensures.lifted c.args.t refl c.requires.there c.if-again-index.true told2.4)

pub lay-requires-clause-table : goal.lay-requires-clause-table
lay-requires-clause-table c = c.look-again.ensures.table ∙ (c.grab-found.ensures.table ∙ c.requires.fits.table)

pub lay-requires-clause-desk : goal.lay-requires-clause-desk
lay-requires-clause-desk c =
    let w = work_of c.args.shared.now in
    let s = c.args.seat.now in
    let f = c.requires.fits in
    let told1 = c.grab-found.ensures.told in
    let hit = told1.2 c.if-found-ne0.false in
    let told2 = c.look-again.ensures.told in
    L.is_desk2 w _ s f c.args.k c.args.index c.requires.number hit.0 told1.0 told2.0 c.args.t.0 c.look-again.result c.grab-found.new.place.me c.look-again.new.place.me told1.1 hit.1 hit.2 told2.1 told2.2

pub lay-requires-clause-inside : goal.lay-requires-clause-inside
lay-requires-clause-inside c =
    let w = work_of c.args.shared.now in
    subst (λ i. i < home_count w) c.requires.number.0 (index_below (sizes w) c.args.k c.requires.number.1)

pub lay-requires-clause-held : goal.lay-requires-clause-held
lay-requires-clause-held c =
    let w = work_of c.args.shared.now in
    let s = c.args.seat.now in
    let f = c.requires.fits in
    let told1 = c.grab-found.ensures.told in
    let hit = told1.2 c.if-found-ne0.false in
    let told2 = c.look-again.ensures.told in
    L.still_held w _ s f c.args.k c.args.index c.requires.number hit.0 told1.0 told2.0 c.args.t.0 c.look-again.result c.grab-found.new.place.me c.look-again.new.place.me told1.1 hit.1 hit.2 told2.1 told2.2

pub lay-requires-clause-settled : goal.lay-requires-clause-settled
lay-requires-clause-settled c =
    let w = work_of c.args.shared.now in
    let s = c.args.seat.now in
    let f = c.requires.fits in
    let told1 = c.grab-found.ensures.told in
    let hit = told1.2 c.if-found-ne0.false in
    let told2 = c.look-again.ensures.told in
    L.still_settled w _ s f c.args.k c.args.index c.requires.number hit.0 told1.0 told2.0 c.args.t.0 c.look-again.result c.grab-found.new.place.me c.look-again.new.place.me told1.1 hit.1 hit.2 told2.1 told2.2

pub lay-requires-clause-home : goal.lay-requires-clause-home
lay-requires-clause-home c =
    let w = work_of c.args.shared.now in
    let s = c.args.seat.now in
    let f = c.requires.fits in
    let told1 = c.grab-found.ensures.told in
    let hit = told1.2 c.if-found-ne0.false in
    let told2 = c.look-again.ensures.told in
    L.still_out w _ s f c.args.k c.args.index c.requires.number hit.0 told1.0 told2.0 c.args.t.0 c.look-again.result c.grab-found.new.place.me c.look-again.new.place.me told1.1 hit.1 hit.2 told2.1 told2.2

pub home_at-requires : goal.home_at-requires
home_at-requires c = record { inside = c.look-again.ensures.told.3 }

pub returns-clause-fits : goal.returns-clause-fits
returns-clause-fits c =
    let w = work_of c.args.shared.now in
    let s = c.args.seat.now in
    let f = c.requires.fits in
    let told1 = c.grab-found.ensures.told in
    let hit = told1.2 c.if-found-ne0.false in
    let told2 = c.look-again.ensures.told in
    let s' : Seat = record { place = c.lay.new.place; acting = s.acting; order = s.order; log = s.log } in
    L.fits_left w _ s f c.args.k c.args.index c.requires.number hit.0 told1.0 told2.0 c.args.t.0 c.look-again.result c.grab-found.new.place.me c.look-again.new.place.me told1.1 hit.1 hit.2 told2.1 told2.2 s' (c.lay.ensures.table ∙ (c.look-again.ensures.table ∙ (c.grab-found.ensures.table ∙ f.table))) c.lay.ensures.told refl refl refl

pub returns-clause-tries : goal.returns-clause-tries
returns-clause-tries c =
    let w = work_of c.args.shared.now in
    let s = c.args.seat.now in
    let f = c.requires.fits in
    let told1 = c.grab-found.ensures.told in
    let hit = told1.2 c.if-found-ne0.false in
    let told2 = c.look-again.ensures.told in
    let s' : Seat = record { place = c.lay.new.place; acting = s.acting; order = s.order; log = s.log } in (
      refl,
      L.other_home w _ s f c.args.k c.args.index c.requires.number hit.0 told1.0 told2.0 c.args.t.0 c.look-again.result c.grab-found.new.place.me c.look-again.new.place.me told1.1 hit.1 hit.2 told2.1 told2.2 s' (c.lay.ensures.table ∙ (c.look-again.ensures.table ∙ (c.grab-found.ensures.table ∙ f.table))) c.lay.ensures.told refl refl c.home_at.result c.home_at.ensures c.if-again-index.false,
      L.leaves w _ s f c.args.k c.args.index c.requires.number hit.0 told1.0 told2.0 c.args.t.0 c.look-again.result c.grab-found.new.place.me c.look-again.new.place.me told1.1 hit.1 hit.2 told2.1 told2.2 s' (c.lay.ensures.table ∙ (c.look-again.ensures.table ∙ (c.grab-found.ensures.table ∙ f.table))) c.lay.ensures.told refl refl c.home_at.result c.home_at.ensures,
    )
