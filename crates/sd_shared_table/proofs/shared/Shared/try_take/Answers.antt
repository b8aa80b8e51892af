use Rattle.std.proofs.Common.{◌≡◌, ◌-◌, ◌∷◌, Some, false, refl, sym, ap, ◌∙◌, subst, arith}
use Rattle.sd_basics.proofs.Lists.{none_of}
use Rattle.atomic_table.specs.Table.{rest}
use Rattle.sd_hand.specs.Hands.{held as held_in}
use Rattle.sd_world.proofs.NumberLemmas.{same_number}
use Rattle.sd_shared_rule.specs.Places.{holds, sizes}
use Rattle.sd_shared_rule.proofs.Bridge.{is_number}
use Rattle.sd_shared_table.specs.Seats.{desk, work_of}
use Rattle.sd_shared_table.proofs.Fitting as F
use Rattle.sd_shared_table.proofs.shared.Shared.try_take.Goals as goal

pub index-index-requires : goal.index-index-requires
index-index-requires c = record { there = is_number (work_of c.args.self.now) (desk c.args.seat.now).seen c.requires.fits.run c.args.k c.requires.can.there }

pub grab-found-requires-clause-fresh : goal.grab-found-requires-clause-fresh
grab-found-requires-clause-fresh c =
    let f = c.requires.fits in
    let number = is_number (work_of c.args.self.now) (desk c.args.seat.now).seen f.run c.args.k c.requires.can.there in
    subst (λ i. holds i (desk c.args.seat.now).held ≡ false) (sym c.index-index.ensures.index) (f.held c.args.k number ∙ c.requires.can.fresh refl)

pub returns-then-found-ne0-clause-fits : goal.returns-then-found-ne0-clause-fits
returns-then-found-ne0-clause-fits c =
    let s = c.args.seat.now in
    let f = c.requires.fits in
    let told = c.grab-found.ensures.told in
    F.fits_missed (work_of c.args.self.now) _ s (record { place = c.grab-found.new.place; acting = s.acting; order = s.order; log = s.log }) told.0 c.index-index.result c.grab-found.result f told.1 (c.grab-found.ensures.table ∙ f.table) (told.3 c.if-found-ne0.true).1 refl refl refl

pub returns-then-found-ne0-clause-takes : goal.returns-then-found-ne0-clause-takes
returns-then-found-ne0-clause-takes c =
    let s = c.args.seat.now in
    let f = c.requires.fits in
    let told = c.grab-found.ensures.told in
    F.missed (work_of c.args.self.now) _ s (record { place = c.grab-found.new.place; acting = s.acting; order = s.order; log = s.log }) told.0 c.index-index.result c.grab-found.result c.args.k (c.grab-found.result - 1) c.index-index.ensures.index f told.1
    (c.grab-found.ensures.table ∙ f.table) (told.3 c.if-found-ne0.true).1 refl refl (let ne = c.if-found-ne0.true in omega (arith, ne))

pub lift-requires-clause-out : goal.lift-requires-clause-out
lift-requires-clause-out c =
    let w = work_of c.args.self.now in
    let number = is_number w (desk c.args.seat.now).seen c.requires.fits.run c.args.k c.requires.can.there in
    let hit = c.grab-found.ensures.told.2 c.if-found-ne0.false in
    let i = c.index-index.result in
    (hit.0, same_number (sizes w) _ c.args.k hit.1.placed.number number (hit.1.placed.index ∙ c.index-index.ensures.index), ap (λ m. m.1) hit.2 ∙ ap (λ l. (i, Some hit.0) ∷ l) (sym (ap (λ m. rest m.1) hit.2)))

pub lift-requires-clause-fresh : goal.lift-requires-clause-fresh
lift-requires-clause-fresh c = none_of (held_in c.args.k c.args.seat.now.acting.hand.slots) (c.requires.can.fresh refl)

pub lift-requires-clause-room : goal.lift-requires-clause-room
lift-requires-clause-room c =
    let less = c.requires.can.room refl in
    let count = c.requires.fits.count in
    (less, omega (arith, less, count))

pub returns-clause-fits : goal.returns-clause-fits
returns-clause-fits c =
    let w = work_of c.args.self.now in
    let s = c.args.seat.now in
    let f = c.requires.fits in
    let number = is_number w (desk s).seen f.run c.args.k c.requires.can.there in
    let told = c.grab-found.ensures.told in
    let hit = told.2 c.if-found-ne0.false in
    F.fits_taken_at w _ s c.lift.new.seat (record { place = c.grab-found.new.place; acting = s.acting; order = s.order; log = s.log }) told.0 c.args.k hit.0 c.index-index.result c.index-index.ensures.index f told.1 hit.1 number hit.2
    (c.grab-found.ensures.table ∙ f.table) refl refl refl c.lift.ensures.lifted

pub returns-clause-takes : goal.returns-clause-takes
returns-clause-takes c =
    let w = work_of c.args.self.now in
    let s = c.args.seat.now in
    let f = c.requires.fits in
    let told = c.grab-found.ensures.told in
    let hit = told.2 c.if-found-ne0.false in
    F.gains_taken w _ s c.lift.new.seat (record { place = c.grab-found.new.place; acting = s.acting; order = s.order; log = s.log }) told.0 c.args.k hit.0 c.index-index.result f told.1 hit.2 (c.grab-found.ensures.table ∙ f.table) refl refl
    c.lift.ensures.lifted
