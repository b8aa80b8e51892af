use Rattle.std.proofs.Common.{◌∷◌, Some, None, reverse, refl, sym, ap, ◌∙◌, subst, arith}
use Rattle.atomic_table.specs.Table.{rest}
use Rattle.sd_world.specs.Homes.{IsNumber, index_of}
use Rattle.sd_shared_rule.specs.declared.views.View.TheVariants.{Works}
use Rattle.sd_shared_rule.specs.Places.{Stands, holds, sizes}
use Rattle.sd_shared_rule.specs.Plays.{desk_of, giving}
use Rattle.sd_shared_table.specs.Seats.{desk, indices, lent, work_of}
use Rattle.sd_shared_table.proofs.Fitting as F
use Rattle.sd_shared_table.proofs.shared.Shared.give.Goals as goal

pub put_down-home-requires-clause-some : goal.put_down-home-requires-clause-some
put_down-home-requires-clause-some c = let count = c.requires.fits.count in let some = c.requires.some in omega (arith, count, some)

pub put_down-home-requires-clause-held : goal.put_down-home-requires-clause-held
put_down-home-requires-clause-held c = F.has_last (work_of c.args.self.now) _ c.args.seat.now c.requires.fits

pub index-index-requires : goal.index-index-requires
index-index-requires c =
    let w = work_of c.args.self.now in
    record { there = subst (IsNumber (sizes w)) (sym c.id.ensures) (F.lowered_number w _ c.args.seat.now c.put_down-home.new.self c.put_down-home.result c.requires.fits c.put_down-home.ensures.lowered) }

pub exchange-requires : goal.exchange-requires
exchange-requires c =
    let w = work_of c.args.self.now in
    let low = c.put_down-home.ensures.lowered in
    let view = F.lowered_view w _ c.args.seat.now c.put_down-home.new.self c.put_down-home.result c.requires.fits low in
    let e = c.index-index.ensures.index ∙ ap (index_of (sizes w)) c.id.ensures in
    let tail = lent (indices w (reverse c.put_down-home.new.self.order.items)) in
    (ap (λ p. p.table_id) low.place ∙ c.requires.fits.table, (None, ap (λ m. m.1) view ∙ (ap (λ i. (i, None) ∷ tail) (sym e) ∙ ap (λ l. (c.index-index.result, None) ∷ l) (sym (ap (λ m. rest m.1) view)))))

pub lay-requires-clause-table : goal.lay-requires-clause-table
lay-requires-clause-table c = c.exchange.ensures.0 ∙ (ap (λ p. p.table_id) c.put_down-home.ensures.lowered.place ∙ c.requires.fits.table)

pub lay-requires-clause-desk : goal.lay-requires-clause-desk
lay-requires-clause-desk c =
    let s = c.args.seat.now in
    let e = ap (λ m. m.0) c.exchange.ensures.3 ∙ (ap (λ p. p.me.0) c.put_down-home.ensures.lowered.place ∙ ap (λ m. m.0) c.requires.fits.view) in
    e ∙ ap Works (sym (ap desk_of e))

pub lay-requires-clause-held : goal.lay-requires-clause-held
lay-requires-clause-held c =
    let w = work_of c.args.self.now in
    let low = c.put_down-home.ensures.lowered in
    let i = c.index-index.result in
    let e = c.index-index.ensures.index ∙ ap (index_of (sizes w)) c.id.ensures in
    ap (λ m. holds i (desk_of m.0).held) c.exchange.ensures.3
    ∙ (ap (λ p. holds i (desk_of p.me.0).held) low.place
    ∙ (ap (λ j. holds j (desk c.args.seat.now).held) e ∙ F.lowered_held w _ c.args.seat.now c.put_down-home.new.self c.put_down-home.result c.requires.fits low))

pub lay-requires-clause-settled : goal.lay-requires-clause-settled
lay-requires-clause-settled c = ap (λ m. (desk_of m.0).stray) c.exchange.ensures.3 ∙ (ap (λ p. (desk_of p.me.0).stray) c.put_down-home.ensures.lowered.place ∙ c.requires.fits.settled)

pub lay-requires-clause-home : goal.lay-requires-clause-home
lay-requires-clause-home c =
    let w = work_of c.args.self.now in
    let low = c.put_down-home.ensures.lowered in
    let x = c.put_down-home.result in
    let i = c.index-index.result in
    let e = c.index-index.ensures.index ∙ ap (index_of (sizes w)) c.id.ensures in
    let e3 = c.exchange.ensures.3 in (
      x,
      ap (λ m. m.1) e3 ∙ ap (λ l. (i, Some x) ∷ l) (sym (ap (λ m. rest m.1) e3)),
      subst (λ m. Stands w i (desk_of m.0).seen x) (sym e3) (subst (λ p. Stands w i (desk_of p.me.0).seen x) (sym low.place)
          (subst (λ j. Stands w j (desk c.args.seat.now).seen x) (sym e) (F.lowered_stands w _ c.args.seat.now c.put_down-home.new.self x c.requires.fits low))),
    )

pub returns-clause-fits : goal.returns-clause-fits
returns-clause-fits c =
    let w = work_of c.args.self.now in
    let s = c.args.seat.now in
    let f = c.requires.fits in
    let s1 = c.put_down-home.new.self in
    let low = c.put_down-home.ensures.lowered in
    let e = c.index-index.ensures.index ∙ ap (index_of (sizes w)) c.id.ensures in
    let e3 = c.exchange.ensures.3 in
    let d0 = ap (λ m. desk_of m.0) e3 ∙ ap (λ p. desk_of p.me.0) low.place in
    let r0 = ap (λ m. rest m.1) e3 ∙ ap (λ m. rest m.1) (F.lowered_view w _ s s1 c.put_down-home.result f low) in
    F.fits_given w _ s s1 c.put_down-home.result f low (record { place = c.lay.new.place; acting = s1.acting; order = s1.order; log = s1.log })
    (c.lay.ensures.table ∙ (c.exchange.ensures.0 ∙ (ap (λ p. p.table_id) low.place ∙ f.table))) (c.lay.ensures.told ∙ (λ j. (Works (giving (d0 j) (e j)), r0 j))) refl refl refl

pub returns-clause-stays : goal.returns-clause-stays
returns-clause-stays c =
    let w = work_of c.args.self.now in
    let s = c.args.seat.now in
    let f = c.requires.fits in
    let s1 = c.put_down-home.new.self in
    let low = c.put_down-home.ensures.lowered in
    let e = c.index-index.ensures.index ∙ ap (index_of (sizes w)) c.id.ensures in
    let e3 = c.exchange.ensures.3 in
    let d0 = ap (λ m. desk_of m.0) e3 ∙ ap (λ p. desk_of p.me.0) low.place in
    let r0 = ap (λ m. rest m.1) e3 ∙ ap (λ m. rest m.1) (F.lowered_view w _ s s1 c.put_down-home.result f low) in
    F.stays_given w _ s s1 c.put_down-home.result f low (record { place = c.lay.new.place; acting = s1.acting; order = s1.order; log = s1.log })
    (c.lay.ensures.table ∙ (c.exchange.ensures.0 ∙ (ap (λ p. p.table_id) low.place ∙ f.table))) (c.lay.ensures.told ∙ (λ j. (Works (giving (d0 j) (e j)), r0 j))) refl refl

pub returns-clause-quiet : goal.returns-clause-quiet
returns-clause-quiet c =
    let w = work_of c.args.self.now in
    let s = c.args.seat.now in
    let f = c.requires.fits in
    let s1 = c.put_down-home.new.self in
    let low = c.put_down-home.ensures.lowered in
    let e = c.index-index.ensures.index ∙ ap (index_of (sizes w)) c.id.ensures in
    let e3 = c.exchange.ensures.3 in
    let d0 = ap (λ m. desk_of m.0) e3 ∙ ap (λ p. desk_of p.me.0) low.place in
    let r0 = ap (λ m. rest m.1) e3 ∙ ap (λ m. rest m.1) (F.lowered_view w _ s s1 c.put_down-home.result f low) in
    F.quiet_given w _ s s1 c.put_down-home.result f low (record { place = c.lay.new.place; acting = s1.acting; order = s1.order; log = s1.log }) (c.lay.ensures.told ∙ (λ j. (Works (giving (d0 j) (e j)), r0 j)))

pub returns-clause-less : goal.returns-clause-less
returns-clause-less c = c.put_down-home.ensures.lowered.count
