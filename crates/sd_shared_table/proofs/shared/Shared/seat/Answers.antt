use Rattle.std.proofs.Common.{[], refl, sym, ap, ◌∙◌, subst, arith}
use Rattle.atomic_table.specs.Table.{Splits}
use Rattle.sd_shared_rule.specs.Rule.{Kept}
use Rattle.sd_shared_rule.proofs.Making.{seat_made}
use Rattle.sd_shared_table.specs.Intents.{maker_cut, maker_next}
use Rattle.sd_shared_table.specs.Seats.{id_of, work_of}
use Rattle.sd_shared_table.proofs.OpeningLemmas.{seat_new}
use Rattle.sd_shared_table.proofs.shared.Shared.seat.Goals as goal

pub split_seat-place-requires : goal.split_seat-place-requires
split_seat-place-requires c =
    let w = work_of c.args.self.now in
    let id = c.args.maker.now.id in
    let words = c.args.self.now.words in (
      c.requires.maker.0,
      (omega (arith, words)),
      subst (λ v. Splits (Kept w) id v (maker_next v) (maker_cut v)) (sym (ap (λ m. m.0) c.requires.maker.1)) (seat_made w id c.args.actor.cpu.0 c.requires.inside),
    )

pub returns-clause-maker : goal.returns-clause-maker
returns-clause-maker c =
    let made = c.split_seat-place.ensures in
    (made.0 ∙ c.requires.maker.0, made.2 ∙ (λ i. (maker_next (c.requires.maker.1 i).0, (c.requires.maker.1 i).1)))

pub returns-clause-seat : goal.returns-clause-seat
returns-clause-seat c =
    let made = c.split_seat-place.ensures in
    seat_new (work_of c.args.self.now) (id_of c.args.self.now)
    (record { place = c.split_seat-place.result; acting = record { hand = c.in_ok-hand.hand; actor = c.args.actor }; order = c.new-2.result; log = c.new-3.result })
    c.args.actor.cpu.0 c.requires.inside (made.3 ∙ c.requires.maker.0) (made.4 ∙ ap (λ m. (maker_cut m.0, [])) c.requires.maker.1) c.in_ok-hand.ensures refl c.requires.actor c.new-2.ensures c.new-3.ensures.items
