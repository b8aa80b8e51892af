use Rattle.std.proofs.Common.{◌≡◌, length, map, Some, refl, sym, ap, ◌∙◌, subst, arith}
use Rattle.std.specs.Prelude.{vec_len}
use Rattle.std.proofs.lemmas.Option.{slice_get-get_or}
use Rattle.sd_world.specs.Plain.{Stands}
use Rattle.sd_world.specs.declared.plain.PlainWorld.{PlainWorld}
use Rattle.sd_shared_rule.specs.Ledgers.{by}
use Rattle.sd_shared_table.specs.declared.seat.Seat.{Seat}
use Rattle.sd_shared_table.specs.Seats.{desk, id_of, work_of}
use Rattle.sd_shared_table.proofs.ClosingLemmas.{are_slots, logged, logs_of, seens_are, some_actor, stands_again}
use Rattle.sd_shared_table.proofs.shared.Shared.close.Goals as goal

pub end-ended-requires-clause-gathered : goal.end-ended-requires-clause-gathered
end-ended-requires-clause-gathered c = seens_are (id_of c.args.self) (work_of c.args.self) c.args.seats.items c.in_ok-gathered.gathered c.requires.seats c.in_ok-gathered.ensures

pub end-ended-requires-clause-room : goal.end-ended-requires-clause-room
end-ended-requires-clause-room c = (c.in_ok-slots.ensures.items, c.in_ok-slots.ensures.capacity)

pub in_order-requires : goal.in_order-requires
in_order-requires c =
    let w = work_of c.args.self in
    let seats = c.args.seats.items in
    let is = c.in_ok-gathered.ensures in
    let ended = c.end-ended.ensures (map (λ (s : Seat). (desk s).seen) seats) (ap (λ m. m.0) is.view) in
    record { logs = (ended.entries, logs_of w (id_of c.args.self) seats c.in_ok-gathered.gathered c.end-ended.result c.requires.seats is ended, sym ended.count) }

pub index-actor-requires : goal.index-actor-requires
index-actor-requires c =
    let w = work_of c.args.self in
    let seats = c.args.seats.items in
    let is = c.in_ok-gathered.ensures in
    let ended = c.end-ended.ensures (map (λ (s : Seat). (desk s).seen) seats) (ap (λ m. m.0) is.view) in
    let some = some_actor w (id_of c.args.self) seats c.in_ok-gathered.gathered c.end-ended.result c.requires.seats is ended in
    let many : vec_len c.in_ok-gathered.gathered.actors ≡ length c.in_ok-gathered.gathered.actors.items = grind arith in
    omega (arith, some, many)

pub of-requires : goal.of-requires
of-requires c =
    let w = work_of c.args.self in
    let seats = c.args.seats.items in
    let is = c.in_ok-gathered.ensures in
    let ended = c.end-ended.ensures (map (λ (s : Seat). (desk s).seen) seats) (ap (λ m. m.0) is.view) in
    record { slots = are_slots w (id_of c.args.self) seats c.in_ok-gathered.gathered c.end-ended.result c.requires.seats is ended }

pub returns-clause-stands : goal.returns-clause-stands
returns-clause-stands c =
    let w = work_of c.args.self in
    let t = id_of c.args.self in
    let seats = c.args.seats.items in
    let g = c.in_ok-gathered.gathered in
    let x = c.end-ended.result in
    let is = c.in_ok-gathered.ensures in
    let ended = c.end-ended.ensures (map (λ (s : Seat). (desk s).seen) seats) (ap (λ m. m.0) is.view) in
    let entries = c.in_ok-entries.ensures ended.entries (logs_of w t seats g x c.requires.seats is ended) (sym ended.count) in
    let a = c.index-actor.result.now in
    let first = slice_get-get_or g.actors.items 0 a (some_actor w t seats g x c.requires.seats is ended) ∙ ap Some (sym c.index-actor.ensures) in
    let p : PlainWorld = record { work = c.args.work; acting = record { hand = c.of.result; actor = a }; actors = g.actors; entries = c.in_ok-entries.entries } in
    subst (λ v. Stands v p) (sym c.requires.work) (stands_again w t seats g x c.requires.seats is ended p entries c.of.ensures refl first)

pub returns-clause-work : goal.returns-clause-work
returns-clause-work c = refl

pub returns-clause-logs : goal.returns-clause-logs
returns-clause-logs c = λ d s at.
    let w = work_of c.args.self in
    let t = id_of c.args.self in
    let seats = c.args.seats.items in
    let g = c.in_ok-gathered.gathered in
    let x = c.end-ended.result in
    let is = c.in_ok-gathered.ensures in
    let ended = c.end-ended.ensures (map (λ (y : Seat). (desk y).seen) seats) (ap (λ m. m.0) is.view) in
    let entries = c.in_ok-entries.ensures ended.entries (logs_of w t seats g x c.requires.seats is ended) (sym ended.count) in
    ap (by d) entries ∙ logged w t seats g x c.requires.seats is ended d s at
