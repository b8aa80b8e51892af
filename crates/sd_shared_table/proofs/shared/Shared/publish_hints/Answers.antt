use Rattle.std.proofs.Common.{◌<◌, List, get_or, length, ap, sym, subst, arith}
use Rattle.arrayvec.specs.ArrayVec.{ArrayVec}
use Rattle.sd_types.specs.declared.numbers.HomeId.TheVariants.{Cpu}
use Rattle.sd_hand.specs.Hands.{IsHeld}
use Rattle.sd_shared_table.specs.declared.seat.Held.{Held}
use Rattle.sd_shared_table.specs.Seats.{ShowsHints, id_of, work_of}
use Rattle.sd_shared_table.proofs.PublishingLemmas as P
use Rattle.sd_shared_table.proofs.shared.Shared.publish_hints.Goals as goal

pub loop-i-init : goal.loop-i-init
loop-i-init c = P.none_shown (work_of c.args.self.now) _ c.args.seat.now c.requires.fits

pub publish_hints_of-requires : goal.publish_hints_of-requires
publish_hints_of-requires c =
    let s = c.loop-i.seat in
    let inv = c.loop-i.invariant in
    let test = c.loop-i-test.true in
    let end = c.len-i-end.ensures.value in
    let order = ap (λ (o : ArrayVec Held). length o.items) inv.written.order in
    let inside : c.loop-i.i < length s.order.items = omega (arith, test, end, order) in
    let held = P.order_held (work_of c.args.self.now) (id_of c.args.self.now) s inv.fits c.loop-i.i (record { 0 = Cpu (record { 0 = 0 }) }) inside in
    record { fits = inv.fits; held = subst (λ (l : List Held). IsHeld (get_or {A = Held} l c.loop-i.i (record { 0 = Cpu (record { 0 = 0 }) })).0 s.acting.hand.slots) (sym c.deref.ensures.0) held }

pub loop-i-preserved : goal.loop-i-preserved
loop-i-preserved c =
    let w = work_of c.args.self.now in
    let s = c.loop-i.seat in
    let inv = c.loop-i.invariant in
    let test = c.loop-i-test.true in
    let end = c.len-i-end.ensures.value in
    let order = ap (λ (o : ArrayVec Held). length o.items) inv.written.order in
    let inside : c.loop-i.i < length s.order.items = omega (arith, test, end, order) in
    let z : Held = record { 0 = Cpu (record { 0 = 0 }) } in
    P.one_shown w _ c.args.seat.now s c.publish_hints_of.new.seat c.loop-i.i inv inside c.publish_hints_of.ensures.fits c.publish_hints_of.ensures.written z
    (subst (λ (l : List Held). ShowsHints w c.publish_hints_of.new.seat (get_or {A = Held} l c.loop-i.i z).0) c.deref.ensures.0 c.publish_hints_of.ensures.shows)

pub returns-clause-fits : goal.returns-clause-fits
returns-clause-fits c = c.loop-i.invariant.fits

pub returns-clause-written : goal.returns-clause-written
returns-clause-written c = c.loop-i.invariant.written

pub returns-clause-shows : goal.returns-clause-shows
returns-clause-shows c =
    let s = c.loop-i.seat in
    let inv = c.loop-i.invariant in
    let test = c.loop-i-test.false in
    let end = c.len-i-end.ensures.value in
    let order = ap (λ (o : ArrayVec Held). length o.items) inv.written.order in
    P.all_shown (work_of c.args.self.now) _ s inv.fits (λ j d inside. inv.shows j d (omega (arith, test, end, order, inside)))
