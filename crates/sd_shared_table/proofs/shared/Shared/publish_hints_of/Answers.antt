use Rattle.std.proofs.Common.{sym, subst}
use Rattle.sd_types.specs.declared.events.Which.TheVariants.{Running}
use Rattle.sd_types.specs.declared.numbers.HomeId.TheVariants.{Cpu}
use Rattle.sd_hand.specs.Hands.{IsHeld}
use Rattle.sd_shared_table.specs.Seats.{ShowsHints, work_of}
use Rattle.sd_shared_table.proofs.PublishingLemmas as P
use Rattle.sd_shared_table.proofs.shared.Shared.publish_hints_of.Goals as goal

pub publish_hint-requires-clause-held : goal.publish_hint-requires-clause-held
publish_hint-requires-clause-held c = subst (λ k. IsHeld k c.args.seat.now.acting.hand.slots) c.in-Cpu.is c.requires.held

pub publish_hint-requires-in-Cpu-clause-held : goal.publish_hint-requires-in-Cpu-clause-held
publish_hint-requires-in-Cpu-clause-held c =
    P.held_still (work_of c.args.self.now) c.args.seat.now c.publish_hint.new.seat (Cpu c.in-Cpu.c) c.publish_hint.ensures.written (subst (λ k. IsHeld k c.args.seat.now.acting.hand.slots) c.in-Cpu.is c.requires.held)

pub returns-in-Cpu-clause-written : goal.returns-in-Cpu-clause-written
returns-in-Cpu-clause-written c = P.written_then (work_of c.args.self.now) c.args.seat.now c.publish_hint.new.seat c.publish_hint-in-Cpu.new.seat c.publish_hint.ensures.written c.publish_hint-in-Cpu.ensures.written

pub returns-in-Cpu-clause-fits : goal.returns-in-Cpu-clause-fits
returns-in-Cpu-clause-fits c = c.publish_hint-in-Cpu.ensures.fits

pub returns-in-Cpu-clause-shows : goal.returns-in-Cpu-clause-shows
returns-in-Cpu-clause-shows c =
    let w = work_of c.args.self.now in
    let s = c.publish_hint.new.seat in
    let s' = c.publish_hint-in-Cpu.new.seat in
    subst (ShowsHints w s') (sym c.in-Cpu.is)
    (P.both_shown w s' c.in-Cpu.c (P.hint_still w s s' c.in-Cpu.c Running c.publish_hint-in-Cpu.ensures.written c.publish_hint.ensures.shows) c.publish_hint-in-Cpu.ensures.shows)

pub returns-in_default-clause-written : goal.returns-in_default-clause-written
returns-in_default-clause-written c = P.none_written (work_of c.args.self.now) _ c.args.seat.now c.requires.fits

pub returns-in_default-clause-fits : goal.returns-in_default-clause-fits
returns-in_default-clause-fits c = c.requires.fits
