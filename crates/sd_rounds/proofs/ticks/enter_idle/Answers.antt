use Rattle.std.proofs.Common.{◌≡◌, ◌+◌, length, refl, sym, ◌∙◌, subst, inr}
use Rattle.std.proofs.lemmas.Bool.{false≢true}
use Rattle.sd_types.specs.declared.events.Duty.TheVariants.{Nothing}
use Rattle.sd_types.specs.declared.events.Event.TheVariants.{Idle as IdleEvent}
use Rattle.sd_state.specs.States.{cpu_of}
use Rattle.sd_machine.specs.Changes.{count_tick}
use Rattle.sd_machine.specs.Runs.{IsReached, final_state}
use Rattle.sd_hand.specs.Acting.{IsShown}
use Rattle.sd_hand.specs.Later.{shown_later}
use Rattle.sd_invariants.proofs.Range.{needs_reached}
use Rattle.sd_rounds.proofs.TickLemmas.{idle_is}
use Rattle.sd_log.specs.Parts.{zeros_read}
use Rattle.sd_rounds.proofs.ticks.enter_idle.Goals as goal

pub known-requires : goal.known-requires
known-requires c =
    let w = c.args.work.now in
    let can = c.requires.can in
    let es = c.args.entries.now.items in
    let x = c.args.acting.now in
    let s = final_state w es in
    let reached : IsReached w (length es) s = record { entries = es; run = can.run; many = refl; ends = refl } in
    let needs = needs_reached w (length es) s x.actor.cpu (zeros_read c.args.zeros) (IdleEvent) reached can.next in
    let lack = c.in-Err.ensures.lack in
    (sym lack.1 ∙ can.holds c.in-Err.field-0 (inr (lack.0 (length es) s can.shown)))

pub unreachable-requires : goal.unreachable-requires
unreachable-requires c =
    let w = c.args.work.now in
    let can = c.requires.can in
    let es = c.args.entries.now.items in
    let x = c.args.acting.now in
    let s = final_state w es in
    let reached : IsReached w (length es) s = record { entries = es; run = can.run; many = refl; ends = refl } in
    let needs = needs_reached w (length es) s x.actor.cpu (zeros_read c.args.zeros) (IdleEvent) reached can.next in
    let lack = c.in-Err.ensures.lack in
    false≢true (sym lack.1 ∙ can.holds c.in-Err.field-0 (inr (lack.0 (length es) s can.shown)))

pub returns : goal.returns
returns c =
    let w = c.args.work.now in
    let can = c.requires.can in
    let es = c.args.entries.now.items in
    let x = c.args.acting.now in
    let cpu = x.actor.cpu in
    let s = final_state w es in
    let reached : IsReached w (length es) s = record { entries = es; run = can.run; many = refl; ends = refl } in
    let needs = needs_reached w (length es) s cpu (zeros_read c.args.zeros) (IdleEvent) reached can.next in
    let duty : (cpu_of s cpu.0).duty ≡ Nothing = sym can.shown.duty ∙ c.requires.duty in
    let made = c.in-Ok.ensures.value (length es) s can.shown needs in
    record {
      shown = subst (IsShown c.count_tick.new.self (length es + 1)) (idle_is w s (length es) cpu duty) (shown_later c.count_tick.new.self (length es) (count_tick w s cpu.0) made);
      has = c.in-Ok.ensures.has;
      actors = refl;
      entries = c.push_idle.ensures.items;
    }
