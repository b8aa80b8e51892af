use Rattle.std.proofs.Common.{◌≡◌, ◌+◌, length, refl, sym, ◌∙◌, subst}
use Rattle.std.proofs.lemmas.Bool.{false≢true}
use Rattle.sd_machine.specs.Events.{after}
use Rattle.sd_machine.specs.Runs.{IsReached, final_state}
use Rattle.sd_hand.specs.Acting.{IsShown}
use Rattle.sd_invariants.proofs.Range.{needs_reached}
use Rattle.sd_world.proofs.entries.enter.Goals as goal

pub known-requires : goal.known-requires
known-requires c =
    let w = c.args.work.now in
    let can = c.requires.can in
    let es = c.args.entries.now.items in
    let x = c.args.acting.now in
    let s = final_state w es in
    let e : length es ≡ c.len-number.result = sym c.len-number.ensures in
    let reached : IsReached w (length es) s = record { entries = es; run = can.run; many = refl; ends = refl } in
    let lack = c.in-Err.ensures.lack in
    (sym lack.1 ∙ can.holds c.in-Err.field-0 (lack.0 s (subst (λ m. IsShown x m s) e can.shown) (needs_reached w (length es) s x.actor.cpu c.args.hints.now c.args.event reached can.next)))

pub unreachable-requires : goal.unreachable-requires
unreachable-requires c =
    let w = c.args.work.now in
    let can = c.requires.can in
    let es = c.args.entries.now.items in
    let x = c.args.acting.now in
    let s = final_state w es in
    let e : length es ≡ c.len-number.result = sym c.len-number.ensures in
    let reached : IsReached w (length es) s = record { entries = es; run = can.run; many = refl; ends = refl } in
    let lack = c.in-Err.ensures.lack in
    false≢true (sym lack.1 ∙ can.holds c.in-Err.field-0 (lack.0 s (subst (λ m. IsShown x m s) e can.shown) (needs_reached w (length es) s x.actor.cpu c.args.hints.now c.args.event reached can.next)))

pub returns : goal.returns
returns c =
    let w = c.args.work.now in
    let can = c.requires.can in
    let es = c.args.entries.now.items in
    let x = c.args.acting.now in
    let cpu = x.actor.cpu in
    let s = final_state w es in
    let e : length es ≡ c.len-number.result = sym c.len-number.ensures in
    let reached : IsReached w (length es) s = record { entries = es; run = can.run; many = refl; ends = refl } in
    let made = c.in-Ok.ensures.value s (subst (λ m. IsShown x m s) e can.shown) (needs_reached w (length es) s cpu c.args.hints.now c.args.event reached can.next) in
    record {
      shown = subst (λ m. IsShown c.after.new.x (m + 1) (after w s m cpu c.args.event)) (sym e) made;
      has = c.in-Ok.ensures.has;
      actors = refl;
      entries = c.push_reserved.ensures.items;
    }
