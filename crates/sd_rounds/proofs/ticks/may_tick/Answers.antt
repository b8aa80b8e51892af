use Rattle.std.proofs.Common.{◌≡◌, ◌≤◌, length, sym, ap, ◌∙◌, subst}
use Rattle.std.specs.Prelude.{nat_lt}
use Rattle.sd_state.specs.States.{cpu_of}
use Rattle.sd_invariants.proofs.Whole.{fit_reached}
use Rattle.sd_world.specs.Plain.{told}
use Rattle.sd_world.proofs.PlainLemmas as P
use Rattle.sd_rounds.proofs.FloorLemmas.{at_floor, new_floor}
use Rattle.sd_rounds.proofs.ticks.may_tick.Goals as goal

pub returns-then-count-floor-clause-may : goal.returns-then-count-floor-clause-may
returns-then-count-floor-clause-may c =
    let w = c.args.work.now in
    let x = c.args.world.now in
    let s = told w x in
    let st = c.requires.stands in
    let many : length s.cpus ≡ w.cpus = (fit_reached w (length x.entries.items) s (P.reached w x st)).fits.cpus in
    ap (λ k. nat_lt k w.limit) st.acts.count
    ∙ sym (at_floor w s many x.acting.actor.cpu.0 c.args.floor.now c.requires.least (subst (λ k. k ≤ c.args.floor.now) st.acts.count c.if-count-floor.true))

pub returns-then-may-clause-least : goal.returns-then-may-clause-least
returns-then-may-clause-least c =
    let w = c.args.work.now in
    let x = c.args.world.now in
    let s = told w x in
    let st = c.requires.stands in
    let many : length s.cpus ≡ w.cpus = (fit_reached w (length x.entries.items) s (P.reached w x st)).fits.cpus in
    λ d there. subst (λ k. k ≤ (cpu_of s d).count) (sym st.acts.count) (new_floor w s many x.acting.actor.cpu.0 (sym c.may_tick-may.ensures ∙ c.if-may.true) d there)
