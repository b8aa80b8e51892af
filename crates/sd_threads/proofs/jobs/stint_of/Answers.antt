use Rattle.std.proofs.Common.{Some, sym, ap, ◌∙◌, subst, rules}
use Rattle.sd_shared_table.specs.Seats.{id_of}
use Rattle.sd_threads.proofs.StintLemmas as S
use Rattle.sd_threads.proofs.jobs.stint_of.Goals as goal

pub loop-init : goal.loop-init
loop-init g c = record { can = search rules; ends = search rules; led = S.leads_nowhere (id_of c.args.shared.now) c.args.work.now c.args.job c.requires.free }

pub phase_of-done-requires-clause-free : goal.phase_of-done-requires-clause-free
phase_of-done-requires-clause-free g c = c.loop.invariant.led.free

pub returns-in-Err : goal.returns-in-Err
returns-in-Err g c =
    let t = id_of c.args.shared.now in
    let w = c.args.work.now in
    let is = c.in-Some-outcome.is ∙ ap Some c.in-Err.is in
    record { phased = S.refused t w c.args.job c.loop.going c.phase_of-done.result c.loop.entries c.loop.invariant.led c.phase_of-done.ensures.phased _ is }

pub returns-then-is_over : goal.returns-then-is_over
returns-then-is_over g c =
    let t = id_of c.args.shared.now in
    let w = c.args.work.now in
    let is = c.in-Some-outcome.is ∙ ap Some c.in-Ok.is in
    let led = S.leads_on t w c.args.job c.loop.going c.phase_of-done.result c.loop.entries c.loop.invariant.led c.phase_of-done.ensures.phased c.in-Ok.phased is in
    let all = subst (S.Leads t w c.args.job c.phase_of-done.result) (sym c.saturating_add-entries.ensures) led in
    record { phased = S.rested t w c.args.job c.phase_of-done.result c.answering.result c.saturating_add-entries.result c.in-Ok.phased.end all c.answering.ensures.seat c.answering.ensures.outcome }

pub loop-preserved : goal.loop-preserved
loop-preserved g c =
    let t = id_of c.args.shared.now in
    let w = c.args.work.now in
    let is = c.in-Some-outcome.is ∙ ap Some c.in-Ok.is in
    let led = S.leads_on t w c.args.job c.loop.going c.phase_of-done.result c.loop.entries c.loop.invariant.led c.phase_of-done.ensures.phased c.in-Ok.phased is in
    record { can = search rules; ends = search rules; led = subst (S.Leads t w c.args.job c.phase_of-done.result) (sym c.saturating_add-entries.ensures) led }
