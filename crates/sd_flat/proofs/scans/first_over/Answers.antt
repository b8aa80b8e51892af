use Rattle.std.proofs.Common.{◌≡◌, length, sym, subst, ◌∙◌, arith}
use Rattle.sd_state.specs.declared.states.ThreadState.{ThreadState}
use Rattle.sd_state.specs.States.{no_thread}
use Rattle.sd_flat.specs.Standings.{first_over}
use Rattle.sd_machine.specs.Threads.{is_due, naps_less}
use Rattle.sd_state.proofs.BestLemmas.{best_taken, best_kept, best_by_is, IsBestBelow}
use Rattle.sd_flat.proofs.NapOrder.{naps_order}
use Rattle.sd_flat.proofs.scans.first_over.Goals as goal
use Rattle.sd_flat.proofs.scans.first_over.Goals.{then-is_over_before, else-is_over_before}

pub loop-i-preserved : goal.loop-i-preserved
loop-i-preserved c =
    let on = λ (x : ThreadState). is_due c.args.c.0 c.args.count x.place in
    elim c.if-is_over_before.branch [
      | then-is_over_before w ↦
          rw w.first-is (best_taken on naps_less no_thread naps_order c.args.threads.now c.loop-i.first c.loop-i.i c.loop-i.invariant (sym c.is_over_before.ensures ∙ w.if-is_over_before.true))
      | else-is_over_before w ↦
          rw w.first-is (best_kept on naps_less no_thread c.args.threads.now c.loop-i.first c.loop-i.i c.loop-i.invariant (sym c.is_over_before.ensures ∙ w.if-is_over_before.false))
    ]

pub returns-clause-value : goal.returns-clause-value
unfolding first_over
returns-clause-value c =
    let on = λ (x : ThreadState). is_due c.args.c.0 c.args.count x.place in
    let whole : c.loop-i.i ≡ length c.args.threads.now = omega arith in
    best_by_is on naps_less no_thread c.args.threads.now c.loop-i.first
    (subst (λ n. IsBestBelow on naps_less no_thread c.args.threads.now n c.loop-i.first) whole c.loop-i.invariant)
