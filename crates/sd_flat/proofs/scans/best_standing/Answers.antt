use Rattle.std.proofs.Common.{◌≡◌, length, sym, subst, ◌∙◌, arith}
use Rattle.sd_state.specs.declared.states.ThreadState.{ThreadState}
use Rattle.sd_state.specs.States.{no_thread}
use Rattle.sd_flat.specs.Standings.{stands, best_standing}
use Rattle.sd_state.specs.Best.{beats}
use Rattle.sd_state.proofs.BestLemmas.{best_taken, best_kept, best_by_is, IsBestBelow}
use Rattle.sd_state.proofs.OrderLemmas.{beats_order}
use Rattle.sd_flat.proofs.scans.best_standing.Goals as goal
use Rattle.sd_flat.proofs.scans.best_standing.Goals.{then-goes_ahead, else-goes_ahead}

pub loop-i-preserved : goal.loop-i-preserved
loop-i-preserved c =
    let on = λ (x : ThreadState). stands c.args.standing x in
    elim c.if-goes_ahead.branch [
      | then-goes_ahead w ↦
          rw w.best-is (best_taken on beats no_thread beats_order c.args.threads.now c.loop-i.best c.loop-i.i c.loop-i.invariant (sym c.goes_ahead.ensures ∙ w.if-goes_ahead.true))
      | else-goes_ahead w ↦
          rw w.best-is (best_kept on beats no_thread c.args.threads.now c.loop-i.best c.loop-i.i c.loop-i.invariant (sym c.goes_ahead.ensures ∙ w.if-goes_ahead.false))
    ]

pub returns-clause-value : goal.returns-clause-value
unfolding best_standing
returns-clause-value c =
    let on = λ (x : ThreadState). stands c.args.standing x in
    let whole : c.loop-i.i ≡ length c.args.threads.now = omega arith in
    best_by_is on beats no_thread c.args.threads.now c.loop-i.best
    (subst (λ n. IsBestBelow on beats no_thread c.args.threads.now n c.loop-i.best) whole c.loop-i.invariant)
