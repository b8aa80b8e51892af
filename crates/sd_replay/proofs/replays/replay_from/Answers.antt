use Rattle.std.proofs.Common.{◌≡◌, take, sym, subst, ◌∙◌, arith}
use Rattle.sd_state.specs.declared.states.State.{State}
use Rattle.sd_machine.specs.Runs.{final, IsRunFrom, IsReached}
use Rattle.std.proofs.lemmas.Bool.{false≢true}
use Rattle.sd_machine.proofs.RunLemmas.{IsRunFrom-nil, final-nil}
use Rattle.sd_replay.proofs.ReplayLemmas.{run_more, state_more, is_illegal, reached_at}
use Rattle.sd_replay.proofs.replays.replay_from.Goals as goal
use Rattle.sd_replay.proofs.replays.replay_from.Goals.{then-entry-i-via-then-entry-i, then-entry-i-via-else-entry-i+then-not-step}

pub loop-i-init : goal.loop-i-init
loop-i-init c = record { run = IsRunFrom-nil c.args.work.now c.args.s.now 0; state = sym (final-nil c.args.work.now c.args.s.now) }

pub step-requires-clause-reached : goal.step-requires-clause-reached
step-requires-clause-reached c =
    let w = c.args.work.now in
    let i = c.loop-i in
    let number : c.index-entries-i.result.number ≡ i.i = c.if-entry-i.false in
    subst (λ m. IsReached w m i.s) (sym number)
    (reached_at w i.s c.args.entries.now i.i (omega (arith, c.loop-i-test.true))
    (subst (λ (r : State). i.s ≡ final w r (take i.i c.args.entries.now)) c.requires.start i.invariant.state)
    (subst (λ (r : State). IsRunFrom w r 0 (take i.i c.args.entries.now)) c.requires.start i.invariant.run))

pub returns-then-entry-i-clause-illegal : goal.returns-then-entry-i-clause-illegal
returns-then-entry-i-clause-illegal c =
    let i = c.loop-i in
    is_illegal c.args.work.now c.args.s.now i.s c.args.entries.now i.i c.index-entries-i.result c.loop-i-test.true c.index-entries-i.is i.invariant.run i.invariant.state
    (elim c.then-entry-i.branch [
      | then-entry-i-via-then-entry-i w ↦ λ number step. w.if-entry-i.true number
      | then-entry-i-via-else-entry-i+then-not-step w ↦ λ number step. false≢true (sym w.if-not-step.true ∙ w.step.ensures.step.1 step)
    ])

pub loop-i-preserved : goal.loop-i-preserved
loop-i-preserved c =
    let i = c.loop-i in
    let step = c.step.ensures.step.0 c.if-not-step.false in
    record {
      run = run_more c.args.work.now c.args.s.now i.s c.args.entries.now i.i c.index-entries-i.result c.loop-i-test.true c.index-entries-i.is i.invariant.run i.invariant.state c.if-entry-i.false step;
      state = state_more c.args.work.now c.args.s.now i.s c.args.entries.now i.i c.index-entries-i.result c.loop-i-test.true c.index-entries-i.is c.step.new.s i.invariant.state c.if-not-step.ensures.made;
    }
