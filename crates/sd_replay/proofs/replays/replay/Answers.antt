use Rattle.std.proofs.Common.{subst}
use Rattle.sd_machine.specs.Runs.{IsRunFrom}
use Rattle.sd_machine.proofs.RunLemmas.{from-IsRun}
use Rattle.sd_replay.proofs.ReplayLemmas.{from_illegal}
use Rattle.sd_replay.proofs.replays.replay.Goals as goal

pub returns-in-Err-clause-fault : goal.returns-in-Err-clause-fault
returns-in-Err-clause-fault c =
    from_illegal c.args.work.now c.in-Ok.s c.args.entries.now c.in-Err.illegal.number c.in-Ok.ensures.state c.in-Err.ensures.illegal

pub returns-in-Ok-replay_from-clause-run : goal.returns-in-Ok-replay_from-clause-run
returns-in-Ok-replay_from-clause-run c =
    let w = c.args.work.now in
    from-IsRun w c.args.entries.now (subst (λ s. IsRunFrom w s 0 c.args.entries.now) c.in-Ok.ensures.state c.in-Ok-replay_from.ensures.run)
