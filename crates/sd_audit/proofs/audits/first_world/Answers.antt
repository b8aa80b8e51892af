use Rattle.std.proofs.Common.{sym, ap, ◌∙◌, subst}
use Rattle.sd_state.specs.Opening.{opening}
use Rattle.sd_machine.specs.Runs.{IsRun, final}
use Rattle.sd_machine.proofs.RunLemmas.{IsRun-nil, final-nil}
use Rattle.sd_audit.proofs.audits.first_world.Goals as goal

pub resume-requires-clause-run : goal.resume-requires-clause-run
resume-requires-clause-run c = subst (IsRun c.args.work.now) (sym c.new-log.ensures.items) (IsRun-nil c.args.work.now)

pub resume-requires-clause-state : goal.resume-requires-clause-state
resume-requires-clause-state c =
    let w = c.args.work.now in
    c.requires.start ∙ sym (final-nil w (opening w)) ∙ ap (final w (opening w)) (sym c.new-log.ensures.items)
