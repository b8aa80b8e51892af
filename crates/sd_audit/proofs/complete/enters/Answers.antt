use Rattle.sd_invariants.proofs.Whole.{fit_reached}
use Rattle.sd_audit.proofs.complete.enters.Goals as goal

pub can_enter-requires : goal.can_enter-requires
can_enter-requires c = record { fit = fit_reached c.args.work.now c.args.number c.args.s.now c.requires.reached }
