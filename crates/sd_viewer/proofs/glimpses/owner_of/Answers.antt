use Rattle.std.proofs.Common.{Some, sym, ap, ◌∙◌}
use Rattle.sd_state.specs.declared.states.LockState.{LockState}
use Rattle.sd_world.specs.Plain.{told}
use Rattle.sd_stretches.specs.Changes.{owner_in, owner_of}
use Rattle.sd_viewer.proofs.GlimpseLemmas.{owner_read}
use Rattle.sd_viewer.proofs.glimpses.owner_of.Goals as goal

pub returns-in-Owned : goal.returns-in-Owned
returns-in-Owned c =
    let s = told c.args.work.now c.args.world.now in
    ap (λ (x : LockState). owner_in (Some x)) (sym c.in-Owned.is) ∙ owner_read s c.in_ok-wanted.field-0.0 c.lock_of.result c.lock_of.ensures ∙ ap (owner_of s) (sym c.in_ok-wanted.was)
