use Rattle.sd_state.specs.States.{cpu_of}
use Rattle.sd_machine.specs.Changes.{marked, set_mark}
use Rattle.sd_hand.proofs.TellLemmas.{marked_count, view_is}
use Rattle.sd_hand.proofs.store.ActingStore.set_mark.Goals as goal
use Rattle.sd_store.proofs.WokenDuties.{marked_duty}

pub returns-in-Ok-clause-value : goal.returns-in-Ok-clause-value
unfolding set_mark
returns-in-Ok-clause-value c n s sh t =
    let a = c.in-Ok.ensures in
    let x = cpu_of s c.args.c.0 in
    c.set_view.ensures.value n s (marked c.args.m x) sh (c.marked.ensures x (view_is c.args.self.now n s c.args.c c.in-Ok.view a.0 sh a.1 a.2)) (marked_count c.args.m x) (marked_duty c.args.m x)
