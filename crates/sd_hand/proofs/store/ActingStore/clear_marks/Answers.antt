use Rattle.std.proofs.Common.{refl}
use Rattle.sd_state.specs.States.{cpu_of}
use Rattle.sd_machine.specs.Changes.{clear_marks, unmarked}
use Rattle.sd_hand.proofs.TellLemmas.{view_is}
use Rattle.sd_hand.proofs.store.ActingStore.clear_marks.Goals as goal

pub returns-in-Ok-clause-value : goal.returns-in-Ok-clause-value
unfolding clear_marks
returns-in-Ok-clause-value c n s sh t =
    let a = c.in-Ok.ensures in
    let x = cpu_of s c.args.c.0 in
    c.set_view.ensures.value n s (unmarked x) sh (c.unmarked.ensures x (view_is c.args.self.now n s c.args.c c.in-Ok.view a.0 sh a.1 a.2)) refl refl
