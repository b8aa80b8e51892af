use Rattle.std.proofs.Common.{refl}
use Rattle.sd_state.specs.States.{cpu_of}
use Rattle.sd_machine.specs.Changes.{unmarked}
use Rattle.sd_hand.proofs.acting.Acting.unmark.Goals as goal

pub returns-clause-value : goal.returns-clause-value
returns-clause-value c n s sh is = let x = cpu_of s c.args.c.0 in c.set_view.ensures.value n s (unmarked x) sh (c.unmarked.ensures x is) refl refl
