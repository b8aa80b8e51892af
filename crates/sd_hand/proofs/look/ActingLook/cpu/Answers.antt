use Rattle.std.proofs.Common.{◌≡◌, Some, ◌∙◌}
use Rattle.sd_state.specs.States.{cpu_of}
use Rattle.sd_store.specs.Parts.{view_of}
use Rattle.sd_hand.proofs.TellLemmas.{view_told}
use Rattle.sd_hand.proofs.look.ActingLook.cpu.Goals as goal

pub returns-in-Ok-clause-value : goal.returns-in-Ok-clause-value
returns-in-Ok-clause-value c n s sh =
    let a = c.in-Ok.ensures in
    let same : Some c.in-Ok.view ≡ Some (view_of (cpu_of s c.args.c.0)) = a.2 ∙ view_told c.args.self.now n s a.0 sh c.args.c a.1 in
    cc
