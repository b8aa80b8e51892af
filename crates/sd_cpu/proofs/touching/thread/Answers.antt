use Rattle.sd_hand.proofs.SlotLemmas.{stands_has}
use Rattle.sd_cpu.proofs.touching.thread.Goals as goal

pub returns-in-Ok : goal.returns-in-Ok
returns-in-Ok c = (stands_has c.args.t.0 c.args.x.now.hand.slots _ c.in-Ok.ensures, tt)
