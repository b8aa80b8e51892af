use denote.RattleType.{RattleType}
use denote.Param.Send.{IsSend, Frees}
use Rattle.std.specs.declared.alloc.Allocator.{Ghosts}
use Rattle.sd_boxq.proofs.Memory.Crosses.{Nodes-send}
use Rattle.sd_boxq.specs.contracts.nodes.Nodes.{the_row}

pub send : (T A : RattleType) (g : Ghosts A.Denot) → IsSend T → IsSend A → Frees g g.dealloc_token → IsSend (the_row T A g)
send = Nodes-send
