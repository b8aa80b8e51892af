use denote.RattleType.{RattleType}
use denote.Param.Send.{IsSync}
use Rattle.std.specs.declared.alloc.Allocator.{Ghosts}
use Rattle.sd_boxq.proofs.Memory.Crosses.{Nodes-sync}
use Rattle.sd_boxq.specs.contracts.nodes.Nodes.{the_row}

pub sync : (T A : RattleType) (g : Ghosts A.Denot) → IsSync T → IsSync (the_row T A g)
sync = Nodes-sync
