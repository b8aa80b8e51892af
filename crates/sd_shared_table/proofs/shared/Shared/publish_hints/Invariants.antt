use Rattle.sd_shared_table.specs.Seats.{id_of, work_of}
use Rattle.sd_shared_table.proofs.PublishingLemmas.{Showing}
use Rattle.sd_shared_table.proofs.shared.Shared.publish_hints.Given as goal

abbrev pub invariant-loop-i : goal.invariant-loop-i
invariant-loop-i l = Showing (work_of l.self) (id_of l.self) l.fn.seat l.seat l.i
