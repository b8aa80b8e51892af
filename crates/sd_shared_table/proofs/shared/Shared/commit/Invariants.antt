use Rattle.std.specs.Prelude.{Some}
use Rattle.sd_types.specs.declared.events.Which.TheVariants.{Running}
use Rattle.sd_shared_table.specs.Seats.{work_of}
use Rattle.sd_shared_table.proofs.shared.Shared.commit.Given as goal

abbrev pub ghosts-draw : goal.ghosts-draw
ghosts-draw a = record { about = Some (work_of a.self.now); event = a.event.now; hints = a.hints.now; number = 0; which = Running }
