use Rattle.std.specs.Prelude.{Some, None}
use Rattle.sd_types.specs.declared.events.Event.TheVariants.{Idle}
use Rattle.sd_types.specs.declared.events.Which.TheVariants.{Running}
use Rattle.sd_shared_table.specs.Seats.{work_of}
use Rattle.sd_shared_table.proofs.shared.Shared.publish_hint.Given as goal

abbrev pub ghosts-write_hint : goal.ghosts-write_hint
ghosts-write_hint a = record { about = Some (work_of a.self.now); event = Idle; hints = None; number = 0; which = Running }
