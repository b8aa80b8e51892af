use Rattle.std.specs.Prelude.{Some, None}
use Rattle.sd_types.specs.declared.events.Event.TheVariants.{Idle}
use Rattle.sd_types.specs.declared.events.Which.TheVariants.{Running}
use Rattle.sd_shared_table.specs.Seats.{work_of}
use Rattle.sd_threads.proofs.threads.try_home.Given as goal

abbrev pub ghosts-grab : goal.ghosts-grab
ghosts-grab a = record { about = Some (work_of a.self.now); event = Idle; hints = None; number = 0; which = Running }

abbrev pub ghosts-look : goal.ghosts-look
ghosts-look a = record { about = Some (work_of a.self.now); event = Idle; hints = None; number = a.t; which = Running }

abbrev pub ghosts-lay : goal.ghosts-lay
ghosts-lay a = record { about = Some (work_of a.self.now); event = Idle; hints = None; number = 0; which = Running }
