use Rattle.std.specs.Prelude.{Some, None}
use Rattle.sd_types.specs.declared.events.Event.TheVariants.{Idle}
use Rattle.sd_shared_table.specs.Seats.{work_of}
use Rattle.sd_shared_table.proofs.shared.Shared.hint.Given as goal

abbrev pub ghosts-read_hint : goal.ghosts-read_hint
ghosts-read_hint a = record { about = Some (work_of a.self.now); event = Idle; hints = None; number = a.c; which = a.which }
