use Rattle.sd_cpu.proofs.seeking.take_home.Goals as goal

pub returns-in-Taken-clause-fetches : goal.returns-in-Taken-clause-fetches
returns-in-Taken-clause-fetches g c = let t = c.in-Taken.ensures.takes in (t.0, t.1, t.2.gains c.requires.few)

pub returns-in-Busy-clause-fetches : goal.returns-in-Busy-clause-fetches
returns-in-Busy-clause-fetches g c = c.in-Busy.ensures.takes.0
