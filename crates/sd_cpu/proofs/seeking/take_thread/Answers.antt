use Rattle.sd_cpu.proofs.seeking.take_thread.Goals as goal

pub returns-in-Held-clause-fetches : goal.returns-in-Held-clause-fetches
returns-in-Held-clause-fetches g c = let l = c.in-Held.ensures.locks in (l.0, l.2, l.3.gains c.requires.few)

pub returns-in-Busy-clause-fetches : goal.returns-in-Busy-clause-fetches
returns-in-Busy-clause-fetches g c = c.in-Busy.ensures.locks.0

pub returns-in-Moved-clause-fetches : goal.returns-in-Moved-clause-fetches
returns-in-Moved-clause-fetches g c = c.in-Moved.ensures.locks.0
