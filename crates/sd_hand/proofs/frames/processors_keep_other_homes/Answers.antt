use Rattle.std.proofs.Common.{refl}
use Rattle.sd_state.specs.States.{cpu_of, with_cpu}
use Rattle.sd_machine.specs.Changes.{bind, close, join, unbind, with_body}
use Rattle.sd_machine.specs.Threads.{with_open}
use Rattle.sd_homes.specs.Standing.{look_of}
use Rattle.sd_hand.proofs.FrameLemmas.{body_stays, cpu_stays, open_stays}
use Rattle.sd_hand.proofs.MoveLemmas.{of_state}
use Rattle.sd_hand.proofs.PartLemmas.{same_parts}
use Rattle.sd_hand.proofs.frames.processors_keep_other_homes.Goals as goal

pub returns-clause-homes : goal.returns-clause-homes
returns-clause-homes c n s own z h apart = cpu_stays n s own z h apart

pub returns-clause-actor : goal.returns-clause-actor
returns-clause-actor c n s own z h view is = of_state n s (with_cpu s own.0 z) (look_of s) h (same_parts s own.0 z h view) is

pub returns-clause-bind : goal.returns-clause-bind
unfolding bind
returns-clause-bind c n s t d h inside apart off is = cpu_stays n (with_body s t _) d _ h off (body_stays n s t _ h inside refl apart is)

pub returns-clause-unbind : goal.returns-clause-unbind
unfolding unbind
returns-clause-unbind c n s t b h inside apart off is = cpu_stays n (with_body s t _) b _ h off (body_stays n s t _ h inside refl apart is)

pub returns-clause-close : goal.returns-clause-close
unfolding close
returns-clause-close c n s d to h apart off is = cpu_stays n (with_open s (cpu_of s d.0).set.0 _) d _ h apart (open_stays n s (cpu_of s d.0).set _ h off is)

pub returns-clause-join : goal.returns-clause-join
unfolding join
returns-clause-join c n s own p h apart off is = cpu_stays n (with_open s p.0 _) own _ h apart (open_stays n s p _ h off is)
