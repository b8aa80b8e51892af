use Rattle.std.proofs.Common.{le_refl}
use Rattle.std.proofs.lemmas.List.{get_or-set_other}
use Rattle.sd_state.specs.States.{no_thread, with_thread}
use Rattle.sd_machine.specs.Changes.{leave, run_on}
use Rattle.sd_hand.proofs.FrameLemmas.{body_stays, cpu_stays}
use Rattle.sd_hand.proofs.MoveLemmas.{frame_thread}
use Rattle.sd_hand.proofs.frames.threads_keep_other_homes.Goals as goal

pub returns-clause-homes : goal.returns-clause-homes
returns-clause-homes c n m s t y h le inside from to = frame_thread n m s t y h le inside from to

pub returns-clause-threads : goal.returns-clause-threads
returns-clause-threads c s t u y apart = get_or-set_other s.threads t u y no_thread apart

pub returns-clause-body : goal.returns-clause-body
returns-clause-body c n s t b h inside last apart = body_stays n s t b h inside last apart

pub returns-clause-place : goal.returns-clause-place
returns-clause-place c n m s t place h le inside from to = frame_thread n m s t _ h le inside from to

pub returns-clause-run : goal.returns-clause-run
unfolding run_on
returns-clause-run c n s t own h inside from to = frame_thread n n s t _ h (le_refl n) inside from to

pub returns-clause-leave : goal.returns-clause-leave
unfolding leave
returns-clause-leave c n m s t own place h le inside from to off is = cpu_stays m (with_thread s t _) own _ h off (frame_thread n m s t _ h le inside from to is)
