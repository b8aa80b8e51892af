-- What an entry of a run says, as a sentence in the kernel's words, of the state before it.
-- Source: this project's own.
use Rattle.std.specs.Prelude.{ℕ, List, codes}
use Rattle.sd_types.specs.declared.events.Event.{Event}
use Rattle.sd_types.specs.declared.events.Event.TheVariants.{Tick, Spin, Idle, Dispatch, Steal, Preempt, Yield, Done, Nap, Napend, Sleep, Wake, Wakeall, Rouse, Enter, Read, Write, Block, Will, End, Exit, Unblock, Grant, Passed, Age, Prio, CvWait, SemaP, SemaWait, SemaVWake, SemaVCount, Assign, Move, Joined, Bind, Away}
use Rattle.sd_types.specs.declared.numbers.CpuId.{CpuId}
use Rattle.sd_types.specs.declared.works.Work.{Work}
use Rattle.sd_state.specs.declared.states.State.{State}
use Rattle.sd_story.specs.Words.{thread_then}
use Rattle.sd_story.specs.Running.{tick_sentence, spin_sentence, idle_sentence, dispatch_sentence, steal_sentence, preempt_sentence, away_sentence}
use Rattle.sd_story.specs.Sleeping.{nap_sentence, napend_sentence, sleep_sentence, wake_sentence, wakeall_sentence, rouse_sentence, cvwait_sentence, semap_sentence, semawait_sentence, handed_sentence, counted_sentence}
use Rattle.sd_story.specs.Locks.{enter_sentence, read_sentence, write_sentence, block_sentence, will_sentence, end_sentence, exit_sentence, unblock_sentence, grant_sentence, passed_sentence}
use Rattle.sd_story.specs.Requests.{age_sentence, prio_sentence, assign_sentence, move_sentence, joined_sentence, bind_sentence}

-- the sentence on an event that processor c makes in the state
abbrev pub sentence : Work → State → CpuId → Event → List ℕ
sentence w s c (Tick t) = tick_sentence w s t
sentence w s c (Spin t l) = spin_sentence w s t l
sentence w s c Idle = idle_sentence c
sentence w s c (Dispatch t p) = dispatch_sentence w c t p
sentence w s c (Steal v t p) = steal_sentence w c v t p
sentence w s c (Preempt t end) = preempt_sentence w t end
sentence w s c (Away t d) = away_sentence w t d
sentence w s c (Yield t) = thread_then w t (codes " yields, and goes to the back of its queue")
sentence w s c (Done t) = thread_then w t (codes " comes to the end of its script")
sentence w s c (Nap t) = nap_sentence w s c t
sentence w s c (Napend t at) = napend_sentence w t at
sentence w s c (Sleep t k) = sleep_sentence w t k
sentence w s c (Wake t k u) = wake_sentence w t k u
sentence w s c (Wakeall t k) = wakeall_sentence w c t k
sentence w s c (Rouse k u) = rouse_sentence w c k u
sentence w s c (Enter t l) = enter_sentence w t l
sentence w s c (Read t l) = read_sentence w t l
sentence w s c (Write t l) = write_sentence w t l
sentence w s c (Block t l) = block_sentence w s t l
sentence w s c (Will l o p at) = will_sentence w s l o p at
sentence w s c (End l) = end_sentence w s l
sentence w s c (Exit t l) = exit_sentence w s t l
sentence w s c (Unblock l u at) = unblock_sentence w c l u at
sentence w s c (Grant l u at) = grant_sentence w c l u at
sentence w s c (Passed l) = passed_sentence w l
sentence w s c (Age t p) = age_sentence w s t p
sentence w s c (Prio t u answer) = prio_sentence w s t u answer
sentence w s c (CvWait t k l) = cvwait_sentence w t k l
sentence w s c (SemaP t k) = semap_sentence w s t k
sentence w s c (SemaWait t k) = semawait_sentence w t k
sentence w s c (SemaVWake t k u at) = handed_sentence w t k u at
sentence w s c (SemaVCount t k n) = counted_sentence w t k n
sentence w s c (Assign t d to answer) = assign_sentence w t d to answer
sentence w s c (Move t at) = move_sentence w c t at
sentence w s c (Joined to) = joined_sentence w c to
sentence w s c (Bind t u d answer) = bind_sentence w t u d answer
