-- The parts of a state that an event touches, beyond the duty of its processor.
-- Source: this project's own.
use Rattle.std.specs.Prelude.{List, [], ◌∷◌}
use Rattle.sd_types.specs.declared.numbers.CpuId.{CpuId}
use Rattle.sd_types.specs.declared.events.Event.{Event}
use Rattle.sd_types.specs.declared.events.Event.TheVariants.{Tick, Spin, Idle, Dispatch, Steal, Preempt, Away, Yield, Done, Nap, Napend, Sleep, Wake, Wakeall, Rouse, Enter, Read, Write, Block, Will, End, Exit, Unblock, Grant, Passed, Age, Prio, CvWait, SemaP, SemaWait, SemaVWake, SemaVCount, Assign, Move, Joined, Bind}
use Rattle.sd_types.specs.declared.works.Work.{Work}
use Rattle.sd_state.specs.declared.states.State.{State}
use Rattle.sd_locks.specs.Passed.{willed_parts}
use Rattle.sd_dispatcher.specs.Touched.{leaving_parts}
use Rattle.sd_locks.specs.Released.{exited_parts, handed_parts}
use Rattle.sd_priocntl.specs.Touched.{prio_parts}
use Rattle.sd_sleep.specs.Touched.{woken_parts}
use Rattle.sd_priocntl.specs.SetsTouched.{bind_parts}
use Rattle.sd_store.specs.declared.parts.Part.{Part}
use Rattle.sd_store.specs.Parts.{actor_part, chain_part, cpu_part, put_parts, ready_parts, real_time_part, sleepers_part, thread_part}

abbrev pub touched : Work → State → CpuId → Event → List Part
touched w s c (Tick t) = actor_part c ∷ thread_part t ∷ ready_parts s c
touched w s c (Spin t l) = actor_part c ∷ thread_part t ∷ ready_parts s c
touched w s c Idle = actor_part c ∷ []
touched w s c (Dispatch t p) = thread_part t ∷ cpu_part c ∷ []
touched w s c (Steal v t p) = thread_part t ∷ cpu_part c ∷ []
touched w s c (Preempt t end) = leaving_parts w t c
touched w s c (Away t d) = actor_part c ∷ thread_part t ∷ cpu_part c ∷ cpu_part d ∷ []
touched w s c (Yield t) = leaving_parts w t c
touched w s c (Done t) = actor_part c ∷ cpu_part c ∷ []
touched w s c (Nap t) = actor_part c ∷ cpu_part c ∷ thread_part t ∷ []
touched w s c (Napend t at) = put_parts w t at
touched w s c (Sleep t k) = actor_part c ∷ cpu_part c ∷ sleepers_part k ∷ thread_part t ∷ []
touched w s c (Wake t k u) = thread_part t ∷ woken_parts w u
touched w s c (Wakeall t k) = actor_part c ∷ sleepers_part k ∷ thread_part t ∷ []
touched w s c (Rouse k u) = actor_part c ∷ sleepers_part k ∷ woken_parts w u
touched w s c (Enter t l) = chain_part l ∷ thread_part t ∷ []
touched w s c (Read t l) = chain_part l ∷ thread_part t ∷ []
touched w s c (Write t l) = chain_part l ∷ thread_part t ∷ []
touched w s c (Block t l) = actor_part c ∷ cpu_part c ∷ chain_part l ∷ thread_part t ∷ []
touched w s c (Will l o p at) = willed_parts w s c l o at
touched w s c (End l) = actor_part c ∷ []
touched w s c (Exit t l) = exited_parts s c t l
touched w s c (Unblock l u at) = handed_parts w c l u at
touched w s c (Grant l u at) = handed_parts w c l u at
touched w s c (Passed l) = actor_part c ∷ chain_part l ∷ []
touched w s c (Age t p) = thread_part t ∷ cpu_part c ∷ actor_part c ∷ []
touched w s c (Prio t u answer) = thread_part t ∷ prio_parts w s c u answer
touched w s c (CvWait t k l) = actor_part c ∷ chain_part l ∷ cpu_part c ∷ sleepers_part k ∷ thread_part t ∷ []
touched w s c (SemaP t k) = sleepers_part k ∷ thread_part t ∷ []
touched w s c (SemaWait t k) = actor_part c ∷ cpu_part c ∷ sleepers_part k ∷ thread_part t ∷ []
touched w s c (SemaVWake t k u at) = thread_part t ∷ put_parts w u at
touched w s c (SemaVCount t k m) = sleepers_part k ∷ thread_part t ∷ []
touched w s c (Assign t d to answer) = thread_part t ∷ ready_parts s d
touched w s c (Move t at) = put_parts w t at
touched w s c (Joined to) = cpu_part c ∷ real_time_part to ∷ []
touched w s c (Bind t u d answer) = thread_part t ∷ bind_parts w s u d answer

abbrev pub after_parts : Work → State → CpuId → Event → List Part
after_parts w s c e = actor_part c ∷ touched w s c e
