-- Sentences on threads that run, spin, are dispatched and leave their processor. Each is said of the state before the entry.
-- Source: Solaris Internals (dispatch queues, preemption, adaptive mutexes); the sentences are this project's own.
use Rattle.std.specs.Prelude.{ℕ, List, [], ◌++◌, codes, if◌then◌else◌}
use Rattle.sd_types.specs.declared.numbers.CpuId.{CpuId}
use Rattle.sd_types.specs.declared.numbers.ThreadId.{ThreadId}
use Rattle.sd_types.specs.declared.numbers.LockId.{LockId}
use Rattle.sd_types.specs.declared.events.End.{End}
use Rattle.sd_types.specs.declared.events.End.TheVariants.{Front, Back}
use Rattle.sd_types.specs.declared.classes.ClassState.{ClassState}
use Rattle.sd_types.specs.declared.works.Work.{Work}
use Rattle.sd_rules.specs.ClassRules.{class_expires}
use Rattle.sd_state.specs.declared.states.LockState.{LockState}
use Rattle.sd_state.specs.declared.states.LockState.TheVariants.{Free, Owned, ReadHeld, Passing}
use Rattle.sd_state.specs.declared.states.State.{State}
use Rattle.sd_state.specs.States.{thread_of}
use Rattle.sd_machine.specs.Threads.{lock_of}
use Rattle.sd_story.specs.Words.{thread_then, lock_then, cpu_then, number_then}

-- whether the tick is the last of a quantum
abbrev pub quantum_words : ClassState → List ℕ
quantum_words k = if class_expires k then codes ", the last of its quantum" else []

unfoldable pub tick_sentence : Work → State → ThreadId → List ℕ
tick_sentence w s t = thread_then w t (codes " runs for a tick") ++ quantum_words (thread_of s t.0).body.class

-- why it spins
abbrev pub spin_words : Work → LockState → List ℕ
spin_words w Free = []
spin_words w (Owned o) = codes ": its owner " ++ thread_then w o (codes " runs")
spin_words w (ReadHeld n) = []
spin_words w (Passing c n) = codes ", which is being handed over"

unfoldable pub spin_sentence : Work → State → ThreadId → LockId → List ℕ
spin_sentence w s t l = thread_then w t (codes " spins for ") ++ lock_then w l [] ++ spin_words w (lock_of s l.0)

unfoldable pub idle_sentence : CpuId → List ℕ
idle_sentence c = cpu_then c (codes " has nothing to run")

unfoldable pub dispatch_sentence : Work → CpuId → ThreadId → ℕ → List ℕ
dispatch_sentence w c t p = cpu_then c (codes " dispatches ") ++ thread_then w t (codes " at priority ") ++ number_then p []

unfoldable pub steal_sentence : Work → CpuId → CpuId → ThreadId → ℕ → List ℕ
steal_sentence w c v t p =
    cpu_then c (codes " steals ") ++ thread_then w t (codes " at priority ") ++ number_then p (codes " from the queue of ") ++ cpu_then v []

abbrev pub preempt_sentence : Work → ThreadId → End → List ℕ
preempt_sentence w t Front = thread_then w t (codes " is preempted, and goes to the front of its queue")
preempt_sentence w t Back = thread_then w t (codes " is preempted at the end of its quantum, and goes to the back of its queue")

unfoldable pub away_sentence : Work → ThreadId → CpuId → List ℕ
away_sentence w t d = thread_then w t (codes " leaves for ") ++ cpu_then d (codes ", to which it is bound")
