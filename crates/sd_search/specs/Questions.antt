-- What is asked of the states in which runs end.
-- Source: Solaris Internals (deadlocks); the questions are this project's own.
use Rattle.std.specs.Prelude.{◌≡◌, ◌≢◌, ℕ, ◌<◌, Bool, true, not, ◌&&◌, List, [], length, nat_lt}
use Rattle.sd_types.specs.declared.events.Entry.{Entry}
use Rattle.sd_types.specs.declared.works.Work.{Work}
use Rattle.sd_state.specs.declared.states.State.{State}
use Rattle.sd_state.specs.declared.states.ThreadState.{ThreadState}
use Rattle.sd_state.specs.Opening.{opening}
use Rattle.sd_state.specs.Operations.{script_of}
use Rattle.sd_state.specs.States.{thread_of}
use Rattle.sd_machine.specs.LockGraph.{cycles_of}
use Rattle.sd_machine.specs.Runs.{IsComplete, IsRun, final, IsFresh}
use Rattle.sd_machine.specs.Threads.{has_ended}
use Rattle.sd_search.specs.declared.questions.Question.{Question}
use Rattle.sd_search.specs.declared.questions.Question.TheVariants.{Blocked, Stuck}

-- threads block each other in a circle: each waits for a lock that the next one owns, and the last for one that the first owns
abbrev pub IsBlocked : State → Type 0
IsBlocked s = cycles_of s ≢ []

-- thread t, which is so, has operations left and has not ended
abbrev pub is_left : Work → ℕ → ThreadState → Bool
is_left w t x = nat_lt x.body.op (length (script_of w t)) && not (has_ended x.place)

-- such a thread is there
pub record IsStuck (w : Work) (s : State) : Type 0 where
  pub thread : ℕ
  pub inside : thread < length s.threads
  pub left : is_left w thread (thread_of s thread) ≡ true

abbrev pub HasPart : Work → Question → State → Type 0
HasPart w Blocked s = IsBlocked s
HasPart w Stuck s = IsStuck w s

-- a run ends in the state, which is as was asked for: no processor can make an entry, whatever it reads
pub record Meets (w : Work) (q : Question) (s : State) : Type 0 where
  pub complete : IsComplete w s
  pub part : HasPart w q s

-- the entries are a run in which each processor reads the numbers of the state, and it ends so
pub record IsWitness (w : Work) (q : Question) (es : List Entry) : Type 0 where
  pub run : IsRun w es
  pub fresh : IsFresh w (opening w) es
  pub ends : Meets w q (final w (opening w) es)

-- no run in which each processor reads the numbers of the state ends so, in whatever order its processors act
abbrev pub HasNoWitness : Work → Question → Type 0
HasNoWitness w q = (es : List Entry) → IsWitness w q es → ⊥
