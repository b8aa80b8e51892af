-- The word of each event and what it names, in the order of its line.
use Rattle.std.specs.Prelude.{ℕ, List, [], ◌∷◌, codes, Option}
use Rattle.sd_types.specs.declared.numbers.ChanId.{ChanId}
use Rattle.sd_types.specs.declared.numbers.CpuId.{CpuId}
use Rattle.sd_types.specs.declared.numbers.LockId.{LockId}
use Rattle.sd_types.specs.declared.numbers.SetId.{SetId}
use Rattle.sd_types.specs.declared.numbers.ThreadId.{ThreadId}
use Rattle.sd_types.specs.declared.events.AssignAnswer.{AssignAnswer}
use Rattle.sd_types.specs.declared.events.BindAnswer.{BindAnswer}
use Rattle.sd_types.specs.declared.events.End.{End}
use Rattle.sd_types.specs.declared.events.Event.{Event}
use Rattle.sd_types.specs.declared.events.Event.TheVariants.{Tick, Spin, Idle, Dispatch, Steal, Preempt, Yield, Done, Nap, Napend, Sleep, Wake, Wakeall, Rouse, Enter, Read, Write, Block, Will, End as WalkEnd, Exit, Unblock, Grant, Passed, Age, Prio, CvWait, SemaP, SemaWait, SemaVWake, SemaVCount, Assign, Move, Joined, Bind, Away}
use Rattle.sd_types.specs.declared.events.PrioAnswer.{PrioAnswer}
use Rattle.sd_types.specs.declared.events.Put.{Put}

-- A priority has 8 bits and a count 32. Of a processor that a thread leaves for another (`Off`) the word `away` is told too.
pub data Name : Type 0 where
  OfThread : ThreadId → Name
  OfLock : LockId → Name
  OfChan : ChanId → Name
  OfCpu : CpuId → Name
  OfCpuIf : Option CpuId → Name
  OfSet : SetId → Name
  Priority : ℕ → Name
  Count : ℕ → Name
  AtEnd : End → Name
  At : Put → Name
  AtIf : Option Put → Name
  Whom : Option (ThreadId × Put) → Name
  ByPrio : PrioAnswer → Name
  ByAssign : AssignAnswer → Name
  ByBind : BindAnswer → Name
  Off : CpuId → Name

abbrev pub names : Event → List ℕ × List Name
names (Tick t) = (codes "tick", OfThread t ∷ [])
names (Spin t l) = (codes "spin", OfThread t ∷ OfLock l ∷ [])
names Idle = (codes "idle", [])
names (Dispatch t p) = (codes "dispatch", OfThread t ∷ Priority p ∷ [])
names (Steal v t p) = (codes "steal", OfCpu v ∷ OfThread t ∷ Priority p ∷ [])
names (Preempt t end) = (codes "preempt", OfThread t ∷ AtEnd end ∷ [])
names (Yield t) = (codes "yield", OfThread t ∷ [])
names (Done t) = (codes "done", OfThread t ∷ [])
names (Nap t) = (codes "nap", OfThread t ∷ [])
names (Napend t at) = (codes "napend", OfThread t ∷ At at ∷ [])
names (Sleep t k) = (codes "sleep", OfThread t ∷ OfChan k ∷ [])
names (Wake t k u) = (codes "wake", OfThread t ∷ OfChan k ∷ Whom u ∷ [])
names (Wakeall t k) = (codes "wakeall", OfThread t ∷ OfChan k ∷ [])
names (Rouse k u) = (codes "rouse", OfChan k ∷ Whom u ∷ [])
names (Enter t l) = (codes "enter", OfThread t ∷ OfLock l ∷ [])
names (Read t l) = (codes "read", OfThread t ∷ OfLock l ∷ [])
names (Write t l) = (codes "write", OfThread t ∷ OfLock l ∷ [])
names (Block t l) = (codes "block", OfThread t ∷ OfLock l ∷ [])
names (Will l o p at) = (codes "will", OfLock l ∷ OfThread o ∷ Priority p ∷ AtIf at ∷ [])
names (WalkEnd l) = (codes "end", OfLock l ∷ [])
names (Exit t l) = (codes "exit", OfThread t ∷ OfLock l ∷ [])
names (Unblock l u at) = (codes "unblock", OfLock l ∷ OfThread u ∷ At at ∷ [])
names (Grant l u at) = (codes "grant", OfLock l ∷ OfThread u ∷ At at ∷ [])
names (Passed l) = (codes "passed", OfLock l ∷ [])
names (Age t p) = (codes "age", OfThread t ∷ Priority p ∷ [])
names (Prio t u answer) = (codes "prio", OfThread t ∷ OfThread u ∷ ByPrio answer ∷ [])
names (CvWait t k l) = (codes "cvwait", OfThread t ∷ OfChan k ∷ OfLock l ∷ [])
names (SemaP t k) = (codes "semap", OfThread t ∷ OfChan k ∷ [])
names (SemaWait t k) = (codes "semawait", OfThread t ∷ OfChan k ∷ [])
names (SemaVWake t k u at) = (codes "semav", OfThread t ∷ OfChan k ∷ OfThread u ∷ At at ∷ [])
names (SemaVCount t k n) = (codes "semav", OfThread t ∷ OfChan k ∷ Count n ∷ [])
names (Assign t d to answer) = (codes "assign", OfThread t ∷ OfCpu d ∷ OfSet to ∷ ByAssign answer ∷ [])
names (Move t at) = (codes "move", OfThread t ∷ At at ∷ [])
names (Joined to) = (codes "joined", OfSet to ∷ [])
names (Bind t u d answer) = (codes "pbind", OfThread t ∷ OfThread u ∷ OfCpuIf d ∷ ByBind answer ∷ [])
names (Away t d) = (codes "preempt", OfThread t ∷ Off d ∷ [])
