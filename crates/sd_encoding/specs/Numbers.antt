-- A state as a list of natural numbers: the fields of each record in their order, each variant as its number and its
-- fields, each list as its length and its items.
-- Source: the state vectors of explicit model checkers (Holzmann, SPIN).
use Rattle.std.specs.Prelude.{ℕ, ◌+◌, ◌*◌, Bool, true, false, ℤ, pos, negsuc, List, [], ◌∷◌, ◌++◌, length, Option, Some, None}
use Rattle.std.specs.List.{flat_map}
use Rattle.arrayvec.specs.ArrayVec.{ArrayVec}
use Rattle.sd_types.specs.ClassNumbers.{TsNumbers, FxNumbers, SysNumbers, RtNumbers}
use Rattle.sd_types.specs.declared.bodies.ThreadBody.{ThreadBody}
use Rattle.sd_types.specs.declared.classes.ClassState.{ClassState}
use Rattle.sd_types.specs.declared.classes.ClassState.TheVariants.{Ts, Fx, Sys, Rt}
use Rattle.sd_types.specs.declared.classes.Quantum.{Quantum}
use Rattle.sd_types.specs.declared.classes.Quantum.TheVariants.{Def, Inf, Ticks}
use Rattle.sd_types.specs.declared.events.Duty.{Duty}
use Rattle.sd_types.specs.declared.events.Duty.TheVariants.{Nothing, Walk, WakeMutex, GrantWriter, GrantReaders, Rouse, Age}
use Rattle.sd_types.specs.declared.numbers.ChanId.{ChanId}
use Rattle.sd_types.specs.declared.numbers.CpuId.{CpuId}
use Rattle.sd_types.specs.declared.numbers.LockId.{LockId}
use Rattle.sd_types.specs.declared.numbers.SetId.{SetId}
use Rattle.sd_types.specs.declared.numbers.Side.{Side}
use Rattle.sd_types.specs.declared.numbers.Side.TheVariants.{Writer, Reader}
use Rattle.sd_types.specs.declared.numbers.ThreadId.{ThreadId}
use Rattle.sd_state.specs.declared.states.CpuState.{CpuState}
use Rattle.sd_state.specs.declared.states.LockState.{LockState}
use Rattle.sd_state.specs.declared.states.LockState.TheVariants.{Free, Owned, ReadHeld, Passing}
use Rattle.sd_state.specs.declared.states.Place.{Place}
use Rattle.sd_state.specs.declared.states.Place.TheVariants.{Running, Queued, RealTime, Waiting, Asleep, Napping, Ended}
use Rattle.sd_state.specs.declared.states.State.{State}
use Rattle.sd_state.specs.declared.states.ThreadState.{ThreadState}

-- signed numbers: 0, -1, 1, -2, 2 as 0, 1, 2, 3, 4
abbrev pub zigzag : ℤ → ℕ
zigzag (pos n) = 2 * n
zigzag (negsuc n) = 2 * n + 1

abbrev pub flag : Bool → ℕ
flag false = 0
flag true = 1

abbrev pub optional : {A : Type 0} → (A → List ℕ) → Option A → List ℕ
optional each None = 0 ∷ []
optional each (Some x) = 1 ∷ each x

abbrev pub listed : {A : Type 0} → (A → List ℕ) → List A → List ℕ
listed each xs = length xs ∷ flat_map each xs

abbrev pub natural : ℕ → List ℕ
natural n = n ∷ []

abbrev pub signed : ℤ → List ℕ
signed z = zigzag z ∷ []

abbrev pub truth : Bool → List ℕ
truth b = flag b ∷ []

abbrev pub cpu_id : CpuId → List ℕ
cpu_id c = c.0 ∷ []

abbrev pub thread_id : ThreadId → List ℕ
thread_id t = t.0 ∷ []

abbrev pub lock_id : LockId → List ℕ
lock_id l = l.0 ∷ []

abbrev pub chan_id : ChanId → List ℕ
chan_id k = k.0 ∷ []

abbrev pub set_id : SetId → List ℕ
set_id p = p.0 ∷ []

abbrev pub side_number : Side → ℕ
side_number Writer = 0
side_number Reader = 1

abbrev pub side : Side → List ℕ
side x = side_number x ∷ []

abbrev pub place : Place → List ℕ
place (Running c) = 0 ∷ c.0 ∷ []
place (Queued c key) = 1 ∷ c.0 ∷ zigzag key ∷ []
place (RealTime p key) = 2 ∷ p.0 ∷ zigzag key ∷ []
place (Waiting l side key) = 3 ∷ l.0 ∷ side_number side ∷ zigzag key ∷ []
place (Asleep k key) = 4 ∷ k.0 ∷ zigzag key ∷ []
place (Napping c due) = 5 ∷ c.0 ∷ due ∷ []
place Ended = 6 ∷ []

abbrev pub lock : LockState → List ℕ
lock Free = 0 ∷ []
lock (Owned t) = 1 ∷ t.0 ∷ []
lock (ReadHeld readers) = 2 ∷ readers ∷ []
lock (Passing c readers) = 3 ∷ c.0 ∷ readers ∷ []

abbrev pub duty : Duty → List ℕ
duty Nothing = 0 ∷ []
duty (Walk l seek key) = 1 ∷ l.0 ∷ seek.0 ∷ zigzag key ∷ []
duty (WakeMutex l) = 2 ∷ l.0 ∷ []
duty (GrantWriter l) = 3 ∷ l.0 ∷ []
duty (GrantReaders l) = 4 ∷ l.0 ∷ []
duty (Rouse k below) = 5 ∷ k.0 ∷ zigzag below ∷ []
duty (Age t) = 6 ∷ t.0 ∷ []

abbrev pub quantum : Quantum → List ℕ
quantum Def = 0 ∷ []
quantum Inf = 1 ∷ []
quantum (Ticks n) = 2 ∷ n ∷ []

abbrev pub ts : TsNumbers → List ℕ
ts s = s.cpupri ∷ zigzag s.limit ∷ zigzag s.upri ∷ s.left ∷ s.wait ∷ []

abbrev pub fx : FxNumbers → List ℕ
fx s = s.limit ∷ s.pri ∷ (quantum s.quantum ++ s.left ∷ [])

abbrev pub sys : SysNumbers → List ℕ
sys s = s.pri ∷ []

abbrev pub rt : RtNumbers → List ℕ
rt s = s.pri ∷ (quantum s.quantum ++ s.left ∷ [])

abbrev pub class : ClassState → List ℕ
class (Ts s) = 0 ∷ ts s
class (Fx s) = 1 ∷ fx s
class (Sys s) = 2 ∷ sys s
class (Rt s) = 3 ∷ rt s

-- a lock, and the priority that is inherited from its waiters
abbrev pub inherited : LockId × ℕ → List ℕ
inherited x = x.0.0 ∷ x.1 ∷ []

unfoldable pub body : ThreadBody → List ℕ
body b = class b.class ++ (listed inherited b.willed.items ++ (listed lock_id b.held.items ++ b.op ∷ b.run_left ∷ flag b.back ∷ b.last.0 ∷ (optional natural b.left_at ++ flag b.looped ∷ optional cpu_id b.bound)))

unfoldable pub thread : ThreadState → List ℕ
thread x = body x.body ++ place x.place

unfoldable pub cpu : CpuState → List ℕ
cpu x = x.count ∷ flag x.user ∷ flag x.kernel ∷ (duty x.duty ++ x.set.0 ∷ (optional set_id x.closing ++ x.bound ∷ []))

-- the open processors of a set
abbrev pub open_list : ArrayVec CpuId → List ℕ
open_list x = listed cpu_id x.items

unfoldable pub vector : State → List ℕ
vector s = listed thread s.threads ++ (listed lock s.locks ++ (listed cpu s.cpus ++ (listed natural s.counts ++ listed open_list s.open_cpus)))
