-- Reading numbers from left to right: what stands at the front, and the numbers after it. There is none where a number is
-- missing, or is none that its type holds.
use Rattle.std.specs.Prelude.{ℕ, zero, suc, ◌/◌, ◌%◌, ◌^◌, Bool, true, false, ◌==◌, ℤ, pos, negsuc, List, [], ◌∷◌, Option, Some, None, nat_lt, nat_le, if◌then◌else◌}
use Rattle.arrayvec.specs.ArrayVec.{ArrayVec}
use Rattle.sd_types.specs.ClassNumbers.{TsNumbers, FxNumbers, SysNumbers, RtNumbers}
use Rattle.sd_types.specs.declared.bodies.ThreadBody.{ThreadBody}
use Rattle.sd_types.specs.declared.classes.ClassState.{ClassState}
use Rattle.sd_types.specs.declared.classes.ClassState.TheVariants.{Ts, Fx, Sys, Rt}
use Rattle.sd_types.specs.declared.classes.Quantum.{Quantum}
use Rattle.sd_types.specs.declared.classes.Quantum.TheVariants.{Def, Inf, Ticks}
use Rattle.sd_types.specs.declared.events.Duty.{Duty}
use Rattle.sd_types.specs.declared.events.Duty.TheVariants.{Nothing, Walk, WakeMutex, GrantWriter, GrantReaders, Rouse, Age}
use Rattle.sd_types.specs.declared.numbers.ChanId.{ChanId}
use Rattle.sd_types.specs.declared.numbers.CpuId.{CpuId}
use Rattle.sd_types.specs.declared.numbers.LockId.{LockId}
use Rattle.sd_types.specs.declared.numbers.SetId.{SetId}
use Rattle.sd_types.specs.declared.numbers.Side.{Side}
use Rattle.sd_types.specs.declared.numbers.Side.TheVariants.{Writer, Reader}
use Rattle.sd_types.specs.declared.numbers.ThreadId.{ThreadId}
use Rattle.sd_state.specs.declared.states.CpuState.{CpuState}
use Rattle.sd_state.specs.declared.states.LockState.{LockState}
use Rattle.sd_state.specs.declared.states.LockState.TheVariants.{Free, Owned, ReadHeld, Passing}
use Rattle.sd_state.specs.declared.states.Place.{Place}
use Rattle.sd_state.specs.declared.states.Place.TheVariants.{Running, Queued, RealTime, Waiting, Asleep, Napping, Ended}
use Rattle.sd_state.specs.declared.states.State.{State}
use Rattle.sd_state.specs.declared.states.ThreadState.{ThreadState}
use Rattle.sd_encoding.specs.Ranges.{is_ts, is_fx, is_sys, is_rt}

infixl 10 ◌>>=◌
abbrev pub ◌>>=◌ : {A B : Type 0} → Option A → (A → Option B) → Option B
(Some x) >>= f = f x
None >>= f = None

unfoldable pub number_at : List ℕ → Option (ℕ × List ℕ)
number_at [] = None
number_at (n ∷ rest) = Some (n, rest)

-- a number below a bound
unfoldable pub below_at : ℕ → List ℕ → Option (ℕ × List ℕ)
below_at bound ns = do
  n ← number_at ns
  if nat_lt n.0 bound then Some n else None

abbrev pub unzigzag : ℕ → ℤ
unzigzag n = if n % 2 == 0 then pos (n / 2) else negsuc (n / 2)

unfoldable pub signed_at : List ℕ → Option (ℤ × List ℕ)
signed_at ns = do
  n ← number_at ns
  Some (unzigzag n.0, n.1)

-- a signed number of eight bits
unfoldable pub signed_byte_at : List ℕ → Option (ℤ × List ℕ)
signed_byte_at ns = do
  n ← below_at (2 ^ 8) ns
  Some (unzigzag n.0, n.1)

unfoldable pub truth_at : List ℕ → Option (Bool × List ℕ)
truth_at [] = None
truth_at (zero ∷ rest) = Some (false, rest)
truth_at (suc zero ∷ rest) = Some (true, rest)
truth_at (suc (suc n) ∷ rest) = None

unfoldable pub optional_at : {A : Type 0} → (List ℕ → Option (A × List ℕ)) → List ℕ → Option (Option A × List ℕ)
optional_at each [] = None
optional_at each (zero ∷ rest) = Some (None, rest)
optional_at each (suc zero ∷ rest) = do
  x ← each rest
  Some (Some x.0, x.1)
optional_at each (suc (suc n) ∷ rest) = None

unfoldable pub pair_at : {A B : Type 0} → (List ℕ → Option (A × List ℕ)) → (List ℕ → Option (B × List ℕ)) → List ℕ → Option ((A × B) × List ℕ)
pair_at one other ns = do
  x ← one ns
  y ← other x.1
  Some ((x.0, y.0), y.1)

-- that many items
unfoldable pub items_at : {A : Type 0} → (List ℕ → Option (A × List ℕ)) → ℕ → List ℕ → Option (List A × List ℕ)
items_at each zero ns = Some ([], ns)
items_at each (suc n) ns = do
  x ← each ns
  xs ← items_at each n x.1
  Some (x.0 ∷ xs.0, xs.1)

unfoldable pub listed_at : {A : Type 0} → (List ℕ → Option (A × List ℕ)) → List ℕ → Option (List A × List ℕ)
listed_at each ns = do
  n ← number_at ns
  items_at each n.0 n.1

-- a list that has at most so many items
unfoldable pub array_at : {A : Type 0} → ℕ → (List ℕ → Option (A × List ℕ)) → List ℕ → Option (ArrayVec A × List ℕ)
array_at most each ns = do
  n ← number_at ns
  if nat_le n.0 most then (items_at each n.0 n.1 >>= λ xs. Some (record { items = xs.0 }, xs.1)) else None

unfoldable pub cpu_id_at : List ℕ → Option (CpuId × List ℕ)
cpu_id_at ns = do
  n ← below_at (2 ^ 16) ns
  Some (record { 0 = n.0 }, n.1)

unfoldable pub thread_id_at : List ℕ → Option (ThreadId × List ℕ)
thread_id_at ns = do
  n ← below_at (2 ^ 16) ns
  Some (record { 0 = n.0 }, n.1)

unfoldable pub lock_id_at : List ℕ → Option (LockId × List ℕ)
lock_id_at ns = do
  n ← below_at (2 ^ 16) ns
  Some (record { 0 = n.0 }, n.1)

unfoldable pub chan_id_at : List ℕ → Option (ChanId × List ℕ)
chan_id_at ns = do
  n ← below_at (2 ^ 16) ns
  Some (record { 0 = n.0 }, n.1)

unfoldable pub set_id_at : List ℕ → Option (SetId × List ℕ)
set_id_at ns = do
  n ← below_at (2 ^ 8) ns
  Some (record { 0 = n.0 }, n.1)

unfoldable pub side_at : List ℕ → Option (Side × List ℕ)
side_at [] = None
side_at (zero ∷ rest) = Some (Writer, rest)
side_at (suc zero ∷ rest) = Some (Reader, rest)
side_at (suc (suc n) ∷ rest) = None

unfoldable pub place_at : List ℕ → Option (Place × List ℕ)
place_at [] = None
place_at (zero ∷ rest) = do
  c ← cpu_id_at rest
  Some (Running c.0, c.1)
place_at (suc zero ∷ rest) = do
  c ← cpu_id_at rest
  key ← signed_at c.1
  Some (Queued c.0 key.0, key.1)
place_at (suc (suc zero) ∷ rest) = do
  p ← set_id_at rest
  key ← signed_at p.1
  Some (RealTime p.0 key.0, key.1)
place_at (suc (suc (suc zero)) ∷ rest) = do
  l ← lock_id_at rest
  side ← side_at l.1
  key ← signed_at side.1
  Some (Waiting l.0 side.0 key.0, key.1)
place_at (suc (suc (suc (suc zero))) ∷ rest) = do
  k ← chan_id_at rest
  key ← signed_at k.1
  Some (Asleep k.0 key.0, key.1)
place_at (suc (suc (suc (suc (suc zero)))) ∷ rest) = do
  c ← cpu_id_at rest
  due ← below_at (2 ^ 32) c.1
  Some (Napping c.0 due.0, due.1)
place_at (suc (suc (suc (suc (suc (suc zero))))) ∷ rest) = Some (Ended, rest)
place_at (suc (suc (suc (suc (suc (suc (suc n)))))) ∷ rest) = None

unfoldable pub lock_at : List ℕ → Option (LockState × List ℕ)
lock_at [] = None
lock_at (zero ∷ rest) = Some (Free, rest)
lock_at (suc zero ∷ rest) = do
  t ← thread_id_at rest
  Some (Owned t.0, t.1)
lock_at (suc (suc zero) ∷ rest) = do
  readers ← below_at (2 ^ 16) rest
  Some (ReadHeld readers.0, readers.1)
lock_at (suc (suc (suc zero)) ∷ rest) = do
  c ← cpu_id_at rest
  readers ← below_at (2 ^ 16) c.1
  Some (Passing c.0 readers.0, readers.1)
lock_at (suc (suc (suc (suc n))) ∷ rest) = None

unfoldable pub duty_at : List ℕ → Option (Duty × List ℕ)
duty_at [] = None
duty_at (zero ∷ rest) = Some (Nothing, rest)
duty_at (suc zero ∷ rest) = do
  l ← lock_id_at rest
  seek ← thread_id_at l.1
  key ← signed_at seek.1
  Some (Walk l.0 seek.0 key.0, key.1)
duty_at (suc (suc zero) ∷ rest) = do
  l ← lock_id_at rest
  Some (WakeMutex l.0, l.1)
duty_at (suc (suc (suc zero)) ∷ rest) = do
  l ← lock_id_at rest
  Some (GrantWriter l.0, l.1)
duty_at (suc (suc (suc (suc zero))) ∷ rest) = do
  l ← lock_id_at rest
  Some (GrantReaders l.0, l.1)
duty_at (suc (suc (suc (suc (suc zero)))) ∷ rest) = do
  k ← chan_id_at rest
  below ← signed_at k.1
  Some (Rouse k.0 below.0, below.1)
duty_at (suc (suc (suc (suc (suc (suc zero))))) ∷ rest) = do
  t ← thread_id_at rest
  Some (Age t.0, t.1)
duty_at (suc (suc (suc (suc (suc (suc (suc n)))))) ∷ rest) = None

unfoldable pub quantum_at : List ℕ → Option (Quantum × List ℕ)
quantum_at [] = None
quantum_at (zero ∷ rest) = Some (Def, rest)
quantum_at (suc zero ∷ rest) = Some (Inf, rest)
quantum_at (suc (suc zero) ∷ rest) = do
  n ← below_at (2 ^ 32) rest
  Some (Ticks n.0, n.1)
quantum_at (suc (suc (suc n)) ∷ rest) = None

-- a class state whose numbers are in their ranges
unfoldable pub ts_within : TsNumbers → Option TsNumbers
ts_within s = if is_ts s then Some s else None

unfoldable pub fx_within : FxNumbers → Option FxNumbers
fx_within s = if is_fx s then Some s else None

unfoldable pub sys_within : SysNumbers → Option SysNumbers
sys_within s = if is_sys s then Some s else None

unfoldable pub rt_within : RtNumbers → Option RtNumbers
rt_within s = if is_rt s then Some s else None

unfoldable pub ts_at : List ℕ → Option (TsNumbers × List ℕ)
ts_at ns = do
  cpupri ← below_at (2 ^ 8) ns
  limit ← signed_byte_at cpupri.1
  upri ← signed_byte_at limit.1
  left ← number_at upri.1
  wait ← below_at (2 ^ 32) left.1
  s ← ts_within (record { cpupri = cpupri.0; limit = limit.0; upri = upri.0; left = left.0; wait = wait.0 })
  Some (s, wait.1)

unfoldable pub fx_at : List ℕ → Option (FxNumbers × List ℕ)
fx_at ns = do
  limit ← below_at (2 ^ 8) ns
  pri ← below_at (2 ^ 8) limit.1
  quantum ← quantum_at pri.1
  left ← number_at quantum.1
  s ← fx_within (record { limit = limit.0; pri = pri.0; quantum = quantum.0; left = left.0 })
  Some (s, left.1)

unfoldable pub sys_at : List ℕ → Option (SysNumbers × List ℕ)
sys_at ns = do
  pri ← below_at (2 ^ 8) ns
  s ← sys_within (record { pri = pri.0 })
  Some (s, pri.1)

unfoldable pub rt_at : List ℕ → Option (RtNumbers × List ℕ)
rt_at ns = do
  pri ← below_at (2 ^ 8) ns
  quantum ← quantum_at pri.1
  left ← number_at quantum.1
  s ← rt_within (record { pri = pri.0; quantum = quantum.0; left = left.0 })
  Some (s, left.1)

unfoldable pub class_at : List ℕ → Option (ClassState × List ℕ)
class_at [] = None
class_at (zero ∷ rest) = do
  s ← ts_at rest
  Some (Ts s.0, s.1)
class_at (suc zero ∷ rest) = do
  s ← fx_at rest
  Some (Fx s.0, s.1)
class_at (suc (suc zero) ∷ rest) = do
  s ← sys_at rest
  Some (Sys s.0, s.1)
class_at (suc (suc (suc zero)) ∷ rest) = do
  s ← rt_at rest
  Some (Rt s.0, s.1)
class_at (suc (suc (suc (suc n))) ∷ rest) = None

unfoldable pub body_at : List ℕ → Option (ThreadBody × List ℕ)
body_at ns = do
  class ← class_at ns
  willed ← array_at 8 (pair_at lock_id_at (below_at (2 ^ 8))) class.1
  held ← array_at 8 lock_id_at willed.1
  op ← below_at (2 ^ 16) held.1
  run_left ← below_at (2 ^ 32) op.1
  back ← truth_at run_left.1
  last ← cpu_id_at back.1
  left_at ← optional_at (below_at (2 ^ 32)) last.1
  looped ← truth_at left_at.1
  bound ← optional_at cpu_id_at looped.1
  Some (record { class = class.0; willed = willed.0; held = held.0; op = op.0; run_left = run_left.0; back = back.0; last = last.0; left_at = left_at.0; looped = looped.0; bound = bound.0 }, bound.1)

unfoldable pub thread_at : List ℕ → Option (ThreadState × List ℕ)
thread_at ns = do
  body ← body_at ns
  place ← place_at body.1
  Some (record { body = body.0; place = place.0 }, place.1)

unfoldable pub cpu_at : List ℕ → Option (CpuState × List ℕ)
cpu_at ns = do
  count ← below_at (2 ^ 32) ns
  user ← truth_at count.1
  kernel ← truth_at user.1
  duty ← duty_at kernel.1
  set ← set_id_at duty.1
  closing ← optional_at set_id_at set.1
  bound ← below_at (2 ^ 16) closing.1
  Some (record { count = count.0; user = user.0; kernel = kernel.0; duty = duty.0; set = set.0; closing = closing.0; bound = bound.0 }, bound.1)

unfoldable pub state_at : List ℕ → Option (State × List ℕ)
state_at ns = do
  threads ← listed_at thread_at ns
  locks ← listed_at lock_at threads.1
  cpus ← listed_at cpu_at locks.1
  counts ← listed_at (below_at (2 ^ 32)) cpus.1
  open_cpus ← listed_at (array_at 64 cpu_id_at) counts.1
  Some (record { threads = threads.0; locks = locks.0; cpus = cpus.0; counts = counts.0; open_cpus = open_cpus.0 }, open_cpus.1)
