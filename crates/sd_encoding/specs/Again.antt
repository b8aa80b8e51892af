-- What is written is read again. The proofs stand here, since the types name them as their laws.
use Rattle.std.specs.Prelude.{◌≡◌, ℕ, ◌+◌, ◌*◌, ◌/◌, ◌%◌, ◌<◌, ◌≤◌, ◌^◌, Bool, true, false, ◌&&◌, ℤ, pos, negsuc, List, [], ◌∷◌, ◌++◌, length, Option, Some, None, IfSome, nat_lt, nat_le, int_le, T, refl}
use Rattle.std.specs.List.{All, AllByRecursion, flat_map}
use Rattle.std.proofs.Common.{arith, ap, append_assoc}
use Rattle.std.proofs.lemmas.Bool.{lt-ltb, le-leb, leb-true}
use Rattle.std.proofs.lemmas.List.Elements.{recursion_from_All}
use Rattle.arrayvec.specs.ArrayVec.{ArrayVec}
use Rattle.sd_types.specs.ClassNumbers.{TsNumbers, FxNumbers, SysNumbers, RtNumbers, IsTs, IsFx, IsSys, IsRt, IsQuantum, IsLeft, IsUserPriority}
use Rattle.sd_types.specs.declared.bodies.ThreadBody.{ThreadBody}
use Rattle.sd_types.specs.declared.classes.ClassState.{ClassState}
use Rattle.sd_types.specs.declared.classes.ClassState.TheVariants.{Ts, Fx, Sys, Rt}
use Rattle.sd_types.specs.declared.classes.Quantum.{Quantum}
use Rattle.sd_types.specs.declared.classes.Quantum.TheVariants.{Def, Inf, Ticks}
use Rattle.sd_types.specs.declared.events.Duty.{Duty}
use Rattle.sd_types.specs.declared.events.Duty.TheVariants.{Nothing, Walk, WakeMutex, GrantWriter, GrantReaders, Rouse, Age}
use Rattle.sd_types.specs.declared.numbers.ChanId.{ChanId}
use Rattle.sd_types.specs.declared.numbers.CpuId.{CpuId}
use Rattle.sd_types.specs.declared.numbers.LockId.{LockId}
use Rattle.sd_types.specs.declared.numbers.SetId.{SetId}
use Rattle.sd_types.specs.declared.numbers.Side.{Side}
use Rattle.sd_types.specs.declared.numbers.Side.TheVariants.{Writer, Reader}
use Rattle.sd_types.specs.declared.numbers.ThreadId.{ThreadId}
use Rattle.sd_state.specs.declared.states.CpuState.{CpuState}
use Rattle.sd_state.specs.declared.states.LockState.{LockState}
use Rattle.sd_state.specs.declared.states.LockState.TheVariants.{Free, Owned, ReadHeld, Passing}
use Rattle.sd_state.specs.declared.states.Place.{Place}
use Rattle.sd_state.specs.declared.states.Place.TheVariants.{Running, Queued, RealTime, Waiting, Asleep, Napping, Ended}
use Rattle.sd_state.specs.declared.states.State.{State}
use Rattle.sd_state.specs.declared.states.ThreadState.{ThreadState}
use Rattle.sd_encoding.specs.Numbers.{zigzag, natural, signed, truth, flag, optional, listed, cpu_id, thread_id, lock_id, chan_id, set_id, side, place, lock, duty, quantum, ts, fx, sys, rt, class, body, thread, cpu, inherited, open_list, vector}
use Rattle.sd_encoding.specs.Reading.{number_at, below_at, unzigzag, signed_at, signed_byte_at, truth_at, optional_at, pair_at, items_at, listed_at, array_at, cpu_id_at, thread_id_at, lock_id_at, chan_id_at, set_id_at, side_at, place_at, lock_at, duty_at, quantum_at, ts_within, fx_within, sys_within, rt_within, ts_at, fx_at, sys_at, rt_at, class_at, body_at, thread_at, cpu_at, state_at}
use Rattle.sd_rules.specs.ClassStates.{IsClassState}
use Rattle.sd_encoding.specs.Fits.{FitsCpuId, FitsThreadId, FitsLockId, FitsChanId, FitsSetId, FitsInherited, FitsArray, FitsPlace, FitsLock, FitsDuty, FitsQuantum, FitsBody, FitsThread, FitsCpu, FitsState}
use Rattle.sd_encoding.specs.Ranges.{is_quantum, is_ts, is_fx, is_sys, is_rt}

pub number_again : (n : ℕ) (rest : List ℕ) → number_at (natural n ++ rest) ≡ Some (n, rest)
unfolding number_at
number_again n rest = refl

pub below_again : (bound n : ℕ) (rest : List ℕ) → n < bound → below_at bound (natural n ++ rest) ≡ Some (n, rest)
unfolding below_at number_at
below_again bound n rest lt = let e : nat_lt n bound ≡ true = lt-ltb n bound lt in rw e refl

unzigzag_again : (z : ℤ) → unzigzag (zigzag z) ≡ z
unzigzag_again (pos n) =
    let even : (2 * n) % 2 ≡ 0 = omega arith in
    let half : (2 * n) / 2 ≡ n = omega arith in
    rw (even, half) refl
unzigzag_again (negsuc n) =
    let odd : (2 * n + 1) % 2 ≡ 1 = omega arith in
    let half : (2 * n + 1) / 2 ≡ n = omega arith in
    rw (odd, half) refl

pub signed_again : (z : ℤ) (rest : List ℕ) → signed_at (signed z ++ rest) ≡ Some (z, rest)
unfolding signed_at number_at
signed_again z rest = ap (λ (x : ℤ). Some (x, rest)) (unzigzag_again z)

pub signed_byte_again : (z : ℤ) (rest : List ℕ) → zigzag z < 2 ^ 8 → signed_byte_at (signed z ++ rest) ≡ Some (z, rest)
unfolding signed_byte_at
signed_byte_again z rest lt = rw (below_again (2 ^ 8) (zigzag z) rest lt) (ap (λ (x : ℤ). Some (x, rest)) (unzigzag_again z))

pub truth_again : (b : Bool) (rest : List ℕ) → truth_at (truth b ++ rest) ≡ Some (b, rest)
unfolding truth_at
truth_again false rest = refl
truth_again true rest = refl

pub optional_again : {A : Type 0} (numbers : A → List ℕ) (fits : A → Type 0) (at : List ℕ → Option (A × List ℕ)) (again : (x : A) (rest : List ℕ) → fits x → at (numbers x ++ rest) ≡ Some (x, rest))
    (x : Option A) (rest : List ℕ) → IfSome x fits → optional_at at (optional numbers x ++ rest) ≡ Some (x, rest)
unfolding optional_at
optional_again numbers fits at again None rest h = refl
optional_again numbers fits at again (Some x) rest h = rw (again x rest h) refl

pub pair_again : {A B : Type 0}
    (numbers : A → List ℕ) (fits : A → Type 0) (at : List ℕ → Option (A × List ℕ)) (again : (x : A) (rest : List ℕ) → fits x → at (numbers x ++ rest) ≡ Some (x, rest))
    (numbers' : B → List ℕ) (fits' : B → Type 0) (at' : List ℕ → Option (B × List ℕ)) (again' : (y : B) (rest : List ℕ) → fits' y → at' (numbers' y ++ rest) ≡ Some (y, rest))
    (x : A × B) (rest : List ℕ) → fits x.0 × fits' x.1 → pair_at at at' ((numbers x.0 ++ numbers' x.1) ++ rest) ≡ Some (x, rest)
unfolding pair_at
pair_again numbers fits at again numbers' fits' at' again' x rest h = rw (append_assoc (numbers x.0) (numbers' x.1) rest, again x.0 (numbers' x.1 ++ rest) h.0, again' x.1 rest h.1) refl

items_again : {A : Type 0} (numbers : A → List ℕ) (fits : A → Type 0) (at : List ℕ → Option (A × List ℕ)) (again : (x : A) (rest : List ℕ) → fits x → at (numbers x ++ rest) ≡ Some (x, rest))
    (xs : List A) (rest : List ℕ) → AllByRecursion fits xs → items_at at (length xs) (flat_map numbers xs ++ rest) ≡ Some (xs, rest)
unfolding items_at
items_again numbers fits at again [] rest h = refl
items_again numbers fits at again (x ∷ xs) rest h =
    rw (append_assoc (numbers x) (flat_map numbers xs) rest, again x (flat_map numbers xs ++ rest) h.0, items_again numbers fits at again xs rest h.1) refl

pub listed_again : {A : Type 0} (numbers : A → List ℕ) (fits : A → Type 0) (at : List ℕ → Option (A × List ℕ)) (again : (x : A) (rest : List ℕ) → fits x → at (numbers x ++ rest) ≡ Some (x, rest))
    (xs : List A) (rest : List ℕ) → All fits xs → listed_at at (listed numbers xs ++ rest) ≡ Some (xs, rest)
unfolding listed_at number_at
listed_again numbers fits at again xs rest h = items_again numbers fits at again xs rest (recursion_from_All fits xs h)

pub array_again : {A : Type 0} (most : ℕ) (numbers : A → List ℕ) (fits : A → Type 0) (at : List ℕ → Option (A × List ℕ)) (again : (x : A) (rest : List ℕ) → fits x → at (numbers x ++ rest) ≡ Some (x, rest))
    (x : ArrayVec A) (rest : List ℕ) → FitsArray most fits x → array_at most at (listed numbers x.items ++ rest) ≡ Some (x, rest)
unfolding array_at number_at
array_again most numbers fits at again x rest h =
    let few : nat_le (length x.items) most ≡ true = le-leb (length x.items) most h.0 in
    rw (few, items_again numbers fits at again x.items rest (recursion_from_All fits x.items h.1)) refl

pub cpu_id_again : (c : CpuId) (rest : List ℕ) → FitsCpuId c → cpu_id_at (cpu_id c ++ rest) ≡ Some (c, rest)
unfolding cpu_id_at
cpu_id_again c rest h = rw (below_again (2 ^ 16) c.0 rest h) refl

pub thread_id_again : (c : ThreadId) (rest : List ℕ) → FitsThreadId c → thread_id_at (thread_id c ++ rest) ≡ Some (c, rest)
unfolding thread_id_at
thread_id_again c rest h = rw (below_again (2 ^ 16) c.0 rest h) refl

pub lock_id_again : (c : LockId) (rest : List ℕ) → FitsLockId c → lock_id_at (lock_id c ++ rest) ≡ Some (c, rest)
unfolding lock_id_at
lock_id_again c rest h = rw (below_again (2 ^ 16) c.0 rest h) refl

pub chan_id_again : (c : ChanId) (rest : List ℕ) → FitsChanId c → chan_id_at (chan_id c ++ rest) ≡ Some (c, rest)
unfolding chan_id_at
chan_id_again c rest h = rw (below_again (2 ^ 16) c.0 rest h) refl

pub set_id_again : (c : SetId) (rest : List ℕ) → FitsSetId c → set_id_at (set_id c ++ rest) ≡ Some (c, rest)
unfolding set_id_at
set_id_again c rest h = rw (below_again (2 ^ 8) c.0 rest h) refl

pub side_again : (x : Side) (rest : List ℕ) → side_at (side x ++ rest) ≡ Some (x, rest)
unfolding side_at
side_again Writer rest = refl
side_again Reader rest = refl

pub place_again : (x : Place) (rest : List ℕ) → FitsPlace x → place_at (place x ++ rest) ≡ Some (x, rest)
unfolding place_at
place_again (Running c) rest h = rw (cpu_id_again c rest h) refl
place_again (Queued c key) rest h = rw (cpu_id_again c (signed key ++ rest) h, signed_again key rest) refl
place_again (RealTime p key) rest h = rw (set_id_again p (signed key ++ rest) h, signed_again key rest) refl
place_again (Waiting l x key) rest h = rw (lock_id_again l (side x ++ (signed key ++ rest)) h, side_again x (signed key ++ rest), signed_again key rest) refl
place_again (Asleep k key) rest h = rw (chan_id_again k (signed key ++ rest) h, signed_again key rest) refl
place_again (Napping c due) rest h = rw (cpu_id_again c (due ∷ rest) h.0, below_again (2 ^ 32) due rest h.1) refl
place_again Ended rest h = refl

pub lock_again : (x : LockState) (rest : List ℕ) → FitsLock x → lock_at (lock x ++ rest) ≡ Some (x, rest)
unfolding lock_at
lock_again Free rest h = refl
lock_again (Owned t) rest h = rw (thread_id_again t rest h) refl
lock_again (ReadHeld readers) rest h = rw (below_again (2 ^ 16) readers rest h) refl
lock_again (Passing c readers) rest h = rw (cpu_id_again c (readers ∷ rest) h.0, below_again (2 ^ 16) readers rest h.1) refl

pub duty_again : (x : Duty) (rest : List ℕ) → FitsDuty x → duty_at (duty x ++ rest) ≡ Some (x, rest)
unfolding duty_at
duty_again Nothing rest h = refl
duty_again (Walk l seek key) rest h = rw (lock_id_again l (thread_id seek ++ (signed key ++ rest)) h.0, thread_id_again seek (signed key ++ rest) h.1, signed_again key rest) refl
duty_again (WakeMutex l) rest h = rw (lock_id_again l rest h) refl
duty_again (GrantWriter l) rest h = rw (lock_id_again l rest h) refl
duty_again (GrantReaders l) rest h = rw (lock_id_again l rest h) refl
duty_again (Rouse k below) rest h = rw (chan_id_again k (signed below ++ rest) h, signed_again below rest) refl
duty_again (Age t) rest h = rw (thread_id_again t rest h) refl

pub quantum_again : (x : Quantum) (rest : List ℕ) → FitsQuantum x → quantum_at (quantum x ++ rest) ≡ Some (x, rest)
unfolding quantum_at
quantum_again Def rest h = refl
quantum_again Inf rest h = refl
quantum_again (Ticks n) rest h = rw (below_again (2 ^ 32) n rest h) refl

is_true : (b : Bool) → T b → b ≡ true
is_true true h = refl
is_true false h = absurd h

both_true : (a b : Bool) → a ≡ true → b ≡ true → (a && b) ≡ true
both_true a b p q = rw (p, q) refl

quantum_fits : (x : Quantum) → IsQuantum x → FitsQuantum x
quantum_fits Def h = tt
quantum_fits Inf h = tt
quantum_fits (Ticks n) h = omega (arith, h.1)

quantum_holds : (x : Quantum) (left : ℕ) → IsQuantum x → IsLeft x left → is_quantum x left ≡ true
unfolding is_quantum
quantum_holds Def left h k = le-leb 1 left k
quantum_holds Inf left h k = rw k refl
quantum_holds (Ticks n) left h k = both_true (nat_le 1 n) (nat_le n 1000000 && nat_le 1 left) (le-leb 1 n h.0) (both_true (nat_le n 1000000) (nat_le 1 left) (le-leb n 1000000 h.1) (le-leb 1 left k))

ts_is_within : (s : TsNumbers) → IsTs s → ts_within s ≡ Some s
unfolding ts_within is_ts
ts_is_within s h =
    rw (le-leb s.cpupri 59 h.cpupri, is_true (int_le (negsuc 59) s.limit) h.limit.0.le, is_true (int_le s.limit (pos 60)) h.limit.1.le, is_true (int_le (negsuc 59) s.upri) h.upri.0.le, is_true (int_le s.upri s.limit) h.under.le, le-leb 1 s.left h.left, le-leb s.wait 32767 h.wait) refl

fx_is_within : (s : FxNumbers) → IsFx s → fx_within s ≡ Some s
unfolding fx_within is_fx
fx_is_within s h = rw (le-leb s.limit 60 h.limit, le-leb s.pri s.limit h.under, quantum_holds s.quantum s.left h.quantum h.left) refl

sys_is_within : (s : SysNumbers) → IsSys s → sys_within s ≡ Some s
unfolding sys_within is_sys
sys_is_within s h = rw (le-leb 60 s.pri h.least, le-leb s.pri 99 h.most) refl

rt_is_within : (s : RtNumbers) → IsRt s → rt_within s ≡ Some s
unfolding rt_within is_rt
rt_is_within s h = rw (le-leb s.pri 59 h.pri, quantum_holds s.quantum s.left h.quantum h.left) refl

user_fits : (z : ℤ) → IsUserPriority z → zigzag z < 2 ^ 8
user_fits (pos n) h = let few : n ≤ 60 = leb-true n 60 (is_true (nat_le n 60) h.1.le) in omega arith
user_fits (negsuc n) h = let few : n ≤ 59 = leb-true n 59 (is_true (nat_le n 59) h.0.le) in omega arith

pub ts_again : (s : TsNumbers) (rest : List ℕ) → IsTs s → ts_at (ts s ++ rest) ≡ Some (s, rest)
unfolding ts_at
ts_again s rest h =
    rw (
      below_again (2 ^ 8) s.cpupri (zigzag s.limit ∷ zigzag s.upri ∷ s.left ∷ s.wait ∷ rest) (omega (arith, h.cpupri)),
      signed_byte_again s.limit (zigzag s.upri ∷ s.left ∷ s.wait ∷ rest) (user_fits s.limit h.limit),
      signed_byte_again s.upri (s.left ∷ s.wait ∷ rest) (user_fits s.upri h.upri),
      number_again s.left (s.wait ∷ rest),
      below_again (2 ^ 32) s.wait rest (omega (arith, h.wait)),
      ts_is_within s h,
    ) refl

pub fx_again : (s : FxNumbers) (rest : List ℕ) → IsFx s → fx_at (fx s ++ rest) ≡ Some (s, rest)
unfolding fx_at
fx_again s rest h =
    let tail : fx s ++ rest ≡ s.limit ∷ s.pri ∷ (quantum s.quantum ++ s.left ∷ rest) = simp append_assoc in
    rw (
      tail,
      below_again (2 ^ 8) s.limit (s.pri ∷ (quantum s.quantum ++ s.left ∷ rest)) (omega (arith, h.limit)),
      below_again (2 ^ 8) s.pri (quantum s.quantum ++ s.left ∷ rest) (omega (arith, h.limit, h.under)),
      quantum_again s.quantum (s.left ∷ rest) (quantum_fits s.quantum h.quantum),
      number_again s.left rest,
      fx_is_within s h,
    ) refl

pub sys_again : (s : SysNumbers) (rest : List ℕ) → IsSys s → sys_at (sys s ++ rest) ≡ Some (s, rest)
unfolding sys_at
sys_again s rest h = rw (below_again (2 ^ 8) s.pri rest (omega (arith, h.most)), sys_is_within s h) refl

pub rt_again : (s : RtNumbers) (rest : List ℕ) → IsRt s → rt_at (rt s ++ rest) ≡ Some (s, rest)
unfolding rt_at
rt_again s rest h =
    let tail : rt s ++ rest ≡ s.pri ∷ (quantum s.quantum ++ s.left ∷ rest) = simp append_assoc in
    rw (
      tail,
      below_again (2 ^ 8) s.pri (quantum s.quantum ++ s.left ∷ rest) (omega (arith, h.pri)),
      quantum_again s.quantum (s.left ∷ rest) (quantum_fits s.quantum h.quantum),
      number_again s.left rest,
      rt_is_within s h,
    ) refl

pub class_again : (x : ClassState) (rest : List ℕ) → IsClassState x → class_at (class x ++ rest) ≡ Some (x, rest)
unfolding class_at
class_again (Ts s) rest h = rw (ts_again s rest h) refl
class_again (Fx s) rest h = rw (fx_again s rest h) refl
class_again (Sys s) rest h = rw (sys_again s rest h) refl
class_again (Rt s) rest h = rw (rt_again s rest h) refl

pub inherited_again : (x : LockId × ℕ) (rest : List ℕ) → FitsInherited x → pair_at lock_id_at (below_at (2 ^ 8)) (inherited x ++ rest) ≡ Some (x, rest)
inherited_again x rest h = pair_again lock_id FitsLockId lock_id_at lock_id_again natural (λ n. n < 2 ^ 8) (below_at (2 ^ 8)) (below_again (2 ^ 8)) x rest h

-- what follows the locks of a body
marks : ThreadBody → List ℕ → List ℕ
marks b rest = b.op ∷ b.run_left ∷ flag b.back ∷ b.last.0 ∷ (optional natural b.left_at ++ flag b.looped ∷ (optional cpu_id b.bound ++ rest))

body_parts : (b : ThreadBody) (rest : List ℕ) → body b ++ rest ≡ class b.class ++ (listed inherited b.willed.items ++ (listed lock_id b.held.items ++ marks b rest))
unfolding body marks
body_parts b rest = simp append_assoc

pub body_again : (b : ThreadBody) (rest : List ℕ) → FitsBody b → body_at (body b ++ rest) ≡ Some (b, rest)
unfolding body_at marks
body_again b rest h =
    let r8 : List ℕ = optional cpu_id b.bound ++ rest in
    let r7 : List ℕ = optional natural b.left_at ++ flag b.looped ∷ r8 in
    rw (
      body_parts b rest,
      class_again b.class (listed inherited b.willed.items ++ (listed lock_id b.held.items ++ marks b rest)) h.class,
      array_again 8 inherited FitsInherited (pair_at lock_id_at (below_at (2 ^ 8))) inherited_again b.willed (listed lock_id b.held.items ++ marks b rest) h.willed,
      array_again 8 lock_id FitsLockId lock_id_at lock_id_again b.held (marks b rest) h.held,
      below_again (2 ^ 16) b.op (b.run_left ∷ flag b.back ∷ b.last.0 ∷ r7) h.op,
      below_again (2 ^ 32) b.run_left (flag b.back ∷ b.last.0 ∷ r7) h.run_left,
      truth_again b.back (b.last.0 ∷ r7),
      cpu_id_again b.last r7 h.last,
      optional_again natural (λ n. n < 2 ^ 32) (below_at (2 ^ 32)) (below_again (2 ^ 32)) b.left_at (flag b.looped ∷ r8) h.left_at,
      truth_again b.looped r8,
      optional_again cpu_id FitsCpuId cpu_id_at cpu_id_again b.bound rest h.bound,
    ) refl

pub thread_again : (x : ThreadState) (rest : List ℕ) → FitsThread x → thread_at (thread x ++ rest) ≡ Some (x, rest)
unfolding thread_at thread
thread_again x rest h = rw (append_assoc (body x.body) (place x.place) rest, body_again x.body (place x.place ++ rest) h.body, place_again x.place rest h.place) refl

cpu_parts : (x : CpuState) (rest : List ℕ) → cpu x ++ rest ≡ x.count ∷ flag x.user ∷ flag x.kernel ∷ (duty x.duty ++ x.set.0 ∷ (optional set_id x.closing ++ x.bound ∷ rest))
unfolding cpu
cpu_parts x rest = simp append_assoc

pub cpu_again : (x : CpuState) (rest : List ℕ) → FitsCpu x → cpu_at (cpu x ++ rest) ≡ Some (x, rest)
unfolding cpu_at
cpu_again x rest h =
    let r5 : List ℕ = optional set_id x.closing ++ x.bound ∷ rest in
    let r3 : List ℕ = duty x.duty ++ x.set.0 ∷ r5 in
    rw (
      cpu_parts x rest,
      below_again (2 ^ 32) x.count (flag x.user ∷ flag x.kernel ∷ r3) h.count,
      truth_again x.user (flag x.kernel ∷ r3),
      truth_again x.kernel r3,
      duty_again x.duty (x.set.0 ∷ r5) h.duty,
      set_id_again x.set r5 h.set,
      optional_again set_id FitsSetId set_id_at set_id_again x.closing (x.bound ∷ rest) h.closing,
      below_again (2 ^ 16) x.bound rest h.bound,
    ) refl

state_parts : (s : State) (rest : List ℕ) → vector s ++ rest ≡ listed thread s.threads ++ (listed lock s.locks ++ (listed cpu s.cpus ++ (listed natural s.counts ++ (listed open_list s.open_cpus ++ rest))))
unfolding vector
state_parts s rest = simp append_assoc

pub state_again : (s : State) (rest : List ℕ) → FitsState s → state_at (vector s ++ rest) ≡ Some (s, rest)
unfolding state_at
state_again s rest h =
    let r4 : List ℕ = listed open_list s.open_cpus ++ rest in
    let r3 : List ℕ = listed natural s.counts ++ r4 in
    let r2 : List ℕ = listed cpu s.cpus ++ r3 in
    let r1 : List ℕ = listed lock s.locks ++ r2 in
    rw (
      state_parts s rest,
      listed_again thread FitsThread thread_at thread_again s.threads r1 h.threads,
      listed_again lock FitsLock lock_at lock_again s.locks r2 h.locks,
      listed_again cpu FitsCpu cpu_at cpu_again s.cpus r3 h.cpus,
      listed_again natural (λ n. n < 2 ^ 32) (below_at (2 ^ 32)) (below_again (2 ^ 32)) s.counts r4 h.counts,
      listed_again open_list (FitsArray 64 FitsCpuId) (array_at 64 cpu_id_at) (array_again 64 cpu_id FitsCpuId cpu_id_at cpu_id_again) s.open_cpus rest h.open_cpus,
    ) refl
