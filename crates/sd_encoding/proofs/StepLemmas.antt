-- A change of one thread, processor, lock, count or set in states whose keys have the same order.
use Rattle.std.proofs.Common.{◌≡◌, ℕ, ◌+◌, ◌<◌, ◌≤◌, ◌==◌, false, List, length, get_or, set, ℤ, Option, refl, sym, ap, ◌∙◌, arith, inl, inr, get_or-set_same, get_or-set_other}
use Rattle.std.specs.Prelude.{IfSome, if◌then◌else◌}
use Rattle.std.proofs.lemmas.Bool.{cases_eq, cases_lt, eq-eqb}
use Rattle.std.proofs.lemmas.Bool.Decides.{nat_tests}
use Rattle.std.proofs.lemmas.List.{map-set, set_past}
use Rattle.sd_types.specs.declared.numbers.CpuId.{CpuId}
use Rattle.sd_state.specs.declared.states.CpuState.{CpuState}
use Rattle.sd_state.specs.declared.states.LockState.{LockState}
use Rattle.sd_state.specs.declared.states.ThreadState.{ThreadState}
use Rattle.sd_state.specs.declared.states.State.{State}
use Rattle.sd_state.specs.States.{no_cpu, no_thread, thread_of, with_cpu, with_thread}
use Rattle.sd_machine.specs.Threads.{with_count, with_lock, with_open}
use Rattle.sd_encoding.specs.Order.{Holder, OfThread, OfCpu, IsKeyBefore, IsSleeperKey, KeysFit, bare, bare_cpu, bare_thread, key_at, key_held, key_in}
use Rattle.sd_encoding.specs.Shown.{if_later, fit_later}
use Rattle.sd_encoding.proofs.AlikeLemmas.{cpus_many, threads_many}
use Rattle.sd_encoding.proofs.SourceLemmas.{AreAlike, Source, Gone, From, Back, Front, fits_from, key_from, order_from, since}

abbrev SleepersFit : State → Type 0
SleepersFit s = (t : ℕ) → IsSleeperKey (thread_of s t).place

-- each key of the states afterwards comes from where `pick` says
picked : (n m n' m' : ℕ) (x s x' s' : State) (pick : Holder → Source) → AreAlike n m x s → bare x' ≡ bare s'
    → ((a : Holder) → key_held x' a ≡ key_from n x (pick a)) → ((a : Holder) → key_held s' a ≡ key_from m s (pick a))
    → ((z : State) → KeysFit n z → (a : Holder) → IfSome (key_from n z (pick a)) (IsKeyBefore n')) → ((z : State) → KeysFit m z → (a : Holder) → IfSome (key_from m z (pick a)) (IsKeyBefore m'))
    → SleepersFit x' → SleepersFit s' → AreAlike n' m' x' s'
picked n m n' m' x s x' s' pick h e kx ks fx fs sx ss = record {
  same = record { bare = e; order = λ a b. rw (kx a, kx b, ks a, ks b) (order_from n m x s h (pick a) (pick b)) };
  own = record { before = λ a. rw (kx a) (fx x h.own a); sleepers = sx };
  keys = record { before = λ a. rw (ks a) (fs s h.keys a); sleepers = ss };
}

since_fits : (n : ℕ) (b : Source) (key : Option ℤ) → IfSome key (IsKeyBefore n) → IfSome key (IsKeyBefore (since n b))
since_fits n Gone key h = h
since_fits n (From a) key h = h
since_fits n Back key h = if_later n key h
since_fits n Front key h = if_later n key h

pub alike_later : (n m : ℕ) (x s : State) → AreAlike n m x s → AreAlike (n + 1) (m + 1) x s
alike_later n m x s h = record { same = h.same; own = fit_later n x h.own; keys = fit_later m s h.keys }

alike_since : (n m : ℕ) (b : Source) (x s : State) → AreAlike n m x s → AreAlike (since n b) (since m b) x s
alike_since n m Gone x s h = h
alike_since n m (From a) x s h = h
alike_since n m Back x s h = alike_later n m x s h
alike_since n m Front x s h = alike_later n m x s h

-- the key of thread t comes from b, and each other is as before
abbrev pick_thread : ℕ → Source → Holder → Source
pick_thread t b (OfThread u) = if u == t then b else From (OfThread u)
pick_thread t b (OfCpu c) = From (OfCpu c)

abbrev pick_cpu : ℕ → Source → Holder → Source
pick_cpu c b (OfThread t) = From (OfThread t)
pick_cpu c b (OfCpu d) = if d == c then b else From (OfCpu d)

apart : (u t : ℕ) → (u ≡ t → ⊥) → (u == t) ≡ false
apart u t n = grind (arith, nat_tests)

thread_keys : (n : ℕ) (s : State) (t : ℕ) (y : ThreadState) (b : Source) → t < length s.threads → key_at y.place ≡ key_from n s b
    → (a : Holder) → key_held (with_thread s t y) a ≡ key_from n s (pick_thread t b a)
thread_keys n s t y b inside e (OfThread u) = elim (cases_eq u t) [
  | inl same ↦
      let here : get_or (set s.threads t y) u no_thread ≡ y = rw same (get_or-set_same s.threads t y no_thread inside) in
      rw (eq-eqb u t same) (ap (λ (z : ThreadState). key_at z.place) here ∙ e)
  | inr other ↦
      let there : get_or (set s.threads t y) u no_thread ≡ get_or s.threads u no_thread = get_or-set_other s.threads t u y no_thread other in
      rw (apart u t other) (ap (λ (z : ThreadState). key_at z.place) there)
]
thread_keys n s t y b inside e (OfCpu c) = refl

cpu_keys : (n : ℕ) (s : State) (c : ℕ) (y : CpuState) (b : Source) → c < length s.cpus → key_in y.duty ≡ key_from n s b
    → (a : Holder) → key_held (with_cpu s c y) a ≡ key_from n s (pick_cpu c b a)
cpu_keys n s c y b inside e (OfThread t) = refl
cpu_keys n s c y b inside e (OfCpu d) = elim (cases_eq d c) [
  | inl same ↦
      let here : get_or (set s.cpus c y) d no_cpu ≡ y = rw same (get_or-set_same s.cpus c y no_cpu inside) in
      rw (eq-eqb d c same) (ap (λ (z : CpuState). key_in z.duty) here ∙ e)
  | inr other ↦
      let there : get_or (set s.cpus c y) d no_cpu ≡ get_or s.cpus d no_cpu = get_or-set_other s.cpus c d y no_cpu other in
      rw (apart d c other) (ap (λ (z : CpuState). key_in z.duty) there)
]

thread_fits : (n t : ℕ) (b : Source) (z : State) → KeysFit n z → (a : Holder) → IfSome (key_from n z (pick_thread t b a)) (IsKeyBefore (since n b))
thread_fits n t b z fit (OfThread u) = elim (cases_eq u t) [
  | inl same ↦ rw (eq-eqb u t same) (fits_from n z fit b)
  | inr other ↦ rw (apart u t other) (since_fits n b (key_held z (OfThread u)) (fit.before (OfThread u)))
]
thread_fits n t b z fit (OfCpu c) = since_fits n b (key_held z (OfCpu c)) (fit.before (OfCpu c))

cpu_fits : (n c : ℕ) (b : Source) (z : State) → KeysFit n z → (a : Holder) → IfSome (key_from n z (pick_cpu c b a)) (IsKeyBefore (since n b))
cpu_fits n c b z fit (OfThread t) = since_fits n b (key_held z (OfThread t)) (fit.before (OfThread t))
cpu_fits n c b z fit (OfCpu d) = elim (cases_eq d c) [
  | inl same ↦ rw (eq-eqb d c same) (fits_from n z fit b)
  | inr other ↦ rw (apart d c other) (since_fits n b (key_held z (OfCpu d)) (fit.before (OfCpu d)))
]

sleepers_fit : (s : State) (t : ℕ) (y : ThreadState) → t < length s.threads → SleepersFit s → IsSleeperKey y.place → SleepersFit (with_thread s t y)
sleepers_fit s t y inside fit new u = elim (cases_eq u t) [
  | inl same ↦
      let here : get_or (set s.threads t y) u no_thread ≡ y = rw same (get_or-set_same s.threads t y no_thread inside) in
      rw here new
  | inr other ↦
      let there : get_or (set s.threads t y) u no_thread ≡ get_or s.threads u no_thread = get_or-set_other s.threads t u y no_thread other in
      rw there (fit u)
]

-- Without keys.

thread_bare : (s : State) (t : ℕ) (y : ThreadState) → bare (with_thread s t y) ≡ with_thread (bare s) t (bare_thread y)
thread_bare s t y = ap (λ (threads : List ThreadState). let z : State = record (bare s) { threads = threads } in z) (map-set bare_thread s.threads t y)

cpu_bare : (s : State) (c : ℕ) (y : CpuState) → bare (with_cpu s c y) ≡ with_cpu (bare s) c (bare_cpu y)
cpu_bare s c y = ap (λ (cpus : List CpuState). let z : State = record (bare s) { cpus = cpus } in z) (map-set bare_cpu s.cpus c y)

thread_past : (s : State) (t : ℕ) (y : ThreadState) → length s.threads ≤ t → with_thread s t y ≡ s
thread_past s t y h = ap (λ (threads : List ThreadState). let z : State = record s { threads = threads } in z) (set_past s.threads t y h)

cpu_past : (s : State) (c : ℕ) (y : CpuState) → length s.cpus ≤ c → with_cpu s c y ≡ s
cpu_past s c y h = ap (λ (cpus : List CpuState). let z : State = record s { cpus = cpus } in z) (set_past s.cpus c y h)

-- Thread t becomes another, which is the same in both but for its key, and its key comes from b.
pub thread_step : (n m : ℕ) (x s : State) (t : ℕ) (y z : ThreadState) (b : Source) → AreAlike n m x s → bare_thread y ≡ bare_thread z
    → key_at y.place ≡ key_from n x b → key_at z.place ≡ key_from m s b → IsSleeperKey y.place → IsSleeperKey z.place
    → AreAlike (since n b) (since m b) (with_thread x t y) (with_thread s t z)
thread_step n m x s t y z b h e kx ks sx ss = elim (cases_lt t (length x.threads)) [
  | inl inside ↦
      let inside' : t < length s.threads = rw (sym (threads_many x s h.same.bare)) inside in
      let same : bare (with_thread x t y) ≡ bare (with_thread s t z) = thread_bare x t y ∙ (λ i. with_thread (h.same.bare i) t (e i)) ∙ sym (thread_bare s t z) in
      picked n m (since n b) (since m b) x s (with_thread x t y) (with_thread s t z) (pick_thread t b) h same (thread_keys n x t y b inside kx) (thread_keys m s t z b inside' ks) (thread_fits n t b) (thread_fits m t b)
      (sleepers_fit x t y inside h.own.sleepers sx) (sleepers_fit s t z inside' h.keys.sleepers ss)
  | inr past ↦
      let past' : length s.threads ≤ t = rw (sym (threads_many x s h.same.bare)) past in
      rw (thread_past x t y past, thread_past s t z past') (alike_since n m b x s h)
]

-- Processor c becomes another, which is the same in both but for its key, and its key comes from b.
pub cpu_step : (n m : ℕ) (x s : State) (c : ℕ) (y z : CpuState) (b : Source) → AreAlike n m x s → bare_cpu y ≡ bare_cpu z
    → key_in y.duty ≡ key_from n x b → key_in z.duty ≡ key_from m s b → AreAlike (since n b) (since m b) (with_cpu x c y) (with_cpu s c z)
cpu_step n m x s c y z b h e kx ks = elim (cases_lt c (length x.cpus)) [
  | inl inside ↦
      let inside' : c < length s.cpus = rw (sym (cpus_many x s h.same.bare)) inside in
      let same : bare (with_cpu x c y) ≡ bare (with_cpu s c z) = cpu_bare x c y ∙ (λ i. with_cpu (h.same.bare i) c (e i)) ∙ sym (cpu_bare s c z) in
      picked n m (since n b) (since m b) x s (with_cpu x c y) (with_cpu s c z) (pick_cpu c b) h same (cpu_keys n x c y b inside kx) (cpu_keys m s c z b inside' ks) (cpu_fits n c b) (cpu_fits m c b) h.own.sleepers h.keys.sleepers
  | inr past ↦
      let past' : length s.cpus ≤ c = rw (sym (cpus_many x s h.same.bare)) past in
      rw (cpu_past x c y past, cpu_past s c z past') (alike_since n m b x s h)
]

-- A lock, a count and the open processors of a set have no key.

pub lock_step : (n m : ℕ) (x s : State) (l : ℕ) (lock : LockState) → AreAlike n m x s → AreAlike n m (with_lock x l lock) (with_lock s l lock)
lock_step n m x s l lock h = record {
  same = record { bare = ap (λ (z : State). with_lock z l lock) h.same.bare; order = h.same.order };
  own = record { before = h.own.before; sleepers = h.own.sleepers };
  keys = record { before = h.keys.before; sleepers = h.keys.sleepers };
}

pub count_step : (n m : ℕ) (x s : State) (k count : ℕ) → AreAlike n m x s → AreAlike n m (with_count x k count) (with_count s k count)
count_step n m x s k count h = record {
  same = record { bare = ap (λ (z : State). with_count z k count) h.same.bare; order = h.same.order };
  own = record { before = h.own.before; sleepers = h.own.sleepers };
  keys = record { before = h.keys.before; sleepers = h.keys.sleepers };
}

pub open_step : (n m : ℕ) (x s : State) (p : ℕ) (cpus : List CpuId) → AreAlike n m x s → AreAlike n m (with_open x p cpus) (with_open s p cpus)
open_step n m x s p cpus h = record {
  same = record { bare = ap (λ (z : State). with_open z p cpus) h.same.bare; order = h.same.order };
  own = record { before = h.own.before; sleepers = h.own.sleepers };
  keys = record { before = h.keys.before; sleepers = h.keys.sleepers };
}
