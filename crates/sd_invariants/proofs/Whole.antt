-- All that is known of a state of a run, and what it says of an event that has its cause there: threads that are there and
-- run, room for what they take, and numbers that stay in their types.
use Rattle.std.proofs.Common.{◌≡◌, ℕ, zero, suc, ◌*◌, ◌<◌, ◌≤◌, Bool, true, false, not, List, [], ◌∷◌, length, map, take, Option, Some, None, refl, sym, ap, subst, arith, inl, inr}
use Rattle.std.specs.Prelude.{slice_get, slice_index_or, option_map, unwrap_or, nat_lt, nat_le, if◌then◌else◌, IfSome, ℤ}
use Rattle.std.specs.List.{list_all}
use Rattle.std.proofs.lemmas.Bool.{cases_lt, not-true}
use Rattle.std.proofs.lemmas.Bool.Decides.{nat_tests}
use Rattle.std.proofs.lemmas.List.{get_or_past}
use Rattle.sd_basics.proofs.Truths.{and_left, and_right}
use Rattle.sd_types.specs.declared.numbers.CpuId.{CpuId}
use Rattle.sd_types.specs.declared.numbers.LockId.{LockId}
use Rattle.sd_types.specs.declared.numbers.ThreadId.{ThreadId}
use Rattle.sd_types.specs.declared.numbers.Side.{Side}
use Rattle.sd_types.specs.declared.events.BindAnswer.{BindAnswer}
use Rattle.sd_types.specs.declared.events.BindAnswer.TheVariants as bind
use Rattle.sd_types.specs.declared.events.Put.{Put}
use Rattle.sd_types.specs.declared.names.Name.{Name}
use Rattle.sd_types.specs.declared.scripts.Op.{Op}
use Rattle.sd_types.specs.declared.scripts.Op.TheVariants as op
use Rattle.sd_types.specs.declared.works.ChanKind.{ChanKind}
use Rattle.sd_types.specs.declared.works.ChanKind.TheVariants.{Chan, Sema}
use Rattle.sd_types.specs.declared.works.ThreadDecl.{ThreadDecl}
use Rattle.sd_types.specs.declared.works.Work.{Work}
use Rattle.sd_types.specs.Scripts.{is_held, held_by, can_take}
use Rattle.sd_types.specs.Works.{span_fits, has_small_count}
use Rattle.sd_state.specs.declared.states.LockState.{LockState}
use Rattle.sd_state.specs.declared.states.LockState.TheVariants.{Free, Owned, ReadHeld, Passing}
use Rattle.sd_state.specs.declared.states.Place.{Place}
use Rattle.sd_state.specs.declared.states.Place.TheVariants.{Running}
use Rattle.sd_state.specs.declared.states.CpuState.{CpuState}
use Rattle.sd_state.specs.declared.states.State.{State}
use Rattle.sd_state.specs.States.{thread_of, cpu_of, no_cpu, is_running}
use Rattle.sd_state.specs.Operations.{script_of, op_of}
use Rattle.sd_state.specs.Opening.{first_count, opening}
use Rattle.sd_state.specs.Opening.{count_of as first_count_of}
use Rattle.sd_machine.specs.Threads.{count_of, lock_of, runner, best_waiter, greatest_waiting}
use Rattle.sd_machine.specs.Locking.{others_waiting}
use Rattle.sd_machine.specs.Needs.{IsThread, Runs, CanAct, CanNap, CanHold, CanInherit, CanReceive, CanBind, more_fits}
use Rattle.sd_machine.specs.Sleeping.{nap_ticks}
use Rattle.sd_machine.specs.Runs.{IsReached}
use Rattle.sd_machine.specs.Holders as H
use Rattle.sd_frames.specs.Causes.{Acts, wants, WakesBest, RousesBest}
use Rattle.sd_invariants.specs.Holding.{lock_state, table}
use Rattle.sd_invariants.specs.Laws.{CountsWithin, OpenHold, IsFit}
use Rattle.sd_frames.proofs.Found.{runner_found, waiter_found, sleeper_found, sleeper_below_found}
use Rattle.sd_invariants.proofs.ScriptLemmas.{waits_here}
use Rattle.sd_invariants.proofs.Works.{op_named, wanted_fits}
use Rattle.sd_invariants.proofs.AgreedAfter.{IsReady}
use Rattle.sd_invariants.proofs.NumberLemmas.{AreFine, fine_eff, waiting_below, others_below}
use Rattle.sd_invariants.proofs.SemaphoreLemmas.{total, ops_over, CountsHold, holds_kept}
use Rattle.sd_frames.proofs.HoldTable.{bound_part}
use Rattle.sd_invariants.proofs.BoundLemmas.{is_bound_at, BoundHold, bound_is_kept}
use Rattle.sd_invariants.proofs.OpenLemmas.{open_is_kept}
use Rattle.sd_invariants.proofs.CountLemmas.{opening_counts, after_counts}
use Rattle.sd_invariants.proofs.FineLemmas.{fine_reached}
use Rattle.sd_invariants.proofs.Ready.{reached_ready, kept_reached}
use Rattle.std.proofs.lemmas.Option.{slice_get_within}

-- all that is known of a state of a run
pub record IsWhole (w : Work) (s : State) : Type 0 where
  pub ready : IsReady w s
  pub fine : AreFine s
  pub counts : CountsWithin w s
  pub semaphores : CountsHold w s
  pub bound : BoundHold s
  pub opened : OpenHold w s

pub reached_whole : (w : Work) (n : ℕ) (s : State) → IsReached w n s → IsWhole w s
reached_whole w n s reached = record {
  ready = reached_ready w n s reached;
  fine = fine_reached w n s reached;
  counts = kept_reached CountsWithin (record { start = opening_counts; step = λ w s n c e ready cause within. after_counts w s n c e cause within }) w n s reached;
  semaphores = kept_reached CountsHold holds_kept w n s reached;
  bound = kept_reached (λ w s. BoundHold s) bound_is_kept w n s reached;
  opened = kept_reached OpenHold open_is_kept w n s reached;
}

-- Sums and counts.

total_most : (f : ℕ → ℕ) (k : ℕ) → ((t : ℕ) → t < k → f t ≤ 256) → total f k ≤ k * 256
total_most f zero each = omega arith
total_most f (suc k) each =
    let here = each k (omega arith) in
    let rest = total_most f k (λ t lt. each t (omega arith)) in
    omega (arith, here, rest)

counted_most : (f : ℕ → Bool) (k : ℕ) → H.counted f k ≤ k
counted_most f zero = omega arith
counted_most f (suc k) = by (f k) (counted_most f k)
  where
    by : (b : Bool) → H.counted f k ≤ k → (if b then suc (H.counted f k) else H.counted f k) ≤ suc k
    by true h = omega (arith, h)
    by false h = omega (arith, h)

below_all : (o : Option ℕ) → ((n : ℕ) → o ≡ Some n → n < 160) → IfSome o (λ n. n < 160)
below_all None each = tt
below_all (Some n) each = each n refl

script_short : (w : Work) (t : ℕ) → length (script_of w t) ≤ 256
script_short w t = by (slice_get w.threads t)
  where
    by : (d : Option ThreadDecl) → length (unwrap_or (option_map (λ (d : ThreadDecl). d.script.ops) d) []) ≤ 256
    by None = omega arith
    by (Some d) = d.script.short

-- A thread that runs, and one that takes a lock.

pub running_on : (c : CpuId) (p : Place) → is_running c.0 p ≡ true → p ≡ Running c
running_on c (Running d) e =
    let same : d.0 ≡ c.0 = grind (arith, nat_tests) in
    let at : ℕ → CpuId = λ n. record { 0 = n } in
    ap (λ n. Running (at n)) same
running_on c p e = cc

can_room : (l : LockId) (held : List LockId) → can_take l held ≡ true → length held < 8
can_room l held can =
    let test : nat_lt (length held) 8 ≡ true = and_right (not (is_held l held)) _ can in
    grind (arith, nat_tests)

can_apart : (l : LockId) (held : List LockId) → can_take l held ≡ true → is_held l held ≡ false
can_apart l held can = not-true (is_held l held) (and_left (not (is_held l held)) (nat_lt (length held) 8) can)

small_count : (kind : ChanKind) → has_small_count kind ≡ true → first_count_of kind ≤ 65535
small_count Chan e = omega arith
small_count (Sema n) e = grind (arith, nat_tests)

small_counts : (ks : List (Name × ChanKind)) (k : ℕ) → list_all (λ x. has_small_count x.1) ks ≡ true → slice_index_or (map first_count ks) k 0 ≤ 65535
small_counts [] k e = omega arith
small_counts (x ∷ ks) zero e = small_count x.1 (and_left (has_small_count x.1) _ e)
small_counts (x ∷ ks) (suc k) e = small_counts ks k (and_right (has_small_count x.1) _ e)

-- a semaphore begins with 65,535 at most
opening_small : (w : Work) (k : ℕ) → count_of (opening w) k ≤ 65535
unfolding opening
opening_small w k = small_counts w.chans k w.small_counts

module _ (w : Work) (s : State) (whole : IsWhole w s) where
  pub threads_most : length s.threads ≤ 2048
  threads_most = let many = whole.ready.fits.threads in let most = w.most_threads in omega arith

  ops_most : ops_over s ≤ 524288
  ops_most =
      let all = total_most (λ t. (thread_of s t).body.op) (length s.threads) (λ t lt. let a = (whole.ready.scripted t lt).op in let b = script_short w t in omega arith) in
      let many = threads_most in
      omega arith

  pub is_fit : IsFit w s
  is_fit = record {
    fits = whole.ready.fits;
    owners = λ l o is. (whole.ready.agreed.owner l o.0 (ap lock_state is)).0;
    willed = λ t. (whole.fine t).sound.below;
    counts = λ k. let a = whole.semaphores k in let b = ops_most in let c = opening_small w k in omega arith;
  }

  -- a rwlock has no more readers than there are threads
  readers_most : (l : LockId) (n : ℕ) → H.holders_of (lock_state (lock_of s l.0)) ≡ n → n < 4096
  readers_most l n is =
      let held = whole.ready.agreed.holders l.0 in
      let most = counted_most (λ t. (table s).holds t l.0) (length s.threads) in
      let threads = threads_most in
      let same : H.holders_of ((table s).lock l.0) ≡ n = is in
      omega arith

  -- there is room for one reader more
  pub one_more : (l : LockId) → more_fits (lock_of s l.0) ≡ true
  one_more l = by (lock_of s l.0) refl
    where
      by : (x : LockState) → lock_of s l.0 ≡ x → more_fits x ≡ true
      by Free is = refl
      by (Owned o) is = refl
      by (ReadHeld n) is = let few = readers_most l n (ap (λ x. H.holders_of (lock_state x)) is) in grind (arith, nat_tests)
      by (Passing d r) is = let few = readers_most l r (ap (λ x. H.holders_of (lock_state x)) is) in grind (arith, nat_tests)

  pub binds : (d : Option CpuId) (answer : BindAnswer) → CanBind s d answer
  binds None answer = tt
  binds (Some d) (bind.Changed at) = elim (cases_lt d.0 (length s.cpus)) [
    | inl here ↦
        let a = whole.bound d.0 here in
        let b = counted_most (λ t. is_bound_at d.0 (bound_part (thread_of s t))) (length s.threads) in
        let many = threads_most in
        omega (arith, a, b, many)
    | inr past ↦ let none : (cpu_of s d.0).bound ≡ 0 = ap (λ (x : CpuState). x.bound) (get_or_past s.cpus d.0 no_cpu past) in omega (arith, none)
  ]
  binds (Some d) bind.ESRCH = tt
  binds (Some d) bind.EINVAL = tt
  binds (Some d) bind.EPERM = tt
  binds (Some d) bind.EBUSY = tt

  pub woken_there : (k : ℕ) (u : Option (ThreadId × Put)) → WakesBest w s k u → IfSome u (λ v. v.0.0 < length s.threads)
  woken_there k None is = tt
  woken_there k (Some u) is = (sleeper_found s k u.0.0 is.best).inside

  pub roused_there : (k : ℕ) (below : ℤ) (u : Option (ThreadId × Put)) → RousesBest w s k below u → IfSome u (λ v. v.0.0 < length s.threads)
  roused_there k below None is = tt
  roused_there k below (Some u) is = (sleeper_below_found s k below u.0.0 is.0).inside

  short_held : (t : ThreadId) (l : LockId) → IsThread s t → can_take l (held_by (take (thread_of s t.0).body.op (script_of w t.0))) ≡ true → CanHold s t l
  short_held t l inside can =
      let now : can_take l (thread_of s t.0).body.held.items ≡ true = subst (λ (xs : List LockId). can_take l xs ≡ true) (sym (whole.ready.scripted t.0 inside).held) can in
      record { room = can_room l _ now; apart = can_apart l _ now }

  -- a waiter that is given its lock
  pub receives : (l : LockId) (side : Side) (u : ThreadId) → best_waiter s l.0 side ≡ Some u.0 → CanReceive w s u l
  receives l side u best =
      let found = waiter_found s l.0 side u.0 best in
      let (k, is) = waits_here l side (thread_of s u.0).place found.stands in
      let (o, stands, wanted) = (whole.ready.scripted u.0 found.inside).waits l side k is in
      let holds = short_held u l found.inside (wanted_fits w u.0 (thread_of s u.0).body.op o l side stands wanted) in
      record {
        thread = found.inside;
        op = slice_get_within (script_of w u.0) (thread_of s u.0).body.op o stands;
        room = holds.room;
        apart = holds.apart;
        sound = (whole.fine u.0).sound;
        below = below_all (others_waiting s l u.0) (λ n e. others_below s l u.0 n whole.fine e);
        more = one_more l;
      }

  -- the owner of a lock, through which it is to inherit the greatest priority of those who wait for it
  pub inherits : (l : LockId) (o : ThreadId) → lock_of s l.0 ≡ Owned o → CanInherit s o l (greatest_waiting l.0 s.threads)
  inherits l o owned = record {
    sound = (whole.fine o.0).sound;
    held = (whole.ready.agreed.owner l.0 o.0 (ap lock_state owned)).1;
    below = below_all (greatest_waiting l.0 s.threads) (λ n e. waiting_below l.0 s.threads (λ k. fine_eff (thread_of s k) (whole.fine k)) n e);
  }

  module _ (c : CpuId) where
    pub runs_on : (t : ThreadId) → runner s c.0 ≡ Some t.0 → Runs s t c
    runs_on t runs = let found = runner_found s c.0 t.0 runs in record { thread = found.inside; place = running_on c (thread_of s t.0).place found.stands }

    -- it acts on an operation of its script
    pub acts_on : (t : ThreadId) (o : Op) → Acts w s c.0 t.0 (Some o) → CanAct w s t c
    acts_on t o acts =
        let runs = runs_on t acts.runs in
        record { thread = runs.thread; place = runs.place; op = slice_get_within (script_of w t.0) (thread_of s t.0).body.op o acts.stands }

    pub takes : (t : ThreadId) (o : Op) (l : LockId) (side : Side) → Acts w s c.0 t.0 (Some o) → wants o ≡ Some (l, side) → CanHold s t l
    takes t o l side acts wanted = short_held t l (runs_on t acts.runs).thread (wanted_fits w t.0 (thread_of s t.0).body.op o l side acts.stands wanted)

    pub naps : (t : ThreadId) (n : ℕ) → Acts w s c.0 t.0 (Some (op.Nap n)) → CanNap w s t c
    naps t n acts =
        let fits : span_fits n ≡ true = op_named w t.0 (thread_of s t.0).body.op (op.Nap n) acts.stands in
        let test : nat_le n 100000 ≡ true = and_right (nat_le 1 n) _ fits in
        let most : n ≤ 100000 = grind (arith, nat_tests) in
        let is : nap_ticks (op_of w t.0 (thread_of s t.0).body) ≡ n = ap nap_ticks acts.stands in
        let count = whole.counts c.0 in
        let limit = w.most_limit in
        omega (arith, most, is, count, limit)

pub fit_reached : (w : Work) (n : ℕ) (s : State) → IsReached w n s → IsFit w s
fit_reached w n s reached = is_fit w s (reached_whole w n s reached)
