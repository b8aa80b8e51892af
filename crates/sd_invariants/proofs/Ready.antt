-- In every state of every run of the whole machine threads stand where they stand in their scripts, and locks agree with
-- those who hold them, wait for them and pass them on.
use Rattle.std.proofs.Common.{◌≡◌, ◌≢◌, ℕ, zero, suc, ◌+◌, ◌<◌, ◌≤◌, Bool, true, false, ◌&&◌, List, [], ◌∷◌, length, take, get_or, replicate, Option, Some, None, refl, sym, ap, ◌∙◌, subst, arith, inl, inr}
use Rattle.std.specs.Prelude.{slice_get, map, nat_lt, option_map, if◌then◌else◌, ℤ, pos}
use Rattle.std.specs.List.{range_with_len}
use Rattle.std.proofs.lemmas.Option.{same_Some}
use Rattle.std.proofs.lemmas.Bool.{false≢true}
use Rattle.std.proofs.lemmas.Bool.Decides.{nat_tests}
use Rattle.sd_types.specs.declared.numbers.CpuId.{CpuId}
use Rattle.sd_types.specs.declared.numbers.LockId.{LockId}
use Rattle.sd_types.specs.declared.numbers.Side.{Side}
use Rattle.sd_types.specs.declared.numbers.Side.TheVariants.{Writer, Reader}
use Rattle.sd_types.specs.declared.events.Duty.{Duty}
use Rattle.sd_types.specs.declared.events.Duty.TheVariants as duty
use Rattle.sd_types.specs.declared.events.Event.{Event}
use Rattle.sd_types.specs.declared.events.Entry.{Entry}
use Rattle.sd_types.specs.declared.events.Hints.{Hints}
use Rattle.sd_types.specs.declared.scripts.Op.{Op}
use Rattle.sd_types.specs.declared.scripts.Op.TheVariants as op
use Rattle.sd_types.specs.declared.works.LockKind.{LockKind}
use Rattle.sd_types.specs.declared.works.LockKind.TheVariants.{Mutex, Rwlock}
use Rattle.sd_types.specs.declared.works.ThreadDecl.{ThreadDecl}
use Rattle.sd_types.specs.declared.works.Work.{Work}
use Rattle.sd_types.specs.Scripts.{is_held, held_by}
use Rattle.sd_types.specs.Works.{is_mutex, is_rwlock}
use Rattle.sd_state.specs.declared.states.LockState.TheVariants.{Free, ReadHeld}
use Rattle.sd_state.specs.declared.states.Place.{Place}
use Rattle.sd_state.specs.declared.states.Place.TheVariants.{Running, Queued, RealTime, Waiting, Asleep, Napping, Ended}
use Rattle.sd_state.specs.declared.states.ThreadState.{ThreadState}
use Rattle.sd_state.specs.declared.states.State.{State}
use Rattle.sd_state.specs.States.{thread_of, cpu_of, no_cpu}
use Rattle.sd_state.specs.Operations.{script_of}
use Rattle.sd_state.specs.Opening.{first_cpu, is_urgent, first_thread, first_cpu_state, opening}
use Rattle.sd_state.proofs.Declared.{opening_each}
use Rattle.sd_machine.specs.Threads.{lock_of, best_waiter, has_waiters}
use Rattle.sd_machine.specs.Locking.{kind_of}
use Rattle.sd_machine.specs.LockGraph.{wait_of}
use Rattle.sd_machine.specs.Events.{next, after, allowed, wish}
use Rattle.sd_machine.specs.Hints.{hints_fit, reads}
use Rattle.sd_machine.specs.Runs.{final, IsRunFrom, IsReached}
use Rattle.sd_machine.proofs.OpeningLemmas.{opening_fits}
use Rattle.sd_machine.proofs.RunLemmas.{IsRun-from}
use Rattle.sd_machine.proofs.ShapeLemmas.{IsShaped, after_shape, after_fits}
use Rattle.sd_machine.specs.Graphs as G
use Rattle.sd_machine.specs.Holders as H
use Rattle.sd_machine.proofs.PlaceLemmas.{is_waiter}
use Rattle.sd_frames.specs.Causes.{wants, IsCause}
use Rattle.sd_frames.specs.Passing.{pass_of}
use Rattle.sd_invariants.specs.Holding.{lock_state, table, Agreed, DutyServes}
use Rattle.sd_invariants.specs.Laws.{HoldsWhenReached, HoldsAfterEntries}
use Rattle.sd_invariants.specs.Scripted.{Scripted}
use Rattle.sd_frames.specs.Moves.{step_of}
use Rattle.sd_frames.proofs.CauseLemmas.{Serves, cause_of}
use Rattle.sd_frames.proofs.Searches.{has_waiters_at, waiter_none}
use Rattle.sd_frames.proofs.ReleaseLemmas.{sides_wait}
use Rattle.sd_frames.proofs.OpTable.{ender, IsEnderThere, after_ops}
use Rattle.sd_frames.proofs.PlaceTable.{Stepped, after_steps, step_needs}
use Rattle.sd_invariants.proofs.ScriptLemmas.{HeldGo, waits_here, ender_in, after_held, scripted_by}
use Rattle.sd_invariants.proofs.Movers.{mover_there}
use Rattle.sd_invariants.proofs.Works.{op_named}
use Rattle.sd_invariants.proofs.AgreedAfter.{IsReady, IsNext}
use Rattle.sd_invariants.proofs.AgreedEvents.{after_agreed}
use Rattle.sd_invariants.proofs.ServeLemmas.{kind_is, after_serves}
use Rattle.sd_invariants.proofs.ReadLemmas.{after_reads}

-- Who waits for a mutex waits as a writer.

no_kind : (k : Option LockKind) → is_mutex k ≡ true → is_rwlock k ≡ true → ⊥
no_kind (Some Mutex) a b = cc
no_kind (Some Rwlock) a b = cc
no_kind None a b = cc

unlike_sides : Writer ≡ Reader → ⊥
unlike_sides e = cc

reader_kind : (w : Work) (t i : ℕ) (o : Op) (l : LockId) → slice_get (script_of w t) i ≡ Some o → wants o ≡ Some (l, Reader) → is_rwlock (kind_of w l) ≡ true
reader_kind w t i (op.Read m) l at wanted =
    let same : m ≡ l = ap (λ x. x.0) (same_Some (m, Reader) (l, Reader) wanted) in
    subst (λ x. is_rwlock (kind_of w x) ≡ true) same (subst (λ k. is_rwlock k ≡ true) (kind_is w m) (op_named w t i (op.Read m) at))
reader_kind w t i (op.Enter m) l at wanted = absurd (unlike_sides (ap (λ x. x.1) (same_Some (m, Writer) (l, Reader) wanted)))
reader_kind w t i (op.Write m) l at wanted = absurd (unlike_sides (ap (λ x. x.1) (same_Some (m, Writer) (l, Reader) wanted)))
reader_kind w t i o l at wanted = cc

mutex_writer : (w : Work) (s : State) (l : LockId) → Scripted w s → is_mutex (kind_of w l) ≡ true → has_waiters s l.0 ≡ true → best_waiter s l.0 Writer ≢ None
mutex_writer w s l scripted mutex some none =
    let (t, inside, waits) = has_waiters_at s l.0 some in
    elim (sides_wait l.0 (thread_of s t).place waits) [
      | inl writer ↦ false≢true (sym (waiter_none s l.0 Writer none t inside) ∙ writer)
      | inr reader ↦
          let (k, is) = waits_here l Reader (thread_of s t).place reader in
          let (o, stands, wanted) = (scripted t inside).waits l Reader k is in
          no_kind (kind_of w l) mutex (reader_kind w t (thread_of s t).body.op o l stands wanted)
    ]

pub serves_of : (w : Work) (s : State) (d : Duty) → Scripted w s → DutyServes w s d → Serves s d
serves_of w s (duty.WakeMutex l) scripted is = mutex_writer w s l scripted is.0 is.1
serves_of w s (duty.GrantWriter l) scripted is = is.1
serves_of w s d scripted is = tt

-- what a processor may make has its cause
pub ready_cause : (w : Work) (s : State) (c : CpuId) (h : Option Hints) (e : Event) → IsReady w s → next w s c h ≡ Some e → IsCause w s c.0 e
ready_cause w s c h e ready makes = cause_of w s c h e (serves_of w s (cpu_of s c.0).duty ready.scripted (ready.serves c.0)) makes

-- and is made by a processor that is there
pub maker_inside : (w : Work) (s : State) (c : CpuId) (h : Option Hints) (e : Event) → next w s c h ≡ Some e → c.0 < w.cpus
unfolding next
maker_inside w s c h e makes = by (nat_lt c.0 w.cpus) (hints_fit (reads w s c.0) h) refl makes
  where
    by : (b d : Bool) → nat_lt c.0 w.cpus ≡ b → (if b && d then allowed w s c.0 (wish w s c.0 h) else None) ≡ Some e → c.0 < w.cpus
    by true d is rest = grind (arith, nat_tests)
    by false d is rest = cc

-- One entry more.

pub next_ready : (w : Work) (s : State) (n : ℕ) (c : CpuId) (h : Option Hints) (e : Event) → IsReady w s → next w s c h ≡ Some e → IsReady w (after w s n c e)
next_ready w s n c h e ready makes = record {
  fits = after_fits w s n c e ready.fits;
  scripted = λ u inside.
      let many : length (after w s n c e).threads ≡ length s.threads = shape.threads in
      let before : u < length s.threads = omega (arith, inside, many) in
      scripted_by w s (after w s n c e) n c e ready.scripted cause (after_ops w s n c e ends) held steps u (ready.scripted u before);
  agreed = after_agreed w s n c ready inside_cpus e cause is_next;
  serves = after_serves w s n c ready inside_cpus e cause is_next;
  reads = after_reads w s n c ready inside_cpus e cause is_next;
}
  where
    cause : IsCause w s c.0 e
    cause = ready_cause w s c h e ready makes

    ends : IsEnderThere s (ender e)
    ends = ender_in w s c.0 e cause

    shape : IsShaped s (after w s n c e)
    shape = after_shape w s n c e

    held : HeldGo s (after w s n c e) e
    held = after_held w s n c e ends

    steps : Stepped (step_of w s n c e) s (after w s n c e)
    steps = after_steps w s n c e (step_needs w s c.0 e cause) (mover_there w s n c e ready.fits ready.agreed cause)

    is_next : IsNext w s (after w s n c e) n c e
    is_next = record { steps = steps; held = held; shape = shape }

    inside_cpus : c.0 < length s.cpus
    inside_cpus = let inside : c.0 < w.cpus = maker_inside w s c h e makes in let many : length s.cpus ≡ w.cpus = ready.fits.cpus in omega (arith, inside, many)

-- The initial state.

record IsFirst (x : ThreadState) : Type 0 where
  op : x.body.op ≡ 0
  held : x.body.held.items ≡ []
  away : is_waiter x.place ≡ false

first_is : (w : Work) (t : ℕ) (d : ThreadDecl) → IsFirst (first_thread w t d)
unfolding first_thread
first_is w t d = record {
  op = refl;
  held = refl;
  away = elim (is_urgent d) as (λ b. is_waiter (if b then RealTime d.set (pos t) else Queued (first_cpu w t d) (pos t)) ≡ false) [ true ↦ refl | false ↦ refl ];
}

opening_thread : (w : Work) (t : ℕ) → IsFirst (thread_of (opening w) t)
opening_thread w t = opening_each w t IsFirst (record { op = refl; held = refl; away = refl }) (λ d is. first_is w t d)

all_free : (n l : ℕ) → get_or (replicate n Free) l Free ≡ Free
all_free zero l = refl
all_free (suc n) zero = refl
all_free (suc n) (suc l) = all_free n l

opening_lock : (w : Work) (l : ℕ) → lock_of (opening w) l ≡ Free
unfolding opening
opening_lock w l = all_free (length w.locks) l

cpu_at : (w : Work) (ns : List ℕ) (c : ℕ) → (get_or (map (first_cpu_state w) ns) c no_cpu).duty ≡ duty.Nothing
unfolding first_cpu_state
cpu_at w [] c = refl
cpu_at w (n ∷ ns) zero = refl
cpu_at w (n ∷ ns) (suc c) = cpu_at w ns c

opening_duty : (w : Work) (c : ℕ) → (cpu_of (opening w) c).duty ≡ duty.Nothing
unfolding opening
opening_duty w c = cpu_at w (range_with_len 0 w.cpus) c

no_waiter : (p : Place) → is_waiter p ≡ false → (l : LockId) (side : Side) (k : ℤ) → p ≢ Waiting l side k
no_waiter (Waiting m side j) away l other k is = cc
no_waiter (Running c) away l side k is = cc
no_waiter (Queued c j) away l side k is = cc
no_waiter (RealTime q j) away l side k is = cc
no_waiter (Asleep i j) away l side k is = cc
no_waiter (Napping c due) away l side k is = cc
no_waiter Ended away l side k is = cc

waits_for_none : (p : Place) → is_waiter p ≡ false → (l : ℕ) → option_map (λ (x : G.Wait). x.lock) (wait_of p) ≢ Some l
waits_for_none (Waiting m side j) away l is = cc
waits_for_none p away l is = cc

opening_scripted : (w : Work) → Scripted w (opening w)
opening_scripted w t inside =
    let first = opening_thread w t in
    record {
      op = subst (λ i. i ≤ length (script_of w t)) (sym first.op) (omega arith);
      held = first.held ∙ ap (λ i. held_by (take i (script_of w t))) (sym first.op);
      waits = λ l side k is. absurd (no_waiter (thread_of (opening w) t).place first.away l side k is);
    }

pub none_counted : (f : ℕ → Bool) (k : ℕ) → ((t : ℕ) → f t ≡ false) → H.counted f k ≡ 0
none_counted f zero none = refl
none_counted f (suc k) none = rw (none k) (none_counted f k none)

opening_holds : (w : Work) (t l : ℕ) → (table (opening w)).holds t l ≡ false
opening_holds w t l = ap (λ (xs : List LockId). is_held (record { 0 = l }) xs) (opening_thread w t).held

opening_passes : (w : Work) (c : ℕ) → (table (opening w)).passes c ≡ None
opening_passes w c = ap pass_of (opening_duty w c)

opening_agreed : (w : Work) → Agreed (opening w)
opening_agreed w = record {
  holders = λ l. none_counted (λ t. (table (opening w)).holds t l) (length (opening w).threads) (λ t. opening_holds w t l) ∙ sym (ap (λ x. H.holders_of (lock_state x)) (opening_lock w l));
  owner = λ l t is. absurd (free_owned t (sym (ap lock_state (opening_lock w l)) ∙ is));
  free = λ l t is waits. waits_for_none (thread_of (opening w) t).place (opening_thread w t).away l waits;
  passing = λ l c r is. absurd (free_passing c r (sym (ap lock_state (opening_lock w l)) ∙ is));
  passed = λ c p is. absurd (none_some p (sym (opening_passes w c) ∙ is));
  inside = λ t l is. absurd (false≢true (sym (opening_holds w t l) ∙ is));
}
  where
    free_owned : (t : ℕ) → H.Lock.Free ≡ H.Lock.Owned t → ⊥
    free_owned t e = cc

    free_passing : (c r : ℕ) → H.Lock.Free ≡ H.Lock.Passing c r → ⊥
    free_passing c r e = cc

    none_some : (p : H.Pass) → None ≡ Some p → ⊥
    none_some p e = cc

pub opening_ready : (w : Work) → IsReady w (opening w)
opening_ready w = record {
  fits = opening_fits w;
  scripted = opening_scripted w;
  agreed = opening_agreed w;
  serves = λ c. subst (λ d. DutyServes w (opening w) d) (sym (opening_duty w c)) tt;
  reads = λ l n is. absurd (free_held n (sym (opening_lock w l.0) ∙ is));
}
  where
    free_held : (n : ℕ) → Free ≡ ReadHeld n → ⊥
    free_held n e = cc

-- Every run.

ready_from : (w : Work) (s : State) (n : ℕ) (es : List Entry) → IsReady w s → IsRunFrom w s n es → IsReady w (final w s es)
unfolding final IsRunFrom
ready_from w s n [] ready run = ready
ready_from w s n (e ∷ es) ready (number, step, run) = ready_from w (after w s e.number e.cpu e.event) (n + 1) es (next_ready w s e.number e.cpu e.hints e.event ready step) run

pub reached_ready : (w : Work) (n : ℕ) (s : State) → IsReached w n s → IsReady w s
reached_ready w n s reached = subst (λ x. IsReady w x) reached.ends (ready_from w (opening w) 0 reached.entries (opening_ready w) (IsRun-from w reached.entries reached.run))

-- What holds in the initial state and is kept by each event holds in every state of every run; it may speak of the number
-- of entries that led there.
pub record IsKept (P : Work → ℕ → State → Type 0) : Type 0 where
  pub start : (w : Work) → P w 0 (opening w)
  pub step : (w : Work) (s : State) (n : ℕ) (c : CpuId) (e : Event) → IsReady w s → IsCause w s c.0 e → P w n s → P w (n + 1) (after w s n c e)

kept_from : (P : Work → ℕ → State → Type 0) → IsKept P → (w : Work) (s : State) (n : ℕ) (es : List Entry) → IsReady w s → P w n s → IsRunFrom w s n es → P w (n + length es) (final w s es)
unfolding final IsRunFrom
kept_from P k w s n [] ready holds run = subst (λ m. P w m s) (let e : n ≡ n + 0 = omega arith in e) holds
kept_from P k w s n (e ∷ es) ready holds (number, step, run) =
    let here : P w (n + 1) (after w s e.number e.cpu e.event) =
    subst (λ m. P w (n + 1) (after w s m e.cpu e.event)) (sym number) (k.step w s n e.cpu e.event ready (ready_cause w s e.cpu e.hints e.event ready step) holds) in
    subst (λ m. P w m (final w (after w s e.number e.cpu e.event) es)) (let q : n + 1 + length es ≡ n + length (e ∷ es) = omega arith in q)
    (kept_from P k w (after w s e.number e.cpu e.event) (n + 1) es (next_ready w s e.number e.cpu e.hints e.event ready step) here run)

pub kept_after : (P : Work → ℕ → State → Type 0) → IsKept P → HoldsAfterEntries P
kept_after P k w n s reached =
    subst (λ x. P w n x) reached.ends (subst (λ m. P w m (final w (opening w) reached.entries)) (let q : 0 + length reached.entries ≡ length reached.entries = omega arith in q ∙ reached.many)
    (kept_from P k w (opening w) 0 reached.entries (opening_ready w) (k.start w) (IsRun-from w reached.entries reached.run)))

pub kept_reached : (P : Work → State → Type 0) → IsKept (λ w n s. P w s) → HoldsWhenReached P
kept_reached P k w n s reached = kept_after (λ w n s. P w s) k w n s reached
