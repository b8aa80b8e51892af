-- A part of each processor stays through every change of a kind that leaves it alone.
use Rattle.std.proofs.Common.{◌≡◌, ℕ, ◌+◌, ◌-◌, Bool, true, false, List, Option, Some, None, refl, ◌∙◌}
use Rattle.sd_machine.proofs.Moves.{IsSame}
use Rattle.sd_frames.proofs.Parts.{same_item}
use Rattle.sd_types.specs.declared.numbers.ChanId.{ChanId}
use Rattle.sd_types.specs.declared.numbers.CpuId.{CpuId}
use Rattle.sd_types.specs.declared.numbers.LockId.{LockId}
use Rattle.sd_types.specs.declared.classes.ClassState.{ClassState}
use Rattle.sd_types.specs.declared.events.Event.{Event}
use Rattle.sd_types.specs.declared.events.Put.{Put}
use Rattle.sd_types.specs.declared.works.Work.{Work}
use Rattle.std.specs.Prelude.{⊤, if◌then◌else◌, nat_lt, nat_le, ◌==◌}
use Rattle.sd_state.specs.declared.states.Place.{Place}
use Rattle.sd_state.specs.declared.states.Place.TheVariants.{Running}
use Rattle.sd_state.specs.declared.states.LockState.{LockState}
use Rattle.sd_state.specs.declared.states.CpuState.{CpuState}
use Rattle.sd_state.specs.declared.states.ThreadState.{ThreadState}
use Rattle.sd_state.specs.declared.states.State.{State}
use Rattle.sd_state.specs.States.{no_cpu, thread_of, cpu_of, with_thread, with_cpu, eff_of}
use Rattle.sd_machine.specs.Threads.{with_lock, with_count, with_open}
use Rattle.sd_machine.specs.Bodies.{departed}
use Rattle.sd_machine.specs.Changes.{duty_after, unmarked, count_tick, set_duty, close, join, bind, unbind, finish_op, run_tick, set_class, send_back, hold, let_go, set_number, set_looped, marked, set_mark, set_kernel_mark, mark_over, remark, run_on, leave, put, put_where}
use Rattle.sd_machine.specs.Sleeping.{woken, fallen_asleep}
use Rattle.sd_machine.specs.Locking.{owned, read, granted_to_reader}
use Rattle.sd_machine.specs.Requeueing.{reordered_at, reordered}
use Rattle.sd_machine.specs.Prioritising.{lifted}
use Rattle.sd_machine.specs.SetChanges.{cleared, called_back}
use Rattle.std.specs.List.{list_all}
use Rattle.sd_machine.specs.Events.{drop_ageing, effect, after}
use Rattle.sd_frames.proofs.Made.{Kind, Keeps, Any, kinds, deed_made, effect_made, Over, Ran, Classed, Back, Held, Given, Numbered, Looped, Comes, Gone, Placed, Marked, Dutied, Ticked, Locked, Counted, Closed, Joins, Bound}
use Rattle.sd_types.specs.declared.events.Duty.{Duty}
use Rattle.sd_types.specs.declared.numbers.SetId.{SetId}
use Rattle.sd_machine.specs.Deeds.{Deed, did, all_did, deeds}
use Rattle.sd_machine.proofs.DeedLemmas.{all_keep}

-- what a change of a kind writes of a processor, and the processor that it makes
abbrev pub Written : Kind → Type 0
Written Marked = Bool × Bool
Written Dutied = Duty
Written Ticked = ℕ × Duty
Written Closed = SetId
Written Joins = SetId
Written Bound = ℕ
Written _ = ⊤

abbrev pub rewritten : (k : Kind) → CpuState → Written k → CpuState
rewritten Marked x y = record x { user = y.0; kernel = y.1 }
rewritten Gone x y = record x { user = false; kernel = false }
rewritten Dutied x d = record x { duty = d }
rewritten Ticked x y = record x { count = y.0; duty = y.1 }
rewritten Closed x to = record x { closing = Some to }
rewritten Joins x to = record x { set = to; closing = None }
rewritten Bound x n = record x { bound = n }
rewritten _ x y = x

-- a change of the kind leaves the part as it was
abbrev pub Leaves : {X : Type 0} → (CpuState → X) → Kind → Type 0
Leaves part k = (x : CpuState) (y : Written k) → part (rewritten k x y) ≡ part x

-- the kinds of changes that write no more of a processor than its marks
abbrev pub markless_kind : Kind → Bool
markless_kind Dutied = false
markless_kind Ticked = false
markless_kind Closed = false
markless_kind Joins = false
markless_kind Bound = false
markless_kind _ = true

-- and the events of such changes alone, but for the ageing that they drop
abbrev pub keeps_cpus : Event → Bool
keeps_cpus e = list_all (λ d. list_all markless_kind (kinds d)) (deeds e)

-- a part of each processor that does not look at its marks
pub record Markless {X : Type 0} (part : CpuState → X) : Type 0 where
  pub marks : (x : CpuState) (u k : Bool) → part (record x { user = u; kernel = k }) ≡ part x

abbrev pub of_cpus : {X : Type 0} → (CpuState → X) → State → ℕ → X
of_cpus part s d = part (cpu_of s d)

module _ {X : Type 0} (part : CpuState → X) where
  pub record Kept (s r : State) : Type 0 where
    pub each : IsSame (of_cpus part s) (of_cpus part r)

  pub same_kept : (s : State) → Kept s s
  same_kept s = record { each = λ d. refl }

  pub then_kept : (s r q : State) → Kept s r → Kept r q → Kept s q
  then_kept s r q a b = record { each = λ d. b.each d ∙ a.each d }

  pub thread_kept : (s : State) (t : ℕ) (x : ThreadState) → Kept s (with_thread s t x)
  thread_kept s t x = record { each = λ d. refl }

  pub lock_kept : (s : State) (l : ℕ) (x : LockState) → Kept s (with_lock s l x)
  lock_kept s l x = record { each = λ d. refl }

  pub count_kept : (s : State) (k n : ℕ) → Kept s (with_count s k n)
  count_kept s k n = record { each = λ d. refl }

  pub open_kept : (s : State) (p : ℕ) (cpus : List CpuId) → Kept s (with_open s p cpus)
  open_kept s p cpus = record { each = λ d. refl }

  pub written : (s : State) (c : ℕ) (x : CpuState) → part x ≡ part (cpu_of s c) → Kept s (with_cpu s c x)
  written s c x same = record { each = same_item part s.cpus no_cpu c x same }

  pub kept_keeps : (w : Work) (k : Kind) → Leaves part k → Keeps w Any Kept k
  unfolding finish_op run_tick set_class send_back hold let_go set_number set_looped run_on leave set_duty count_tick close join bind unbind
  kept_keeps w Marked left = λ s c u k. written s c _ (left (cpu_of s c) (u, k))
  kept_keeps w Dutied left = λ s c d. written s c _ (left (cpu_of s c) d)
  kept_keeps w Ticked left = λ s c. written s c _ (left (cpu_of s c) ((cpu_of s c).count + 1, duty_after w ((cpu_of s c).count + 1) (cpu_of s c).duty))
  kept_keeps w Gone left = λ s c t its p. record { each = (written s c (unmarked (cpu_of s c)) (left (cpu_of s c) tt)).each }
  kept_keeps w Closed left = λ s d to. record { each = (written s d.0 (record (cpu_of s d.0) { closing = Some to }) (left (cpu_of s d.0) to)).each }
  kept_keeps w Joins left = λ s c to. record { each = (written s c.0 (record (cpu_of s c.0) { set = to; closing = None }) (left (cpu_of s c.0) to)).each }
  kept_keeps w Bound left = (
    λ s t its d. record { each = (written s d.0 (record (cpu_of s d.0) { bound = (cpu_of s d.0).bound + 1 }) (left (cpu_of s d.0) ((cpu_of s d.0).bound + 1))).each },
    λ s t its b. record { each = (written s b.0 (record (cpu_of s b.0) { bound = (cpu_of s b.0).bound - 1 }) (left (cpu_of s b.0) ((cpu_of s b.0).bound - 1))).each },
  )
  kept_keeps w Over left = λ s t its. record { each = λ d. refl }
  kept_keeps w Ran left = λ s t its. record { each = λ d. refl }
  kept_keeps w Classed left = λ s t its k. record { each = λ d. refl }
  kept_keeps w Back left = λ s t its. record { each = λ d. refl }
  kept_keeps w Held left = λ s t its l. record { each = λ d. refl }
  kept_keeps w Given left = λ s t its l. record { each = λ d. refl }
  kept_keeps w Numbered left = λ s t its l o. record { each = λ d. refl }
  kept_keeps w Looped left = λ s t its b. record { each = λ d. refl }
  kept_keeps w Comes left = λ s t its c. record { each = λ d. refl }
  kept_keeps w Placed left = λ s t its p. record { each = λ d. refl }
  kept_keeps w Locked left = λ s l x. record { each = λ d. refl }
  kept_keeps w Counted left = λ s k n. record { each = λ d. refl }

  pub drop_left : Leaves part Dutied → (s : State) (c : ℕ) (e : Event) → Kept s (drop_ageing s c e)
  unfolding drop_ageing set_duty
  drop_left left s c e = written s c _ (left (cpu_of s c) _)

  -- of all deeds and events that change it by none of their changes
  module _ (ok : Kind → Bool) (left : (k : Kind) → ok k ≡ true → Leaves part k) (w : Work) where
    pub deed_left : (n : ℕ) (c : CpuId) (s : State) (d : Deed) → list_all ok (kinds d) ≡ true → Kept s (did w n c s d)
    deed_left = deed_made w same_kept then_kept ok (λ k kind. kept_keeps w k (left k kind))

    pub deeds_left : (n : ℕ) (c : CpuId) (s : State) (ds : List Deed) → list_all (λ d. list_all ok (kinds d)) ds ≡ true → Kept s (all_did w n c s ds)
    deeds_left n c s ds is = all_keep w n c same_kept then_kept (λ d. list_all ok (kinds d)) (λ r d made. deed_left n c r d made) s ds is

    effect_left : (s : State) (n : ℕ) (c : CpuId) (e : Event) → list_all (λ d. list_all ok (kinds d)) (deeds e) ≡ true → Kept s (effect w s n c e)
    effect_left s n c e is = effect_made w same_kept then_kept ok (λ k kind. kept_keeps w k (left k kind)) s n c e is

    pub after_left : ok Dutied ≡ true → (s : State) (n : ℕ) (c : CpuId) (e : Event) → list_all (λ d. list_all ok (kinds d)) (deeds e) ≡ true → Kept s (after w s n c e)
    unfolding after
    after_left dutied s n c e is = then_kept s (drop_ageing s c.0 e) _ (drop_left (left Dutied dutied) s c.0 e) (effect_left (drop_ageing s c.0 e) n c e is)

  module _ (m : Markless part) where
    markless_left : (k : Kind) → markless_kind k ≡ true → Leaves part k
    markless_left Marked is = λ x y. m.marks x y.0 y.1
    markless_left Gone is = λ x y. m.marks x false false
    markless_left Dutied is = cc
    markless_left Ticked is = cc
    markless_left Closed is = cc
    markless_left Joins is = cc
    markless_left Bound is = cc
    markless_left _ is = λ x y. refl

    marked_kept : (x : CpuState) (p : ℕ) → part (marked p x) ≡ part x
    marked_kept x p = elim (nat_le 100 p) as (λ b. part (if b then record x { kernel = true } else record x { user = true }) ≡ part x) [ true ↦ m.marks x x.user true | false ↦ m.marks x true x.kernel ]

    pub set_mark_kept : (s : State) (c p : ℕ) → Kept s (set_mark s c p)
    unfolding set_mark
    set_mark_kept s c p = written s c _ (marked_kept (cpu_of s c) p)

    pub set_kernel_mark_kept : (s : State) (c : ℕ) → Kept s (set_kernel_mark s c)
    unfolding set_kernel_mark
    set_kernel_mark_kept s c = written s c _ (m.marks (cpu_of s c) (cpu_of s c).user true)

    pub leave_kept : (s : State) (c t : ℕ) (place : Place) → Kept s (leave s c t place)
    unfolding leave
    leave_kept s c t place = then_kept s (with_thread s t (record { body = departed (cpu_of s c).count (thread_of s t).body; place = place })) _ (thread_kept s t _) (written _ c _ (m.marks (cpu_of s c) false false))

    pub finish_op_kept : (w : Work) (s : State) (t : ℕ) → Kept s (finish_op w s t)
    unfolding finish_op
    finish_op_kept w s t = thread_kept s t _

    pub set_class_kept : (s : State) (t : ℕ) (class : ClassState) → Kept s (set_class s t class)
    unfolding set_class
    set_class_kept s t class = thread_kept s t _

    pub hold_kept : (s : State) (t : ℕ) (l : LockId) → Kept s (hold s t l)
    unfolding hold
    hold_kept s t l = thread_kept s t _

    pub let_go_kept : (s : State) (t : ℕ) (l : LockId) → Kept s (let_go s t l)
    unfolding let_go
    let_go_kept s t l = thread_kept s t _

    pub set_number_kept : (s : State) (t : ℕ) (l : LockId) (number : Option ℕ) → Kept s (set_number s t l number)
    unfolding set_number
    set_number_kept s t l number = thread_kept s t _

    pub set_looped_kept : (s : State) (t : ℕ) (looped : Bool) → Kept s (set_looped s t looped)
    unfolding set_looped
    set_looped_kept s t looped = thread_kept s t _

    pub either_kept : (s r q : State) (b : Bool) → Kept s r → Kept s q → Kept s (if b then r else q)
    either_kept s r q true a b = a
    either_kept s r q false a b = b

    pub mark_over_kept : (s : State) (x : ℕ) (m : ℕ) → Kept s (mark_over s x m)
    unfolding mark_over
    mark_over_kept s x m = either_kept s _ _ _ (set_mark_kept s x m) (same_kept s)

    pub remark_kept : (s : State) (x : ℕ) → Kept s (remark s x)
    unfolding remark
    remark_kept s x = either_kept s _ _ _ (set_mark_kept s x _) (same_kept s)

    pub put_kept : (w : Work) (s : State) (n : ℕ) (t : ℕ) (at : Put) → Kept s (put w s n t at)
    unfolding put
    put_kept w s n t at = then_kept s _ _ (thread_kept s t _) (mark_over_kept _ _ _)

    pub put_where_kept : (w : Work) (s : State) (n t : ℕ) (at : Option Put) → Kept s (put_where w s n t at)
    unfolding put_where
    put_where_kept w s n t None = same_kept s
    put_where_kept w s n t (Some at) = put_kept w s n t at

    pub woken_kept : (w : Work) (s : State) (n : ℕ) (t : ℕ) (at : Put) → Kept s (woken w s n t at)
    unfolding woken
    woken_kept w s n t at = then_kept s _ _ (set_class_kept s t _) (put_kept w _ n t at)

    pub fallen_asleep_kept : (w : Work) (s : State) (n : ℕ) (c : CpuId) (t : ℕ) (k : ChanId) → Kept s (fallen_asleep w s n c t k)
    unfolding fallen_asleep
    fallen_asleep_kept w s n c t k = then_kept s _ _ (leave_kept s c.0 t _) (finish_op_kept w _ t)

    pub owned_kept : (w : Work) (s : State) (t : ℕ) (l : LockId) → Kept s (owned w s t l)
    unfolding owned
    owned_kept w s t l = then_kept s _ _ (lock_kept s l.0 _) (then_kept _ _ _ (hold_kept _ t l) (finish_op_kept w _ t))

    pub read_kept : (w : Work) (s : State) (t : ℕ) (l : LockId) → Kept s (read w s t l)
    unfolding read
    read_kept w s t l = then_kept s _ _ (lock_kept s l.0 _) (then_kept _ _ _ (hold_kept _ t l) (finish_op_kept w _ t))

    pub granted_to_reader_kept : (w : Work) (s : State) (n : ℕ) (l : LockId) (u : ℕ) (at : Put) → Kept s (granted_to_reader w s n l u at)
    unfolding granted_to_reader
    granted_to_reader_kept w s n l u at = then_kept s _ _ (lock_kept s l.0 _) (then_kept _ _ _ (hold_kept _ u l) (then_kept _ _ _ (finish_op_kept w _ u) (woken_kept w _ n u at)))

    pub reordered_at_kept : (w : Work) (s : State) (n t old : ℕ) (at : Option Put) (place : Place) → Kept s (reordered_at w s n t old at place)
    reordered_at_kept w s n t old at (Running x) = either_kept s _ _ (nat_lt (eff_of s t) old) (remark_kept s x.0) (same_kept s)
    reordered_at_kept w s n t old at _ = put_where_kept w s n t at

    pub reordered_kept : (w : Work) (s : State) (n : ℕ) (t : ℕ) (old : ℕ) (at : Option Put) → Kept s (reordered w s n t old at)
    unfolding reordered
    reordered_kept w s n t old at = reordered_at_kept w s n t old at (thread_of s t).place

    pub lifted_kept : (w : Work) (s : State) (n : ℕ) (c : CpuId) (t old : ℕ) → Kept s (lifted w s n c t old)
    lifted_kept w s n c t old = either_kept s _ _ (eff_of s t == old) (same_kept s) (put_kept w s n t _)

    pub cleared_kept : (s : State) (d : CpuId) (r : Option ℕ) → Kept s (cleared s d r)
    cleared_kept s d None = same_kept s
    cleared_kept s d (Some r) = set_kernel_mark_kept s d.0

    pub called_back_kept : (s : State) (d : CpuId) (place : Place) → Kept s (called_back s d place)
    called_back_kept s d (Running c) = either_kept s _ _ (c.0 == d.0) (same_kept s) (set_kernel_mark_kept s c.0)
    called_back_kept s d _ = same_kept s

    pub deed_kept : (w : Work) (n : ℕ) (c : CpuId) (s : State) (d : Deed) → list_all markless_kind (kinds d) ≡ true → Kept s (did w n c s d)
    deed_kept w n c s d is = deed_left markless_kind markless_left w n c s d is

    pub deeds_kept : (w : Work) (n : ℕ) (c : CpuId) (s : State) (ds : List Deed) → list_all (λ d. list_all markless_kind (kinds d)) ds ≡ true → Kept s (all_did w n c s ds)
    deeds_kept w n c s ds is = deeds_left markless_kind markless_left w n c s ds is

    pub effect_kept : (w : Work) (s : State) (n : ℕ) (c : CpuId) (e : Event) → keeps_cpus e ≡ true → Kept s (effect w s n c e)
    effect_kept w s n c e is = effect_left markless_kind markless_left w s n c e is
