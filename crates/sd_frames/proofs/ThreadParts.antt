-- A part of each thread stays through every change of a kind that leaves it alone.
use Rattle.std.proofs.Common.{◌≡◌, ℕ, ◌-◌, Bool, true, false, List, Option, Some, None, refl}
use Rattle.std.specs.Prelude.{⊤, if◌then◌else◌, nat_le}
use Rattle.std.specs.List.{list_all}
use Rattle.sd_types.specs.declared.numbers.CpuId.{CpuId}
use Rattle.sd_types.specs.declared.numbers.LockId.{LockId}
use Rattle.sd_types.specs.declared.classes.ClassState.{ClassState}
use Rattle.sd_types.specs.declared.events.Event.{Event}
use Rattle.sd_types.specs.declared.events.Put.{Put}
use Rattle.sd_types.specs.declared.scripts.Op.{Op}
use Rattle.sd_types.specs.declared.works.Work.{Work}
use Rattle.sd_types.specs.Willed.{changed_number, with_willed, with_lock as with_held, released as without_held}
use Rattle.sd_state.specs.declared.states.Place.{Place}
use Rattle.sd_state.specs.declared.states.Place.TheVariants.{Running}
use Rattle.sd_state.specs.declared.states.ThreadState.{ThreadState}
use Rattle.sd_state.specs.declared.states.State.{State}
use Rattle.sd_state.specs.States.{no_thread, thread_of, cpu_of, with_thread}
use Rattle.sd_state.specs.Operations.{script_of, op_over, ran}
use Rattle.sd_machine.specs.Bodies.{with_class, departed, arrived}
use Rattle.sd_machine.specs.Changes.{finish_op, run_tick, set_class, send_back, hold, let_go, set_number, set_looped, set_duty, count_tick, run_on, leave, put_where, close, join, bind, unbind}
use Rattle.sd_machine.specs.Requeueing.{reordered}
use Rattle.sd_machine.specs.Sleeping.{woken}
use Rattle.sd_machine.specs.Events.{drop_ageing, effect, after}
use Rattle.sd_machine.specs.Deeds.{Deed, did, all_did, deeds}
use Rattle.sd_machine.proofs.DeedLemmas.{all_keep}
use Rattle.sd_frames.proofs.Parts.{same_item}
use Rattle.sd_frames.proofs.Words.{Same, all_same, then_same, set_duty_same}
use Rattle.sd_frames.proofs.Made.{Kind, Keeps, Any, kinds, deed_made, effect_made, put_where_made, reordered_made, woken_made, Over, Ran, Classed, Back, Held, Given, Numbered, Looped, Comes, Gone, Placed, Marked, Dutied, Ticked, Locked, Counted, Closed, Joins, Bound}

-- what a change of the kind writes of a thread, and the thread that it makes
abbrev pub Written : Kind → Type 0
Written Over = List Op
Written Ran = List Op
Written Classed = ClassState
Written Held = LockId
Written Given = LockId
Written Numbered = LockId × Option ℕ
Written Looped = Bool
Written Comes = CpuId
Written Gone = ℕ × Place
Written Placed = Place
Written Bound = Option CpuId
Written _ = ⊤

abbrev pub rewritten : (k : Kind) → ThreadState → Written k → ThreadState
rewritten Over x ops = record x { body = op_over ops x.body }
rewritten Ran x ops = record x { body = ran ops x.body }
rewritten Classed x class = record x { body = with_class x.body class }
rewritten Back x y = record x { body = record x.body { back = true } }
rewritten Held x l = record x { body = with_held l x.body }
rewritten Given x l = record x { body = without_held l x.body }
rewritten Numbered x y = record x { body = with_willed (changed_number y.0 y.1 x.body.willed.items) x.body }
rewritten Looped x b = record x { body = record x.body { looped = b } }
rewritten Comes x c = record { body = arrived c x.body; place = Running c }
rewritten Gone x y = record { body = departed y.0 x.body; place = y.1 }
rewritten Placed x place = record x { place = place }
rewritten Bound x o = record x { body = record x.body { bound = o } }
rewritten _ x y = x

-- a change of the kind leaves the part as it was
abbrev pub Leaves : {X : Type 0} → (ThreadState → X) → Kind → Type 0
Leaves part k = (x : ThreadState) (y : Written k) → part (rewritten k x y) ≡ part x

-- a tick of an operation ends it, or counts down what is left
pub ran_left : {X : Type 0} (part : ThreadState → X) → Leaves part Over → ((x : ThreadState) (n : ℕ) → part (record x { body = record x.body { run_left = n } }) ≡ part x) → Leaves part Ran
ran_left part over ticks x ops = elim (nat_le x.body.run_left 1) as (λ b. part (record x { body = if b then op_over ops x.body else record x.body { run_left = x.body.run_left - 1 } }) ≡ part x)
    [ true ↦ over x ops | false ↦ ticks x (x.body.run_left - 1) ]

-- all changes that the event makes are of kinds that are ok
abbrev pub makes_only : (Kind → Bool) → Event → Bool
makes_only ok e = list_all (λ d. list_all ok (kinds d)) (deeds e)

module _ {X : Type 0} (part : ThreadState → X) where
  pub written : (s : State) (t : ℕ) (x : ThreadState) → part x ≡ part (thread_of s t) → Same part s (with_thread s t x)
  written s t x same = record { each = same_item part s.threads no_thread t x same }

  pub same_keeps : (w : Work) (k : Kind) → Leaves part k → Keeps w Any (Same part) k
  unfolding finish_op run_tick set_class send_back hold let_go set_number set_looped run_on leave set_duty count_tick close join bind unbind
  same_keeps w Over same = λ s t its. written s t _ (same (thread_of s t) (script_of w t))
  same_keeps w Ran same = λ s t its. written s t _ (same (thread_of s t) (script_of w t))
  same_keeps w Classed same = λ s t its k. written s t _ (same (thread_of s t) k)
  same_keeps w Back same = λ s t its. written s t _ (same (thread_of s t) tt)
  same_keeps w Held same = λ s t its l. written s t _ (same (thread_of s t) l)
  same_keeps w Given same = λ s t its l. written s t _ (same (thread_of s t) l)
  same_keeps w Numbered same = λ s t its l o. written s t _ (same (thread_of s t) (l, o))
  same_keeps w Looped same = λ s t its b. written s t _ (same (thread_of s t) b)
  same_keeps w Comes same = λ s t its c. written s t _ (same (thread_of s t) c)
  same_keeps w Gone same = λ s c t its p. record { each = (written s t (record { body = departed (cpu_of s c).count (thread_of s t).body; place = p }) (same (thread_of s t) ((cpu_of s c).count, p))).each }
  same_keeps w Placed same = λ s t its p. written s t _ (same (thread_of s t) p)
  same_keeps w Bound same = (
    λ s t its d. record { each = (written s t (record (thread_of s t) { body = record (thread_of s t).body { bound = Some d } }) (same (thread_of s t) (Some d))).each },
    λ s t its b. record { each = (written s t (record (thread_of s t) { body = record (thread_of s t).body { bound = None } }) (same (thread_of s t) None)).each },
  )
  same_keeps w Marked same = λ s c u k. record { each = λ t. refl }
  same_keeps w Dutied same = λ s c d. record { each = λ t. refl }
  same_keeps w Ticked same = λ s c. record { each = λ t. refl }
  same_keeps w Locked same = λ s l x. record { each = λ t. refl }
  same_keeps w Counted same = λ s k n. record { each = λ t. refl }
  same_keeps w Closed same = λ s d to. record { each = λ t. refl }
  same_keeps w Joins same = λ s c to. record { each = λ t. refl }

  -- of single words
  module _ (w : Work) (placed : Leaves part Placed) where
    pub put_where_same : (s : State) (n t : ℕ) (at : Option Put) → Same part s (put_where w s n t at)
    put_where_same s n t at = put_where_made w Any (all_same part) (then_same part) (same_keeps w Marked (λ x y. refl)) (same_keeps w Placed placed) s n t tt at

    pub reordered_same : (s : State) (n t old : ℕ) (at : Option Put) → Same part s (reordered w s n t old at)
    reordered_same s n t old at = reordered_made w Any (all_same part) (then_same part) (same_keeps w Marked (λ x y. refl)) (same_keeps w Placed placed) s n t old tt at

    pub woken_same : Leaves part Classed → (s : State) (n t : ℕ) (at : Put) → Same part s (woken w s n t at)
    woken_same classed s n t at = woken_made w Any (all_same part) (then_same part) (same_keeps w Marked (λ x y. refl)) (same_keeps w Placed placed) (same_keeps w Classed classed) s n t tt at

  -- of all deeds and events that change it by none of their changes
  module _ (ok : Kind → Bool) (left : (k : Kind) → ok k ≡ true → Leaves part k) (w : Work) where
    pub deed_same : (n : ℕ) (c : CpuId) (s : State) (d : Deed) → list_all ok (kinds d) ≡ true → Same part s (did w n c s d)
    deed_same = deed_made w (all_same part) (then_same part) ok (λ k kind. same_keeps w k (left k kind))

    pub deeds_same : (n : ℕ) (c : CpuId) (s : State) (ds : List Deed) → list_all (λ d. list_all ok (kinds d)) ds ≡ true → Same part s (all_did w n c s ds)
    deeds_same n c s ds is = all_keep w n c (all_same part) (then_same part) (λ d. list_all ok (kinds d)) (λ r d made. deed_same n c r d made) s ds is

    pub effect_same : (s : State) (n : ℕ) (c : CpuId) (e : Event) → makes_only ok e ≡ true → Same part s (effect w s n c e)
    effect_same s n c e is = effect_made w (all_same part) (then_same part) ok (λ k kind. same_keeps w k (left k kind)) s n c e is

    pub after_same : (s : State) (n : ℕ) (c : CpuId) (e : Event) → makes_only ok e ≡ true → Same part s (after w s n c e)
    unfolding after drop_ageing
    after_same s n c e is = then_same part s (drop_ageing s c.0 e) _ (set_duty_same part s c.0 _) (effect_same (drop_ageing s c.0 e) n c e is)
