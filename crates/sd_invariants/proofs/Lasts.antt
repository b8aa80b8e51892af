-- The processor on which a thread ran last is there: it stays through each event that brings no thread to a processor, and one
-- that does is made by a processor that is there.
use Rattle.std.proofs.Common.{◌≡◌, ℕ, ◌<◌, ◌≤◌, Bool, true, false, List, length, get_or, refl, sym, subst, inl, inr, arith, ◌≢◌, ap, ◌∙◌}
use Rattle.std.specs.Prelude.{if◌then◌else◌, ◌==◌}
use Rattle.std.proofs.lemmas.Bool.{cases_lt, eq-eqb, false≢true}
use Rattle.std.proofs.lemmas.List.{get_or-set_other}
use Rattle.std.proofs.lemmas.List.{set_past}
use Rattle.sd_types.specs.declared.numbers.CpuId.{CpuId}
use Rattle.sd_types.specs.declared.events.Event.{Event}
use Rattle.sd_types.specs.declared.events.Event.TheVariants.{Dispatch, Steal}
use Rattle.sd_types.specs.declared.works.ThreadDecl.{ThreadDecl}
use Rattle.sd_types.specs.declared.works.Work.{Work}
use Rattle.sd_machine.proofs.Moves.{put_cases}
use Rattle.sd_state.specs.declared.states.Place.TheVariants.{Running}
use Rattle.sd_state.specs.declared.states.ThreadState.{ThreadState}
use Rattle.sd_state.specs.declared.states.State.{State}
use Rattle.sd_state.specs.States.{no_thread, thread_of}
use Rattle.sd_state.specs.Opening.{dealt_before, is_urgent, first_cpu, first_thread, opening}
use Rattle.sd_machine.specs.Bodies.{arrived}
use Rattle.sd_machine.specs.Changes.{clear_marks, run_on}
use Rattle.sd_machine.specs.Dispatching.{dispatched, stolen}
use Rattle.sd_machine.specs.Events.{drop_ageing, effect, after}
use Rattle.sd_frames.proofs.Made.{Kind, Ran, Comes}
use Rattle.sd_frames.proofs.ThreadParts.{Leaves, makes_only, ran_left, effect_same}
use Rattle.sd_invariants.specs.Laws.{HoldsWhenReached}
use Rattle.sd_frames.proofs.Parts.{put_item}
use Rattle.sd_frames.proofs.Words.{Same, clear_marks_same, set_duty_same}
use Rattle.sd_state.proofs.Declared.{decl_set_there, opening_each}
use Rattle.sd_invariants.proofs.Induction.{held_reached}
use Rattle.sd_invariants.proofs.Places.{first_cpu_there}

abbrev last_part : ThreadState → CpuId
last_part x = x.body.last

abbrev Lasts : State → State → Type 0
Lasts s r = Same last_part s r

-- all kinds of changes but that a thread comes to a processor
abbrev leaves_last : Kind → Bool
leaves_last Comes = false
leaves_last _ = true

last_left : (k : Kind) → leaves_last k ≡ true → Leaves last_part k
last_left Comes is = cc
last_left Ran is = ran_left last_part (λ x ops. refl) (λ x n. refl)
last_left _ is = λ x y. refl

-- the event brings no thread to a processor
abbrev brings_none : Event → Bool
brings_none e = makes_only leaves_last e

effect_last : (w : Work) (s : State) (n : ℕ) (c : CpuId) (e : Event) → brings_none e ≡ true → Lasts s (effect w s n c e)
effect_last w s n c e quiet = effect_same last_part leaves_last last_left w s n c e quiet

drop_last : (s : State) (c : ℕ) (e : Event) → Lasts s (drop_ageing s c e)
unfolding drop_ageing
drop_last s c e = set_duty_same last_part s c _

-- What is there.

abbrev pub LastsAreThere : Work → State → Type 0
LastsAreThere w s = (t : ℕ) → (thread_of s t).body.last.0 < w.cpus

same_there : (w : Work) (s r : State) → Lasts s r → LastsAreThere w s → LastsAreThere w r
same_there w s r same h t = subst (λ (d : CpuId). d.0 < w.cpus) (sym (same.each t)) (h t)

run_on_there : (w : Work) (s : State) (t : ℕ) (c : CpuId) → c.0 < w.cpus → LastsAreThere w s → LastsAreThere w (run_on s t c)
unfolding run_on
run_on_there w s t c here h u = elim (cases_lt t (length s.threads)) [
  | inl inside ↦ elim (put_cases t c _ _ (put_item last_part s.threads no_thread t (record { body = arrived c (thread_of s t).body; place = Running c }) inside) u) [
    | inl me ↦ subst (λ (d : CpuId). d.0 < w.cpus) (sym me.1) here
    | inr other ↦ subst (λ (d : CpuId). d.0 < w.cpus) (sym other.1) (h u)
  ]
  | inr past ↦ subst (λ (xs : List ThreadState). (get_or xs u no_thread).body.last.0 < w.cpus) (sym (set_past s.threads t (record { body = arrived c (thread_of s t).body; place = Running c }) past)) (h u)
]

dispatched_there : (w : Work) (s : State) (c : CpuId) (t : ℕ) → c.0 < w.cpus → LastsAreThere w s → LastsAreThere w (dispatched s c t)
unfolding dispatched
dispatched_there w s c t here h = run_on_there w (clear_marks s c.0) t c here (same_there w s _ (clear_marks_same last_part s c.0) h)

stolen_there : (w : Work) (s : State) (c : CpuId) (t : ℕ) → c.0 < w.cpus → LastsAreThere w s → LastsAreThere w (stolen s c t)
unfolding stolen
stolen_there w s c t here h = run_on_there w s t c here h

dropped_there : (w : Work) (s : State) (c : ℕ) (e : Event) → LastsAreThere w s → LastsAreThere w (drop_ageing s c e)
dropped_there w s c e h = same_there w s (drop_ageing s c e) (drop_last s c e) h

effect_there : (w : Work) (s : State) (n : ℕ) (c : CpuId) (e : Event) → c.0 < w.cpus → LastsAreThere w s → LastsAreThere w (effect w s n c e)
unfolding effect
effect_there w s n c (Dispatch t p) here h = dispatched_there w s c t.0 here h
effect_there w s n c (Steal v t p) here h = stolen_there w s c t.0 here h
effect_there w s n c e here h = same_there w s _ (effect_last w s n c e refl) h

after_there : (w : Work) (s : State) (n : ℕ) (c : CpuId) (e : Event) → c.0 < w.cpus → LastsAreThere w s → LastsAreThere w (after w s n c e)
unfolding after
after_there w s n c e here h = effect_there w (drop_ageing s c.0 e) n c e here (dropped_there w s c.0 e h)

-- The initial state.

first_last : (w : Work) (t : ℕ) (d : ThreadDecl) → d.set.0 ≤ length w.sets → (first_thread w t d).body.last.0 < w.cpus
unfolding first_thread first_cpu
first_last w t d there = first_cpu_there w d (if is_urgent d then 0 else dealt_before w d.set.0 t) there

opening_last : (w : Work) → LastsAreThere w (opening w)
opening_last w t = opening_each w t (λ x. x.body.last.0 < w.cpus) (let some = w.some_cpu in omega (arith, some)) (λ d is. first_last w t d (decl_set_there w t d is))

pub lasts_are_there : HoldsWhenReached LastsAreThere
lasts_are_there = held_reached LastsAreThere (record { start = opening_last; step = λ w s n c e reached here cause h. after_there w s n c e here h })

-- The processor on which a thread ran last stays, unless the event brings this thread to a processor.

abbrev pub brings : Event → ℕ → Bool
brings (Dispatch t p) u = t.0 == u
brings (Steal v t p) u = t.0 == u
brings _ u = false

run_on_else : (s : State) (t : ℕ) (c : CpuId) (u : ℕ) → u ≢ t → last_part (thread_of (run_on s t c) u) ≡ last_part (thread_of s u)
unfolding run_on
run_on_else s t c u other = ap last_part (get_or-set_other s.threads t u (record { body = arrived c (thread_of s t).body; place = Running c }) no_thread other)

not_brought : (t u : ℕ) → (t == u) ≡ false → u ≢ t
not_brought t u e same = false≢true (sym e ∙ eq-eqb t u (sym same))

dispatched_else : (s : State) (c : CpuId) (t u : ℕ) → u ≢ t → last_part (thread_of (dispatched s c t) u) ≡ last_part (thread_of s u)
unfolding dispatched
dispatched_else s c t u other = run_on_else (clear_marks s c.0) t c u other ∙ (clear_marks_same last_part s c.0).each u

stolen_else : (s : State) (c : CpuId) (t u : ℕ) → u ≢ t → last_part (thread_of (stolen s c t) u) ≡ last_part (thread_of s u)
unfolding stolen
stolen_else s c t u other = run_on_else s t c u other

brought_else : (w : Work) (s : State) (n : ℕ) (c : CpuId) (e : Event) (u : ℕ) → brings_none e ≡ false → brings e u ≡ false → last_part (thread_of (effect w s n c e) u) ≡ last_part (thread_of s u)
unfolding effect
brought_else w s n c (Dispatch t p) u is none = dispatched_else s c t.0 u (not_brought t.0 u none)
brought_else w s n c (Steal v t p) u is none = stolen_else s c t.0 u (not_brought t.0 u none)
brought_else w s n c _ u is none = cc

quiet_else : (w : Work) (s : State) (n : ℕ) (c : CpuId) (e : Event) (u : ℕ) → (b : Bool) → brings_none e ≡ b → brings e u ≡ false → last_part (thread_of (effect w s n c e) u) ≡ last_part (thread_of s u)
quiet_else w s n c e u true is none = (effect_last w s n c e is).each u
quiet_else w s n c e u false is none = brought_else w s n c e u is none

pub others_last : (w : Work) (s : State) (n : ℕ) (c : CpuId) (e : Event) (u : ℕ) → brings e u ≡ false → (thread_of (after w s n c e) u).body.last ≡ (thread_of s u).body.last
unfolding after
others_last w s n c e u none = quiet_else w (drop_ageing s c.0 e) n c e u (brings_none e) refl none ∙ (drop_last s c.0 e).each u
