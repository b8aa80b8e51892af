-- An event moves no thread from one home to another but its mover.
use Rattle.std.proofs.Common.{◌≡◌, ◌≢◌, ℕ, Bool, true, false, Option, Some, None, refl, sym, ap, ◌∙◌, subst, ⊎_elim, List, [], ◌∷◌, ◌++◌, length}
use Rattle.std.specs.Prelude.{◌==◌, if◌then◌else◌}
use Rattle.std.proofs.lemmas.Bool.{eqb-true}
use Rattle.sd_types.specs.declared.numbers.CpuId.{CpuId}
use Rattle.sd_types.specs.declared.numbers.ThreadId.{ThreadId}
use Rattle.sd_types.specs.declared.events.BindAnswer.{BindAnswer}
use Rattle.sd_types.specs.declared.events.BindAnswer.TheVariants as bind_answer
use Rattle.sd_types.specs.declared.events.Entry.{Entry}
use Rattle.sd_types.specs.declared.events.Event.{Event}
use Rattle.sd_types.specs.declared.events.Event.TheVariants.{Dispatch, Steal}
use Rattle.sd_types.specs.declared.events.Hints.{Hints}
use Rattle.sd_types.specs.declared.events.PrioAnswer.{PrioAnswer}
use Rattle.sd_types.specs.declared.events.PrioAnswer.TheVariants.{Changed, Refused}
use Rattle.sd_types.specs.declared.events.Put.{Put}
use Rattle.sd_types.specs.declared.works.Work.{Work}
use Rattle.sd_types.specs.Priorities.{eff_as}
use Rattle.sd_machine.proofs.Moves.{put_cases}
use Rattle.sd_state.specs.declared.states.Place.{Place}
use Rattle.sd_state.specs.declared.states.Place.TheVariants as place
use Rattle.sd_state.specs.declared.states.State.{State}
use Rattle.sd_state.specs.States.{thread_of, eff_of}
use Rattle.sd_machine.specs.Bodies.{aged_class}
use Rattle.sd_machine.specs.Changes.{back_key}
use Rattle.sd_machine.specs.Events.{after, next}
use Rattle.sd_machine.specs.Runs.{IsReached, IsRun}
use Rattle.sd_frames.specs.Moves.{Step, aged_step, bind_step, prio_step, put_step_if, reordered_step, step_of, Stride, Comes, Goes, Falls, Leaves, Wakes, WakesAny, Reorders, Rises, Changes, Binds, stride_of, step_by}
use Rattle.sd_machine.specs.Threads.{thread_id}
use Rattle.sd_invariants.proofs.Movers.{mover_there}
use Rattle.sd_frames.proofs.PlaceTable.{Stepped, after_steps, step_needs}
use Rattle.sd_invariants.proofs.Ready.{reached_ready, ready_cause}
use Rattle.sd_invariants.proofs.Lasts.{brings, others_last}
use Rattle.sd_homes.specs.Standing.{home_of, home_of_place}
use Rattle.sd_world.specs.Homes.{index_of}
use Rattle.sd_shared_rule.specs.Movers.{IsMover, strider}
use Rattle.sd_shared_rule.specs.Places.{now, place_home, sizes}
use Rattle.sd_shared_rule.proofs.Bridge.{now_push, reached, run_before, step_of as makes_of}

put_goes : (w : Work) (n t : ℕ) (at : Option Put) (u : ℕ) (to : Place) → put_step_if w n t at ≡ Step.Go u to → t ≡ u
put_goes w n t None u to e = absurd cc
put_goes w n t (Some at) u to e = cc

reordered_goes : (w : Work) (n t : ℕ) (at : Option Put) (p : Place) (u : ℕ) (to : Place) → reordered_step w n t at p ≡ Step.Go u to → t ≡ u
reordered_goes w n t at (place.Running c) u to e = absurd cc
reordered_goes w n t at p u to e = put_goes w n t at u to e

prio_goes : (w : Work) (s : State) (n : ℕ) (t : ThreadId) (answer : PrioAnswer) (u : ℕ) (to : Place) → prio_step w s n t answer ≡ Step.Go u to → t.0 ≡ u
prio_goes w s n t (Changed p at) u to e = reordered_goes w n t.0 at (thread_of s t.0).place u to e
prio_goes w s n t (Refused denied) u to e = absurd cc

bind_goes : (w : Work) (n t : ℕ) (answer : BindAnswer) (u : ℕ) (to : Place) → bind_step w n t answer ≡ Step.Go u to → t ≡ u
bind_goes w n t (bind_answer.Changed at) u to e = put_goes w n t at u to e
bind_goes w n t _ u to e = absurd cc

aged_goes : (w : Work) (s : State) (n : ℕ) (c : CpuId) (t u : ℕ) (to : Place) → aged_step w s n c t ≡ Step.Go u to → t ≡ u
aged_goes w s n c t u to e = by (eff_as (aged_class w (thread_of s t).body.class) (thread_of s t).body == eff_of s t) e
  where
    by : (b : Bool) → (if b then Step.Stay else Step.Go t (place.Queued c (back_key n))) ≡ Step.Go u to → t ≡ u
    by true q = absurd cc
    by false q = cc

-- the thread that the step moves is the event's mover
stride_goes : (w : Work) (s : State) (n : ℕ) (c : CpuId) (o : Option Stride) (u : ℕ) (to : Place) → step_by w s n c o ≡ Step.Go u to → (x : ThreadId) × (strider o ≡ Some x) × (x.0 ≡ u)
stride_goes w s n c None u to e = absurd cc
stride_goes w s n c (Some (Comes t)) u to e = (thread_id t, refl, cc)
stride_goes w s n c (Some (Goes t whither)) u to e = (thread_id t, refl, cc)
stride_goes w s n c (Some (Falls t end)) u to e = (thread_id t, refl, cc)
stride_goes w s n c (Some (Leaves t d)) u to e = (thread_id t, refl, cc)
stride_goes w s n c (Some (Wakes t at)) u to e = (thread_id t, refl, cc)
stride_goes w s n c (Some (WakesAny None)) u to e = absurd cc
stride_goes w s n c (Some (WakesAny (Some x))) u to e = (x.0, refl, cc)
stride_goes w s n c (Some (Reorders o at)) u to e = (o, refl, reordered_goes w n o.0 at (thread_of s o.0).place u to e)
stride_goes w s n c (Some (Rises t)) u to e = (thread_id t, refl, aged_goes w s n c t u to e)
stride_goes w s n c (Some (Changes t v answer)) u to e = (v, refl, prio_goes w s n v answer u to e)
stride_goes w s n c (Some (Binds v answer)) u to e = (thread_id v, refl, bind_goes w n v answer u to e)

goes : (w : Work) (s : State) (n : ℕ) (c : CpuId) (e : Event) (u : ℕ) (to : Place) → step_of w s n c e ≡ Step.Go u to → IsMover e u
goes w s n c e u to is = stride_goes w s n c (stride_of e) u to is

brought : (e : Event) (t : ℕ) → brings e t ≡ true → IsMover e t
brought (Dispatch u p) t e = (thread_id u.0, refl, eqb-true u.0 t e)
brought (Steal v u p) t e = (thread_id u.0, refl, eqb-true u.0 t e)
brought _ t e = absurd cc

same_place : (s new : State) (t : ℕ) → (thread_of new t).place ≡ (thread_of s t).place → (thread_of new t).body.last ≡ (thread_of s t).body.last → home_of (thread_of s t) ≡ home_of (thread_of new t)
same_place s new t p l = sym (λ i. home_of_place (p i) (l i))

pub mover_law : (w : Work) (n : ℕ) (s : State) (c : CpuId) (hints : Option Hints) (e : Event) → IsReached w n s → next w s c hints ≡ Some e → (t : ℕ) → home_of (thread_of s t) ≢ home_of (thread_of (after w s n c e) t) → IsMover e t
mover_law w n s c hints e from is t apart = cases (brings e t) refl
  where
    stepped : Stepped (step_of w s n c e) s (after w s n c e)
    stepped =
        let ready = reached_ready w n s from in
        let cause = ready_cause w s c hints e ready is in
        after_steps w s n c e (step_needs w s c.0 e cause) (mover_there w s n c e ready.fits ready.agreed cause)

    by : (thread_of (after w s n c e) t).body.last ≡ (thread_of s t).body.last → (st : Step) → step_of w s n c e ≡ st → Stepped st s (after w s n c e) → IsMover e t
    by last Step.Stay goes_is same = absurd (apart (same_place s (after w s n c e) t (same t) last))
    by last (Step.Go u to) goes_is put = ⊎_elim
        (λ (me : (t ≡ u) × ((thread_of (after w s n c e) t).place ≡ to)). subst (IsMover e) (sym me.0) (goes w s n c e u to goes_is))
        (λ (other : (t ≢ u) × ((thread_of (after w s n c e) t).place ≡ (thread_of s t).place)). absurd (apart (same_place s (after w s n c e) t other.1 last)))
        (put_cases u to (λ v. (thread_of s v).place) (λ v. (thread_of (after w s n c e) v).place) put t)

    cases : (b : Bool) → brings e t ≡ b → IsMover e t
    cases true on = brought e t on
    cases false off = by (others_last w s n c e t off) (step_of w s n c e) refl stepped

-- in a run, by indices
pub moves_mover : (w : Work) (h : List Entry) (e : Entry) → IsRun w (h ++ e ∷ []) → (t : ℕ) → place_home w (now w h) t ≢ place_home w (now w (h ++ e ∷ [])) t → IsMover e.event t
unfolding place_home
moves_mover w h e run t apart =
    mover_law w (length h) (now w h) e.cpu e.hints e.event (reached w h (run_before w h e run)) (makes_of w h e run) t
    (λ same. apart (ap (index_of (sizes w)) (same ∙ ap (λ (s : State). home_of (thread_of s t)) (sym (now_push w h e run)))))
