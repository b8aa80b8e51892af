-- What the homes tell of a state is what is seen of it.
use Rattle.std.proofs.Common.{◌≡◌, ℕ, ◌<◌, ◌≤◌, List, length, Option, Some, None, refl, sym, ap, ◌∙◌, subst, inl, inr}
use Rattle.std.specs.Prelude.{option_map, slice_get, unwrap_or}
use Rattle.std.proofs.lemmas.Option.{slice_get-get_or, slice_get-map, slice_get_past, unwrap_or-slice_get}
use Rattle.sd_types.specs.declared.bodies.ThreadBody.{ThreadBody}
use Rattle.sd_types.specs.declared.events.Entry.{Entry}
use Rattle.sd_types.specs.declared.numbers.ThreadId.{ThreadId}
use Rattle.sd_types.specs.declared.works.Work.{Work}
use Rattle.sd_types.specs.Priorities.{base_of}
use Rattle.sd_state.specs.declared.states.LockState.{LockState}
use Rattle.sd_state.specs.declared.states.LockState.TheVariants.{Free}
use Rattle.sd_state.specs.declared.states.Place.{Place}
use Rattle.sd_state.specs.declared.states.Place.TheVariants.{Running}
use Rattle.sd_state.specs.declared.states.State.{State}
use Rattle.sd_state.specs.declared.states.ThreadState.{ThreadState}
use Rattle.sd_state.specs.Opening.{opening}
use Rattle.sd_state.specs.States.{no_body, no_thread, thread_of}
use Rattle.sd_machine.specs.Runs.{IsStep}
use Rattle.sd_machine.specs.Threads.{lock_of}
use Rattle.sd_machine.proofs.OpeningLemmas.{opening_fits}
use Rattle.sd_machine.proofs.RunLemmas.{final_fits}
use Rattle.sd_store.specs.declared.spots.Spot.{Spot}
use Rattle.sd_store.specs.Keyless.{spot_of}
use Rattle.sd_world.specs.declared.plain.PlainWorld.{PlainWorld}
use Rattle.sd_world.specs.Plain.{told}
use Rattle.sd_invariants.proofs.Ready.{maker_inside}
use Rattle.sd_stretches.specs.declared.sights.Doing.{Doing}
use Rattle.sd_stretches.specs.declared.sights.Sight.{Sight}
use Rattle.sd_stretches.specs.Changes.{is_above_base, owner_in}
use Rattle.sd_stretches.specs.Sights.{doing_of, sight_by, sight_of, sights_of}
use Rattle.sd_viewer.specs.Glimpses.{doing_at}

doing_same : (p : Place) → doing_at (spot_of p) ≡ doing_of p
doing_same (Running c) = refl
doing_same p = refl

pub sight_same : (x : ThreadState) (b : ThreadBody) (spot : Spot) (doing : Doing) → b ≡ x.body → spot ≡ spot_of x.place → doing ≡ doing_at spot → sight_by b doing ≡ sight_of x
sight_same x b spot doing body is does =
    ap (λ (d : Doing). sight_by b d) (does ∙ ap doing_at is ∙ doing_same x.place) ∙ ap (λ (y : ThreadBody). sight_by y (doing_of x.place)) body

-- as many threads as the workload has
pub threads_told : (w : Work) (x : PlainWorld) → length (told w x).threads ≡ length w.threads
threads_told w x = (final_fits w (opening w) x.entries.items (opening_fits w)).threads

pub thread_read : (w : Work) (x : PlainWorld) (t : ℕ) → t < length w.threads → slice_get (told w x).threads t ≡ Some (thread_of (told w x) t)
thread_read w x t inside = slice_get-get_or (told w x).threads t no_thread (subst (λ n. t < n) (sym (threads_told w x)) inside)

pub thread_past : (w : Work) (x : PlainWorld) (t : ℕ) → length w.threads ≤ t → slice_get (told w x).threads t ≡ None
thread_past w x t past = slice_get_past (told w x).threads t (subst (λ n. n ≤ t) (sym (threads_told w x)) past)

sights_read : (s : State) (t : ℕ) → slice_get (sights_of s) t ≡ option_map sight_of (slice_get s.threads t)
unfolding sights_of
sights_read s t = slice_get-map sight_of s.threads t

pub sight_read : (w : Work) (x : PlainWorld) (t : ℕ) (seen : Sight) → t < length w.threads → seen ≡ sight_of (thread_of (told w x) t) → Some seen ≡ slice_get (sights_of (told w x)) t
sight_read w x t seen inside is = ap Some is ∙ sym (sights_read (told w x) t ∙ ap (option_map sight_of) (thread_read w x t inside))

pub sight_past : (w : Work) (x : PlainWorld) (t : ℕ) → length w.threads ≤ t → None ≡ slice_get (sights_of (told w x)) t
sight_past w x t past = sym (sights_read (told w x) t ∙ ap (option_map sight_of) (thread_past w x t past))

-- the owner of a lock, which is free where there is none of this number
pub owner_read : (s : State) (l : ℕ) (lock : LockState) → lock ≡ lock_of s l → owner_in (Some lock) ≡ owner_in (slice_get s.locks l)
owner_read s l lock is = ap (λ (x : LockState). owner_in (Some x)) (is ∙ sym (unwrap_or-slice_get s.locks l Free)) ∙ by (slice_get s.locks l)
  where
    by : (o : Option LockState) → owner_in (Some (unwrap_or o Free)) ≡ owner_in o
    by None = refl
    by (Some x) = refl

-- the processor of a step is one of the workload's
pub step_inside : (w : Work) (s : State) (e : Entry) → IsStep w s e → e.cpu.0 < w.cpus
step_inside w s e is = maker_inside w s e.cpu e.hints e.event is
