-- Who is woken is on a dispatch queue.
use Rattle.std.proofs.Common.{◌≡◌, ℕ, true, Some, None, refl, ap, ◌∙◌, subst}
use Rattle.std.proofs.lemmas.Option.{same_Some}
use Rattle.sd_types.specs.declared.numbers.CpuId.{CpuId}
use Rattle.sd_types.specs.declared.events.Event.{Event}
use Rattle.sd_types.specs.declared.events.Event.TheVariants.{Napend, Wake, Rouse, Unblock, Grant, SemaVWake}
use Rattle.sd_types.specs.declared.events.Put.{Put}
use Rattle.sd_types.specs.declared.events.Put.TheVariants.{Cpu, RealTime as OnRealTime}
use Rattle.sd_types.specs.declared.works.Work.{Work}
use Rattle.sd_state.specs.declared.states.State.{State}
use Rattle.sd_state.specs.States.{thread_of}
use Rattle.sd_frames.specs.Causes.{IsCause}
use Rattle.sd_frames.specs.Moves.{put_step, step_of}
use Rattle.sd_frames.proofs.PlaceTable.{Stepped}
use Rattle.sd_machine.specs.Changes.{place_put}
use Rattle.sd_machine.specs.Events.{after}
use Rattle.sd_invariants.specs.Laws.{woken_by, is_runnable}
use Rattle.sd_frames.proofs.PlaceTable.{after_steps, step_needs}
use Rattle.sd_invariants.proofs.Movers.{mover_there}
use Rattle.sd_invariants.proofs.AgreedAfter.{IsReady}

put_runnable : (w : Work) (n t : ℕ) (at : Put) → is_runnable (place_put w n t at) ≡ true
put_runnable w n t (Cpu d) = refl
put_runnable w n t (OnRealTime d) = refl

put_woken : (w : Work) (s r : State) (n t u : ℕ) (at : Put) → Stepped (put_step w n t at) s r → Some t ≡ Some u → is_runnable (thread_of r u).place ≡ true
put_woken w s r n t u at a is = let same : t ≡ u = same_Some t u is in subst (λ v. is_runnable (thread_of r v).place ≡ true) same (ap is_runnable a.at ∙ put_runnable w n t at)

woken_at : (w : Work) (s r : State) (n : ℕ) (c : CpuId) (e : Event) (u : ℕ) → Stepped (step_of w s n c e) s r → woken_by e ≡ Some u → is_runnable (thread_of r u).place ≡ true
woken_at w s r n c (Napend t at) u a is = put_woken w s r n t.0 u at a is
woken_at w s r n c (Unblock l v at) u a is = put_woken w s r n v.0 u at a is
woken_at w s r n c (Grant l v at) u a is = put_woken w s r n v.0 u at a is
woken_at w s r n c (SemaVWake t k v at) u a is = put_woken w s r n v.0 u at a is
woken_at w s r n c (Wake t k (Some v)) u a is = put_woken w s r n v.0.0 u v.1 a is
woken_at w s r n c (Rouse k (Some v)) u a is = put_woken w s r n v.0.0 u v.1 a is
woken_at w s r n c (Wake t k None) u a is = cc
woken_at w s r n c (Rouse k None) u a is = cc
woken_at w s r n c e u a is = cc

pub woken_after : (w : Work) (s : State) (n : ℕ) (c : CpuId) (e : Event) (u : ℕ) → IsReady w s → IsCause w s c.0 e → woken_by e ≡ Some u → is_runnable (thread_of (after w s n c e) u).place ≡ true
woken_after w s n c e u ready cause is =
    woken_at w s (after w s n c e) n c e u (after_steps w s n c e (step_needs w s c.0 e cause) (mover_there w s n c e ready.fits ready.agreed cause)) is
