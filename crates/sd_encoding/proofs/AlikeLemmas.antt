-- What is the same in states that are the same but for their keys: each thread and processor but for its key, and the rest.
use Rattle.std.proofs.Common.{◌≡◌, ℕ, length, get_or, Option, Some, None, refl, sym, ap, ◌∙◌, is_some, ℤ, pos}
use Rattle.std.proofs.Math.ListN.{get_or-map}
use Rattle.std.proofs.lemmas.List.{length-map}
use Rattle.sd_types.specs.declared.events.Duty.{Duty}
use Rattle.sd_types.specs.declared.events.Duty.TheVariants as duty
use Rattle.sd_state.specs.declared.states.CpuState.{CpuState}
use Rattle.sd_state.specs.declared.states.Place.{Place}
use Rattle.sd_state.specs.declared.states.Place.TheVariants.{Running, Queued, RealTime, Waiting, Asleep}
use Rattle.sd_state.specs.declared.states.ThreadState.{ThreadState}
use Rattle.sd_state.specs.declared.states.State.{State}
use Rattle.sd_state.specs.States.{cpu_of, no_cpu, no_thread, thread_of}
use Rattle.sd_store.specs.Keyless.{spot_of, task_of}
use Rattle.sd_encoding.specs.Order.{Holder, OfThread, OfCpu, bare, bare_cpu, bare_duty, bare_place, bare_thread, key_at, key_held, key_in}

module _ (x s : State) (e : bare x ≡ bare s) where
  pub thread_alike : (t : ℕ) → bare_thread (thread_of x t) ≡ bare_thread (thread_of s t)
  thread_alike t =
      sym (get_or-map bare_thread x.threads t no_thread) ∙ ap (λ (z : State). get_or z.threads t no_thread) e ∙ get_or-map bare_thread s.threads t no_thread

  pub cpu_alike : (c : ℕ) → bare_cpu (cpu_of x c) ≡ bare_cpu (cpu_of s c)
  cpu_alike c = sym (get_or-map bare_cpu x.cpus c no_cpu) ∙ ap (λ (z : State). get_or z.cpus c no_cpu) e ∙ get_or-map bare_cpu s.cpus c no_cpu

  pub body_same : (t : ℕ) → (thread_of x t).body ≡ (thread_of s t).body
  body_same t = ap (λ (z : ThreadState). z.body) (thread_alike t)

  pub place_alike : (t : ℕ) → bare_place (thread_of x t).place ≡ bare_place (thread_of s t).place
  place_alike t = ap (λ (z : ThreadState). z.place) (thread_alike t)

  pub duty_alike : (c : ℕ) → bare_duty (cpu_of x c).duty ≡ bare_duty (cpu_of s c).duty
  duty_alike c = ap (λ (z : CpuState). z.duty) (cpu_alike c)

  pub threads_many : length x.threads ≡ length s.threads
  threads_many = sym (length-map x.threads bare_thread) ∙ ap (λ (z : State). length z.threads) e ∙ length-map s.threads bare_thread

  pub cpus_many : length x.cpus ≡ length s.cpus
  cpus_many = sym (length-map x.cpus bare_cpu) ∙ ap (λ (z : State). length z.cpus) e ∙ length-map s.cpus bare_cpu

-- a test of places that does not look at keys
abbrev pub IsBlind : {A : Type 0} → (Place → A) → Type 0
IsBlind f = (place : Place) → f (bare_place place) ≡ f place

pub blind_place : {A : Type 0} (f : Place → A) → IsBlind f → (p q : Place) → bare_place p ≡ bare_place q → f p ≡ f q
blind_place f blind p q e = sym (blind p) ∙ ap f e ∙ blind q

abbrev pub IsBlindTask : {A : Type 0} → (Duty → A) → Type 0
IsBlindTask f = (d : Duty) → f (bare_duty d) ≡ f d

pub blind_duty : {A : Type 0} (f : Duty → A) → IsBlindTask f → (p q : Duty) → bare_duty p ≡ bare_duty q → f p ≡ f q
blind_duty f blind p q e = sym (blind p) ∙ ap f e ∙ blind q

pub spot_blind : IsBlind spot_of
spot_blind (Running c) = refl
spot_blind _ = refl

pub task_blind : IsBlindTask task_of
task_blind duty.Nothing = refl
task_blind _ = refl

-- With another key.

abbrev pub place_with : Place → ℤ → Place
place_with (Queued c key) j = Queued c j
place_with (RealTime p key) j = RealTime p j
place_with (Waiting l side key) j = Waiting l side j
place_with (Asleep k key) j = Asleep k j
place_with place j = place

abbrev pub duty_with : Duty → ℤ → Duty
duty_with (duty.Walk l seek key) j = duty.Walk l seek j
duty_with (duty.Rouse k below) j = duty.Rouse k j
duty_with d j = d

abbrev pub key_or_zero : Option ℤ → ℤ
key_or_zero None = pos 0
key_or_zero (Some key) = key

place_again : (p : Place) → p ≡ place_with (bare_place p) (key_or_zero (key_at p))
place_again (Running c) = refl
place_again p = refl

place_twice : (p : Place) (j : ℤ) → place_with (bare_place p) j ≡ place_with p j
place_twice (Running c) j = refl
place_twice p j = refl

duty_again : (d : Duty) → d ≡ duty_with (bare_duty d) (key_or_zero (key_in d))
duty_again duty.Nothing = refl
duty_again d = refl

duty_twice : (d : Duty) (j : ℤ) → duty_with (bare_duty d) j ≡ duty_with d j
duty_twice duty.Nothing j = refl
duty_twice d j = refl

-- the one is the other with a key of its own
pub place_rekeyed : (p q : Place) → bare_place p ≡ bare_place q → q ≡ place_with p (key_or_zero (key_at q))
place_rekeyed p q e = place_again q ∙ ap (λ z. place_with z (key_or_zero (key_at q))) (sym e) ∙ place_twice p (key_or_zero (key_at q))

pub duty_rekeyed : (d e : Duty) → bare_duty d ≡ bare_duty e → e ≡ duty_with d (key_or_zero (key_in e))
duty_rekeyed d e same = duty_again e ∙ ap (λ z. duty_with z (key_or_zero (key_in e))) (sym same) ∙ duty_twice d (key_or_zero (key_in e))

-- whether there is a key

key_blind : IsBlind (λ place. is_some (key_at place))
key_blind (Running c) = refl
key_blind _ = refl

key_blind_in : IsBlindTask (λ d. is_some (key_in d))
key_blind_in duty.Nothing = refl
key_blind_in _ = refl

pub there_alike : (x s : State) → bare x ≡ bare s → (a : Holder) → is_some (key_held x a) ≡ is_some (key_held s a)
there_alike x s e (OfThread t) = blind_place (λ place. is_some (key_at place)) key_blind (thread_of x t).place (thread_of s t).place (place_alike x s e t)
there_alike x s e (OfCpu c) = blind_duty (λ d. is_some (key_in d)) key_blind_in (cpu_of x c).duty (cpu_of s c).duty (duty_alike x s e c)
