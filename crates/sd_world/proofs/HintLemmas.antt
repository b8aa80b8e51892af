-- What a processor shows is found in its home.
use Rattle.std.proofs.Common.{◌≡◌, ℕ, ◌<◌, true, false, [], ◌∷◌, Option, Some, None, IfSome, option_map, refl, sym, ap, ◌∙◌, subst, inl, inr}
use Rattle.std.proofs.lemmas.Bool.{false≢true}
use Rattle.sd_types.specs.declared.numbers.CpuId.{CpuId}
use Rattle.sd_types.specs.declared.events.Which.{Which}
use Rattle.sd_types.specs.declared.events.Which.TheVariants.{Running, Queued}
use Rattle.sd_state.specs.declared.states.State.{State}
use Rattle.sd_machine.specs.Hints.{hint_of, hint_shown}
use Rattle.sd_machine.specs.Threads.{priority_of}
use Rattle.sd_invariants.proofs.FineLemmas.{sound_law}
use Rattle.sd_store.specs.declared.parts.Part.{Part}
use Rattle.sd_store.specs.Parts.{IsAmong, cpu_part}
use Rattle.sd_hand.specs.declared.acting.Acting.{Acting}
use Rattle.sd_hand.specs.Acting.{has_part}
use Rattle.sd_world.specs.Plain.{StandsInRun, thread_shown}

module _ (x : Acting) where
  pub not_cpu : (d : CpuId) (q : Part) → has_part x (cpu_part d) ≡ true → IsAmong q (cpu_part d ∷ []) → has_part x q ≡ false → ⊥
  not_cpu d q has (inl is) lacks = false≢true (sym lacks ∙ (ap (has_part x) is ∙ has))
  not_cpu d q has (inr none) lacks = none

-- every effective priority is below 160
below_all : (x : Acting) (st : StandsInRun x) (p t : Option ℕ) → p ≡ priority_of st.state t → IfSome p (λ n. n < 160)
below_all x st p None e = subst (λ o. IfSome o (λ n. n < 160)) (sym e) tt
below_all x st p (Some t) e = subst (λ o. IfSome o (λ n. n < 160)) (sym e) (sound_law st.work st.number st.state st.reached t).1

pub below_shown : (x : Acting) (st : StandsInRun x) (which : Which) (d : CpuId) (p : Option ℕ) → p ≡ priority_of st.state (thread_shown st.state which d) → IfSome p (λ n. n < 160)
below_shown x st which d p e = below_all x st p (thread_shown st.state which d) e

-- the number is that of the thread that is shown
pub hint_is : (s : State) (which : Which) (d : CpuId) → hint_of (priority_of s (thread_shown s which d)) ≡ hint_shown s which d
unfolding hint_shown
hint_is s Running d = refl
hint_is s Queued d = refl
