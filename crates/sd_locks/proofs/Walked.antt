-- A step of a walk keeps the place of the owner and the sets of the processors.
use Rattle.std.proofs.Common.{◌≡◌, [], ◌∷◌, Option, refl, ap, ◌∙◌}
use Rattle.sd_types.specs.declared.numbers.CpuId.{CpuId}
use Rattle.sd_types.specs.declared.numbers.LockId.{LockId}
use Rattle.sd_types.specs.declared.numbers.SetId.{SetId}
use Rattle.sd_types.specs.declared.numbers.ThreadId.{ThreadId}
use Rattle.sd_types.specs.declared.events.Put.{Put}
use Rattle.sd_types.specs.declared.works.Work.{Work}
use Rattle.sd_state.specs.declared.states.Place.{Place}
use Rattle.sd_state.specs.declared.states.Place.TheVariants.{Running}
use Rattle.sd_state.specs.declared.states.State.{State}
use Rattle.sd_state.specs.States.{cpu_of, thread_of}
use Rattle.sd_machine.specs.Changes.{set_duty, set_looped, set_number}
use Rattle.sd_machine.specs.Walking.{walked}
use Rattle.sd_machine.proofs.PlaceLemmas.{kept_place}
use Rattle.sd_dispatcher.specs.Touched.{reordered_parts}
use Rattle.sd_dispatcher.proofs.Kept.{kept_set}
use Rattle.sd_store.specs.Parts.{cpu_part, real_time_part, thread_part}

pub place_kept : (s : State) (c : CpuId) (l : LockId) (o : ThreadId) → (thread_of (walked s c l o) o.0).place ≡ (thread_of s o.0).place
unfolding set_duty set_looped set_number
place_kept s c l o = kept_place (set_number s o.0 l _) o.0 o.0 _ refl ∙ kept_place s o.0 o.0 _ refl

set_kept : (s : State) (c : CpuId) (l : LockId) (o : ThreadId) (d : CpuId) → (cpu_of (walked s c l o) d.0).set ≡ (cpu_of s d.0).set
unfolding set_duty set_looped set_number
set_kept s c l o d = kept_set s c.0 d.0 _ refl

pub parts_kept : (w : Work) (s : State) (c : CpuId) (l : LockId) (o : ThreadId) (at : Option Put)
    → reordered_parts w (walked s c l o) o at (thread_of (walked s c l o) o.0).place ≡ reordered_parts w s o at (thread_of s o.0).place
parts_kept w s c l o at =
    by (thread_of (walked s c l o) o.0).place ∙ ap (λ (place : Place). reordered_parts w s o at place) (place_kept s c l o)
  where
    by : (place : Place) → reordered_parts w (walked s c l o) o at place ≡ reordered_parts w s o at place
    by (Running d) = ap (λ (p : SetId). thread_part o ∷ cpu_part d ∷ real_time_part p ∷ []) (set_kept s c l o d)
    by _ = refl
