-- Where a thread gets other parameters: it waits afterwards if it did before, so that the walk begins where it waited; and
-- the parts that it touches are those of the state before.
use Rattle.std.proofs.Common.{◌≡◌, ℕ, Bool, true, false, Option, Some, None, refl, sym, ap, ◌∙◌, subst, arith, inr}
use Rattle.std.proofs.lemmas.Grind.{common_steps}
use Rattle.std.specs.Prelude.{◌∷◌, nat_lt, Result, Ok, Err, ⊤}
use Rattle.sd_types.specs.declared.numbers.CpuId.{CpuId}
use Rattle.sd_types.specs.declared.numbers.ThreadId.{ThreadId}
use Rattle.sd_types.specs.declared.classes.ClassState.{ClassState}
use Rattle.sd_types.specs.declared.events.PrioAnswer.TheVariants.{Changed}
use Rattle.sd_types.specs.declared.events.Put.{Put}
use Rattle.sd_types.specs.declared.works.Work.{Work}
use Rattle.sd_state.specs.declared.states.Place.{Place}
use Rattle.sd_state.specs.declared.states.Place.TheVariants.{Running, Queued, RealTime, Waiting, Asleep, Napping, Ended}
use Rattle.sd_state.specs.declared.states.State.{State}
use Rattle.sd_state.specs.declared.states.ThreadState.{ThreadState}
use Rattle.sd_state.specs.States.{thread_of, with_thread, eff_of}
use Rattle.sd_machine.specs.Changes.{cpu_put, mark_over, place_put, put, put_where, remark, set_class, with_place}
use Rattle.sd_machine.specs.Needs.{IsUnmoved}
use Rattle.sd_machine.specs.Prioritising.{walk_from}
use Rattle.sd_machine.specs.Requeueing.{reordered, reordered_at}
use Rattle.sd_machine.proofs.PlaceLemmas.{class_place, is_waiter, put_no_waiter}
use Rattle.sd_dispatcher.specs.Touched.{reordered_parts}
use Rattle.sd_dispatcher.proofs.Kept.{over_threads, remark_threads, same_place}
use Rattle.sd_store.specs.declared.parts.Part.{Part}
use Rattle.sd_store.specs.Parts.{IsAmong, thread_part}
use Rattle.sd_store.specs.Walks.{walk_begun}
use Rattle.sd_store.specs.Words.{LacksBy}
use Rattle.sd_priocntl.specs.Touched.{KeepsWaiting}

-- Places.

apart_at : (s : State) (u : ℕ) (x : ThreadState) → is_waiter x.place ≡ false → is_waiter (thread_of s u).place ≡ false → is_waiter (thread_of (with_thread s u x) u).place ≡ false
apart_at s u x new old = grind (arith, common_steps)

apart_by : (p q : Place) → p ≡ q → is_waiter q ≡ false → is_waiter p ≡ false
apart_by p q e h = ap is_waiter e ∙ h

where_apart : (w : Work) (s : State) (n u : ℕ) (at : Option Put) → is_waiter (thread_of s u).place ≡ false → is_waiter (thread_of (put_where w s n u at) u).place ≡ false
unfolding put_where put
where_apart w s n u None h = h
where_apart w s n u (Some at) h =
    let r = with_place s u (place_put w n u at) in
    apart_by _ _ (same_place r (mark_over r (cpu_put at).0 (eff_of s u)) u (over_threads r (cpu_put at).0 (eff_of s u)))
    (apart_at s u (record (thread_of s u) { place = place_put w n u at }) (put_no_waiter w n u at) h)

reordered_apart : (w : Work) (s : State) (n u old : ℕ) (at : Option Put) → is_waiter (thread_of s u).place ≡ false → is_waiter (thread_of (reordered w s n u old at) u).place ≡ false
unfolding reordered
reordered_apart w s n u old at h = on (thread_of s u).place
  where
    on : (place : Place) → is_waiter (thread_of (reordered_at w s n u old at place) u).place ≡ false
    on (Running x) = by (nat_lt (eff_of s u) old) refl
      where
        by : (b : Bool) → nat_lt (eff_of s u) old ≡ b → is_waiter (thread_of (reordered_at w s n u old at (Running x)) u).place ≡ false
        by true e = rw e (apart_by _ _ (same_place s (remark s x.0) u (remark_threads s x.0)) h)
        by false e = rw e h
    on _ = where_apart w s n u at h

-- Walks.

still : (s : State) (c : CpuId) (u : ThreadId) (place : Place) → is_waiter place ≡ false → walk_from s c u place ≡ s
still s c u (Waiting l side k) h = cc
still s c u _ h = refl

waits_on : (w : Work) (s : State) (n u old : ℕ) (place : Place) → (thread_of s u).place ≡ place → is_waiter place ≡ true
    → (thread_of (reordered w s n u old None) u).place ≡ place
unfolding reordered put_where
waits_on w s n u old (Waiting l side k) e h = rw e e
waits_on w s n u old _ e h = cc

pub same_walk : (w : Work) (s : State) (n : ℕ) (c : CpuId) (u : ThreadId) (old : ℕ) (at : Option Put) (class : ClassState)
    → KeepsWaiting (thread_of s u.0).place at
    → walk_begun (reordered w (set_class s u.0 class) n u.0 old at) c u ≡ walk_from (reordered w (set_class s u.0 class) n u.0 old at) c u (thread_of s u.0).place
unfolding walk_begun
same_walk w s n c u old at class keeps = on (thread_of s u.0).place refl keeps
  where
    apart : (place : Place) → (thread_of s u.0).place ≡ place → is_waiter place ≡ false
        → walk_from (reordered w (set_class s u.0 class) n u.0 old at) c u (thread_of (reordered w (set_class s u.0 class) n u.0 old at) u.0).place
        ≡ walk_from (reordered w (set_class s u.0 class) n u.0 old at) c u place
    apart place e h =
        let r = reordered w (set_class s u.0 class) n u.0 old at in
        still r c u (thread_of r u.0).place (reordered_apart w (set_class s u.0 class) n u.0 old at (apart_by _ _ (class_place s u.0 u.0 class ∙ e) h))
        ∙ sym (still r c u place h)

    on : (place : Place) → (thread_of s u.0).place ≡ place → KeepsWaiting place at
        → walk_from (reordered w (set_class s u.0 class) n u.0 old at) c u (thread_of (reordered w (set_class s u.0 class) n u.0 old at) u.0).place
        ≡ walk_from (reordered w (set_class s u.0 class) n u.0 old at) c u place
    on (Waiting l side k) e none =
        rw none (ap (walk_from (reordered w (set_class s u.0 class) n u.0 old None) c u) (waits_on w (set_class s u.0 class) n u.0 old (Waiting l side k) (class_place s u.0 u.0 class ∙ e) refl))
    on (Running x) e keeps = apart (Running x) e refl
    on (Queued d k) e keeps = apart (Queued d k) e refl
    on (RealTime p k) e keeps = apart (RealTime p k) e refl
    on (Asleep ch k) e keeps = apart (Asleep ch k) e refl
    on (Napping d due) e keeps = apart (Napping d due) e refl
    on Ended e keeps = apart Ended e refl

pub keeps_waiting : (place : Place) (p : ℕ) (at : Option Put) → IsUnmoved place (Changed p at) → KeepsWaiting place at
keeps_waiting (Waiting l side k) p at h = h
keeps_waiting _ p at h = tt

-- Parts.

class_parts : (w : Work) (s : State) (u : ThreadId) (class : ClassState) (at : Option Put) (p : Part)
    → IsAmong p (reordered_parts w (set_class s u.0 class) u at (thread_of (set_class s u.0 class) u.0).place)
    → IsAmong p (reordered_parts w s u at (thread_of s u.0).place)
unfolding set_class
class_parts w s u class at p among =
    on (thread_of s u.0).place (subst (λ place. IsAmong p (reordered_parts w (set_class s u.0 class) u at place)) (class_place s u.0 u.0 class) among)
  where
    on : (place : Place) → IsAmong p (reordered_parts w (set_class s u.0 class) u at place) → IsAmong p (reordered_parts w s u at place)
    on (Running d) h = h
    on _ h = h

-- what is lacking behind a change of the class is needed before it
pub lacks_before : {A L : Type 0} (part : L → Part) (n : ℕ) (shows shows' : ℕ → State → Type 0) (has has' : Part → Bool)
    (w : Work) (u : ThreadId) (at : Option Put) (class : ClassState) (r : Result A L)
    → ((s : State) → shows n s → shows' n (set_class s u.0 class)) → has' ≡ has
    → LacksBy n part shows' has' r (λ s. ⊤) (λ s. reordered_parts w s u at (thread_of s u.0).place)
    → LacksBy n part shows has r (λ s. ⊤) (λ s. thread_part u ∷ reordered_parts w s u at (thread_of s u.0).place)
lacks_before part n shows shows' has has' w u at class (Ok a) does same lacks = tt
lacks_before part n shows shows' has has' w u at class (Err q) does same lacks = (
  λ s h yes. inr (class_parts w s u class at (part q) (lacks.0 (set_class s u.0 class) (does s h) tt)),
  subst (λ (f : Part → Bool). f (part q) ≡ false) same lacks.1,
)
