-- Keys in one queue differ.
use Rattle.std.proofs.Common.{◌≡◌, ℕ, Bool, true, false, ◌&&◌, Option, Some, None, refl, sym, ◌∙◌, subst, inl, inr}
use Rattle.std.specs.Prelude.{nat_le, ◌==◌, if◌then◌else◌, is_none, ℤ}
use Rattle.std.proofs.lemmas.Bool.{false≢true}
use Rattle.sd_types.specs.declared.numbers.CpuId.{CpuId}
use Rattle.sd_types.specs.declared.numbers.ThreadId.{ThreadId}
use Rattle.sd_types.specs.declared.events.BindAnswer.{BindAnswer}
use Rattle.sd_types.specs.declared.events.BindAnswer.TheVariants as bind_answer
use Rattle.sd_types.specs.declared.events.Event.{Event}
use Rattle.sd_machine.specs.Deeds.{Whither, ToQueue, ToSleep, ToWait, ToNap, ToEnd, place_to}
use Rattle.sd_types.specs.declared.events.PrioAnswer.{PrioAnswer}
use Rattle.sd_types.specs.declared.events.PrioAnswer.TheVariants.{Changed, Refused}
use Rattle.sd_types.specs.declared.events.Put.{Put}
use Rattle.sd_types.specs.declared.events.Put.TheVariants.{Cpu, RealTime as OnRealTime}
use Rattle.sd_types.specs.declared.works.Work.{Work}
use Rattle.sd_types.specs.Priorities.{eff_as}
use Rattle.sd_state.specs.declared.states.Place.{Place}
use Rattle.sd_state.specs.declared.states.Place.TheVariants.{Running, Queued, RealTime, Ended}
use Rattle.sd_state.specs.declared.states.State.{State}
use Rattle.sd_state.specs.States.{thread_of, set_of, eff_of}
use Rattle.sd_machine.specs.Changes.{back_key}
use Rattle.sd_machine.specs.Bodies.{aged_class}
use Rattle.sd_frames.specs.Moves.{Step, put_step, put_step_if, woken_step, reordered_step, aged_step, prio_step, bind_step, step_of, Stride, Comes, Goes, Falls, Leaves, Wakes, WakesAny, Reorders, Rises, Changes, Binds, stride_of, step_by}
use Rattle.sd_frames.specs.Moves.Step.{Stay, Go}
use Rattle.sd_frames.proofs.PlaceTable.{Stepped}
use Rattle.sd_types.specs.declared.bodies.ThreadBody.{ThreadBody}
use Rattle.sd_types.specs.Priorities.{eff}
use Rattle.sd_machine.specs.Changes.{queue_place, key_at}
use Rattle.sd_machine.specs.Events.{after}
use Rattle.sd_state.specs.States.{key_of}
use Rattle.sd_types.specs.declared.events.End.{End}
use Rattle.sd_types.specs.declared.events.End.TheVariants.{Front, Back}
use Rattle.sd_state.specs.Invariants.{has_key, KeysDiffer, KeysWithin}
use Rattle.sd_state.proofs.KeyLemmas as Ch
use Rattle.sd_state.proofs.Chosen.{places}
use Rattle.sd_state.proofs.KeyLemmas.{IsNew, GivesNew, KeysAt, keys_after, first_keys}
use Rattle.sd_invariants.specs.Laws.{HoldsWhenReached, HoldsAfterEntries}
use Rattle.sd_frames.proofs.PlaceTable.{after_steps, step_needs}
use Rattle.sd_invariants.proofs.Movers.{mover_there}
use Rattle.sd_invariants.proofs.Ready.{IsKept, kept_after}

abbrev change_of : Step → Ch.Change Place
change_of Stay = Ch.Change.Keep
change_of (Go t place) = Ch.Change.Put t place

changed : (step : Step) (s r : State) → Stepped step s r → Ch.IsChanged (change_of step) (places s) (places r)
changed Stay s r a = λ u. a u
changed (Go t place) s r a = record { at = a.at; others = λ u other. a.others u other }

-- the place has no key, or one that entry n gives
abbrev HasNew : ℕ → Step → Type 0
HasNew n step = GivesNew n (change_of step)

put_new : (w : Work) (n t : ℕ) (at : Put) → HasNew n (put_step w n t at)
put_new w n t (Cpu d) has = inl refl
put_new w n t (OnRealTime d) has = inl refl

end_new : (n : ℕ) (end : End) → IsNew n (key_at n end)
end_new n Front = inr refl
end_new n Back = inl refl

queue_new : (w : Work) (n t : ℕ) (c : CpuId) (k : ℤ) (b : ThreadBody) → IsNew n k → HasNew n (Go t (queue_place w t c k b))
queue_new w n t c k b new has = subst (IsNew n) (sym (at (nat_le 100 (eff b) && is_none b.bound))) new
  where
    at : (v : Bool) → key_of (if v then RealTime (set_of w t) k else Queued c k) ≡ k
    at true = refl
    at false = refl

put_if_new : (w : Work) (n t : ℕ) (at : Option Put) → HasNew n (put_step_if w n t at)
put_if_new w n t None = λ has. absurd (false≢true has)
put_if_new w n t (Some at) = put_new w n t at

woken_new : (w : Work) (n : ℕ) (u : Option (ThreadId × Put)) → HasNew n (woken_step w n u)
woken_new w n None = λ has. absurd (false≢true has)
woken_new w n (Some u) = put_new w n u.0.0 u.1

reordered_new : (w : Work) (n t : ℕ) (at : Option Put) (p : Place) → HasNew n (reordered_step w n t at p)
reordered_new w n t at (Running x) = λ has. absurd (false≢true has)
reordered_new w n t at p = put_if_new w n t at

back_new : (n t : ℕ) (c : CpuId) → HasNew n (Go t (Queued c (back_key n)))
back_new n t c has = inl refl

stay_new : (n : ℕ) → HasNew n Stay
stay_new n has = absurd (false≢true has)

aged_new : (w : Work) (s : State) (n : ℕ) (c : CpuId) (t : ℕ) → HasNew n (aged_step w s n c t)
aged_new w s n c t = elim (eff_as (aged_class w (thread_of s t).body.class) (thread_of s t).body == eff_of s t) as (λ b. HasNew n (if b then Stay else Go t (Queued c (back_key n)))) [ true ↦ stay_new n | false ↦ back_new n t c ]

prio_new : (w : Work) (s : State) (n : ℕ) (u : ThreadId) (answer : PrioAnswer) → HasNew n (prio_step w s n u answer)
prio_new w s n u (Changed p at) = reordered_new w n u.0 at (thread_of s u.0).place
prio_new w s n u (Refused d) = stay_new n

bind_new : (w : Work) (n u : ℕ) (answer : BindAnswer) → HasNew n (bind_step w n u answer)
bind_new w n u (bind_answer.Changed at) = put_if_new w n u at
bind_new w n u bind_answer.ESRCH = stay_new n
bind_new w n u bind_answer.EINVAL = stay_new n
bind_new w n u bind_answer.EPERM = stay_new n
bind_new w n u bind_answer.EBUSY = stay_new n

keyless : (n t : ℕ) (p : Place) → has_key p ≡ false → HasNew n (Go t p)
keyless n t p none has = absurd (false≢true (sym none ∙ has))

goes_new : (w : Work) (s : State) (n : ℕ) (c : CpuId) (t : ℕ) (whither : Whither) → HasNew n (Go t (place_to w n c s t whither))
goes_new w s n c t ToQueue = queue_new w n t c (back_key n) (thread_of s t).body (inl refl)
goes_new w s n c t (ToSleep k) = λ has. inl refl
goes_new w s n c t (ToWait l) = λ has. inl refl
goes_new w s n c t ToNap = λ has. absurd (false≢true has)
goes_new w s n c t ToEnd = keyless n t Ended refl

stride_new : (w : Work) (s : State) (n : ℕ) (c : CpuId) (stride : Option Stride) → HasNew n (step_by w s n c stride)
stride_new w s n c None = stay_new n
stride_new w s n c (Some (Comes t)) = keyless n t (Running c) refl
stride_new w s n c (Some (Goes t whither)) = goes_new w s n c t whither
stride_new w s n c (Some (Falls t end)) = queue_new w n t c (key_at n end) (thread_of s t).body (end_new n end)
stride_new w s n c (Some (Leaves t d)) = back_new n t d
stride_new w s n c (Some (Wakes t at)) = put_new w n t at
stride_new w s n c (Some (WakesAny u)) = woken_new w n u
stride_new w s n c (Some (Reorders o at)) = reordered_new w n o.0 at (thread_of s o.0).place
stride_new w s n c (Some (Rises t)) = aged_new w s n c t
stride_new w s n c (Some (Changes t u answer)) = prio_new w s n u answer
stride_new w s n c (Some (Binds u answer)) = bind_new w n u answer

has_new : (w : Work) (s : State) (n : ℕ) (c : CpuId) (e : Event) → HasNew n (step_of w s n c e)
has_new w s n c e = stride_new w s n c (stride_of e)

keys_kept : IsKept (λ w n s. KeysAt n (places s))
keys_kept = record {
  start = first_keys;
  step = λ w s n c e ready cause keys.
      keys_after n (places s) (places (after w s n c e)) (change_of (step_of w s n c e)) (has_new w s n c e) keys
      (changed (step_of w s n c e) s (after w s n c e) (after_steps w s n c e (step_needs w s c.0 e cause) (mover_there w s n c e ready.fits ready.agreed cause)));
}

pub keys_differ_law : HoldsWhenReached (λ w s. KeysDiffer s)
keys_differ_law w n s reached t u _ _ queue same = (kept_after (λ w n s. KeysAt n (places s)) keys_kept w n s reached).differ t u queue same

pub keys_within_law : HoldsAfterEntries (λ w n s. KeysWithin n s)
keys_within_law w n s reached t _ has = let at = (kept_after (λ w n s. KeysAt n (places s)) keys_kept w n s reached).within t has in (at.least, at.greatest)
