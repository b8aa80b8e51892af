-- What each event makes of inherited priorities, and that they stay below 160 and for different locks that are held.
use Rattle.std.proofs.Common.{◌≡◌, ℕ, ◌<◌, Bool, true, false, List, length, Option, Some, None, refl, sym, ap, ◌∙◌, subst, arith, ◌⊎◌, inl, inr}
use Rattle.std.specs.Prelude.{⊤, if◌then◌else◌}
use Rattle.std.proofs.lemmas.Option.{same_Some}
use Rattle.sd_types.specs.declared.numbers.CpuId.{CpuId}
use Rattle.sd_types.specs.declared.numbers.LockId.{LockId}
use Rattle.sd_types.specs.declared.numbers.ThreadId.{ThreadId}
use Rattle.sd_types.specs.declared.numbers.Side.{Side}
use Rattle.sd_types.specs.declared.numbers.Side.TheVariants.{Writer, Reader}
use Rattle.sd_types.specs.declared.events.Event.{Event}
use Rattle.sd_types.specs.declared.events.Event.TheVariants.{Enter, Read, Write, Will, Exit, Grant, CvWait}
use Rattle.sd_types.specs.declared.events.Put.{Put}
use Rattle.sd_types.specs.declared.scripts.Op.TheVariants as op
use Rattle.sd_types.specs.declared.works.Work.{Work}
use Rattle.sd_state.specs.declared.states.Place.TheVariants.{Ended}
use Rattle.sd_state.specs.declared.states.State.{State}
use Rattle.sd_state.specs.States.{thread_of, cpu_of}
use Rattle.sd_machine.specs.Threads.{best_waiter}
use Rattle.sd_frames.specs.Causes.{IsCause}
use Rattle.sd_invariants.specs.Holding.{lock_state}
use Rattle.sd_frames.proofs.Found.{runner_found, waiter_found}
use Rattle.sd_machine.proofs.Moves.{put_cases}
use Rattle.std.proofs.Common.{◌++◌, ◌∷◌, [], max, get_or, set, suc}
use Rattle.sd_types.specs.declared.events.Duty.{Duty}
use Rattle.sd_types.specs.declared.events.Duty.TheVariants as duty
use Rattle.sd_types.specs.declared.bodies.ThreadBody.{ThreadBody}
use Rattle.sd_types.specs.Priorities.{eff, base_of}
use Rattle.sd_types.specs.Scripts.{is_held, without_lock}
use Rattle.sd_types.specs.Willed.{changed_number, without_number, with_number, InheritsSoundly}
use Rattle.sd_types.proofs.PriorityLemmas.{greatest-below}
use Rattle.sd_types.proofs.WilledLemmas.{sound-with, sound-without, sound-taken, sound-released, sound_is}
use Rattle.sd_state.specs.declared.states.ThreadState.{ThreadState}
use Rattle.sd_state.specs.States.{no_thread}
use Rattle.sd_machine.specs.Threads.{is_waiting, greatest_waiting, greater}
use Rattle.sd_machine.specs.Changes.{set_duty}
use Rattle.sd_machine.specs.Locking.{granted, others_waiting}
use Rattle.sd_machine.specs.Events.{drop_ageing, effect, after}
use Rattle.sd_frames.proofs.Parts.{same_item}
use Rattle.sd_invariants.proofs.BaseLemmas.{IsBelow}
use Rattle.sd_frames.proofs.Words.{Same}
use Rattle.sd_frames.proofs.HoldTable.{held_part, numbers_part, numbers_same, Goes, exited_numbers, cv_waited_numbers, granted_to_writer_numbers, granted_to_reader_numbers, willed_numbers}
use Rattle.sd_invariants.proofs.ScriptLemmas.{HeldGo, after_held, ender_in, waits_here}
use Rattle.sd_invariants.proofs.AgreedAfter.{IsReady, not_held, waiter_not_held}
use Rattle.sd_types.proofs.ScriptLemmas.{held_last}

-- The changes.

abbrev pub NumbersGo : State → State → Event → Type 0
NumbersGo s r (Will l o p at) = Goes numbers_part s r o.0 (changed_number l (greatest_waiting l.0 s.threads) (thread_of s o.0).body.willed.items)
NumbersGo s r (Grant l u at) = Same numbers_part s r ⊎ Goes numbers_part s r u.0 (changed_number l (others_waiting s l u.0) (thread_of s u.0).body.willed.items)
NumbersGo s r (Exit t l) = Goes numbers_part s r t.0 (without_number l (thread_of s t.0).body.willed.items)
NumbersGo s r (CvWait t k l) = Goes numbers_part s r t.0 (without_number l (thread_of s t.0).body.willed.items)
NumbersGo s r e = Same numbers_part s r

granted_numbers : (w : Work) (s : State) (n : ℕ) (c : CpuId) (l : LockId) (u : ThreadId) (at : Put) (d : Duty) → u.0 < length s.threads → NumbersGo s (granted w s n c l u.0 at d) (Grant l u at)
granted_numbers w s n c l u at (duty.GrantWriter m) here = inr (granted_to_writer_numbers w s n c l u.0 at here)
granted_numbers w s n c l u at d here = inl (granted_to_reader_numbers w s n c l u.0 at)

-- whose inherited priorities an event changes, and in which state
abbrev IsHolderThere : State → Event → Type 0
IsHolderThere s (Will l o p at) = o.0 < length s.threads
IsHolderThere s (Grant l u at) = u.0 < length s.threads
IsHolderThere s (Exit t l) = t.0 < length s.threads
IsHolderThere s (CvWait t k l) = t.0 < length s.threads
IsHolderThere s e = ⊤

after_numbers : (w : Work) (s : State) (n : ℕ) (c : CpuId) (e : Event) → IsHolderThere s e → NumbersGo s (after w s n c e) e
unfolding after effect drop_ageing set_duty
after_numbers w s n c (Will l o p at) here = record { put = (willed_numbers w (drop_ageing s c.0 (Will l o p at)) n c l o at here).put }
after_numbers w s n c (Grant l u at) here = elim (granted_numbers w (drop_ageing s c.0 (Grant l u at)) n c l u at (cpu_of (drop_ageing s c.0 (Grant l u at)) c.0).duty here) [
  | inl a ↦ inl (record { each = a.each })
  | inr b ↦ inr (record { put = b.put })
]
after_numbers w s n c (Exit t l) here = record { put = (exited_numbers w (drop_ageing s c.0 (Exit t l)) c t.0 l here).put }
after_numbers w s n c (CvWait t k l) here = record { put = (cv_waited_numbers w (drop_ageing s c.0 (CvWait t k l)) n c t.0 k l here).put }
after_numbers w s n c e here = numbers_same w s n c e refl

-- Soundness looks at the two lists alone.

-- each thread's inherited priorities are sound, and its base priority is below 160
pub record IsFine (x : ThreadState) : Type 0 where
  pub sound : InheritsSoundly x.body
  pub base : IsBelow x.body.class

abbrev pub AreFine : State → Type 0
AreFine s = (t : ℕ) → IsFine (thread_of s t)

pub fine_eff : (x : ThreadState) → IsFine x → eff x.body < 160
fine_eff x fine = greatest-below (base_of x.body.class) 160 x.body.willed.items fine.base fine.sound.below

pub waiting_below : (l : ℕ) (xs : List ThreadState) → ((k : ℕ) → eff (get_or xs k no_thread).body < 160) → (n : ℕ) → greatest_waiting l xs ≡ Some n → n < 160
unfolding greatest_waiting
waiting_below l [] each n e = cc
waiting_below l (x ∷ xs) each n e = by (λ m. waiting_below l xs (λ k. each (suc k)) m) (is_waiting l x.place) (greatest_waiting l xs) refl e
  where
    by : ((m : ℕ) → greatest_waiting l xs ≡ Some m → m < 160) → (b : Bool) (o : Option ℕ) → greatest_waiting l xs ≡ o → (if b then Some (greater (eff x.body) o) else o) ≡ Some n → n < 160
    by more false o at is = more n (at ∙ is)
    by more true None at is =
        let here : eff x.body < 160 = each 0 in
        let same : eff x.body ≡ n = same_Some (eff x.body) n is in
        omega (arith, here, same)
    by more true (Some m) at is =
        let here : eff x.body < 160 = each 0 in
        let rest : m < 160 = more m at in
        let same : max (eff x.body) m ≡ n = same_Some (max (eff x.body) m) n is in
        omega (arith, here, rest, same)

pub others_below : (s : State) (l : LockId) (u n : ℕ) → AreFine s → others_waiting s l u ≡ Some n → n < 160
others_below s l u n fine e =
    waiting_below l.0 (set s.threads u (record (thread_of s u) { place = Ended }))
    (λ k. subst (λ (b : ThreadBody). eff b < 160) (sym (same_item (λ (x : ThreadState). x.body) s.threads no_thread u (record (thread_of s u) { place = Ended }) refl k)) (fine_eff (thread_of s k) (fine k))) n e

changed_sound : (b : ThreadBody) (l : LockId) (o : Option ℕ) → InheritsSoundly b → is_held l b.held.items ≡ true → ((n : ℕ) → o ≡ Some n → n < 160) → InheritsSoundly (record b { willed = record { items = changed_number l o b.willed.items } })
changed_sound b l None sound held below = sound-without b l (without_number l b.willed.items) sound refl
changed_sound b l (Some n) sound held below = sound-with b l n (with_number l n b.willed.items) sound held (below n refl) refl

module _ (w : Work) (s : State) (n : ℕ) (c : CpuId) (ready : IsReady w s) (fine : AreFine s) where
  quiet_sound : (r : State) → Same numbers_part s r → Same held_part s r → (u : ℕ) → InheritsSoundly (thread_of r u).body
  quiet_sound r numbers held u = sound_is (thread_of s u).body (thread_of r u).body (numbers.each u) (held.each u) (fine u).sound

  taken_sound : (r : State) (t : ℕ) (l : LockId) → Same numbers_part s r → Goes held_part s r t ((thread_of s t).body.held.items ++ l ∷ []) → is_held l (thread_of s t).body.held.items ≡ false → (u : ℕ) → InheritsSoundly (thread_of r u).body
  taken_sound r t l numbers held not_there u = elim (put_cases t _ _ _ held.put u) [
    | inl me ↦ subst (λ v. InheritsSoundly (thread_of r v).body) (sym me.0)
        (sound_is (record (thread_of s t).body { held = record { items = (thread_of s t).body.held.items ++ l ∷ [] } }) (thread_of r t).body (numbers.each t) held.put.at
        (sound-taken (thread_of s t).body l ((thread_of s t).body.held.items ++ l ∷ []) (fine t).sound not_there refl))
    | inr other ↦ sound_is (thread_of s u).body (thread_of r u).body (numbers.each u) other.1 (fine u).sound
  ]

  given_sound : (r : State) (t : ℕ) (l : LockId) → Goes numbers_part s r t (without_number l (thread_of s t).body.willed.items) → Goes held_part s r t (without_lock l (thread_of s t).body.held.items) → (u : ℕ) → InheritsSoundly (thread_of r u).body
  given_sound r t l numbers held u = elim (put_cases t _ _ _ held.put u) [
    | inl me ↦ subst (λ v. InheritsSoundly (thread_of r v).body) (sym me.0)
        (sound_is (record (thread_of s t).body { willed = record { items = without_number l (thread_of s t).body.willed.items }; held = record { items = without_lock l (thread_of s t).body.held.items } }) (thread_of r t).body numbers.put.at held.put.at
        (sound-released (thread_of s t).body l (without_number l (thread_of s t).body.willed.items) (without_lock l (thread_of s t).body.held.items) (fine t).sound refl refl))
    | inr other ↦ sound_is (thread_of s u).body (thread_of r u).body (numbers.put.others u other.0) other.1 (fine u).sound
  ]

  willed_sound : (r : State) (o : ℕ) (l : LockId) → Goes numbers_part s r o (changed_number l (greatest_waiting l.0 s.threads) (thread_of s o).body.willed.items) → Same held_part s r → is_held l (thread_of s o).body.held.items ≡ true → (u : ℕ) → InheritsSoundly (thread_of r u).body
  willed_sound r o l numbers held holds u = elim (put_cases o _ _ _ numbers.put u) [
    | inl me ↦ subst (λ v. InheritsSoundly (thread_of r v).body) (sym me.0)
        (sound_is (record (thread_of s o).body { willed = record { items = changed_number l (greatest_waiting l.0 s.threads) (thread_of s o).body.willed.items } }) (thread_of r o).body numbers.put.at (held.each o)
        (changed_sound (thread_of s o).body l (greatest_waiting l.0 s.threads) (fine o).sound holds (λ m e. waiting_below l.0 s.threads (λ k. fine_eff (thread_of s k) (fine k)) m e)))
    | inr other ↦ sound_is (thread_of s u).body (thread_of r u).body other.1 (held.each u) (fine u).sound
  ]

  granted_sound : (r : State) (t : ℕ) (l : LockId) → Goes numbers_part s r t (changed_number l (others_waiting s l t) (thread_of s t).body.willed.items) → Goes held_part s r t ((thread_of s t).body.held.items ++ l ∷ [])
      → is_held l (thread_of s t).body.held.items ≡ false → (u : ℕ) → InheritsSoundly (thread_of r u).body
  granted_sound r t l numbers held not_there u = elim (put_cases t _ _ _ held.put u) [
    | inl me ↦
        let took : ThreadBody = record (thread_of s t).body { held = record { items = (thread_of s t).body.held.items ++ l ∷ [] } } in
        subst (λ v. InheritsSoundly (thread_of r v).body) (sym me.0)
        (sound_is (record took { willed = record { items = changed_number l (others_waiting s l t) took.willed.items } }) (thread_of r t).body numbers.put.at held.put.at
        (changed_sound took l (others_waiting s l t) (sound-taken (thread_of s t).body l ((thread_of s t).body.held.items ++ l ∷ []) (fine t).sound not_there refl) (held_last l (thread_of s t).body.held.items) (λ m e. others_below s l t m fine e)))
    | inr other ↦ sound_is (thread_of s u).body (thread_of r u).body (numbers.put.others u other.0) other.1 (fine u).sound
  ]

  holder_there : (e : Event) → IsCause w s c.0 e → IsHolderThere s e
  holder_there (Will l o p at) cause = (ready.agreed.owner l.0 o.0 (ap lock_state cause.1)).0
  holder_there (Grant l u at) (inl cause) = (waiter_found s l.0 Writer u.0 cause.1).inside
  holder_there (Grant l u at) (inr cause) = (waiter_found s l.0 Reader u.0 cause.1).inside
  holder_there (Exit t l) cause = (runner_found s c.0 t.0 cause.runs).inside
  holder_there (CvWait t k l) cause = (runner_found s c.0 t.0 cause.runs).inside
  holder_there e cause = tt

  not_held_yet : (l : LockId) (side : Side) (u : ℕ) → best_waiter s l.0 side ≡ Some u → is_held l (thread_of s u).body.held.items ≡ false
  not_held_yet l side u e =
      let found = waiter_found s l.0 side u e in
      let (k, is) = waits_here l side (thread_of s u).place found.stands in
      waiter_not_held w s n c ready u l side k found.inside is

  sound_after : (e : Event) → IsCause w s c.0 e → NumbersGo s (after w s n c e) e → HeldGo s (after w s n c e) e → (u : ℕ) → InheritsSoundly (thread_of (after w s n c e) u).body
  sound_after (Enter t l) cause numbers held u = taken_sound (after w s n c (Enter t l)) t.0 l numbers held (not_held w s n c ready t.0 (op.Enter l) l Writer cause.0 refl) u
  sound_after (Read t l) cause numbers held u = taken_sound (after w s n c (Read t l)) t.0 l numbers held (not_held w s n c ready t.0 (op.Read l) l Reader cause.0 refl) u
  sound_after (Write t l) cause numbers held u = taken_sound (after w s n c (Write t l)) t.0 l numbers held (not_held w s n c ready t.0 (op.Write l) l Writer cause.0 refl) u
  sound_after (Exit t l) cause numbers held u = given_sound (after w s n c (Exit t l)) t.0 l numbers held u
  sound_after (CvWait t k l) cause numbers held u = given_sound (after w s n c (CvWait t k l)) t.0 l numbers held u
  sound_after (Will l o p at) cause numbers held u = willed_sound (after w s n c (Will l o p at)) o.0 l numbers held ((ready.agreed.owner l.0 o.0 (ap lock_state cause.1)).1) u
  sound_after (Grant l v at) (inl cause) (inl numbers) held u = taken_sound (after w s n c (Grant l v at)) v.0 l numbers held (not_held_yet l Writer v.0 cause.1) u
  sound_after (Grant l v at) (inl cause) (inr numbers) held u = granted_sound (after w s n c (Grant l v at)) v.0 l numbers held (not_held_yet l Writer v.0 cause.1) u
  sound_after (Grant l v at) (inr cause) (inl numbers) held u = taken_sound (after w s n c (Grant l v at)) v.0 l numbers held (not_held_yet l Reader v.0 cause.1) u
  sound_after (Grant l v at) (inr cause) (inr numbers) held u = granted_sound (after w s n c (Grant l v at)) v.0 l numbers held (not_held_yet l Reader v.0 cause.1) u
  sound_after e cause numbers held u = quiet_sound (after w s n c e) numbers held u

  pub after_sound : (e : Event) → IsCause w s c.0 e → (u : ℕ) → InheritsSoundly (thread_of (after w s n c e) u).body
  after_sound e cause u = sound_after e cause (after_numbers w s n c e (holder_there e cause)) (after_held w s n c e (ender_in w s c.0 e cause)) u
