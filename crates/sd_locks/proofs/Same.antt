-- An owner that inherits through a lock what it inherited before stays as it was, and where it stands.
use Rattle.std.proofs.Common.{◌≡◌, ℕ, zero, suc, Bool, true, false, List, [], ◌∷◌, Option, None, Some, refl, sym, ap, ◌∙◌, nat_lt, arith}
use Rattle.std.proofs.lemmas.Bool.{eqb-true}
use Rattle.std.proofs.lemmas.Bool.Decides.{nat_tests}
use Rattle.sd_types.specs.Priorities.{eff}
use Rattle.sd_types.specs.Scripts.{is_lock}
use Rattle.sd_types.specs.Willed.{Numbers, changed_number, number_for, with_number, without_number}
use Rattle.sd_types.specs.declared.numbers.CpuId.{CpuId}
use Rattle.sd_types.specs.declared.numbers.LockId.{LockId}
use Rattle.sd_types.specs.declared.numbers.ThreadId.{ThreadId}
use Rattle.sd_types.specs.declared.works.Work.{Work}
use Rattle.sd_state.specs.declared.states.Place.{Place}
use Rattle.sd_state.specs.declared.states.Place.TheVariants.{Running}
use Rattle.sd_state.specs.declared.states.State.{State}
use Rattle.sd_state.specs.declared.states.ThreadState.{ThreadState}
use Rattle.sd_state.specs.States.{eff_of, thread_of}
use Rattle.sd_machine.specs.Changes.{put_where, set_duty, set_looped, set_number}
use Rattle.sd_machine.specs.Requeueing.{reordered, reordered_at}
use Rattle.sd_machine.specs.Threads.{greatest_waiting}
use Rattle.sd_machine.specs.Walking.{walked}
use Rattle.sd_store.proofs.TickLemmas.{read}
use Rattle.sd_locks.proofs.Looped.{change, looping, numbered}

with_same : (l : LockId) (n : ℕ) (ws : Numbers) → Some n ≡ number_for l ws → with_number l n ws ≡ ws
with_same l n [] e = absurd cc
with_same l n (w ∷ ws) e = by (is_lock l w.0) refl (with_same l n ws)
  where
    by : (b : Bool) → is_lock l w.0 ≡ b → (Some n ≡ number_for l ws → with_number l n ws ≡ ws) → with_number l n (w ∷ ws) ≡ w ∷ ws
    by true h rest =
        let number : Some n ≡ Some w.1 = rw h at e in
        let same : n ≡ w.1 = cc in
        rw h (λ i. (record { 0 = eqb-true l.0 w.0.0 h i }, same i) ∷ ws)
    by false h rest = rw h (ap (λ (vs : Numbers). w ∷ vs) (rest (rw h at e)))

without_same : (l : LockId) (ws : Numbers) → None ≡ number_for l ws → without_number l ws ≡ ws
without_same l [] e = refl
without_same l (w ∷ ws) e = by (is_lock l w.0) refl (without_same l ws)
  where
    by : (b : Bool) → is_lock l w.0 ≡ b → (None ≡ number_for l ws → without_number l ws ≡ ws) → without_number l (w ∷ ws) ≡ w ∷ ws
    by true h rest = let no = rw h at e in absurd cc
    by false h rest = rw h (ap (λ (vs : Numbers). w ∷ vs) (rest (rw h at e)))

number_same : (l : LockId) (n : Option ℕ) (ws : Numbers) → n ≡ number_for l ws → changed_number l n ws ≡ ws
number_same l None ws e = without_same l ws e
number_same l (Some n) ws e = with_same l n ws e

threads_same : (l : LockId) (n : Option ℕ) (xs : List ThreadState) (t : ℕ) → n ≡ number_for l (read xs t).body.willed.items → change (numbered l n) xs t ≡ xs
threads_same l n [] t e = refl
threads_same l n (x ∷ xs) zero e = ap (λ (ws : Numbers). record x { body = record x.body { willed = record { items = ws } } } ∷ xs) (number_same l n x.body.willed.items e)
threads_same l n (x ∷ xs) (suc t) e = ap (λ (ys : List ThreadState). x ∷ ys) (threads_same l n xs t e)

pub set_same : (s : State) (o : ThreadId) (l : LockId) (n : Option ℕ) → n ≡ number_for l (thread_of s o.0).body.willed.items → set_number s o.0 l n ≡ s
unfolding set_number
set_same s o l n e = ap (λ (xs : List ThreadState). record s { threads = xs }) (threads_same l n s.threads o.0 e)

-- an owner that has its priority still, and is to go nowhere, stays where it stands
pub stays : (w : Work) (s : State) (n t old : ℕ) → old ≡ eff_of s t → reordered w s n t old None ≡ s
unfolding reordered put_where
stays w s n t old e = by (thread_of s t).place
  where
    by : (place : Place) → reordered_at w s n t old None place ≡ s
    by (Running d) = let no : nat_lt (eff_of s t) old ≡ false = grind (arith, nat_tests) in rw no refl
    by _ = refl

looped_priority : (b : Bool) (xs : List ThreadState) (t : ℕ) → eff (read (change (looping b) xs t) t).body ≡ eff (read xs t).body
looped_priority b [] t = refl
looped_priority b (x ∷ xs) zero = refl
looped_priority b (x ∷ xs) (suc t) = looped_priority b xs t

priority_walked : (s : State) (c : CpuId) (l : LockId) (o : ThreadId) → eff_of (walked s c l o) o.0 ≡ eff_of (set_number s o.0 l (greatest_waiting l.0 s.threads)) o.0
unfolding set_duty set_looped
priority_walked s c l o = looped_priority _ (set_number s o.0 l (greatest_waiting l.0 s.threads)).threads o.0

pub priority_kept : (s : State) (c : CpuId) (l : LockId) (o : ThreadId) (old : ℕ) (had greatest : Option ℕ) (same : Bool) → old ≡ eff_of s o.0 → had ≡ number_for l (thread_of s o.0).body.willed.items
    → greatest ≡ greatest_waiting l.0 s.threads → (same ≡ true → had ≡ greatest) → same ≡ true → old ≡ eff_of (walked s c l o) o.0
priority_kept s c l o old had greatest same is number waits told known =
    is ∙ sym (priority_walked s c l o ∙ ap (λ (r : State). eff_of r o.0) (set_same s o l (greatest_waiting l.0 s.threads) (sym waits ∙ (sym (told known) ∙ number))))
