-- That a walk has come back to the owner stays so, and is noted where it is new.
use Rattle.std.proofs.Common.{◌≡◌, ℕ, zero, suc, Bool, true, false, ◌||◌, List, [], ◌∷◌, Option, refl, sym, ap, ◌∙◌, subst}
use Rattle.std.specs.Prelude.{slice_set}
use Rattle.sd_basics.proofs.Truths.{or_always}
use Rattle.sd_types.specs.Willed.{changed_number, number_for, with_willed}
use Rattle.sd_types.specs.declared.numbers.CpuId.{CpuId}
use Rattle.sd_types.specs.declared.numbers.LockId.{LockId}
use Rattle.sd_types.specs.declared.numbers.ThreadId.{ThreadId}
use Rattle.sd_state.specs.declared.states.State.{State}
use Rattle.sd_state.specs.declared.states.ThreadState.{ThreadState}
use Rattle.sd_state.specs.States.{cpu_of, thread_of}
use Rattle.sd_machine.specs.Changes.{set_duty, set_looped, set_number}
use Rattle.sd_machine.specs.Needs.{CanInherit}
use Rattle.sd_machine.specs.Threads.{greatest_waiting}
use Rattle.sd_machine.specs.Walking.{is_back, walked}
use Rattle.sd_store.specs.Walks.{walk_gone_on}
use Rattle.sd_store.proofs.TickLemmas.{read}

abbrev pub numbered : LockId → Option ℕ → ThreadState → ThreadState
numbered l n x = record x { body = with_willed (changed_number l n x.body.willed.items) x.body }

abbrev pub looping : Bool → ThreadState → ThreadState
looping b x = record x { body = record x.body { looped = b } }

abbrev pub change : (ThreadState → ThreadState) → List ThreadState → ℕ → List ThreadState
change f xs t = slice_set xs t (f (read xs t))

-- a thread that is as looped as it was
as_it_was : (l : LockId) (n : Option ℕ) (xs : List ThreadState) (t : ℕ)
    → change (looping ((read xs t).body.looped || false)) (change (numbered l n) xs t) t ≡ change (numbered l n) xs t
as_it_was l n [] t = refl
as_it_was l n (x ∷ xs) zero = by x.body.looped refl
  where
    by : (b : Bool) → x.body.looped ≡ b → change (looping (x.body.looped || false)) (change (numbered l n) (x ∷ xs) zero) zero ≡ change (numbered l n) (x ∷ xs) zero
    by true e = rw e refl
    by false e = rw e refl
as_it_was l n (x ∷ xs) (suc t) = ap (λ (ys : List ThreadState). x ∷ ys) (as_it_was l n xs t)

-- what the owner can inherit it still can when the walk has gone on, and what it inherited it still does
pub gone_can : (s : State) (c : CpuId) (l : LockId) (o : ThreadId) (had number : Option ℕ)
    → CanInherit s o l (greatest_waiting l.0 s.threads) × (had ≡ number_for l (thread_of s o.0).body.willed.items) × (number ≡ greatest_waiting l.0 s.threads)
    → CanInherit (walk_gone_on s c o) o l number × (had ≡ number_for l (thread_of (walk_gone_on s c o) o.0).body.willed.items)
unfolding set_duty walk_gone_on
gone_can s c l o had number can =
    (subst (λ (m : Option ℕ). CanInherit (walk_gone_on s c o) o l m) (sym can.2) (record { sound = can.0.sound; held = can.0.held; below = can.0.below }), can.1)

pub walked_on : (s : State) (c : CpuId) (l : LockId) (o : ThreadId) → is_back (cpu_of s c.0).duty o (thread_of s o.0).place ≡ false
    → set_number (walk_gone_on s c o) o.0 l (greatest_waiting l.0 s.threads) ≡ walked s c l o
unfolding set_duty set_looped set_number walk_gone_on
walked_on s c l o onward =
    let n = greatest_waiting l.0 s.threads in
    ap (λ (xs : List ThreadState). record (walk_gone_on s c o) { threads = xs })
    (sym (as_it_was l n s.threads o.0) ∙ ap (λ (b : Bool). change (looping ((thread_of s o.0).body.looped || b)) (change (numbered l n) s.threads o.0) o.0) (sym onward))

pub walked_back : (s : State) (c : CpuId) (l : LockId) (o : ThreadId) → is_back (cpu_of s c.0).duty o (thread_of s o.0).place ≡ true
    → set_looped (set_number (walk_gone_on s c o) o.0 l (greatest_waiting l.0 s.threads)) o.0 true ≡ walked s c l o
unfolding set_duty set_looped set_number walk_gone_on
walked_back s c l o came =
    let n = greatest_waiting l.0 s.threads in
    ap (λ (b : Bool). record (walk_gone_on s c o) { threads = change (looping b) (change (numbered l n) s.threads o.0) o.0 })
    (sym (or_always (thread_of s o.0).body.looped) ∙ ap (λ (b : Bool). (thread_of s o.0).body.looped || b) (sym came))
