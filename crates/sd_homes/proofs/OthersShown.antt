-- The greatest effective priority of the waiters of a lock but one.
use Rattle.std.proofs.Common.{◌≡◌, ℕ, ◌<◌, ◌≤◌, Bool, true, false, ◌==◌, List, [], ◌∷◌, ◌++◌, length, set, slice_get, zero, suc, refl, sym, ap, ◌∙◌, subst, le_refl, inl, inr}
use Rattle.std.proofs.lemmas.Bool.{eqb-true, eqb-false, eq-eqb, cases_lt}
use Rattle.std.proofs.lemmas.List.{set_past}
use Rattle.sd_basics.proofs.Lists.{get_set, get_set_other}
use Rattle.sd_types.specs.declared.numbers.LockId.{LockId}
use Rattle.sd_types.specs.declared.numbers.Side.TheVariants.{Writer, Reader}
use Rattle.sd_boxq.specs.Order.{drop_id}
use Rattle.sd_turnstile.specs.Waiters.{highest}
use Rattle.sd_record.specs.Records.{ThreadRecord}
use Rattle.sd_state.specs.declared.states.Place.TheVariants.{Ended}
use Rattle.sd_state.specs.declared.states.ThreadState.{ThreadState}
use Rattle.sd_state.specs.declared.states.State.{State}
use Rattle.sd_state.specs.States.{thread_of, with_thread}
use Rattle.sd_machine.specs.Locking.{others_waiting}
use Rattle.sd_homes.specs.declared.list_id.ListId.{ListId}
use Rattle.sd_homes.specs.declared.list_id.ListId.TheVariants.{Waits}
use Rattle.sd_homes.specs.Standing.{id_of, rank_of, stands, look_of, without, with_one, Lists}
use Rattle.sd_homes.proofs.StandingLemmas.{out, into_beside, with_without}
use Rattle.sd_homes.proofs.WaitShown.{greatest_shown}
use Rattle.std.proofs.lemmas.Option.{slice_get_past}

-- ---- the threads of a state with another one

pub look-with_thread : (s : State) (t : ℕ) (y : ThreadState) → t < length s.threads → look_of (with_thread s t y) ≡ with_one t y (look_of s)
look-with_thread s t y h i u = by (u == t) refl i
  where
    by : (b : Bool) → (u == t) ≡ b → look_of (with_thread s t y) u ≡ with_one t y (look_of s) u
    by true e = let same = eqb-true u t e in rw e (ap (slice_get (set s.threads t y)) same ∙ get_set s.threads t y h)
    by false e = rw e (get_set_other s.threads t u y (λ q. eqb-false u t e (sym q)))

-- ---- where there is no such thread

without-beyond : (s : State) (t : ℕ) (y : ThreadState) → length s.threads ≤ t → without t (look_of s) ≡ look_of (with_thread s t y)
without-beyond s t y h i u = by (u == t) refl i
  where
    by : (b : Bool) → (u == t) ≡ b → without t (look_of s) u ≡ look_of (with_thread s t y) u
    by true e = let same = eqb-true u t e in rw e (sym (ap (λ xs. slice_get xs u) (set_past s.threads t y h) ∙ ap (slice_get s.threads) same ∙ slice_get_past s.threads t h))
    by false e = rw e (sym (ap (λ xs. slice_get xs u) (set_past s.threads t y h)))

-- ---- the list without one who now stands elsewhere
pub less_one : (n : ℕ) (s : State) (t : ℕ) (y : ThreadState) (sp : ListId) (rs : List ThreadRecord) → stands sp y ≡ false → Lists n sp rs (look_of s)
    → Lists n sp (drop_id id_of t rs) (look_of (with_thread s t y))
less_one n s t y sp rs off l = elim (cases_lt t (length s.threads)) [
  | inl inside ↦
      subst (λ look. Lists n sp (drop_id id_of t rs) look) (with_without t y (look_of s) ∙ sym (look-with_thread s t y inside))
      (into_beside n n sp (drop_id id_of t rs) (without t (look_of s)) t y (le_refl n) (rw (eq-eqb t t refl) refl) off (out n sp rs (look_of s) t l))
  | inr beyond ↦ subst (λ look. Lists n sp (drop_id id_of t rs) look) (without-beyond s t y beyond) (out n sp rs (look_of s) t l)
]

pub others_shown : (n : ℕ) (s : State) (l : LockId) (u : ℕ) (ws rs : List ThreadRecord) → Lists n (Waits l Writer) ws (look_of s) → Lists n (Waits l Reader) rs (look_of s)
    → others_waiting s l u ≡ highest rank_of (drop_id id_of u ws ++ drop_id id_of u rs)
others_shown n s l u ws rs a b =
    let y : ThreadState = record (thread_of s u) { place = Ended } in
    greatest_shown n (with_thread s u y) l (drop_id id_of u ws) (drop_id id_of u rs) (less_one n s u y (Waits l Writer) ws refl a) (less_one n s u y (Waits l Reader) rs refl b)
