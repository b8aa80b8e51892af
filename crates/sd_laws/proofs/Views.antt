-- What the tables of events say of the parts of the lock graph.
use Rattle.std.proofs.Common.{◌≡◌, ◌≢◌, ℕ, ◌<◌, true, false, length, get_or, set, List, Option, Some, None, refl, sym, ap, ◌∙◌, inl, inr}
use Rattle.std.specs.Prelude.{ℤ}
use Rattle.std.proofs.lemmas.Bool.{cases_eq, cases_Bool, eqb-true, false≢true}
use Rattle.sd_types.specs.declared.numbers.LockId.{LockId}
use Rattle.sd_types.specs.declared.numbers.Side.{Side}
use Rattle.sd_types.specs.declared.classes.ClassState.{ClassState}
use Rattle.sd_types.specs.Priorities.{base_of, greatest_willed}
use Rattle.sd_types.specs.Scripts.{is_lock}
use Rattle.sd_types.specs.Willed.{Numbers, changed_number}
use Rattle.sd_types.proofs.WilledLemmas.{number_for-with, number_for-without, number_for-with_other, number_for-without_other}
use Rattle.sd_machine.specs.Graphs as G
use Rattle.sd_state.proofs.KeyLemmas.{IsPut}
use Rattle.sd_machine.proofs.Moves.{IsSame, SameWilled, OthersWilled, put_cases}
use Rattle.sd_state.specs.declared.states.LockState.{LockState}
use Rattle.sd_state.specs.declared.states.LockState.TheVariants.{Free}
use Rattle.sd_state.specs.declared.states.Place.{Place}
use Rattle.sd_state.specs.declared.states.Place.TheVariants.{Waiting}
use Rattle.sd_state.specs.declared.states.State.{State}
use Rattle.sd_state.specs.States.{thread_of}
use Rattle.sd_machine.specs.Threads.{lock_of}
use Rattle.sd_machine.specs.LockGraph.{wait_of, owner_of, number_at, graph}
use Rattle.sd_machine.proofs.PlaceLemmas.{is_waiter}
use Rattle.sd_frames.specs.Moves.{Step}
use Rattle.sd_frames.specs.Moves.Step.{Stay, Go}
use Rattle.sd_invariants.proofs.AgreedLemmas.{locks_put}
use Rattle.sd_frames.proofs.HoldTable.{numbers_part, Goes}
use Rattle.sd_invariants.proofs.Movers.{MoverIs}
use Rattle.sd_frames.proofs.Parts.{same_item}
use Rattle.sd_frames.proofs.PlaceTable.{Stepped}
use Rattle.sd_invariants.proofs.ScriptLemmas.{StepAway}
use Rattle.sd_frames.proofs.Words.{Same}

-- Who waits.

pub no_wait : (p : Place) → is_waiter p ≡ false → wait_of p ≡ None
no_wait (Waiting l side k) e = cc
no_wait p e = refl

pub wait_is : (p : Place) (v : G.Wait) → wait_of p ≡ Some v → is_waiter p ≡ true
wait_is (Waiting l side k) v e = refl
wait_is p v e = cc

pub away_waits : (p : Place) (v : G.Wait) → is_waiter p ≡ false → wait_of p ≡ Some v → ⊥
away_waits p v away is = false≢true (sym away ∙ wait_is p v is)

-- where the thread that moves waits neither before nor after
pub quiet_waits : (step : Step) (s r : State) → Stepped step s r → StepAway step → MoverIs s step → IsSame (graph s).waits (graph r).waits
quiet_waits Stay s r a away is = λ u. ap wait_of (a u)
quiet_waits (Go t p) s r a away is = λ u. elim (put_cases t p _ _ a u) [
  | inl me ↦ ap wait_of me.1 ∙ no_wait p away ∙ sym (ap (λ v. wait_of (thread_of s v).place) me.0 ∙ no_wait (thread_of s t).place is.away)
  | inr other ↦ ap wait_of other.1
]

-- where it waits no more
pub leaves_waits : (t : ℕ) (p : Place) (s r : State) → Stepped (Go t p) s r → is_waiter p ≡ false → IsPut t None (graph s).waits (graph r).waits
leaves_waits t p s r a away = record { at = ap wait_of a.at ∙ no_wait p away; others = λ u other. ap wait_of (a.others u other) }

-- where it comes to wait
pub comes_waits : (t : ℕ) (l : LockId) (side : Side) (k : ℤ) (s r : State) → Stepped (Go t (Waiting l side k)) s r → IsPut t (Some (record { lock = l.0; key = k })) (graph s).waits (graph r).waits
comes_waits t l side k s r a = record { at = ap wait_of a.at; others = λ u other. ap wait_of (a.others u other) }

-- Who owns a lock.

pub same_owners : (s r : State) → r.locks ≡ s.locks → IsSame (graph s).owner (graph r).owner
same_owners s r e = λ l. ap (λ (xs : List LockState). owner_of (get_or xs l Free)) e

pub put_owners : (s r : State) (l : ℕ) (x : LockState) → l < length s.locks → r.locks ≡ set s.locks l x → IsPut l (owner_of x) (graph s).owner (graph r).owner
put_owners s r l x here e =
    let a = locks_put s r l x here (record { are = e }) in
    record { at = ap owner_of a.at; others = λ m other. ap owner_of (a.others m other) }

pub kept_owners : (s r : State) (l : ℕ) (x : LockState) → r.locks ≡ set s.locks l x → owner_of x ≡ owner_of (lock_of s l) → IsSame (graph s).owner (graph r).owner
kept_owners s r l x e same = λ m. ap (λ (xs : List LockState). owner_of (get_or xs m Free)) e ∙ same_item owner_of s.locks Free l x same m

-- Numbers.

changed_at : (l : LockId) (o : Option ℕ) (ws : Numbers) → number_at (changed_number l o ws) l.0 ≡ o
changed_at l None ws = number_for-without ws l
changed_at l (Some n) ws = number_for-with ws l n

changed_other : (l : LockId) (o : Option ℕ) (ws : Numbers) (m : ℕ) → m ≢ l.0 → number_at (changed_number l o ws) m ≡ number_at ws m
changed_other l o ws m other = by o
  where
    apart : is_lock l (record { 0 = m }) ≡ false
    apart = elim (cases_Bool (is_lock l (record { 0 = m }))) [ inl is ↦ absurd (other (sym (eqb-true l.0 m is))) | inr not ↦ not ]

    by : (o : Option ℕ) → number_at (changed_number l o ws) m ≡ number_at ws m
    by None = number_for-without_other ws l (record { 0 = m }) apart
    by (Some n) = number_for-with_other ws l (record { 0 = m }) n apart

pub same_willed : (s r : State) → Same numbers_part s r → SameWilled (graph s) (graph r)
same_willed s r a = λ o m. ap (λ (ws : Numbers). number_at ws m) (a.each o)

module _ (s r : State) (t : ℕ) (l : LockId) (o : Option ℕ) (a : Goes numbers_part s r t (changed_number l o (thread_of s t).body.willed.items)) where
  pub its_willed : (graph r).willed t l.0 ≡ o
  its_willed = ap (λ (ws : Numbers). number_at ws l.0) a.put.at ∙ changed_at l o (thread_of s t).body.willed.items

  pub other_willed : OthersWilled (graph s) (graph r) t l.0
  other_willed = λ u m other. elim (cases_eq u t) [
    | inl me ↦
        ap (λ v. number_at (thread_of r v).body.willed.items m) me ∙ ap (λ (ws : Numbers). number_at ws m) a.put.at
        ∙ changed_other l o (thread_of s t).body.willed.items m (other me) ∙ ap (λ v. number_at (thread_of s v).body.willed.items m) (sym me)
    | inr him ↦ ap (λ (ws : Numbers). number_at ws m) (a.put.others u him)
  ]

-- the effective priority goes with the class and the numbers
pub same_eff : (s r : State) (u : ℕ) → (thread_of r u).body.class ≡ (thread_of s u).body.class → (thread_of r u).body.willed.items ≡ (thread_of s u).body.willed.items → (graph r).eff u ≡ (graph s).eff u
same_eff s r u class numbers =
    ap (λ (k : ClassState). greatest_willed (base_of k) (thread_of r u).body.willed.items) class
    ∙ ap (λ (ws : Numbers). greatest_willed (base_of (thread_of s u).body.class) ws) numbers
