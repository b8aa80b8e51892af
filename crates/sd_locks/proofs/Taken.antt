-- A thread that has taken a lock which it did not hold, and ended its operation, inherits from its own locks alone.
use Rattle.std.proofs.Common.{◌≡◌, ℕ, ◌<◌, false, length, [], ◌∷◌, ◌++◌, refl, ap, ◌∙◌, arith}
use Rattle.std.proofs.lemmas.List.{get_or-set_same, length-set}
use Rattle.std.specs.Prelude.{IsTrue}
use Rattle.sd_types.specs.declared.numbers.LockId.{LockId}
use Rattle.sd_types.specs.declared.works.Work.{Work}
use Rattle.sd_types.specs.Scripts.{is_held}
use Rattle.sd_types.specs.Willed.{InheritsSoundly, with_lock as with_held}
use Rattle.sd_types.proofs.WilledLemmas.{sound-taken, sound_is}
use Rattle.sd_state.specs.declared.states.State.{State}
use Rattle.sd_state.specs.declared.states.ThreadState.{ThreadState}
use Rattle.sd_state.specs.States.{no_thread, thread_of, with_thread}
use Rattle.sd_state.specs.Operations.{script_of, op_over}
use Rattle.sd_machine.specs.Changes.{finish_op, hold}
use Rattle.sd_dispatcher.proofs.Kept.{kept_op, inside}
use Rattle.sd_types.proofs.ScriptLemmas.{held_last}

pub held_inside : (w : Work) (s : State) (u : ℕ) (l : LockId) → (thread_of s u).body.op < length (script_of w u)
    → (thread_of (hold s u l) u).body.op < length (script_of w u)
unfolding hold
held_inside w s u l here = inside w s (hold s u l) u (kept_op s u u (record (thread_of s u) { body = with_held l (thread_of s u).body }) refl) here

thread_set : (s : State) (t : ℕ) (x : ThreadState) → t < length s.threads → thread_of (with_thread s t x) t ≡ x
thread_set s t x here = get_or-set_same s.threads t x no_thread here

taken_willed : (w : Work) (s : State) (l : LockId) (u : ℕ) → u < length s.threads
    → (thread_of (finish_op w (hold s u l) u) u).body.willed.items ≡ (thread_of s u).body.willed.items
unfolding finish_op hold
taken_willed w s l u here =
    let held : ThreadState = record (thread_of s u) { body = with_held l (thread_of s u).body } in
    let once : State = with_thread s u held in
    let many = length-set s.threads u held in
    let first : thread_of once u ≡ held = thread_set s u held here in
    let second = thread_set once u (record (thread_of once u) { body = op_over (script_of w u) (thread_of once u).body }) (omega (arith, many, here)) in
    ap (λ (x : ThreadState). x.body.willed.items) second ∙ ap (λ (x : ThreadState). x.body.willed.items) first

taken_locks : (w : Work) (s : State) (l : LockId) (u : ℕ) → u < length s.threads
    → (thread_of (finish_op w (hold s u l) u) u).body.held.items ≡ (thread_of s u).body.held.items ++ l ∷ []
unfolding finish_op hold
taken_locks w s l u here =
    let held : ThreadState = record (thread_of s u) { body = with_held l (thread_of s u).body } in
    let once : State = with_thread s u held in
    let many = length-set s.threads u held in
    let first : thread_of once u ≡ held = thread_set s u held here in
    let second = thread_set once u (record (thread_of once u) { body = op_over (script_of w u) (thread_of once u).body }) (omega (arith, many, here)) in
    ap (λ (x : ThreadState). x.body.held.items) second ∙ ap (λ (x : ThreadState). x.body.held.items) first

pub taken_sound : (w : Work) (s : State) (l : LockId) (u : ℕ) → u < length s.threads → InheritsSoundly (thread_of s u).body → is_held l (thread_of s u).body.held.items ≡ false
    → InheritsSoundly (thread_of (finish_op w (hold s u l) u) u).body
taken_sound w s l u here sound apart =
    sound_is (with_held l (thread_of s u).body) _ (taken_willed w s l u here) (taken_locks w s l u here) (sound-taken (thread_of s u).body l _ sound apart refl)

pub taken_held : (w : Work) (s : State) (l : LockId) (u : ℕ) → u < length s.threads → IsTrue (is_held l (thread_of (finish_op w (hold s u l) u) u).body.held.items)
taken_held w s l u here = ap (is_held l) (taken_locks w s l u here) ∙ held_last l (thread_of s u).body.held.items
