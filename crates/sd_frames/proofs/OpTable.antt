-- Whose operation each event ends.
use Rattle.std.proofs.Common.{◌≡◌, ℕ, ◌+◌, ◌-◌, ◌<◌, Bool, true, false, List, [], ◌∷◌, length, Option, Some, None, refl, ap, sym, subst, ◌⊎◌, inl, inr}
use Rattle.std.specs.Prelude.{⊤, option_map}
use Rattle.sd_state.proofs.KeyLemmas.{IsPut}
use Rattle.sd_machine.proofs.ShapeLemmas.{IsShaped, deed_shape, then_shape, lock_shape, hold_shape}
use Rattle.sd_frames.proofs.Parts.{same_item, put_item, put_same, same_put, put_is}
use Rattle.sd_frames.proofs.Words.{all_same, then_same, lock_same, set_duty_same, Same, of_threads}
use Rattle.sd_frames.proofs.Made.{Kind, kinds, Over, Ran, Numbered}
use Rattle.sd_frames.proofs.ThreadParts.{Leaves, same_keeps, deed_same, deeds_same}
use Rattle.std.specs.List.{list_all}
use Rattle.sd_frames.proofs.HoldTable.{there}
use Rattle.sd_types.specs.declared.numbers.CpuId.{CpuId}
use Rattle.sd_types.specs.declared.numbers.LockId.{LockId}
use Rattle.sd_types.specs.declared.bodies.ThreadBody.{ThreadBody}
use Rattle.sd_types.specs.declared.events.Duty.{Duty}
use Rattle.sd_types.specs.declared.events.Duty.TheVariants as duty
use Rattle.sd_types.specs.declared.events.Event.{Event}
use Rattle.sd_types.specs.declared.events.Event.TheVariants.{Tick}
use Rattle.sd_types.specs.declared.events.Put.{Put}
use Rattle.sd_types.specs.declared.works.Work.{Work}
use Rattle.std.specs.Prelude.{if◌then◌else◌, nat_le}
use Rattle.sd_state.specs.declared.states.LockState.{LockState}
use Rattle.sd_state.specs.declared.states.LockState.TheVariants.{Owned}
use Rattle.sd_state.specs.declared.states.ThreadState.{ThreadState}
use Rattle.sd_state.specs.declared.states.State.{State}
use Rattle.sd_state.specs.States.{no_thread, thread_of, cpu_of}
use Rattle.sd_state.specs.Operations.{script_of, op_over}
use Rattle.sd_machine.specs.Threads.{thread_id, lock_of, with_lock}
use Rattle.sd_machine.specs.Changes.{with_body, finish_op, run_tick, hold, set_number, set_duty}
use Rattle.sd_machine.specs.Locking.{others_waiting, one_reader_more, granted_to_writer, granted_to_reader, granted}
use Rattle.sd_machine.specs.Events.{drop_ageing, effect, after}
use Rattle.sd_machine.specs.Deeds.{Deed, RunsTick, EndsOp, EndsDuty, HoldsLock, WakesUp, GrantsLock, did, all_did, deeds, first, at_most_one}
use Rattle.sd_machine.proofs.DeedLemmas.{effect_did, none_first, one_first}
use Rattle.std.proofs.lemmas.Option.{same_Some}

abbrev pub op_part : ThreadState → ℕ
op_part x = x.body.op

-- the kinds of changes that end no operation, nor a tick of one
abbrev leaves_op : Kind → Bool
leaves_op Over = false
leaves_op Ran = false
leaves_op _ = true

op_left : (k : Kind) → leaves_op k ≡ true → Leaves op_part k
op_left Over is = cc
op_left Ran is = cc
op_left _ is = λ x y. refl

op_deeds : (w : Work) (n : ℕ) (c : CpuId) (s : State) (ds : List Deed) → list_all (λ d. list_all leaves_op (kinds d)) ds ≡ true → Same op_part s (all_did w n c s ds)
op_deeds w n c s ds is = deeds_same op_part leaves_op op_left w n c s ds is

-- the operation of thread t is over, and no other's
pub record Finished (s r : State) (t : ℕ) : Type 0 where
  pub ops : IsPut t ((thread_of s t).body.op + 1) (of_threads op_part s) (of_threads op_part r)

same_ended : (s r q : State) (t : ℕ) → Same op_part s r → Finished r q t → Finished s q t
same_ended s r q t a b = record { ops = put_is t _ _ (same_put t _ a.each b.ops) (ap (λ m. m + 1) (a.each t)) }

ended_same : (s r q : State) (t : ℕ) → Finished s r t → Same op_part r q → Finished s q t
ended_same s r q t a b = record { ops = put_same t _ a.ops b.each }

finish_ended : (w : Work) (s : State) (t : ℕ) → t < length s.threads → Finished s (finish_op w s t) t
unfolding finish_op
finish_ended w s t here = record { ops = put_item op_part s.threads no_thread t (record (thread_of s t) { body = op_over (script_of w t) (thread_of s t).body }) here }

body_same : (s : State) (t : ℕ) (b : ThreadBody) → b.op ≡ (thread_of s t).body.op → Same op_part s (with_body s t b)
body_same s t b same = record { each = same_item op_part s.threads no_thread t (record (thread_of s t) { body = b }) same }

-- after some words the operation is over
later : (w : Work) (s r : State) (t : ℕ) → Same op_part s r → IsShaped s r → t < length s.threads → Finished s (finish_op w r t) t
later w s r t a shape here = same_ended s r _ t a (finish_ended w r t (there s r t shape here))

-- who has taken a lock
taken_ended : (w : Work) (s : State) (n : ℕ) (c : CpuId) (l : LockId) (x : LockState) (u : ℕ) → u < length s.threads → Finished s (finish_op w (hold (with_lock s l.0 x) u l) u) u
taken_ended w s n c l x u here =
    later w s (hold (with_lock s l.0 x) u l) u (then_same op_part s _ _ (lock_same op_part s l.0 x) (op_deeds w n c (with_lock s l.0 x) (HoldsLock u l ∷ []) refl)) (then_shape s _ _ (lock_shape s l.0 x) (hold_shape _ u l)) here

granted_to_writer_ended : (w : Work) (s : State) (n : ℕ) (c : CpuId) (l : LockId) (u : ℕ) (at : Put) → u < length s.threads → Finished s (granted_to_writer w s n c l u at) u
unfolding granted_to_writer
granted_to_writer_ended w s n c l u at here =
    let r : State = finish_op w (hold (with_lock s l.0 (Owned (thread_id u))) u l) u in
    ended_same s r _ u (taken_ended w s n c l (Owned (thread_id u)) u here)
    (then_same op_part r (set_number r u l (others_waiting s l u)) _ (same_keeps op_part w Numbered (op_left Numbered refl) r u tt l _) (op_deeds w n c (set_number r u l (others_waiting s l u)) (WakesUp u at ∷ EndsDuty ∷ []) refl))

granted_to_reader_ended : (w : Work) (s : State) (n : ℕ) (c : CpuId) (l : LockId) (u : ℕ) (at : Put) → u < length s.threads → Finished s (granted_to_reader w s n l u at) u
unfolding granted_to_reader
granted_to_reader_ended w s n c l u at here = ended_same s (finish_op w (hold (with_lock s l.0 (one_reader_more (lock_of s l.0))) u l) u) _ u (taken_ended w s n c l _ u here) (op_deeds w n c _ (WakesUp u at ∷ []) refl)

granted_ended : (w : Work) (s : State) (n : ℕ) (c : CpuId) (l : LockId) (u : ℕ) (at : Put) (d : Duty) → u < length s.threads → Finished s (granted w s n c l u at d) u
granted_ended w s n c l u at (duty.GrantWriter m) here = granted_to_writer_ended w s n c l u at here
granted_ended w s n c l u at _ here = granted_to_reader_ended w s n c l u at here

-- a tick ends the operation, or not
run_tick_op : (w : Work) (s : State) (t : ℕ) → t < length s.threads → Same op_part s (run_tick w s t) ⊎ Finished s (run_tick w s t) t
unfolding run_tick
run_tick_op w s t here = by (nat_le (thread_of s t).body.run_left 1)
  where
    by : (b : Bool) → Same op_part s (with_body s t (if b then op_over (script_of w t) (thread_of s t).body else record (thread_of s t).body { run_left = (thread_of s t).body.run_left - 1 }))
        ⊎ Finished s (with_body s t (if b then op_over (script_of w t) (thread_of s t).body else record (thread_of s t).body { run_left = (thread_of s t).body.run_left - 1 })) t
    by true = inr (record { ops = put_item op_part s.threads no_thread t (record (thread_of s t) { body = op_over (script_of w t) (thread_of s t).body }) here })
    by false = inl (record { each = same_item op_part s.threads no_thread t (record (thread_of s t) { body = record (thread_of s t).body { run_left = (thread_of s t).body.run_left - 1 } }) refl })

-- Each deed: whose operation it ends, for sure or maybe, as a tick does.

pub data Ending : Type 0 where
  Sure : ℕ → Ending
  Maybe : ℕ → Ending

abbrev pub whose : Ending → ℕ
whose (Sure t) = t
whose (Maybe t) = t

abbrev pub ends : Deed → Option Ending
ends (RunsTick t) = Some (Maybe t)
ends (EndsOp t) = Some (Sure t)
ends (GrantsLock l u at) = Some (Sure u)
ends _ = None

abbrev pub ender : Event → Option ℕ
ender e = option_map whose (first ends (deeds e))

abbrev pub Ended : State → State → Ending → Type 0
Ended s r (Sure t) = Finished s r t
Ended s r (Maybe t) = Same op_part s r ⊎ Finished s r t

-- the operation of a thread is over, or of none
abbrev pub OpsBy : State → State → Option ℕ → Type 0
OpsBy s r None = Same op_part s r
OpsBy s r (Some t) = Finished s r t

abbrev pub OpsOf : State → State → Option Ending → Type 0
OpsOf s r None = Same op_part s r
OpsOf s r (Some x) = Ended s r x

abbrev pub OpsGo : State → State → Event → Type 0
OpsGo s r e = OpsOf s r (first ends (deeds e))

abbrev pub IsEnderThere : State → Option ℕ → Type 0
IsEnderThere s None = ⊤
IsEnderThere s (Some t) = t < length s.threads

same_before : (s r q : State) (x : Ending) → Same op_part s r → Ended r q x → Ended s q x
same_before s r q (Sure t) a b = same_ended s r q t a b
same_before s r q (Maybe t) a (inl b) = inl (then_same op_part s r q a b)
same_before s r q (Maybe t) a (inr b) = inr (same_ended s r q t a b)

same_behind : (s r q : State) (x : Ending) → Ended s r x → Same op_part r q → Ended s q x
same_behind s r q (Sure t) a b = ended_same s r q t a b
same_behind s r q (Maybe t) (inl a) b = inl (then_same op_part s r q a b)
same_behind s r q (Maybe t) (inr a) b = inr (ended_same s r q t a b)

module _ (w : Work) (n : ℕ) (c : CpuId) where
  deed_ends_none : (s : State) (d : Deed) → ends d ≡ None → Same op_part s (did w n c s d)
  deed_ends_none s (RunsTick t) quiet = cc
  deed_ends_none s (EndsOp t) quiet = cc
  deed_ends_none s (GrantsLock l u at) quiet = cc
  deed_ends_none s d quiet = deed_same op_part leaves_op op_left w n c s d refl

  does_end : (s : State) (d : Deed) (x : Ending) → ends d ≡ Some x → whose x < length s.threads → Ended s (did w n c s d) x
  does_end s (RunsTick t) x is here = subst (λ y. whose y < length s.threads → Ended s (run_tick w s t) y) (same_Some (Maybe t) x is) (run_tick_op w s t) here
  does_end s (EndsOp t) x is here = subst (λ y. whose y < length s.threads → Ended s (finish_op w s t) y) (same_Some (Sure t) x is) (finish_ended w s t) here
  does_end s (GrantsLock l u at) x is here =
      subst (λ y. whose y < length s.threads → Ended s (granted w s n c l u at (cpu_of s c.0).duty) y) (same_Some (Sure u) x is) (granted_ended w s n c l u at (cpu_of s c.0).duty) here
  does_end s d x is here = cc

  still_there : (s : State) (d : Deed) (x : Ending) → whose x < length s.threads → whose x < length (did w n c s d).threads
  still_there s d x here = there s (did w n c s d) (whose x) (deed_shape w n c s d) here

-- no event ends two
ends_one : (e : Event) → at_most_one ends (deeds e) ≡ true
ends_one (Tick t) = refl
ends_one _ = refl

effect_ops : (w : Work) (s : State) (n : ℕ) (c : CpuId) (e : Event) → IsEnderThere s (ender e) → OpsGo s (effect w s n c e) e
effect_ops w s n c e here = subst (λ r. OpsGo s r e) (sym (effect_did w s n c e)) (by (first ends (deeds e)) refl here)
  where
    by : (o : Option Ending) → first ends (deeds e) ≡ o → IsEnderThere s (option_map whose o) → OpsOf s (all_did w n c s (deeds e)) o
    by None none here =
        none_first w n c ends (all_same op_part) (then_same op_part) same_before same_behind {Fit = λ r x. whose x < length r.threads} (still_there w n c) (deed_ends_none w n c) (does_end w n c) s (deeds e) (ends_one e) none
    by (Some x) some here =
        one_first w n c ends (all_same op_part) (then_same op_part) same_before same_behind {Fit = λ r x. whose x < length r.threads} (still_there w n c) (deed_ends_none w n c) (does_end w n c) s (deeds e) x (ends_one e) some here

drop_op : (s : State) (c : ℕ) (e : Event) → Same op_part s (drop_ageing s c e)
unfolding drop_ageing
drop_op s c e = set_duty_same op_part s c _

pub ender_there : (s : State) (c : ℕ) (e : Event) (o : Option ℕ) → IsEnderThere s o → IsEnderThere (drop_ageing s c e) o
unfolding drop_ageing set_duty
ender_there s c e None here = tt
ender_there s c e (Some t) here = here

of_after : (s r q : State) (o : Option Ending) → Same op_part s r → OpsOf r q o → OpsOf s q o
of_after s r q None a b = then_same op_part s r q a b
of_after s r q (Some x) a b = same_before s r q x a b

-- whose operation each event ends
pub after_ops : (w : Work) (s : State) (n : ℕ) (c : CpuId) (e : Event) → IsEnderThere s (ender e) → OpsGo s (after w s n c e) e
unfolding after
after_ops w s n c e here = of_after s (drop_ageing s c.0 e) _ (first ends (deeds e)) (drop_op s c.0 e) (effect_ops w _ n c e (ender_there s c.0 e (ender e) here))
