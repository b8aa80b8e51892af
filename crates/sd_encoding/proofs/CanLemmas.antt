-- What a change asks of a state it asks of each whose keys have the same order.
use Rattle.std.proofs.Common.{◌≡◌, ℕ, ◌+◌, ◌<◌, ◌^◌, false, length, sym, ap, ◌∙◌, subst}
use Rattle.std.specs.Prelude.{IsTrue}
use Rattle.sd_types.specs.declared.bodies.ThreadBody.{ThreadBody}
use Rattle.sd_types.specs.declared.numbers.CpuId.{CpuId}
use Rattle.sd_types.specs.declared.numbers.ChanId.{ChanId}
use Rattle.sd_types.specs.declared.numbers.LockId.{LockId}
use Rattle.sd_types.specs.declared.numbers.SetId.{SetId}
use Rattle.sd_types.specs.declared.numbers.ThreadId.{ThreadId}
use Rattle.sd_types.specs.declared.works.Work.{Work}
use Rattle.sd_types.specs.Scripts.{is_held}
use Rattle.sd_types.specs.Willed.{InheritsSoundly}
use Rattle.sd_state.specs.declared.states.CpuState.{CpuState}
use Rattle.sd_state.specs.declared.states.State.{State}
use Rattle.sd_state.specs.States.{cpu_of, thread_of}
use Rattle.sd_state.specs.Operations.{script_of}
use Rattle.sd_machine.specs.Needs.{CanJoin, CanTick, IsChan, RunsNobody, IsLock, RunsOn}
use Rattle.sd_store.specs.declared.changes.BodyChange.{BodyChange}
use Rattle.sd_store.specs.declared.changes.BodyChange.TheVariants.{Tick, FinishOp, Class, SendBack, Hold, LetGo, Inherit, Looped}
use Rattle.sd_store.specs.declared.spots.Destination.{Destination}
use Rattle.sd_store.specs.declared.spots.Destination.TheVariants as to
use Rattle.sd_store.specs.Bodies.{CanChange}
use Rattle.sd_store.specs.Keyless.{IsDestination}
use Rattle.sd_encoding.specs.Order.{IsSameOrder, key_at}
use Rattle.sd_encoding.proofs.AlikeLemmas.{body_same, cpu_alike, key_or_zero, place_alike, place_rekeyed, place_with}
use Rattle.sd_encoding.proofs.TellLemmas.{count_same, open_same, runner_same}

module _ (x s : State) (h : IsSameOrder x s) where
  pub tick_back : (w : Work) (c : CpuId) → CanTick w s c → CanTick w x c
  tick_back w c can = subst (λ m. m < w.limit) (sym (count_same x s h c.0)) can

  pub free_back : (c : CpuId) → RunsNobody s c → RunsNobody x c
  free_back c free = runner_same x s h c.0 ∙ free

  pub runs_back : (t : ThreadId) (c : CpuId) → RunsOn s t c → RunsOn x t c
  runs_back t c runs =
      place_rekeyed (thread_of s t.0).place (thread_of x t.0).place (sym (place_alike x s h.bare t.0)) ∙ ap (λ p. place_with p (key_or_zero (key_at (thread_of x t.0).place))) runs

  pub lock_back : (l : LockId) → IsLock s l → IsLock x l
  lock_back l can = subst (λ (z : State). l.0 < length z.locks) (sym h.bare) can

  pub chan_back : (k : ChanId) → IsChan s k → IsChan x k
  chan_back k can = subst (λ (z : State). k.0 < length z.counts) (sym h.bare) can

  pub destination_back : (at : Destination) → IsDestination s at → IsDestination x at
  destination_back (to.Turnstile l side) can = lock_back l can
  destination_back (to.SleepQueue k) can = chan_back k can
  destination_back (to.Queue d end) can = tt
  destination_back (to.RealTime p end) can = tt
  destination_back (to.Nap due) can = tt
  destination_back to.Nowhere can = tt

  pub join_back : (p : SetId) → CanJoin s p → CanJoin x p
  join_back p can = subst (λ cpus. length cpus < 64) (sym (open_same x s h p.0)) can

  pub bound_back : (d : CpuId) → (cpu_of s d.0).bound + 1 < 2 ^ 16 → (cpu_of x d.0).bound + 1 < 2 ^ 16
  bound_back d can = subst (λ (y : CpuState). y.bound + 1 < 2 ^ 16) (sym (cpu_alike x s h.bare d.0)) can

  body_back : (t : ℕ) → (thread_of s t).body ≡ (thread_of x t).body
  body_back t = sym (body_same x s h.bare t)

  pub change_back : (w : Work) (t : ThreadId) (change : BodyChange) → CanChange w t change s → CanChange w t change x
  change_back w t Tick can = subst (λ (b : ThreadBody). b.op < length (script_of w t.0)) (body_back t.0) can
  change_back w t FinishOp can = subst (λ (b : ThreadBody). b.op < length (script_of w t.0)) (body_back t.0) can
  change_back w t (Hold l) can = record {
    room = subst (λ (b : ThreadBody). length b.held.items < 8) (body_back t.0) can.room;
    apart = subst (λ (b : ThreadBody). is_held l b.held.items ≡ false) (body_back t.0) can.apart;
  }
  change_back w t (Inherit l number) can = record {
    sound = subst InheritsSoundly (body_back t.0) can.sound;
    held = subst (λ (b : ThreadBody). IsTrue (is_held l b.held.items)) (body_back t.0) can.held;
    below = can.below;
  }
  change_back w t (Class class) can = tt
  change_back w t SendBack can = tt
  change_back w t (LetGo l) can = tt
  change_back w t (Looped looped) can = tt
