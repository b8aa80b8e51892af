-- What an event needs of a state it needs of each whose keys have the same order; and where the one can be read, so can the other.
use Rattle.std.proofs.Common.{◌≡◌, ℕ, ◌+◌, ◌<◌, ◌≤◌, ◌^◌, true, length, ℤ, Option, Some, None, sym, ap, ◌∙◌, subst}
use Rattle.std.specs.Prelude.{IfSome, nat_lt}
use Rattle.std.specs.List.{list_all}
use Rattle.sd_types.specs.declared.bodies.ThreadBody.{ThreadBody}
use Rattle.sd_types.specs.declared.numbers.ChanId.{ChanId}
use Rattle.sd_types.specs.declared.numbers.CpuId.{CpuId}
use Rattle.sd_types.specs.declared.numbers.LockId.{LockId}
use Rattle.sd_types.specs.declared.numbers.SetId.{SetId}
use Rattle.sd_types.specs.declared.numbers.ThreadId.{ThreadId}
use Rattle.sd_types.specs.declared.events.BindAnswer.{BindAnswer}
use Rattle.sd_types.specs.declared.events.BindAnswer.TheVariants as bind
use Rattle.sd_types.specs.declared.events.Event.{Event}
use Rattle.sd_types.specs.declared.events.PrioAnswer.{PrioAnswer}
use Rattle.sd_types.specs.declared.events.PrioAnswer.TheVariants.{Changed, Refused}
use Rattle.sd_types.specs.declared.events.Put.{Put}
use Rattle.sd_types.specs.declared.scripts.Op.TheVariants as op
use Rattle.sd_types.specs.declared.works.Work.{Work}
use Rattle.sd_types.specs.Willed.{InheritsSoundly}
use Rattle.sd_state.specs.declared.states.CpuState.{CpuState}
use Rattle.sd_state.specs.declared.states.Place.{Place}
use Rattle.sd_state.specs.declared.states.Place.TheVariants.{Running, Queued, RealTime, Waiting, Asleep, Napping, Ended}
use Rattle.sd_state.specs.declared.states.State.{State}
use Rattle.sd_state.specs.States.{cpu_of, thread_of}
use Rattle.sd_state.specs.Operations.{op_of}
use Rattle.sd_machine.specs.Changes.{cpu_put}
use Rattle.sd_machine.specs.Needs.{CanAct, CanBeBound, CanBeChanged, CanBind, CanCount, CanFinish, CanInherit, CanNap, CanReceive, CanUnbind, IsBindPut, IsCpu, IsPrioPut, IsPut, IsPutIf, IsSet, IsThread, IsUnmoved, IsWoken, Need, Met, Needs, Runs, RunsThere, more_fits}
use Rattle.sd_machine.specs.Needs.Need.{Thread, Lock, Chan, Cpu, Set, SetOf, At, AtIf, Woken, PlaceOf, Acts, Stays, Nobody, Ticks, Naps, Holds, ReadsMore, Inherits, Receives, Ages, Counts, JoinsSet, IsChanged, IsBound}
use Rattle.sd_machine.proofs.NeedLemmas.{needs_met}
use Rattle.sd_machine.specs.Sleeping.{nap_ticks}
use Rattle.sd_machine.specs.Threads.{greatest_waiting, lock_of}
use Rattle.sd_invariants.specs.Laws.{IsFit}
use Rattle.sd_store.specs.declared.changes.BodyChange.TheVariants.{FinishOp, Hold, Inherit}
use Rattle.sd_encoding.specs.Order.{IsSameOrder, key_at}
use Rattle.sd_encoding.proofs.AlikeLemmas.{body_same, cpu_alike, cpus_many, key_or_zero, place_alike, place_rekeyed, place_with, threads_many}
use Rattle.sd_encoding.proofs.CanLemmas.{bound_back, chan_back, change_back, free_back, join_back, lock_back, runs_back, tick_back}
use Rattle.sd_encoding.proofs.TellLemmas.{count_of_same, count_same, greatest_same, lock_same, others_same}

pub turned : (x s : State) → IsSameOrder x s → IsSameOrder s x
turned x s h = record { bare = sym h.bare; order = λ a b. sym (h.order a b) }

if_some : {X : Type 0} (o : Option X) (P Q : X → Type 0) → ((y : X) → P y → Q y) → IfSome o P → IfSome o Q
if_some None P Q go can = tt
if_some (Some y) P Q go can = go y can

-- a thread that waits and stays where it is does so whatever its key
unmoved_of : (p : Place) (j : ℤ) (answer : PrioAnswer) → IsUnmoved (place_with p j) answer → IsUnmoved p answer
unmoved_of (Waiting l side k) j (Changed p at) can = can
unmoved_of (Waiting l side k) j (Refused denied) can = tt
unmoved_of (Running c) j answer can = tt
unmoved_of (Queued c k) j answer can = tt
unmoved_of (RealTime p k) j answer can = tt
unmoved_of (Asleep k key) j answer can = tt
unmoved_of (Napping c due) j answer can = tt
unmoved_of Ended j answer can = tt

module _ (x s : State) (h : IsSameOrder x s) where
  body : (t : ℕ) → (thread_of s t).body ≡ (thread_of x t).body
  body t = sym (body_same x s h.bare t)

  thread_back : (t : ThreadId) → IsThread s t → IsThread x t
  thread_back t can = subst (λ n. t.0 < n) (sym (threads_many x s h.bare)) can

  cpu_back : (d : CpuId) → IsCpu s d → IsCpu x d
  cpu_back d can = subst (λ n. d.0 < n) (sym (cpus_many x s h.bare)) can

  set_back : (p : SetId) → IsSet s p → IsSet x p
  set_back p can = subst (λ (z : State). p.0 < length z.open_cpus) (sym h.bare) can

  put_back : (at : Put) → IsPut s at → IsPut x at
  put_back at can = cpu_back (cpu_put at) can

  put_if_back : (at : Option Put) → IsPutIf s at → IsPutIf x at
  put_if_back at can = if_some at (λ p. (cpu_put p).0 < length s.cpus) (λ p. (cpu_put p).0 < length x.cpus) (λ p inside. put_back p inside) can

  woken_back : (u : Option (ThreadId × Put)) → IsWoken s u → IsWoken x u
  woken_back u can = record {
    thread = if_some u (λ v. v.0.0 < length s.threads) (λ v. v.0.0 < length x.threads) (λ v inside. thread_back v.0 inside) can.thread;
    put = if_some u (λ v. (cpu_put v.1).0 < length s.cpus) (λ v. (cpu_put v.1).0 < length x.cpus) (λ v inside. put_back v.1 inside) can.put;
  }

  runs_there_back : (t : ThreadId) → RunsThere s t → RunsThere x t
  runs_there_back t there = λ d is. cpu_back d (there d (runs_back s x (turned x s h) t d is))

  runner_back : (t : ThreadId) (c : CpuId) → Runs s t c → Runs x t c
  runner_back t c can = record { thread = thread_back t can.thread; place = runs_back x s h t c can.place }

  finish_back : (w : Work) (t : ThreadId) → CanFinish w s t → CanFinish w x t
  finish_back w t can = change_back x s h w t FinishOp can

  act_back : (w : Work) (t : ThreadId) (c : CpuId) → CanAct w s t c → CanAct w x t c
  act_back w t c can = record { thread = thread_back t can.thread; place = runs_back x s h t c can.place; op = finish_back w t can.op }

  nap_back : (w : Work) (t : ThreadId) (c : CpuId) → CanNap w s t c → CanNap w x t c
  nap_back w t c can =
      subst (λ n. n < 2 ^ 32) (sym (λ i. count_same x s h c.0 i + nap_ticks (op_of w t.0 (body_same x s h.bare t.0 i)))) can

  inherit_back : (w : Work) (o : ThreadId) (l : LockId) → CanInherit s o l (greatest_waiting l.0 s.threads) → CanInherit x o l (greatest_waiting l.0 x.threads)
  inherit_back w o l can = subst (λ n. CanInherit x o l n) (sym (greatest_same x s h l.0)) (change_back x s h w o (Inherit l (greatest_waiting l.0 s.threads)) can)

  more_back : (l : LockId) → more_fits (lock_of s l.0) ≡ true → more_fits (lock_of x l.0) ≡ true
  more_back l can = ap more_fits (lock_same x s h l.0) ∙ can

  receive_back : (w : Work) (u : ThreadId) (l : LockId) → CanReceive w s u l → CanReceive w x u l
  receive_back w u l can =
      let held = change_back x s h w u (Hold l) (record { room = can.room; apart = can.apart }) in
      record {
        thread = thread_back u can.thread;
        op = finish_back w u can.op;
        room = held.room;
        apart = held.apart;
        sound = subst InheritsSoundly (body u.0) can.sound;
        below = subst (λ (o : Option ℕ). IfSome o (λ n. n < 160)) (sym (others_same x s h l u.0)) can.below;
        more = more_back l can.more;
      }

  counts_back : (k : ChanId) → CanCount s k → CanCount x k
  counts_back k can = subst (λ n. n + 1 < 2 ^ 32) (sym (count_of_same x s h k.0)) can

  prio_put_back : (answer : PrioAnswer) → IsPrioPut s answer → IsPrioPut x answer
  prio_put_back (Changed p at) can = put_if_back at can
  prio_put_back (Refused denied) can = tt

  unmoved_back : (u : ThreadId) (answer : PrioAnswer) → IsUnmoved (thread_of s u.0).place answer → IsUnmoved (thread_of x u.0).place answer
  unmoved_back u answer can =
      let is = place_rekeyed (thread_of x u.0).place (thread_of s u.0).place (place_alike x s h.bare u.0) in
      unmoved_of (thread_of x u.0).place (key_or_zero (key_at (thread_of s u.0).place)) answer (subst (λ p. IsUnmoved p answer) is can)

  changed_back : (w : Work) (t u : ThreadId) (answer : PrioAnswer) → CanBeChanged w s t u answer → CanBeChanged w x t u answer
  changed_back w t u answer can = record {
    request = (can.request.0, subst (λ (b : ThreadBody). op_of w t.0 b ≡ Some (op.Prio u can.request.0)) (body t.0) can.request.1);
    thread = thread_back u can.thread;
    put = prio_put_back answer can.put;
    unmoved = unmoved_back u answer can.unmoved;
    running = runs_there_back u can.running;
  }

  bind_put_back : (answer : BindAnswer) → IsBindPut s answer → IsBindPut x answer
  bind_put_back (bind.Changed at) can = put_if_back at can
  bind_put_back bind.ESRCH can = tt
  bind_put_back bind.EINVAL can = tt
  bind_put_back bind.EPERM can = tt
  bind_put_back bind.EBUSY can = tt

  bind_back : (d : Option CpuId) (answer : BindAnswer) → CanBind s d answer → CanBind x d answer
  bind_back (Some d) (bind.Changed at) can = bound_back x s h d can
  bind_back (Some d) bind.ESRCH can = tt
  bind_back (Some d) bind.EINVAL can = tt
  bind_back (Some d) bind.EPERM can = tt
  bind_back (Some d) bind.EBUSY can = tt
  bind_back None answer can = tt

  one_bound_back : (b : CpuId) → 1 ≤ (cpu_of s b.0).bound → 1 ≤ (cpu_of x b.0).bound
  one_bound_back b can = subst (λ (y : CpuState). 1 ≤ y.bound) (sym (cpu_alike x s h.bare b.0)) can

  unbind_back : (u : ThreadId) (d : Option CpuId) (answer : BindAnswer) → CanUnbind s u d answer → CanUnbind x u d answer
  unbind_back u None (bind.Changed at) can =
      subst (λ (y : ThreadBody). IfSome y.bound (λ b. (b.0 < length x.cpus) × (1 ≤ (cpu_of x b.0).bound))) (body u.0)
      (if_some (thread_of s u.0).body.bound (λ b. (b.0 < length s.cpus) × (1 ≤ (cpu_of s b.0).bound)) (λ b. (b.0 < length x.cpus) × (1 ≤ (cpu_of x b.0).bound))
      (λ b both. (cpu_back b both.0, one_bound_back b both.1)) can)
  unbind_back u None bind.ESRCH can = tt
  unbind_back u None bind.EINVAL can = tt
  unbind_back u None bind.EPERM can = tt
  unbind_back u None bind.EBUSY can = tt
  unbind_back u (Some d) answer can = tt

  bound_at_back : (u : ThreadId) → IfSome (thread_of s u.0).body.bound (λ b. b.0 < length s.cpus) → IfSome (thread_of x u.0).body.bound (λ b. b.0 < length x.cpus)
  bound_at_back u can =
      subst (λ (y : ThreadBody). IfSome y.bound (λ b. b.0 < length x.cpus)) (body u.0)
      (if_some (thread_of s u.0).body.bound (λ b. b.0 < length s.cpus) (λ b. b.0 < length x.cpus) (λ b inside. cpu_back b inside) can)

  be_bound_back : (u : ThreadId) (d : Option CpuId) (answer : BindAnswer) → CanBeBound s u d answer → CanBeBound x u d answer
  be_bound_back u d answer can = record {
    thread = thread_back u can.thread;
    cpu = if_some d (λ e. e.0 < length s.cpus) (λ e. e.0 < length x.cpus) (λ e inside. cpu_back e inside) can.cpu;
    put = bind_put_back answer can.put;
    bound = bind_back d answer can.bound;
    unbound = unbind_back u d answer can.unbound;
    before = bound_at_back u can.before;
    running = runs_there_back u can.running;
  }

  need_back : (w : Work) (c : CpuId) (a : Need) → Met w s c a → Met w x c a
  need_back w c (Thread t) can = thread_back t can
  need_back w c (Lock l) can = lock_back x s h l can
  need_back w c (Chan k) can = chan_back x s h k can
  need_back w c (Cpu d) can = cpu_back d can
  need_back w c (Set p) can = set_back p can
  need_back w c (SetOf d) can = subst (λ (y : CpuState). y.set.0 < length x.open_cpus) (sym (cpu_alike x s h.bare d.0)) (set_back (cpu_of s d.0).set can)
  need_back w c (At at) can = put_back at can
  need_back w c (AtIf at) can = put_if_back at can
  need_back w c (Woken u) can = woken_back u can
  need_back w c (PlaceOf t) can = runs_there_back t can
  need_back w c (Acts t) can = act_back w t c can
  need_back w c (Stays t) can = runner_back t c can
  need_back w c Nobody can = free_back x s h c can
  need_back w c Ticks can = tick_back x s h w c can
  need_back w c (Naps t) can = nap_back w t c can
  need_back w c (Holds t l) can = change_back x s h w t (Hold l) can
  need_back w c (ReadsMore l) can = more_back l can
  need_back w c (Inherits o l) can = inherit_back w o l can
  need_back w c (Receives u l) can = receive_back w u l can
  need_back w c (Ages t) can = can
  need_back w c (Counts k) can = counts_back k can
  need_back w c (JoinsSet p) can = join_back x s h p can
  need_back w c (IsChanged t u answer) can = changed_back w t u answer can
  need_back w c (IsBound u d answer) can = be_bound_back u d answer can

  pub needs_back : (w : Work) (c : CpuId) (e : Event) → Needs w s c e → Needs w x c e
  needs_back w c e can = needs_met w s x c (λ a met. need_back w c a met) e can

  owner_back : (o : ThreadId) → o.0 < length s.threads → o.0 < length x.threads
  owner_back o inside = thread_back o inside

  pub fit_back : (w : Work) → IsFit w s → IsFit w x
  fit_back w fit = record {
    fits = record {
      threads = threads_many x s h.bare ∙ fit.fits.threads;
      locks = ap (λ (z : State). length z.locks) h.bare ∙ fit.fits.locks;
      cpus = cpus_many x s h.bare ∙ fit.fits.cpus;
      chans = ap (λ (z : State). length z.counts) h.bare ∙ fit.fits.chans;
      sets = ap (λ (z : State). length z.open_cpus) h.bare ∙ fit.fits.sets;
    };
    owners = λ l o is. owner_back o (fit.owners l o (sym (lock_same x s h l) ∙ is));
    willed = λ t. subst (λ (b : ThreadBody). list_all (λ n. nat_lt n.1 160) b.willed.items ≡ true) (body t) (fit.willed t);
    counts = λ k. subst (λ n. n + 1 < 2 ^ 32) (sym (count_of_same x s h k)) (fit.counts k);
  }
