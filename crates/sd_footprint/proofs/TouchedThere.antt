-- What an event touches is there, since the event has what it needs of its state.
use Rattle.std.proofs.Common.{◌≡◌, ℕ, ◌<◌, length, Option, Some, None, refl}
use Rattle.std.specs.Prelude.{IfSome}
use Rattle.sd_types.specs.declared.events.BindAnswer.{BindAnswer}
use Rattle.sd_types.specs.declared.events.BindAnswer.TheVariants as bind
use Rattle.sd_types.specs.declared.events.Event.{Event}
use Rattle.sd_types.specs.declared.events.Event.TheVariants.{Tick, Spin, Idle, Dispatch, Steal, Preempt, Away, Yield, Done, Nap, Napend, Wake, Wakeall, Rouse, Enter, Read, Write, Will, End, Exit, Unblock, Grant, Passed, Age, Prio, CvWait, SemaP, SemaVWake, SemaVCount, Assign, Move, Joined, Bind}
use Rattle.sd_types.specs.declared.events.Hints.{Hints}
use Rattle.sd_types.specs.declared.events.PrioAnswer.{PrioAnswer}
use Rattle.sd_types.specs.declared.events.PrioAnswer.TheVariants.{Changed, Refused}
use Rattle.sd_types.specs.declared.events.Put.{Put}
use Rattle.sd_types.specs.declared.events.Put.TheVariants.{Cpu, RealTime}
use Rattle.sd_types.specs.declared.numbers.CpuId.{CpuId}
use Rattle.sd_types.specs.declared.numbers.ThreadId.{ThreadId}
use Rattle.sd_types.specs.declared.works.Work.{Work}
use Rattle.sd_state.specs.declared.states.Place.{Place}
use Rattle.sd_state.specs.declared.states.Place.TheVariants.{Running}
use Rattle.sd_state.specs.declared.states.State.{State}
use Rattle.sd_state.specs.States.{thread_of}
use Rattle.sd_machine.specs.Needs.{CanBeBound, IsPrioPut, IsPut, IsPutIf, IsWoken, Needs, RunsThere}
use Rattle.sd_machine.specs.Runs.{IsReached}
use Rattle.sd_footprint.specs.There.{PartsAreThere}
use Rattle.sd_footprint.proofs.LooksThere.{needed_there, next_there, reads_there}
use Rattle.sd_footprint.proofs.ThereLemmas.{AllThere, IsKnown, chain_there, cpu_inside, known_reached, one_of_chains, ready_there, sleepers_there, there_each, there_join, thread_set}
use Rattle.sd_dispatcher.specs.Touched.{leaving_parts, put_parts_if, reordered_parts}
use Rattle.sd_priocntl.specs.Touched.{prio_parts}
use Rattle.sd_sleep.specs.Touched.{woken_parts}
use Rattle.sd_invariants.proofs.Range.{needs_reached}
use Rattle.sd_priocntl.specs.SetsTouched.{bind_parts, rebound_parts, runs_parts}
use Rattle.sd_step.specs.Needed.{needed, next_parts, reads_parts}
use Rattle.sd_step.specs.Touched.{after_parts, touched}
use Rattle.sd_store.specs.Parts.{bound_parts, put_parts}

module _ (w : Work) (s : State) (known : IsKnown w s) (c : CpuId) (here : c.0 < length s.cpus) where
  put_there : (t : ThreadId) (at : Put) → t.0 < length s.threads → IsPut s at → AllThere s c (put_parts w t at)
  put_there t (Cpu x) thread there = (thread, (there, tt))
  put_there t (RealTime x) thread there = (thread, (there, (thread_set w s known t.0, tt)))

  put_if_there : (t : ThreadId) (at : Option Put) → t.0 < length s.threads → IsPutIf s at → AllThere s c (put_parts_if w t at)
  put_if_there t None thread there = tt
  put_if_there t (Some at) thread there = put_there t at thread there

  woken_there : (u : Option (ThreadId × Put)) → IsWoken s u → AllThere s c (woken_parts w u)
  woken_there None is = tt
  woken_there (Some u) is = put_there u.0 u.1 is.thread is.put

  leaving_there : (t : ThreadId) → t.0 < length s.threads → AllThere s c (leaving_parts w t c)
  leaving_there t thread = (thread, (refl, (here, (thread_set w s known t.0, tt))))

  reordered_there : (u : ThreadId) (at : Option Put) (place : Place) → (thread_of s u.0).place ≡ place → u.0 < length s.threads → IsPutIf s at → RunsThere s u
      → AllThere s c (reordered_parts w s u at place)
  reordered_there u at (Running d) is thread put runs = (thread, ready_there w s known c d (runs d is))
  reordered_there u at _ is thread put runs = (thread, put_if_there u at thread put)

  prio_there : (u : ThreadId) (answer : PrioAnswer) → u.0 < length s.threads → IsPrioPut s answer → RunsThere s u → AllThere s c (prio_parts w s c u answer)
  prio_there u (Changed p at) thread put runs = (refl, (thread, reordered_there u at (thread_of s u.0).place refl thread put runs))
  prio_there u (Refused denied) thread put runs = tt

  bound_there : (d : Option CpuId) → IfSome d (λ b. b.0 < length s.cpus) → AllThere s c (bound_parts d)
  bound_there None there = tt
  bound_there (Some d) there = (there, tt)

  runs_there : (u : ThreadId) (place : Place) → (thread_of s u.0).place ≡ place → RunsThere s u → AllThere s c (runs_parts place)
  runs_there u (Running d) is runs = (runs d is, tt)
  runs_there u _ is runs = tt

  rebound_there : (u : ThreadId) (d : Option CpuId) (answer : BindAnswer) → CanBeBound s u d answer → AllThere s c (rebound_parts s u d)
  rebound_there u None answer can = bound_there (thread_of s u.0).body.bound can.before
  rebound_there u (Some d) answer can = (can.cpu, runs_there u (thread_of s u.0).place refl can.running)

  bind_there : (u : ThreadId) (d : Option CpuId) (answer : BindAnswer) → CanBeBound s u d answer → AllThere s c (bind_parts w s u d answer)
  bind_there u d (bind.Changed at) can =
      (can.thread, there_join s c (rebound_parts s u d) (put_parts_if w u at) (rebound_there u d (bind.Changed at) can) (put_if_there u at can.thread can.put))
  bind_there u d _ can = tt

  touched_there : (e : Event) → Needs w s c e → AllThere s c (touched w s c e)
  touched_there (Tick t) needs = (refl, (needs.0.thread, ready_there w s known c c here))
  touched_there (Spin t l) needs = (refl, (needs.0.thread, ready_there w s known c c here))
  touched_there Idle needs = (refl, tt)
  touched_there (Dispatch t p) needs = (needs.0, (here, tt))
  touched_there (Steal v t p) needs = (needs.0, (here, tt))
  touched_there (Preempt t end) needs = leaving_there t needs.thread
  touched_there (Away t d) needs = (refl, (needs.0.thread, (here, (needs.1, tt))))
  touched_there (Yield t) needs = leaving_there t needs.thread
  touched_there (Done t) needs = (refl, (here, tt))
  touched_there (Nap t) needs = (refl, (here, (needs.0.thread, tt)))
  touched_there (Napend t at) needs = put_there t at needs.0 needs.1
  touched_there (Wake t k u) needs = (needs.0.thread, woken_there u needs.2)
  touched_there (Wakeall t k) needs = (refl, (sleepers_there k, (needs.0.thread, tt)))
  touched_there (Rouse k u) needs = (refl, (sleepers_there k, woken_there u needs.1))
  touched_there (Enter t l) needs = (chain_there l, (needs.0.thread, tt))
  touched_there (Read t l) needs = (chain_there l, (needs.0.thread, tt))
  touched_there (Write t l) needs = (chain_there l, (needs.0.thread, tt))
  touched_there (Will l o p at) needs = (refl, (chain_there l, reordered_there o at (thread_of s o.0).place refl needs.0 needs.3 needs.4))
  touched_there (End l) needs = (refl, tt)
  touched_there (Exit t l) needs = (refl, (chain_there l, (needs.0.thread, ready_there w s known c c here)))
  touched_there (Unblock l u at) needs = (refl, (chain_there l, put_there u at needs.0 needs.2))
  touched_there (Grant l u at) needs = (refl, (chain_there l, put_there u at needs.2.thread needs.1))
  touched_there (Passed l) needs = (refl, (chain_there l, tt))
  touched_there (Age t p) needs = (needs.0, (here, (refl, tt)))
  touched_there (Prio t u answer) needs = (needs.0.thread, prio_there u answer needs.1.thread needs.1.put needs.1.running)
  touched_there (CvWait t k l) needs = (refl, (chain_there l, (here, (sleepers_there k, (needs.0.thread, tt)))))
  touched_there (SemaP t k) needs = (sleepers_there k, (needs.0.thread, tt))
  touched_there (SemaVWake t k u at) needs = (needs.0.thread, put_there u at needs.2 needs.3)
  touched_there (SemaVCount t k m) needs = (sleepers_there k, (needs.0.thread, tt))
  touched_there (Assign t d to answer) needs = (needs.0.thread, ready_there w s known c d needs.1)
  touched_there (Move t at) needs = put_there t at needs.0 needs.1
  touched_there (Joined to) needs = (here, (needs.0, tt))
  touched_there (Bind t u d answer) needs = (needs.0.thread, bind_there u d answer needs.1)
  -- where a thread leaves its processor for a chain
  touched_there _ needs = (refl, (here, (one_of_chains _, (needs.0.thread, tt))))

pub parts_there : (w : Work) (n : ℕ) (s : State) (c : CpuId) (hints : Option Hints) → IsReached w n s → c.0 < w.cpus → PartsAreThere w s c hints
parts_there w n s c hints reached inside =
    let known = known_reached w n s reached in
    record {
      reading = there_each s c (reads_parts w s c) (reads_there w s known c inside);
      wishing = there_each s c (needed w s c hints) (needed_there w s known c inside hints);
      making = there_each s c (next_parts w s c hints) (next_there w s known c inside hints);
      touching = λ e makes. there_each s c (after_parts w s c e) (refl, touched_there w s known c (cpu_inside w s known c inside) e (needs_reached w n s c hints e reached makes));
    }
