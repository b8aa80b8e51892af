-- What is known of a state of a run that says that parts are there, and lists of parts that are.
use Rattle.std.proofs.Common.{◌≡◌, ℕ, ◌<◌, ◌≤◌, ◌%◌, List, [], ◌∷◌, ◌++◌, length, subst, sym, inl, inr, arith}
use Rattle.sd_types.specs.declared.numbers.ChanId.{ChanId}
use Rattle.sd_types.specs.declared.numbers.CpuId.{CpuId}
use Rattle.sd_types.specs.declared.numbers.LockId.{LockId}
use Rattle.sd_types.specs.declared.numbers.SetId.{SetId}
use Rattle.sd_types.specs.declared.numbers.ThreadId.{ThreadId}
use Rattle.sd_types.specs.declared.works.Work.{Work}
use Rattle.sd_state.specs.Invariants.{IsPlaceThere}
use Rattle.sd_state.specs.declared.states.LockState.TheVariants.{Owned}
use Rattle.sd_state.specs.declared.states.Place.{Place}
use Rattle.sd_state.specs.declared.states.Place.TheVariants.{Running, Queued, RealTime, Waiting, Asleep, Napping, Ended}
use Rattle.sd_state.specs.declared.states.State.{State}
use Rattle.sd_state.specs.States.{cpu_of, thread_of, set_of}
use Rattle.sd_machine.specs.Runs.{IsReached}
use Rattle.sd_machine.specs.Shapes.{FitsFully}
use Rattle.sd_machine.specs.Threads.{lock_of}
use Rattle.sd_homes.specs.Numbers.{IsListOf}
use Rattle.sd_homes.specs.Standing.{list_at, list_of}
use Rattle.sd_homes.proofs.NumberLemmas.{home_of_list}
use Rattle.sd_footprint.specs.There.{IsPartThere, StandsThere}
use Rattle.sd_invariants.specs.There.{CpusAreThere, ThreadsAreThere}
use Rattle.sd_invariants.proofs.All.{cpus_law, threads_law}
use Rattle.sd_invariants.proofs.Named.{set_of_there}
use Rattle.sd_invariants.specs.Laws.{OpenHold}
use Rattle.sd_invariants.proofs.Whole.{is_fit, reached_whole}
use Rattle.sd_store.specs.declared.parts.Part.{Part}
use Rattle.sd_store.specs.Parts.{IsAmong, ready_parts}

-- each of the parts is there
abbrev pub AllThere : State → CpuId → List Part → Type 0
AllThere s c [] = Unit {0}
AllThere s c (p ∷ ps) = IsPartThere s c p × AllThere s c ps

pub there_each : (s : State) (c : CpuId) (ps : List Part) → AllThere s c ps → (p : Part) → IsAmong p ps → IsPartThere s c p
there_each s c [] there p among = absurd among
there_each s c (q ∷ qs) there p (inl e) = subst (λ (x : Part). IsPartThere s c x) (sym e) there.0
there_each s c (q ∷ qs) there p (inr later) = there_each s c qs there.1 p later

pub there_join : (s : State) (c : CpuId) (ps qs : List Part) → AllThere s c ps → AllThere s c qs → AllThere s c (ps ++ qs)
there_join s c [] qs first second = second
there_join s c (p ∷ ps) qs first second = (first.0, there_join s c ps qs first.1 second)

-- in a state of a run
pub record IsKnown (w : Work) (s : State) : Type 0 where
  pub fits : FitsFully w s
  pub owners : (l : ℕ) (o : ThreadId) → lock_of s l ≡ Owned o → o.0 < length s.threads
  pub threads : ThreadsAreThere w s
  pub cpus : CpusAreThere w s
  pub opened : OpenHold w s

pub known_reached : (w : Work) (n : ℕ) (s : State) → IsReached w n s → IsKnown w s
known_reached w n s reached =
    let whole = reached_whole w n s reached in
    let fit = is_fit w s whole in
    record { fits = fit.fits; owners = fit.owners; threads = threads_law w n s reached; cpus = cpus_law w n s reached; opened = whole.opened }

-- the list of a place that is there is named after what is there
pub list_there : (w : Work) (s : State) (last : CpuId) (p : Place) → FitsFully w s → last.0 < w.cpus → IsPlaceThere w p → IsListOf s (list_at last p)
list_there w s last (Running c) fits ran there = subst (λ m. c.0 < m) (sym fits.cpus) there
list_there w s last (Queued c k) fits ran there = subst (λ m. c.0 < m) (sym fits.cpus) there
list_there w s last (RealTime p k) fits ran there = let sets = fits.sets in omega arith
list_there w s last (Waiting l side k) fits ran there = subst (λ m. l.0 < m) (sym fits.locks) there
list_there w s last (Asleep j k) fits ran there = subst (λ m. j.0 < m) (sym fits.chans) there
list_there w s last (Napping c due) fits ran there = subst (λ m. c.0 < m) (sym fits.cpus) there
list_there w s last Ended fits ran there = subst (λ m. last.0 < m) (sym fits.cpus) ran

module _ (w : Work) (s : State) (known : IsKnown w s) where
  pub cpu_inside : (d : CpuId) → d.0 < w.cpus → d.0 < length s.cpus
  cpu_inside d there = let many = known.fits.cpus in omega (arith, there, many)

  set_inside : (p : SetId) → p.0 ≤ length w.sets → p.0 < length s.open_cpus
  set_inside p there = let many = known.fits.sets in omega (arith, there, many)

  -- the set of a processor and that of a thread
  pub cpu_set : (d : ℕ) → (cpu_of s d).set.0 < length s.open_cpus
  cpu_set d = set_inside (cpu_of s d).set (known.cpus d).set

  pub thread_set : (t : ℕ) → (set_of w t).0 < length s.open_cpus
  thread_set t = set_inside (set_of w t) (set_of_there w t)

  pub stands_there : (t : ℕ) → StandsThere s (thread_of s t)
  stands_there t =
      let its = known.threads t in
      let list = list_there w s (thread_of s t).body.last (thread_of s t).place known.fits its.last its.place in
      record { home = home_of_list s (list_of (thread_of s t)) list; list = list; last = cpu_inside (thread_of s t).body.last its.last }

  module _ (c : CpuId) where
    pub ready_there : (d : CpuId) → d.0 < length s.cpus → AllThere s c (ready_parts s d)
    ready_there d here = (here, (cpu_set d.0, tt))

-- the chain of a lock and that of a channel
pub one_of_chains : (m : ℕ) → m % 64 < 64
one_of_chains m = omega arith

pub chain_there : (l : LockId) → l.0 % 64 < 64
chain_there l = one_of_chains l.0

pub sleepers_there : (k : ChanId) → k.0 % 64 < 64
sleepers_there k = one_of_chains k.0
