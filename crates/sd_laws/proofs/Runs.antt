-- Each event is a move of the lock graph, so what holds of lock graphs holds in every state of every run, and blocking cycles
-- stay.
use Rattle.std.proofs.Common.{◌≡◌, ℕ, zero, suc, ◌+◌, ◌<◌, true, false, List, [], ◌∷◌, ◌++◌, length, get_or, replicate, Option, Some, None, refl, sym, ap, ◌∙◌, subst, inl, inr, arith}
use Rattle.std.specs.Prelude.{◌<ℤ◌, ℤ, pos, map, if◌then◌else◌}
use Rattle.std.specs.List.{range_with_len, Contains}
use Rattle.std.proofs.lemmas.Bool.{cases_lt}
use Rattle.std.proofs.lemmas.Int.{ints}
use Rattle.std.proofs.lemmas.List.{get_or_past, length-append}
use Rattle.sd_types.specs.declared.numbers.CpuId.{CpuId}
use Rattle.sd_types.specs.declared.numbers.LockId.{LockId}
use Rattle.sd_types.specs.declared.numbers.ThreadId.{ThreadId}
use Rattle.sd_types.specs.declared.events.Duty.{Duty}
use Rattle.sd_types.specs.declared.events.Duty.TheVariants as duty
use Rattle.sd_types.specs.declared.events.Entry.{Entry}
use Rattle.sd_types.specs.declared.events.Event.{Event}
use Rattle.sd_types.specs.declared.events.Event.TheVariants.{Enter, Read, Write, Block, Will, End as WalkEnd, Exit, Unblock, Grant, Passed, Prio, CvWait}
use Rattle.sd_types.specs.declared.events.Hints.{Hints}
use Rattle.sd_types.specs.declared.works.ThreadDecl.{ThreadDecl}
use Rattle.sd_types.specs.declared.works.Work.{Work}
use Rattle.sd_types.specs.Willed.{Numbers}
use Rattle.sd_machine.specs.Graphs as G
use Rattle.sd_machine.specs.Cycles.{IsCycle}
use Rattle.sd_machine.proofs.CycleLemmas.{lists_cycles, cycle_list_stays}
use Rattle.sd_machine.proofs.Greatest.{is_chain_max}
use Rattle.sd_machine.proofs.Moves.{none_some, quiet_step, block_step, release_step, acquire_step, leave_step, end_step, rebase_step}
use Rattle.sd_machine.proofs.Steps.{IsStep as IsGraphStep, step_sound, cycle_stays, empty_sound}
use Rattle.sd_machine.proofs.WillMove.{will_step}
use Rattle.sd_state.specs.declared.states.ThreadState.{ThreadState}
use Rattle.sd_state.specs.declared.states.State.{State}
use Rattle.sd_state.specs.declared.states.LockState.TheVariants.{Free}
use Rattle.sd_state.specs.declared.states.Place.TheVariants.{Queued, RealTime}
use Rattle.sd_state.specs.States.{no_thread, no_cpu, thread_of, cpu_of}
use Rattle.sd_state.specs.Opening.{first_cpu, is_urgent, first_thread, first_cpu_state, opening}
use Rattle.sd_state.proofs.Declared.{opening_each}
use Rattle.sd_machine.specs.Threads.{lock_of}
use Rattle.sd_machine.specs.Changes.{back_key}
use Rattle.sd_machine.specs.LockGraph.{wait_of, owner_of, walk_of, number_at, graph, cycles_of}
use Rattle.sd_machine.specs.Events.{next, after}
use Rattle.sd_machine.specs.Runs.{final, IsRun, IsRunFrom, IsReached}
use Rattle.sd_machine.proofs.RunLemmas.{final-append, IsRun-from, from-IsRun, IsRunFrom-front, IsRunFrom-rest}
use Rattle.sd_frames.specs.Causes.{IsCause}
use Rattle.sd_invariants.proofs.AgreedAfter.{IsReady}
use Rattle.sd_invariants.proofs.FineLemmas.{fine_reached}
use Rattle.sd_invariants.proofs.Ready.{ready_cause, maker_inside, next_ready, opening_ready}
use Rattle.sd_laws.specs.InheritanceLaws.{InheritanceIsLocal, WalksLeadOn, OwnersHaveChainMaximum, PrioritiesAreMaxima, CyclesStay, CyclicThreadsStay, MaximaWithoutCycles}
use Rattle.sd_laws.proofs.Exact.{is_eff}
use Rattle.sd_laws.proofs.LockMoves.{IsGivenUp, IsGiven, block_move, enter_move, write_move, exit_move, cv_wait_move, unblock_move, grant_move}
use Rattle.sd_laws.proofs.LockMoves.IsGivenUp.{by_owner, by_reader}
use Rattle.sd_laws.proofs.LockMoves.IsGiven.{as_writer, as_reader}
use Rattle.sd_laws.proofs.QuietMoves.{plain_move, read_move, passed_move}
use Rattle.sd_laws.proofs.WalkMoves.{IsChanged, walk, will_move, end_move, prio_move}
use Rattle.sd_laws.proofs.WalkMoves.IsChanged.{waits_on, unseen}

abbrev pub Steps : ℕ → State → State → Type 0
Steps n s r = IsGraphStep (graph s) (graph r) (back_key n) (back_key (n + 1))

module _ (w : Work) (s : State) (n : ℕ) (c : CpuId) (ready : IsReady w s) (here : c.0 < length s.cpus) (sound : G.IsSoundGraph (back_key n) (graph s)) where
  more : back_key n <ℤ back_key (n + 1)
  more = omega (arith, ints)

  given_up_step : (r : State) (t l : ℕ) → IsGivenUp w s n c ready r t l → Steps n s r
  given_up_step r t l (by_owner move) = release_step (graph s) (graph r) (back_key n) (back_key (n + 1)) more sound t l move
  given_up_step r t l (by_reader move) = quiet_step (graph s) (graph r) (back_key n) (back_key (n + 1)) more sound move

  given_step : (r : State) (u l : ℕ) → IsGiven w s n c ready r u l → Steps n s r
  given_step r u l (as_writer move) = acquire_step (graph s) (graph r) (back_key n) (back_key (n + 1)) more sound u l move
  given_step r u l (as_reader move) = leave_step (graph s) (graph r) (back_key n) (back_key (n + 1)) more sound u move

  changed_step : (r : State) (u : ℕ) → IsChanged w s n c ready r u → Steps n s r
  changed_step r u (waits_on v move) = rebase_step (graph s) (graph r) (back_key n) (back_key (n + 1)) more sound c.0 u v move
  changed_step r u (unseen move) = quiet_step (graph s) (graph r) (back_key n) (back_key (n + 1)) more sound move

  -- each event is a step of the lock graph
  pub step_after : (e : Event) → IsCause w s c.0 e → Steps n s (after w s n c e)
  step_after (Enter t l) cause = acquire_step (graph s) (graph (after w s n c (Enter t l))) (back_key n) (back_key (n + 1)) more sound t.0 l.0 (enter_move w s n c ready t l sound.local cause)
  step_after (Write t l) cause = acquire_step (graph s) (graph (after w s n c (Write t l))) (back_key n) (back_key (n + 1)) more sound t.0 l.0 (write_move w s n c ready t l sound.local cause)
  step_after (Read t l) cause = quiet_step (graph s) (graph (after w s n c (Read t l))) (back_key n) (back_key (n + 1)) more sound (read_move w s n c ready t l cause)
  step_after (Block t l) cause = block_step (graph s) (graph (after w s n c (Block t l))) (back_key n) (back_key (n + 1)) more sound c.0 t.0 l.0 (block_move w s n c ready t l here cause)
  step_after (Will l o p at) cause =
      will_step (graph s) (graph (after w s n c (Will l o p at))) (back_key n) (back_key (n + 1)) more sound c.0 (walk l cause.0.0 cause.0.1) o.0 (will_move w s n c ready l o p at cause.0.0 cause.0.1 here cause.0.2 cause)
  step_after (WalkEnd l) cause = end_step (graph s) (graph (after w s n c (WalkEnd l))) (back_key n) (back_key (n + 1)) more sound c.0 (walk l cause.0.0 cause.0.1) (end_move w s n c ready l cause.0.0 cause.0.1 here cause.0.2 cause)
  step_after (Exit t l) cause = given_up_step (after w s n c (Exit t l)) t.0 l.0 (exit_move w s n c ready t l here sound.local cause)
  step_after (CvWait t k l) cause = given_up_step (after w s n c (CvWait t k l)) t.0 l.0 (cv_wait_move w s n c ready t k l here sound.local cause)
  step_after (Unblock l u at) cause = leave_step (graph s) (graph (after w s n c (Unblock l u at))) (back_key n) (back_key (n + 1)) more sound u.0 (unblock_move w s n c ready l u at here cause)
  step_after (Grant l u at) cause = given_step (after w s n c (Grant l u at)) u.0 l.0 (grant_move w s n c ready l u at here cause)
  step_after (Passed l) cause = quiet_step (graph s) (graph (after w s n c (Passed l))) (back_key n) (back_key (n + 1)) more sound (passed_move w s n c ready l here cause)
  step_after (Prio t u answer) cause = changed_step (after w s n c (Prio t u answer)) u.0 (prio_move w s n c ready t u answer here cause)
  step_after e cause = quiet_step (graph s) (graph (after w s n c e)) (back_key n) (back_key (n + 1)) more sound (plain_move w s n c ready e refl refl refl refl refl refl refl refl cause)

-- Runs.

-- what is carried from state to state: what is known of it, and what holds of its lock graph
pub record IsChained (w : Work) (n : ℕ) (s : State) : Type 0 where
  pub ready : IsReady w s
  pub sound : G.IsSoundGraph (back_key n) (graph s)

-- what an entry of a run does to the lock graph
entry_step : (w : Work) (s : State) (n : ℕ) (c : CpuId) (h : Option Hints) (e : Event) → IsChained w n s → next w s c h ≡ Some e → Steps n s (after w s n c e)
entry_step w s n c h e at makes =
    let inside : c.0 < w.cpus = maker_inside w s c h e makes in
    let many : length s.cpus ≡ w.cpus = at.ready.fits.cpus in
    step_after w s n c at.ready (omega (arith, inside, many)) at.sound e (ready_cause w s c h e at.ready makes)

chained_next : (w : Work) (s : State) (n : ℕ) (c : CpuId) (h : Option Hints) (e : Event) → IsChained w n s → next w s c h ≡ Some e → IsChained w (n + 1) (after w s n c e)
chained_next w s n c h e at makes = record {
  ready = next_ready w s n c h e at.ready makes;
  sound = step_sound (graph s) (graph (after w s n c e)) (back_key n) (back_key (n + 1)) at.sound (entry_step w s n c h e at makes);
}

-- what the entries from state s on come to
record IsCarried (w : Work) (n : ℕ) (s r : State) : Type 0 where
  chained : IsChained w n r
  cycles : (ts : List ℕ) → IsCycle (graph s) ts → IsCycle (graph r) ts
  cyclic : (o : ℕ) → G.InCycle (graph s) o → G.InCycle (graph r) o

carried_from : (w : Work) (s : State) (n : ℕ) (es : List Entry) → IsChained w n s → IsRunFrom w s n es → IsCarried w (n + length es) s (final w s es)
unfolding final IsRunFrom
carried_from w s n [] at run = record {
  chained = subst (λ m. IsChained w m s) (let e : n ≡ n + 0 = omega arith in e) at;
  cycles = λ ts is. is;
  cyclic = λ o is. is;
}
carried_from w s n (e ∷ es) at (number, step, run) =
    let r : State = after w s e.number e.cpu e.event in
    let here : IsChained w e.number s = subst (λ m. IsChained w m s) (sym number) at in
    let one = entry_step w s e.number e.cpu e.hints e.event here step in
    let there : IsChained w (n + 1) r = subst (λ m. IsChained w (m + 1) r) number (chained_next w s e.number e.cpu e.hints e.event here step) in
    let rest = carried_from w r (n + 1) es there run in
    record {
      chained = subst (λ m. IsChained w m (final w r es)) (let q : n + 1 + length es ≡ n + length (e ∷ es) = omega arith in q) rest.chained;
      cycles = λ ts is. rest.cycles ts (cycle_list_stays (graph s) (graph r) one.frame ts is);
      cyclic = λ o is. rest.cyclic o (cycle_stays (graph s) (graph r) one.frame o is);
    }

-- The initial state: nobody waits, owns a lock or walks.

record IsFirst (x : ThreadState) : Type 0 where
  away : wait_of x.place ≡ None
  numbers : x.body.willed.items ≡ []
  looped : x.body.looped ≡ false

first_is : (w : Work) (t : ℕ) (d : ThreadDecl) → IsFirst (first_thread w t d)
unfolding first_thread
first_is w t d = record {
  away = elim (is_urgent d) as (λ b. wait_of (if b then RealTime d.set (pos t) else Queued (first_cpu w t d) (pos t)) ≡ None) [ true ↦ refl | false ↦ refl ];
  numbers = refl;
  looped = refl;
}

opening_first : (w : Work) (t : ℕ) → IsFirst (thread_of (opening w) t)
opening_first w t = opening_each w t IsFirst (record { away = refl; numbers = refl; looped = refl }) (λ d is. first_is w t d)

all_free : (k l : ℕ) → owner_of (get_or (replicate k Free) l Free) ≡ None
all_free zero l = refl
all_free (suc k) zero = refl
all_free (suc k) (suc l) = all_free k l

opening_owner : (w : Work) (l : ℕ) → owner_of (lock_of (opening w) l) ≡ None
unfolding opening
opening_owner w l = all_free (length w.locks) l

idle_at : (w : Work) (cs : List ℕ) (c : ℕ) → walk_of (get_or (map (first_cpu_state w) cs) c no_cpu).duty ≡ None
unfolding first_cpu_state
idle_at w [] c = refl
idle_at w (d ∷ ds) zero = refl
idle_at w (d ∷ ds) (suc c) = idle_at w ds c

opening_walk : (w : Work) (c : ℕ) → walk_of (cpu_of (opening w) c).duty ≡ None
unfolding opening
opening_walk w c = idle_at w (range_with_len 0 w.cpus) c

opening_chained : (w : Work) → IsChained w 0 (opening w)
opening_chained w = record {
  ready = opening_ready w;
  sound = empty_sound (back_key 0) (graph (opening w)) (λ t. (opening_first w t).away) (opening_owner w) (λ o l. ap (λ (ws : Numbers). number_at ws l) (opening_first w o).numbers) (opening_walk w) (λ t. (opening_first w t).looped);
}

pub reached_chained : (w : Work) (n : ℕ) (s : State) → IsReached w n s → IsChained w n s
reached_chained w n s reached =
    subst (λ x. IsChained w n x) reached.ends
    (subst (λ m. IsChained w m (final w (opening w) reached.entries)) (let q : 0 + length reached.entries ≡ length reached.entries = omega arith in q ∙ reached.many)
    (carried_from w (opening w) 0 reached.entries (opening_chained w) (IsRun-from w reached.entries reached.run)).chained)

-- The laws.

pub local_law : (w : Work) (n : ℕ) (s : State) → IsReached w n s → InheritanceIsLocal s
local_law w n s reached = (reached_chained w n s reached).sound.local

pub lead_law : (w : Work) (n : ℕ) (s : State) → IsReached w n s → WalksLeadOn n s
lead_law w n s reached = (reached_chained w n s reached).sound

-- a thread that waits is there
waits_inside : (s : State) (t : ℕ) (v : G.Wait) → wait_of (thread_of s t).place ≡ Some v → t < length s.threads
waits_inside s t v is = elim (cases_lt t (length s.threads)) [
  | inl inside ↦ inside
  | inr past ↦ absurd (none_some (wait_of (thread_of s t).place) v (ap (λ (x : ThreadState). wait_of x.place) (get_or_past s.threads t no_thread past)) is)
]

pub maximum_law : (w : Work) (n : ℕ) (s : State) → IsReached w n s → OwnersHaveChainMaximum s
maximum_law w n s reached = λ o open_chain calm.
    is_chain_max (graph s) (reached_chained w n s reached).sound.local (is_eff s (λ t. (fine_reached w n s reached t).sound.apart)) o open_chain calm (length s.threads) (waits_inside s)

-- where nobody walks, no walk stands anywhere
walk_is : (d : Duty) (v : G.Walk) → walk_of d ≡ Some v → (l : LockId) × (seek : ThreadId) × (key : ℤ) × (d ≡ duty.Walk l seek key)
walk_is (duty.Walk l seek key) v is = (l, seek, key, refl)
walk_is d v is = absurd (none_some None v refl is)

pub maxima_law : (w : Work) (n : ℕ) (s : State) → IsReached w n s → PrioritiesAreMaxima s
maxima_law w n s reached = λ nobody o open_chain. maximum_law w n s reached o open_chain (λ u l over owns stands.
    let (m, seek, key, is) = walk_is (cpu_of s stands.0).duty stands.1 stands.2 in
    nobody stands.0 m seek key is)

-- of a run that goes on
more_run : (w : Work) (es more : List Entry) → IsRun w (es ++ more) → IsCarried w (length (es ++ more)) (final w (opening w) es) (final w (opening w) (es ++ more))
more_run w es more run =
    let whole = IsRun-from w (es ++ more) run in
    let front = IsRunFrom-front w (opening w) 0 es more whole in
    let rest = IsRunFrom-rest w (opening w) 0 es more whole in
    let there = (carried_from w (opening w) 0 es (opening_chained w) front).chained in
    let goes = carried_from w (final w (opening w) es) (0 + length es) more there rest in
    subst (λ x. IsCarried w (length (es ++ more)) (final w (opening w) es) x) (sym (final-append w (opening w) es more))
    (subst (λ m. IsCarried w m (final w (opening w) es) (final w (final w (opening w) es) more)) (let e : 0 + length es + length more ≡ length (es ++ more) = let a = length-append es more in omega (arith, a) in e) goes)

pub cycles_law : CyclesStay
cycles_law = λ w es more ts run is. (more_run w es more run).cycles ts is

pub cyclic_law : CyclicThreadsStay
cyclic_law = λ w es more o run is. (more_run w es more run).cyclic o is

-- a thread in a blocking cycle is in one of those that are listed
unlisted : (s : State) → cycles_of s ≡ [] → (o : ℕ) → G.InCycle (graph s) o → ⊥
unfolding cycles_of
unlisted s none o cycle =
    let line = ((lists_cycles (graph s) (length s.threads) (waits_inside s)).every o).0 cycle in
    not_there line.0 (subst (λ (xs : List (List ℕ)). Contains xs line.0) none line.1)
  where
    not_there : (ts : List ℕ) → Contains [] ts → ⊥
    not_there ts there = let none_in : there.0 < 0 = there.1 in omega (arith, none_in)

pub without_law : MaximaWithoutCycles
without_law = λ w es more run none nobody o.
    let front = IsRunFrom-front w (opening w) 0 es more (IsRun-from w (es ++ more) run) in
    let reached : IsReached w (length es) (final w (opening w) es) = record { entries = es; run = from-IsRun w es front; many = refl; ends = refl } in
    maxima_law w (length es) (final w (opening w) es) reached nobody o (λ cycle. unlisted (final w (opening w) (es ++ more)) none o ((more_run w es more run).cyclic o cycle))
