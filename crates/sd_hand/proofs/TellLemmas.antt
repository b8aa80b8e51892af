-- What a hand tells of each state that it shows.
use Rattle.std.proofs.Common.{◌≡◌, ℕ, ◌%◌, ◌<◌, ◌≤◌, ◌++◌, is_some, Bool, true, false, List, [], ◌∷◌, length, Option, Some, None, option_map, slice_get, refl, sym, ap, ◌∙◌, arith, ◌⊎◌, inl, inr}
use Rattle.std.specs.Prelude.{ℤ, nat_le}
use Rattle.std.proofs.lemmas.Bool.{cases_lt, eq-eqb, le-ltb, lt-ltb}
use Rattle.sd_types.specs.declared.numbers.CpuId.{CpuId}
use Rattle.sd_types.specs.declared.numbers.ChanId.{ChanId}
use Rattle.sd_types.specs.declared.numbers.LockId.{LockId}
use Rattle.sd_types.specs.declared.numbers.SetId.{SetId}
use Rattle.sd_types.specs.declared.numbers.Side.{Side}
use Rattle.sd_types.specs.declared.numbers.Side.TheVariants.{Writer, Reader}
use Rattle.sd_types.specs.declared.numbers.ThreadId.{ThreadId}
use Rattle.sd_types.specs.declared.numbers.HomeId.TheVariants as id
use Rattle.sd_boxq.specs.Order.{drop_id, find_first, find_below}
use Rattle.sd_turnstile.specs.Waiters.{highest}
use Rattle.sd_record.specs.Records.{ThreadRecord}
use Rattle.sd_state.specs.declared.states.LockState.TheVariants.{Free}
use Rattle.sd_state.specs.declared.states.State.{State}
use Rattle.sd_state.specs.declared.states.Place.{Place}
use Rattle.sd_state.specs.declared.states.Place.TheVariants.{Running}
use Rattle.sd_state.specs.States.{cpu_of, thread_of}
use Rattle.sd_types.specs.declared.events.Duty.{Duty}
use Rattle.sd_types.specs.declared.events.Duty.TheVariants.{Walk}
use Rattle.sd_machine.specs.Walking.{is_back}
use Rattle.sd_store.specs.Keyless.{spot_of}
use Rattle.sd_homes.specs.declared.list_id.ListId.{ListId}
use Rattle.sd_state.specs.declared.states.CpuState.{CpuState}
use Rattle.sd_machine.specs.Changes.{marked}
use Rattle.sd_machine.specs.Locking.{others_waiting}
use Rattle.sd_machine.specs.Threads.{best_queued, best_ready, best_sleeper, best_sleeper_below, best_unbound, best_waiter, count_of, first_due, greatest_waiting, has_waiters, lock_of, next_to_age, open_of, runner}
use Rattle.sd_store.specs.Parts.{view_of}
use Rattle.sd_store.specs.declared.parts.CpuView.{CpuView}
use Rattle.sd_homes.specs.declared.list_id.ListId.TheVariants.{Runs, Queues, Urgent, Naps, Waits, Sleeps}
use Rattle.sd_homes.specs.Standing.{better, due_front, due_of_first, home_at, id_of, is_unbound, key_in, least_to_age, list_at, look_of, rank_of, record_key, record_of, Lists}
use Rattle.sd_homes.proofs.AgeShown.{next_to_age_shown}
use Rattle.sd_homes.proofs.LookShown.{runner_none, runner_some, best_queued_shown, best_unbound_shown, best_waiter_shown, best_sleeper_shown, best_sleeper_below_shown}
use Rattle.sd_homes.proofs.NapShown.{first_due_shown}
use Rattle.sd_homes.proofs.OthersShown.{others_shown}
use Rattle.sd_homes.proofs.ReadyShown.{best_ready_shown}
use Rattle.sd_homes.proofs.WaitShown.{greatest_shown, waiters_shown}
use Rattle.sd_homes.specs.declared.home.Home.{Home}
use Rattle.sd_homes.specs.declared.home.Home.TheVariants.{Cpu, RealTime, Chain, Sleepers}
use Rattle.sd_homes.specs.Homes.{is_chan_of, is_of, one}
use Rattle.sd_homes.specs.Families.{home_id, list_in, lock_in, open_in, taken_from, tokens_in, view_in}
use Rattle.sd_hand.specs.declared.acting.Acting.{Acting}
use Rattle.sd_hand.specs.Acting.{IsShown}
use Rattle.sd_hand.specs.Hands.{IsHeld, StandsIn, held}
use Rattle.sd_hand.specs.Keys.{is_back_at, spot_at}
use Rattle.sd_hand.specs.Shown.{PartsShown, StandsAt}
use Rattle.sd_hand.proofs.MoveLemmas.{stands_at, stands_held, taken}
use Rattle.sd_hand.proofs.ShownLemmas.{list_shown}
use Rattle.sd_hand.proofs.SlotLemmas.{held_id}
use Rattle.std.proofs.lemmas.List.{get_or_past}

one_runs : (n : ℕ) (s : State) (c : CpuId) (o : Option ThreadRecord) → Lists n (Runs c) (one o) (look_of s) → runner s c.0 ≡ option_map id_of (slice_get (one o) 0)
one_runs n s c None l = runner_none n s c l
one_runs n s c (Some r) l = runner_some n s c r l

runner_by : (n : ℕ) (s : State) (c : CpuId) (h : Home) → id.Cpu c ≡ home_id h → Lists n (Runs c) (list_in h (Runs c)) (look_of s)
    → runner s c.0 ≡ option_map id_of (slice_get (list_in h (Runs c)) 0)
runner_by n s c (Cpu h) e l = one_runs n s c h.running l
runner_by n s c (RealTime h) e l = absurd cc
runner_by n s c (Chain h) e l = absurd cc
runner_by n s c (Sleepers h) e l = absurd cc

due_first : (count : ℕ) (rs : List ThreadRecord) → due_front count rs ≡ due_of_first count (slice_get rs 0)
due_first count [] = refl
due_first count (r ∷ rs) = refl

pub view_by : (s : State) (c : CpuId) (h : Home) → id.Cpu c ≡ home_id h → PartsShown s h → view_in h ≡ Some (view_of (cpu_of s c.0))
view_by s c (Cpu h) e p = let same : c ≡ h.cpu = cc in ap Some (p.0 ∙ ap (λ d. view_of (cpu_of s d.0)) (sym same))
view_by s c (RealTime h) e p = absurd cc
view_by s c (Chain h) e p = absurd cc
view_by s c (Sleepers h) e p = absurd cc

pub has_view : (c : CpuId) (h : Home) → id.Cpu c ≡ home_id h → view_in h ≡ None → ⊥
has_view c (Cpu h) e n = cc
has_view c (RealTime h) e n = cc
has_view c (Chain h) e n = cc
has_view c (Sleepers h) e n = cc

pub open_by : (s : State) (p : SetId) (h : Home) → id.RealTime p ≡ home_id h → PartsShown s h → open_of s p.0 ≡ open_in h
open_by s p (RealTime h) e q = let same : p ≡ h.set = cc in ap (λ r. open_of s r.0) same ∙ sym q.0
open_by s p (Cpu h) e q = absurd cc
open_by s p (Chain h) e q = absurd cc
open_by s p (Sleepers h) e q = absurd cc

pub lock_by : (s : State) (l : LockId) (h : Home) → id.Chain (l.0 % 64) ≡ home_id h → PartsShown s h → length s.locks ≤ 256 → lock_of s l.0 ≡ lock_in l.0 h
lock_by s l (Cpu h) e p few = absurd cc
lock_by s l (RealTime h) e p few = absurd cc
lock_by s l (Sleepers h) e p few = absurd cc
lock_by s l (Chain h) e p few = by (cases_lt l.0 256)
  where
    chain : l.0 % 64 ≡ h.turnstiles.chain
    chain = cc

    by : (l.0 < 256) ⊎ (256 ≤ l.0) → lock_of s l.0 ≡ lock_in l.0 (Chain h)
    by (inl low) =
        let yes : is_of h.turnstiles l.0 ≡ true = rw (lt-ltb l.0 256 low, eq-eqb (l.0 % 64) h.turnstiles.chain chain) refl in
        rw yes (sym (p.2 l.0 yes))
    by (inr high) =
        let no : is_of h.turnstiles l.0 ≡ false = rw (le-ltb l.0 256 high) refl in
        rw no (get_or_past s.locks l.0 Free (omega arith))

pub tokens_by : (s : State) (k : ChanId) (h : Home) → id.Sleepers (k.0 % 64) ≡ home_id h → PartsShown s h → length s.counts ≤ 256 → count_of s k.0 ≡ tokens_in k.0 h
tokens_by s k (Cpu h) e p few = absurd cc
tokens_by s k (RealTime h) e p few = absurd cc
tokens_by s k (Chain h) e p few = absurd cc
tokens_by s k (Sleepers h) e p few = by (cases_lt k.0 256)
  where
    chain : k.0 % 64 ≡ h.sleepers.chain
    chain = cc

    by : (k.0 < 256) ⊎ (256 ≤ k.0) → count_of s k.0 ≡ tokens_in k.0 (Sleepers h)
    by (inl low) =
        let yes : is_chan_of h.sleepers k.0 ≡ true = rw (lt-ltb k.0 256 low, eq-eqb (k.0 % 64) h.sleepers.chain chain) refl in
        rw yes (sym (p.2 k.0 yes))
    by (inr high) =
        let no : is_chan_of h.sleepers k.0 ≡ false = rw (le-ltb k.0 256 high) refl in
        rw no (get_or_past s.counts k.0 0 (omega arith))

module _ (x : Acting) (n : ℕ) (s : State) (h : Home) (sh : IsShown x n s) where
  pub runner_told : (c : CpuId) → held (id.Cpu c) x.hand.slots ≡ Some h → runner s c.0 ≡ option_map id_of (slice_get (list_in h (Runs c)) 0)
  runner_told c e = runner_by n s c h (held_id (id.Cpu c) h x.hand.slots e) (list_shown x n s (Runs c) h sh e)

  pub queued_told : (c : CpuId) → held (id.Cpu c) x.hand.slots ≡ Some h → best_queued s c.0 ≡ option_map id_of (slice_get (list_in h (Queues c)) 0)
  queued_told c e = best_queued_shown n s c (list_in h (Queues c)) (list_shown x n s (Queues c) h sh e)

  pub unbound_told : (c : CpuId) → held (id.Cpu c) x.hand.slots ≡ Some h → best_unbound s c.0 ≡ option_map id_of (find_first is_unbound (list_in h (Queues c)))
  unbound_told c e = best_unbound_shown n s c (list_in h (Queues c)) (list_shown x n s (Queues c) h sh e)

  pub due_told : (c : CpuId) (count : ℕ) → held (id.Cpu c) x.hand.slots ≡ Some h → (cpu_of s c.0).count ≡ count
      → first_due s c.0 ≡ option_map id_of (due_of_first count (slice_get (list_in h (Naps c)) 0))
  due_told c count e f = first_due_shown n s c count (list_in h (Naps c)) (list_shown x n s (Naps c) h sh e) f ∙ ap (option_map id_of) (due_first count (list_in h (Naps c)))

  pub aging_told : (c : CpuId) (u : ℕ) → held (id.Cpu c) x.hand.slots ≡ Some h → next_to_age s c.0 u ≡ least_to_age u (list_in h (Queues c))
  aging_told c u e = next_to_age_shown n s c u (list_in h (Queues c)) (list_shown x n s (Queues c) h sh e)

  pub waiter_told : (l : LockId) (side : Side) → held (id.Chain (l.0 % 64)) x.hand.slots ≡ Some h → best_waiter s l.0 side ≡ option_map id_of (slice_get (list_in h (Waits l side)) 0)
  waiter_told l side e = best_waiter_shown n s l side (list_in h (Waits l side)) (list_shown x n s (Waits l side) h sh e)

  pub sleeper_told : (k : ChanId) → held (id.Sleepers (k.0 % 64)) x.hand.slots ≡ Some h → best_sleeper s k.0 ≡ option_map id_of (slice_get (list_in h (Sleeps k)) 0)
  sleeper_told k e = best_sleeper_shown n s k (list_in h (Sleeps k)) (list_shown x n s (Sleeps k) h sh e)

  pub sleeper_below_told : (k : ChanId) (below : ℤ) → held (id.Sleepers (k.0 % 64)) x.hand.slots ≡ Some h → best_sleeper_below s k.0 below ≡ option_map id_of (find_below key_in below (list_in h (Sleeps k)))
  sleeper_below_told k below e = best_sleeper_below_shown n s k below (list_in h (Sleeps k)) (list_shown x n s (Sleeps k) h sh e)

  pub greatest_told : (l : LockId) → held (id.Chain (l.0 % 64)) x.hand.slots ≡ Some h
      → greatest_waiting l.0 s.threads ≡ highest rank_of (list_in h (Waits l Writer) ++ list_in h (Waits l Reader))
  greatest_told l e = greatest_shown n s l (list_in h (Waits l Writer)) (list_in h (Waits l Reader)) (list_shown x n s (Waits l Writer) h sh e) (list_shown x n s (Waits l Reader) h sh e)

  pub waiters_told : (l : LockId) → held (id.Chain (l.0 % 64)) x.hand.slots ≡ Some h
      → has_waiters s l.0 ≡ is_some (highest rank_of (list_in h (Waits l Writer) ++ list_in h (Waits l Reader)))
  waiters_told l e = waiters_shown n s l (list_in h (Waits l Writer)) (list_in h (Waits l Reader)) (list_shown x n s (Waits l Writer) h sh e) (list_shown x n s (Waits l Reader) h sh e)

  pub others_told : (l : LockId) (u : ℕ) → held (id.Chain (l.0 % 64)) x.hand.slots ≡ Some h
      → others_waiting s l u ≡ highest rank_of (drop_id id_of u (list_in h (Waits l Writer)) ++ drop_id id_of u (list_in h (Waits l Reader)))
  others_told l u e = others_shown n s l u (list_in h (Waits l Writer)) (list_in h (Waits l Reader)) (list_shown x n s (Waits l Writer) h sh e) (list_shown x n s (Waits l Reader) h sh e)

  pub ready_told : (c : CpuId) (p : SetId) (g : Home) → held (id.Cpu c) x.hand.slots ≡ Some h → held (id.RealTime p) x.hand.slots ≡ Some g → (cpu_of s c.0).set ≡ p
      → best_ready s c.0 ≡ option_map id_of (better (slice_get (list_in h (Queues c)) 0) (slice_get (list_in g (Urgent p)) 0))
  ready_told c p g e f is = best_ready_shown n s c p (list_in h (Queues c)) (list_in g (Urgent p)) (list_shown x n s (Queues c) h sh e) (list_shown x n s (Urgent p) g sh f) is

  pub view_told : (c : CpuId) → held (id.Cpu c) x.hand.slots ≡ Some h → view_in h ≡ Some (view_of (cpu_of s c.0))
  view_told c e = view_by s c h (held_id (id.Cpu c) h x.hand.slots e) (sh.homes (id.Cpu c) h e).parts

  pub open_told : (p : SetId) → held (id.RealTime p) x.hand.slots ≡ Some h → open_of s p.0 ≡ open_in h
  open_told p e = open_by s p h (held_id (id.RealTime p) h x.hand.slots e) (sh.homes (id.RealTime p) h e).parts

  pub lock_told : (l : LockId) → held (id.Chain (l.0 % 64)) x.hand.slots ≡ Some h → lock_of s l.0 ≡ lock_in l.0 h
  lock_told l e = lock_by s l h (held_id (id.Chain (l.0 % 64)) h x.hand.slots e) (sh.homes (id.Chain (l.0 % 64)) h e).parts sh.locks

  pub tokens_told : (k : ChanId) → held (id.Sleepers (k.0 % 64)) x.hand.slots ≡ Some h → count_of s k.0 ≡ tokens_in k.0 h
  tokens_told k e = tokens_by s k h (held_id (id.Sleepers (k.0 % 64)) h x.hand.slots e) (sh.homes (id.Sleepers (k.0 % 64)) h e).parts sh.chans

-- ---- a thread that was found
pub spot_by : (last : CpuId) (place : Place) → spot_at (list_at last place) ≡ spot_of place
spot_by last (Running c) = refl
spot_by last place = refl

walk_back : (l : LockId) (seek : ThreadId) (key : ℤ) (o : ThreadId) (last : CpuId) (place : Place) → is_back_at (Walk l seek key) o (list_at last place) (record_key place) ≡ is_back (Walk l seek key) o place
walk_back l seek key o last (Running c) = refl
walk_back l seek key o last place = refl

pub back_by : (d : Duty) (o : ThreadId) (last : CpuId) (place : Place) → is_back_at d o (list_at last place) (record_key place) ≡ is_back d o place
back_by (Walk l seek key) o last place = walk_back l seek key o last place
back_by d o last place = refl

module _ (x : Acting) (n : ℕ) (s : State) (sh : IsShown x n s) (t : ℕ) (sp : ListId) (l : StandsIn t x.hand.slots sp) where
  pub found_at : StandsAt s t sp
  found_at = stands_at n s t sp x.hand.slots sh.apart sh.homes l

  pub found_held : IsHeld (home_at sp) x.hand.slots
  found_held = stands_held t sp x.hand.slots sh.apart l

  pub found_record : taken_from t sp (held (home_at sp) x.hand.slots) ≡ Some (record_of t (thread_of s t))
  found_record = taken n s t sp x.hand.slots found_at sh.homes found_held

  pub spot_told : spot_at sp ≡ spot_of (thread_of s t).place
  spot_told = ap spot_at (sym found_at.list) ∙ spot_by (thread_of s t).body.last (thread_of s t).place

-- ---- the view of a processor
pub view_is : (x : Acting) (n : ℕ) (s : State) (c : CpuId) (v : CpuView) (h : Home) → IsShown x n s → held (id.Cpu c) x.hand.slots ≡ Some h → Some v ≡ view_in h → v ≡ view_of (cpu_of s c.0)
view_is x n s c v h sh e f = let same : Some v ≡ Some (view_of (cpu_of s c.0)) = f ∙ view_told x n s h sh c e in cc

pub marked_count : (m : ℕ) (z : CpuState) → (marked m z).count ≡ z.count
marked_count m z = by (nat_le 100 m) refl
  where
    by : (b : Bool) → nat_le 100 m ≡ b → (marked m z).count ≡ z.count
    by true e = rw e refl
    by false e = rw e refl
