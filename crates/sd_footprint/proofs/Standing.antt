-- The thread that a search finds stands in the home where the search looks.
use Rattle.std.proofs.Common.{◌≡◌, ◌⊎◌, ℕ, ◌%◌, true, Some, ap, inl, inr}
use Rattle.std.specs.Prelude.{ℤ, ◌==◌, nat_le, int_lt, is_none}
use Rattle.std.proofs.lemmas.Bool.{eqb-true}
use Rattle.sd_basics.proofs.Truths.{and_left, or_never}
use Rattle.sd_types.specs.declared.numbers.ChanId.{ChanId}
use Rattle.sd_types.specs.declared.numbers.CpuId.{CpuId}
use Rattle.sd_types.specs.declared.numbers.HomeId.TheVariants as home
use Rattle.sd_types.specs.declared.numbers.LockId.{LockId}
use Rattle.sd_types.specs.declared.numbers.SetId.{SetId}
use Rattle.sd_types.specs.declared.numbers.Side.{Side}
use Rattle.sd_state.specs.declared.states.Place.{Place}
use Rattle.sd_state.specs.declared.states.Place.TheVariants.{Running, Queued, RealTime, Waiting, Asleep, Napping}
use Rattle.sd_state.specs.declared.states.State.{State}
use Rattle.sd_state.specs.States.{thread_of, cpu_of, is_running, is_queued, is_ready, same_side}
use Rattle.sd_machine.specs.Threads.{best_queued, best_ready, best_sleeper, best_sleeper_below, best_unbound, best_waiter, first_due, is_asleep, is_asleep_below, is_due, is_ts, is_waiting_at, next_to_age, runner}
use Rattle.sd_homes.specs.Standing.{home_of, home_of_place}
use Rattle.sd_frames.proofs.Found.{age_found, due_found, queued_found, ready_found, runner_found, sleeper_below_found, sleeper_found, unbound_found, waiter_found}

same_cpu : (d c : CpuId) → d.0 ≡ c.0 → home.Cpu d ≡ home.Cpu c
same_cpu d c e = ap (λ (n : ℕ). home.Cpu (record { 0 = n })) e

waiting : (l : LockId) (side : Side) (p : Place) (last : CpuId) → is_waiting_at l.0 side p ≡ true → home_of_place p last ≡ home.Chain (l.0 % 64)
waiting l side (Waiting m other key) last e = ap (λ (n : ℕ). home.Chain (n % 64)) (eqb-true m.0 l.0 (and_left (m.0 == l.0) (same_side side other) e))
waiting l side _ last e = cc

asleep : (k : ChanId) (p : Place) (last : CpuId) → is_asleep k.0 p ≡ true → home_of_place p last ≡ home.Sleepers (k.0 % 64)
asleep k (Asleep j key) last e = ap (λ (n : ℕ). home.Sleepers (n % 64)) (eqb-true j.0 k.0 e)
asleep k _ last e = cc

asleep_below : (k : ChanId) (below : ℤ) (p : Place) (last : CpuId) → is_asleep_below k.0 below p ≡ true → home_of_place p last ≡ home.Sleepers (k.0 % 64)
asleep_below k below (Asleep j key) last e = ap (λ (n : ℕ). home.Sleepers (n % 64)) (eqb-true j.0 k.0 (and_left (j.0 == k.0) (int_lt key below) e))
asleep_below k below _ last e = cc

due : (c : CpuId) (count : ℕ) (p : Place) (last : CpuId) → is_due c.0 count p ≡ true → home_of_place p last ≡ home.Cpu c
due c count (Napping d over) last e = same_cpu d c (eqb-true d.0 c.0 (and_left (d.0 == c.0) (nat_le over count) e))
due c count _ last e = cc

queued : (c : CpuId) (p : Place) (last : CpuId) → is_queued c.0 p ≡ true → home_of_place p last ≡ home.Cpu c
queued c (Queued d key) last e = same_cpu d c (eqb-true d.0 c.0 e)
queued c _ last e = cc

running : (c : CpuId) (p : Place) (last : CpuId) → is_running c.0 p ≡ true → home_of_place p last ≡ home.Cpu c
running c (Running d) last e = same_cpu d c (eqb-true d.0 c.0 e)
running c _ last e = cc

ready : (c : CpuId) (q : SetId) (p : Place) (last : CpuId) → is_ready c.0 q.0 p ≡ true → (home_of_place p last ≡ home.Cpu c) ⊎ (home_of_place p last ≡ home.RealTime q)
ready c q (Queued d key) last e = inl (same_cpu d c (eqb-true d.0 c.0 (or_never (d.0 == c.0) e)))
ready c q (RealTime p key) last e = inr (ap (λ (n : ℕ). home.RealTime (record { 0 = n })) (eqb-true p.0 q.0 e))
ready c q _ last e = cc

pub waiter_stands : (s : State) (l : LockId) (side : Side) (t : ℕ) → best_waiter s l.0 side ≡ Some t → home_of (thread_of s t) ≡ home.Chain (l.0 % 64)
waiter_stands s l side t e = waiting l side (thread_of s t).place _ (waiter_found s l.0 side t e).stands

pub sleeper_stands : (s : State) (k : ChanId) (t : ℕ) → best_sleeper s k.0 ≡ Some t → home_of (thread_of s t) ≡ home.Sleepers (k.0 % 64)
sleeper_stands s k t e = asleep k (thread_of s t).place _ (sleeper_found s k.0 t e).stands

pub sleeper_below_stands : (s : State) (k : ChanId) (below : ℤ) (t : ℕ) → best_sleeper_below s k.0 below ≡ Some t → home_of (thread_of s t) ≡ home.Sleepers (k.0 % 64)
sleeper_below_stands s k below t e = asleep_below k below (thread_of s t).place _ (sleeper_below_found s k.0 below t e).stands

pub due_stands : (s : State) (c : CpuId) (t : ℕ) → first_due s c.0 ≡ Some t → home_of (thread_of s t) ≡ home.Cpu c
due_stands s c t e = due c (cpu_of s c.0).count (thread_of s t).place _ (due_found s c.0 t e).stands

pub queued_stands : (s : State) (c : CpuId) (t : ℕ) → best_queued s c.0 ≡ Some t → home_of (thread_of s t) ≡ home.Cpu c
queued_stands s c t e = queued c (thread_of s t).place _ (queued_found s c.0 t e).stands

pub unbound_stands : (s : State) (c : CpuId) (t : ℕ) → best_unbound s c.0 ≡ Some t → home_of (thread_of s t) ≡ home.Cpu c
unbound_stands s c t e = queued c (thread_of s t).place _ (and_left _ (is_none (thread_of s t).body.bound) (unbound_found s c.0 t e).stands)

pub runner_stands : (s : State) (c : CpuId) (t : ℕ) → runner s c.0 ≡ Some t → home_of (thread_of s t) ≡ home.Cpu c
runner_stands s c t e = running c (thread_of s t).place _ (runner_found s c.0 t e).stands

pub ready_stands : (s : State) (c : CpuId) (t : ℕ) → best_ready s c.0 ≡ Some t → (home_of (thread_of s t) ≡ home.Cpu c) ⊎ (home_of (thread_of s t) ≡ home.RealTime (cpu_of s c.0).set)
ready_stands s c t e = ready c (cpu_of s c.0).set (thread_of s t).place _ (ready_found s c.0 t e).stands

pub aged_stands : (s : State) (c : CpuId) (u t : ℕ) → next_to_age s c.0 u ≡ Some t → home_of (thread_of s t) ≡ home.Cpu c
aged_stands s c u t e = queued c (thread_of s t).place _ (and_left _ (is_ts (thread_of s t).body.class) (age_found s c.0 u t e).stands)
