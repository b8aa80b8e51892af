-- The best of the threads that a dispatcher may choose from.
-- Source: Solaris Internals (dispatch queues): the greatest priority, and of these the one that was queued first.
use Rattle.std.specs.Prelude.{ℕ, Bool, not, ◌&&◌, ◌||◌, List, nat_lt, ◌==◌, ℤ, int_lt, Option, position}
use Rattle.std.specs.List.{list_all}
use Rattle.sd_types.specs.Priorities.{eff}
use Rattle.sd_state.specs.declared.states.Place.{Place}
use Rattle.sd_state.specs.declared.states.Place.TheVariants.{RealTime}
use Rattle.sd_state.specs.declared.states.ThreadState.{ThreadState}
use Rattle.sd_state.specs.States.{key_of, is_ready, is_running}

-- x is one of the candidates, and no candidate of the list beats it
abbrev pub leads_by : {X : Type 0} → (X → Bool) → (X → X → Bool) → List X → X → Bool
leads_by on beats xs x = on x && list_all (λ u. not (on u && beats u x)) xs

-- the index of the first that leads
abbrev pub best_by : {X : Type 0} → (X → Bool) → (X → X → Bool) → List X → Option ℕ
best_by on beats xs = position (leads_by on beats xs) xs

-- the real-time queue goes before a processor's own, where priorities are equal
abbrev pub queue_rank : Place → ℕ
queue_rank (RealTime p k) = 0
queue_rank _ = 1

-- the greater priority goes first, then the real-time queue, then the smaller key
abbrev pub goes_before : ℕ → ℕ → ℤ → ℕ → ℕ → ℤ → Bool
goes_before p rank key q rank' key' = nat_lt q p || ((p == q) && (nat_lt rank rank' || ((rank == rank') && int_lt key key')))

abbrev pub beats : ThreadState → ThreadState → Bool
beats x y = goes_before (eff x.body) (queue_rank x.place) (key_of x.place) (eff y.body) (queue_rank y.place) (key_of y.place)

-- the number of the best thread on the queue of processor c and the real-time queue of partition p
unfoldable pub best_ready_among : ℕ → ℕ → List ThreadState → Option ℕ
best_ready_among c p threads = best_by (λ x. is_ready c p x.place) beats threads

-- the number of the thread that runs on processor c
unfoldable pub running : ℕ → List ThreadState → Option ℕ
running c threads = position (λ x. is_running c x.place) threads
