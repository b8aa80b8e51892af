-- The lists of each kind of home.
-- Source: this project's own; see Homes.
use Rattle.std.specs.Prelude.{◌≡◌, ℕ, Bool, true, ◌||◌, List, [], is_some, if◌then◌else◌}
use Rattle.sd_types.specs.declared.numbers.HomeId.{HomeId}
use Rattle.sd_record.specs.Records.{ThreadRecord}
use Rattle.sd_boxq.specs.Order.{find_id}
use Rattle.sd_turnstile.specs.Waiters.{waiters_at, with_waiters, find_among as find_waiter}
use Rattle.sd_sleepq.specs.Among.{find_among as find_sleeper}
use Rattle.sd_sleepq.specs.Sleepers.{sleepers_of, with_sleepers}
use Rattle.sd_homes.specs.declared.list_id.ListId.{ListId}
use Rattle.sd_homes.specs.declared.list_id.ListId.TheVariants.{Runs, Queues, Urgent, Waits, Sleeps, Naps, Ends}
use Rattle.sd_homes.specs.Standing.{home_at, id_of}
use Rattle.sd_homes.specs.Homes.{OfCpu, OfSet, OfChain, OfSleepers, is_chan_of, with_asleep, is_of, with_turnstiles, one, head_of, with_queue, with_running, with_nappers, with_ended, with_urgent}

-- who stands there, as the home has it; a home has only its own
abbrev pub cpu_list : OfCpu → ListId → List ThreadRecord
cpu_list h (Runs c) = one h.running
cpu_list h (Queues c) = h.queue
cpu_list h (Naps c) = h.nappers
cpu_list h (Ends c) = h.ended
cpu_list h _ = []

abbrev pub set_list : OfSet → ListId → List ThreadRecord
set_list h (Urgent p) = h.queue
set_list h _ = []

abbrev pub chain_list : OfChain → ListId → List ThreadRecord
chain_list h (Waits l side) = if is_of h.turnstiles l.0 then waiters_at h.turnstiles l.0 side else []
chain_list h _ = []

abbrev pub asleep_list : OfSleepers → ListId → List ThreadRecord
asleep_list h (Sleeps k) = if is_chan_of h.sleepers k.0 then sleepers_of h.sleepers k.0 else []
asleep_list h _ = []

-- the same with another list

abbrev pub with_cpu_list : OfCpu → ListId → List ThreadRecord → OfCpu
with_cpu_list h (Runs c) rs = with_running (head_of rs) h
with_cpu_list h (Queues c) rs = with_queue rs h
with_cpu_list h (Naps c) rs = with_nappers rs h
with_cpu_list h (Ends c) rs = with_ended rs h
with_cpu_list h _ rs = h

abbrev pub with_set_list : OfSet → ListId → List ThreadRecord → OfSet
with_set_list h (Urgent p) rs = with_urgent rs h
with_set_list h _ rs = h

abbrev pub with_chain_list : OfChain → ListId → List ThreadRecord → OfChain
with_chain_list h (Waits l side) rs = if is_of h.turnstiles l.0 then with_turnstiles (with_waiters h.turnstiles l.0 side rs) h else h
with_chain_list h _ rs = h

abbrev pub with_asleep_list : OfSleepers → ListId → List ThreadRecord → OfSleepers
with_asleep_list h (Sleeps k) rs = if is_chan_of h.sleepers k.0 then with_asleep (with_sleepers h.sleepers k.0 rs) h else h
with_asleep_list h _ rs = h

-- it has the thread

abbrev pub has_id : ℕ → List ThreadRecord → Bool
has_id t rs = is_some (find_id id_of t rs)

abbrev pub cpu_has : ℕ → OfCpu → Bool
cpu_has t h = has_id t (one h.running) || (has_id t h.queue || (has_id t h.nappers || has_id t h.ended))

abbrev pub set_has : ℕ → OfSet → Bool
set_has t h = has_id t h.queue

abbrev pub chain_has : ℕ → OfChain → Bool
chain_has t h = is_some (find_waiter id_of t h.turnstiles.locks)

abbrev pub asleep_has : ℕ → OfSleepers → Bool
asleep_has t h = is_some (find_sleeper id_of t h.sleepers.queues)

-- a home with this number and these lists has the thread, and has it in this list
pub record IsListed (t : ℕ) (k : HomeId) (list : ListId → List ThreadRecord) (has : Bool) (sp : ListId) : Type 0 where
  pub home : home_at sp ≡ k
  pub found : has_id t (list sp) ≡ true
  pub there : has ≡ true
