-- Which homes a state has, and which of their lists.
-- Source: this project's own; that each kind has 64 chains, see `sd_homes`.
use Rattle.std.specs.Prelude.{◌<◌, length}
use Rattle.sd_types.specs.declared.numbers.HomeId.{HomeId}
use Rattle.sd_types.specs.declared.numbers.HomeId.TheVariants as home
use Rattle.sd_state.specs.declared.states.State.{State}
use Rattle.sd_homes.specs.declared.list_id.ListId.{ListId}
use Rattle.sd_homes.specs.declared.list_id.ListId.TheVariants.{Runs, Queues, Urgent, Waits, Sleeps, Naps, Ends}

-- the state has a home of this number: one for each processor and for each set, and 64 chains of either kind
abbrev pub IsHomeOf : State → HomeId → Type 0
IsHomeOf s (home.Cpu c) = c.0 < length s.cpus
IsHomeOf s (home.RealTime p) = p.0 < length s.open_cpus
IsHomeOf s (home.Chain i) = i < 64
IsHomeOf s (home.Sleepers i) = i < 64

-- what the list is named after is there
abbrev pub IsListOf : State → ListId → Type 0
IsListOf s (Runs c) = c.0 < length s.cpus
IsListOf s (Queues c) = c.0 < length s.cpus
IsListOf s (Urgent p) = p.0 < length s.open_cpus
IsListOf s (Waits l side) = l.0 < length s.locks
IsListOf s (Sleeps k) = k.0 < length s.counts
IsListOf s (Naps c) = c.0 < length s.cpus
IsListOf s (Ends c) = c.0 < length s.cpus
