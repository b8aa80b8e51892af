-- Homes of any kind: their numbers, their lists and what they keep beside their threads.
-- Source: this project's own; see Homes.
use Rattle.std.specs.Prelude.{ℕ, Bool, false, ◌==◌, ◌/◌, List, [], Option, Some, None, if◌then◌else◌, get_or, length, set, ◌≡◌, ⊤}
use Rattle.sd_types.specs.declared.numbers.CpuId.{CpuId}
use Rattle.sd_types.specs.declared.numbers.HomeId.{HomeId}
use Rattle.sd_types.specs.declared.numbers.HomeId.TheVariants as id
use Rattle.sd_record.specs.Records.{ThreadRecord}
use Rattle.sd_state.specs.declared.states.LockState.{LockState}
use Rattle.sd_state.specs.declared.states.LockState.TheVariants.{Free}
use Rattle.sd_boxq.specs.Order.{find_id, drop_id}
use Rattle.sd_machine.specs.Changes.{with_cpu_in, without_cpu}
use Rattle.sd_store.specs.declared.parts.CpuView.{CpuView}
use Rattle.sd_homes.specs.declared.list_id.ListId.{ListId}
use Rattle.sd_homes.specs.Standing.{id_of, insert_at}
use Rattle.sd_homes.specs.declared.home.Home.{Home}
use Rattle.sd_homes.specs.declared.home.Home.TheVariants.{Cpu, RealTime, Chain, Sleepers}
use Rattle.sd_homes.specs.Homes.{is_chan_of, is_of, with_counts, with_open_cpus, with_states, with_view}
use Rattle.sd_homes.specs.Kinds.{cpu_list, set_list, chain_list, asleep_list, with_cpu_list, with_set_list, with_chain_list, with_asleep_list, cpu_has, set_has, chain_has, asleep_has}

abbrev pub same_home : HomeId → HomeId → Bool
same_home (id.Cpu c) (id.Cpu d) = c.0 == d.0
same_home (id.RealTime p) (id.RealTime q) = p.0 == q.0
same_home (id.Chain i) (id.Chain j) = i == j
same_home (id.Sleepers i) (id.Sleepers j) = i == j
same_home _ _ = false

abbrev pub home_id : Home → HomeId
home_id (Cpu h) = id.Cpu h.cpu
home_id (RealTime h) = id.RealTime h.set
home_id (Chain h) = id.Chain h.turnstiles.chain
home_id (Sleepers h) = id.Sleepers h.sleepers.chain

abbrev pub list_in : Home → ListId → List ThreadRecord
list_in (Cpu h) sp = cpu_list h sp
list_in (RealTime h) sp = set_list h sp
list_in (Chain h) sp = chain_list h sp
list_in (Sleepers h) sp = asleep_list h sp

abbrev pub with_list : Home → ListId → List ThreadRecord → Home
with_list (Cpu h) sp rs = Cpu (with_cpu_list h sp rs)
with_list (RealTime h) sp rs = RealTime (with_set_list h sp rs)
with_list (Chain h) sp rs = Chain (with_chain_list h sp rs)
with_list (Sleepers h) sp rs = Sleepers (with_asleep_list h sp rs)

-- a thread leaves the list of those who stand there, or comes to it
abbrev pub taking : ℕ → ListId → Home → Home
taking t from h = with_list h from (drop_id id_of t (list_in h from))

abbrev pub taken_from : ℕ → ListId → Option Home → Option ThreadRecord
taken_from t from None = None
taken_from t from (Some h) = find_id id_of t (list_in h from)

abbrev pub putting : ThreadRecord → ListId → Home → Home
putting r at h = with_list h at (insert_at at r (list_in h at))

-- it has the thread
abbrev pub has : ℕ → Home → Bool
has t (Cpu h) = cpu_has t h
has t (RealTime h) = set_has t h
has t (Chain h) = chain_has t h
has t (Sleepers h) = asleep_has t h

-- the marks, the set and the bindings of a processor
abbrev pub view_in : Home → Option CpuView
view_in (Cpu h) = Some h.view
view_in (RealTime h) = None
view_in (Chain h) = None
view_in (Sleepers h) = None

abbrev pub viewing : CpuView → Home → Home
viewing v (Cpu h) = Cpu (with_view v h)
viewing v (RealTime h) = RealTime h
viewing v (Chain h) = Chain h
viewing v (Sleepers h) = Sleepers h

-- the open processors of a set
abbrev pub open_in : Home → List CpuId
open_in (RealTime h) = h.open_cpus
open_in (Cpu h) = []
open_in (Chain h) = []
open_in (Sleepers h) = []

abbrev pub opening : List CpuId → Home → Home
opening cpus (RealTime h) = RealTime (with_open_cpus cpus h)
opening cpus (Cpu h) = Cpu h
opening cpus (Chain h) = Chain h
opening cpus (Sleepers h) = Sleepers h

-- a processor comes to them, or leaves them
abbrev pub opened : CpuId → Home → Home
opened c h = opening (with_cpu_in c (open_in h)) h

abbrev pub shut : CpuId → Home → Home
shut c h = opening (without_cpu c (open_in h)) h

-- the state of a lock of a chain; another lock is free
abbrev pub lock_in : ℕ → Home → LockState
lock_in l (Chain h) = if is_of h.turnstiles l then get_or h.states (l / 64) Free else Free
lock_in l (Cpu h) = Free
lock_in l (RealTime h) = Free
lock_in l (Sleepers h) = Free

abbrev pub locking : ℕ → LockState → Home → Home
locking l x (Chain h) = Chain (if is_of h.turnstiles l then with_states (set h.states (l / 64) x) h else h)
locking l x (Cpu h) = Cpu h
locking l x (RealTime h) = RealTime h
locking l x (Sleepers h) = Sleepers h

-- the count of a channel of a chain; that of another one is 0
abbrev pub tokens_in : ℕ → Home → ℕ
tokens_in k (Sleepers h) = if is_chan_of h.sleepers k then get_or h.counts (k / 64) 0 else 0
tokens_in k (Cpu h) = 0
tokens_in k (RealTime h) = 0
tokens_in k (Chain h) = 0

abbrev pub counting : ℕ → ℕ → Home → Home
counting k n (Sleepers h) = Sleepers (if is_chan_of h.sleepers k then with_counts (set h.counts (k / 64) n) h else h)
counting k n (Cpu h) = Cpu h
counting k n (RealTime h) = RealTime h
counting k n (Chain h) = Chain h

-- a chain has four locks or four channels
abbrev pub IsWhole : Home → Type 0
IsWhole (Cpu h) = ⊤
IsWhole (RealTime h) = ⊤
IsWhole (Chain h) = length h.turnstiles.locks ≡ 4
IsWhole (Sleepers h) = length h.sleepers.queues ≡ 4
