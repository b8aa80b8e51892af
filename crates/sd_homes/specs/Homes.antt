-- Homes as contracts see them.
-- Source: Solaris Internals (dispatch queues, turnstiles, sleep queues); that chains have four locks or channels each, whose
-- numbers modulo 64 are the chain's, is this project's own.
use Rattle.std.specs.Prelude.{ℕ, ◌+◌, ◌%◌, length, ℤ, pos, Bool, ◌&&◌, ◌==◌, nat_lt, List, [], ◌∷◌, Option, Some, None}
use Rattle.sd_turnstile.specs.Waiters.{Blocked, nobody}
use Rattle.sd_sleepq.specs.Sleepers.{Sleepers}
use Rattle.sd_state.specs.declared.states.LockState.{LockState}
use Rattle.sd_state.specs.declared.states.LockState.TheVariants.{Free}
use Rattle.sd_types.specs.declared.numbers.CpuId.{CpuId}
use Rattle.sd_types.specs.declared.numbers.SetId.{SetId}
use Rattle.sd_types.specs.declared.bodies.ThreadBody.{ThreadBody}
use Rattle.sd_types.specs.declared.classes.ClassState.{ClassState}
use Rattle.sd_machine.specs.Bodies.{arrived, with_class}
use Rattle.sd_record.specs.Records.{ThreadRecord}
use Rattle.sd_store.specs.declared.parts.CpuView.{CpuView}

-- a processor: its dispatch queue, who runs on it, naps on it and has ended there, its marks, set and bindings
pub record OfCpu : Type 0 where
  pub cpu : CpuId
  pub queue : List ThreadRecord
  pub running : Option ThreadRecord
  pub nappers : List ThreadRecord
  pub ended : List ThreadRecord
  pub view : CpuView

abbrev pub one : Option ThreadRecord → List ThreadRecord
one None = []
one (Some r) = r ∷ []

abbrev pub with_queue : List ThreadRecord → OfCpu → OfCpu
with_queue rs h = record h { queue = rs }

abbrev pub with_running : Option ThreadRecord → OfCpu → OfCpu
with_running o h = record h { running = o }

abbrev pub with_nappers : List ThreadRecord → OfCpu → OfCpu
with_nappers rs h = record h { nappers = rs }

abbrev pub with_view : CpuView → OfCpu → OfCpu
with_view v h = record h { view = v }

abbrev pub with_ended : List ThreadRecord → OfCpu → OfCpu
with_ended rs h = record h { ended = rs }

abbrev pub with_key : ℤ → ThreadRecord → ThreadRecord
with_key k r = record r { key = k }

abbrev pub with_body_of : ThreadBody → ThreadRecord → ThreadRecord
with_body_of b r = record r { body = b }

-- it comes to run on a processor, or has another class state and key on a queue
abbrev pub running_on : CpuId → ThreadRecord → ThreadRecord
running_on c r = with_key (pos 0) (with_body_of (arrived c r.body) r)

abbrev pub queued_as : ClassState → ℤ → ThreadRecord → ThreadRecord
queued_as class k r = with_key k (with_body_of (with_class r.body class) r)

-- the real-time queue of a partition, and the open processors of its set
pub record OfSet : Type 0 where
  pub set : SetId
  pub queue : List ThreadRecord
  pub open_cpus : List CpuId

abbrev pub with_urgent : List ThreadRecord → OfSet → OfSet
with_urgent rs h = record h { queue = rs }

abbrev pub with_open_cpus : List CpuId → OfSet → OfSet
with_open_cpus cpus h = record h { open_cpus = cpus }

-- the first of a list
abbrev pub head_of : List ThreadRecord → Option ThreadRecord
head_of [] = None
head_of (r ∷ rs) = Some r

abbrev pub how_many : {X : Type 0} → Option X → ℕ
how_many None = 0
how_many (Some x) = 1

-- a chain of turnstiles, and the states of its locks
pub record OfChain : Type 0 where
  pub turnstiles : Blocked ThreadRecord
  pub states : List LockState

-- the lock is one of this chain
abbrev pub is_of : Blocked ThreadRecord → ℕ → Bool
is_of c l = nat_lt l 256 && ((l % 64) == c.chain)

abbrev pub with_turnstiles : Blocked ThreadRecord → OfChain → OfChain
with_turnstiles c h = record h { turnstiles = c }

abbrev pub with_states : List LockState → OfChain → OfChain
with_states xs h = record h { states = xs }

-- a chain of sleep queues, and the counts of its channels
pub record OfSleepers : Type 0 where
  pub sleepers : Sleepers ThreadRecord
  pub counts : List ℕ

-- the channel is one of this chain
abbrev pub is_chan_of : Sleepers ThreadRecord → ℕ → Bool
is_chan_of c k = nat_lt k 256 && ((k % 64) == c.chain)

abbrev pub with_asleep : Sleepers ThreadRecord → OfSleepers → OfSleepers
with_asleep c h = record h { sleepers = c }

abbrev pub with_counts : List ℕ → OfSleepers → OfSleepers
with_counts xs h = record h { counts = xs }

-- how many sleep on the channels of a chain
abbrev pub all_asleep : List (List ThreadRecord) → ℕ
all_asleep [] = 0
all_asleep (q ∷ qs) = length q + all_asleep qs

-- Homes with no thread.

abbrev pub empty_cpu : CpuId → CpuView → OfCpu
empty_cpu c v = record { cpu = c; queue = []; running = None; nappers = []; ended = []; view = v }

abbrev pub empty_set : SetId → List CpuId → OfSet
empty_set p cpus = record { set = p; queue = []; open_cpus = cpus }

abbrev pub empty_chain : ℕ → OfChain
empty_chain i = record { turnstiles = record { chain = i; locks = nobody ∷ nobody ∷ nobody ∷ nobody ∷ [] }; states = Free ∷ Free ∷ Free ∷ Free ∷ [] }

abbrev pub empty_sleepers : ℕ → List ℕ → OfSleepers
empty_sleepers i counts = record { sleepers = record { chain = i; queues = [] ∷ [] ∷ [] ∷ [] ∷ [] }; counts = counts }
