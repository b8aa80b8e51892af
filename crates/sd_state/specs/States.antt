-- Reading and changing a state. A number that is out of range reads a thread that has ended and a processor that
-- is idle, and changes nothing.
use Rattle.std.specs.Prelude.{◌≡◌, ℕ, Bool, false, ◌||◌, [], ◌==◌, None, ℤ, pos, option_map, unwrap_or, slice_get, slice_index_or, slice_set, true, List, length}
use Rattle.std.specs.List.{range_with_len}
use Rattle.sd_types.specs.declared.numbers.SetId.{SetId}
use Rattle.sd_types.specs.declared.numbers.Side.{Side}
use Rattle.sd_types.specs.declared.numbers.Side.TheVariants.{Writer, Reader}
use Rattle.sd_types.specs.declared.bodies.ThreadBody.{ThreadBody}
use Rattle.sd_types.specs.declared.classes.ClassState.TheVariants.{Sys}
use Rattle.sd_types.specs.declared.events.Duty.TheVariants.{Nothing}
use Rattle.sd_types.specs.declared.works.Work.{Work}
use Rattle.sd_types.specs.Priorities.{eff}
use Rattle.sd_state.specs.declared.states.Place.{Place}
use Rattle.sd_state.specs.declared.states.Place.TheVariants.{Running, Queued, RealTime, Waiting, Asleep, Ended}
use Rattle.sd_state.specs.declared.states.ThreadState.{ThreadState}
use Rattle.sd_state.specs.declared.states.CpuState.{CpuState}
use Rattle.sd_state.specs.declared.states.State.{State}

abbrev pub no_body : ThreadBody
no_body = record {
  class = Sys (record { pri = 60 });
  willed = record { items = [] };
  held = record { items = [] };
  op = 0;
  run_left = 0;
  back = false;
  last = record { 0 = 0 };
  left_at = None;
  looped = false;
  bound = None;
}

abbrev pub no_thread : ThreadState
no_thread = record { body = no_body; place = Ended }

abbrev pub no_cpu : CpuState
no_cpu = record { count = 0; user = false; kernel = false; duty = Nothing; set = record { 0 = 0 }; closing = None; bound = 0 }

abbrev pub thread_of : State → ℕ → ThreadState
thread_of s t = slice_index_or s.threads t no_thread

abbrev pub cpu_of : State → ℕ → CpuState
cpu_of s c = slice_index_or s.cpus c no_cpu

-- the effective priority of a thread
abbrev pub eff_of : State → ℕ → ℕ
eff_of s t = eff (thread_of s t).body

abbrev pub with_thread : State → ℕ → ThreadState → State
with_thread s t x = record s { threads = slice_set s.threads t x }

abbrev pub with_cpu : State → ℕ → CpuState → State
with_cpu s c x = record s { cpus = slice_set s.cpus c x }

abbrev pub same_side : Side → Side → Bool
same_side Writer Writer = true
same_side Writer Reader = false
same_side Reader Writer = false
same_side Reader Reader = true

-- the key of a place, 0 where it has none
-- keys are not below it at the back of a queue, and below it where a run begins
abbrev pub first_back_key : ℕ
first_back_key = 4096

abbrev pub key_of : Place → ℤ
key_of (Queued c k) = k
key_of (RealTime p k) = k
key_of (Waiting l side k) = k
key_of (Asleep ch k) = k
key_of _ = pos 0

abbrev pub is_running : ℕ → Place → Bool
is_running c (Running d) = d.0 == c
is_running c _ = false

abbrev pub is_queued : ℕ → Place → Bool
is_queued c (Queued d k) = d.0 == c
is_queued c _ = false

abbrev pub is_real_time : ℕ → Place → Bool
is_real_time p (RealTime q k) = q.0 == p
is_real_time p _ = false

-- on the queue of processor c or on the real-time queue of partition p
abbrev pub is_ready : ℕ → ℕ → Place → Bool
is_ready c p place = is_queued c place || is_real_time p place

-- the partition of a thread, which its declaration names
abbrev pub set_of : Work → ℕ → SetId
set_of w t = unwrap_or (option_map (λ d. d.set) (slice_get w.threads t)) (record { 0 = 0 })

abbrev pub thread_numbers : Work → List ℕ
thread_numbers w = range_with_len 0 (length w.threads)
