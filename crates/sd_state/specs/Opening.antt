-- The state in which a run begins: every processor idle, every lock free, each thread on a dispatch queue.
-- Source: this project's own.
use Rattle.std.specs.Prelude.{ℕ, ◌+◌, ◌%◌, Bool, true, false, not, ◌&&◌, List, [], ◌∷◌, length, map, take, replicate, ◌==◌, count_by, pos, None, if◌then◌else◌, slice_index_or, slice_get}
use Rattle.std.specs.List.{range_with_len}
use Rattle.sd_types.specs.declared.numbers.CpuId.{CpuId}
use Rattle.sd_types.specs.declared.names.Name.{Name}
use Rattle.sd_types.specs.declared.classes.ClassParms.{ClassParms}
use Rattle.sd_types.specs.declared.classes.ClassParms.TheVariants as parms
use Rattle.sd_types.specs.declared.classes.ClassState.{ClassState}
use Rattle.sd_types.specs.declared.events.Duty.TheVariants.{Nothing}
use Rattle.sd_types.specs.declared.bodies.ThreadBody.{ThreadBody}
use Rattle.sd_types.specs.declared.works.ChanKind.{ChanKind}
use Rattle.sd_types.specs.declared.works.ChanKind.TheVariants.{Chan, Sema}
use Rattle.sd_types.specs.declared.works.ThreadDecl.{ThreadDecl}
use Rattle.sd_types.specs.declared.works.Work.{Work}
use Rattle.sd_types.specs.Partitions.{set_of_cpu, cpus_of_set}
use Rattle.sd_rules.specs.FirstStates.{first_state}
use Rattle.arrayvec.specs.ArrayVec.{ArrayVec}
use Rattle.sd_state.specs.declared.states.Place.{Place}
use Rattle.sd_state.specs.declared.states.Place.TheVariants.{Queued, RealTime}
use Rattle.sd_state.specs.declared.states.LockState.TheVariants.{Free}
use Rattle.sd_state.specs.declared.states.ThreadState.{ThreadState}
use Rattle.sd_state.specs.declared.states.CpuState.{CpuState}
use Rattle.sd_state.specs.declared.states.State.{State}
use Rattle.sd_state.specs.Operations.{ticks_at}

-- the class state of a declared thread, with a whole quantum
abbrev pub first_class : Work → ClassParms → ℕ → ClassState
first_class w p cpupri = first_state w.ts w.fx w.rt p cpupri

abbrev pub class_of : Work → ThreadDecl → ClassState
class_of w d = first_class w d.class d.cpupri

-- a real-time thread: those are the ones of priority 100 or more
abbrev pub is_real_time_class : ClassParms → Bool
is_real_time_class (parms.Rt pri quantum) = true
is_real_time_class _ = false

abbrev pub is_urgent : ThreadDecl → Bool
is_urgent d = is_real_time_class d.class

-- the threads of a set that are not urgent are assigned round-robin to its processors
abbrev pub is_dealt : ℕ → ThreadDecl → Bool
is_dealt p d = (d.set.0 == p) && not (is_urgent d)

-- how many of the threads before t are assigned round-robin in set p
abbrev pub dealt_before : Work → ℕ → ℕ → ℕ
dealt_before w p t = count_by (is_dealt p) (take t w.threads)

-- the k-th of the processors of a set, taken round and round
abbrev pub dealt_cpu : List CpuId → ℕ → CpuId
dealt_cpu cpus k = slice_index_or cpus (k % length cpus) (record { 0 = 0 })

-- the processor on whose queue thread t stands; for an urgent one the least of its partition
unfoldable pub first_cpu : Work → ℕ → ThreadDecl → CpuId
first_cpu w t d = dealt_cpu (cpus_of_set w d.set.0) (if is_urgent d then 0 else dealt_before w d.set.0 t)

abbrev pub first_place : Work → ℕ → ThreadDecl → Place
first_place w t d = if is_urgent d then RealTime d.set (pos t) else Queued (first_cpu w t d) (pos t)

abbrev pub first_body : Work → ℕ → ThreadDecl → ThreadBody
first_body w t d = record {
  class = class_of w d;
  willed = record { items = [] };
  held = record { items = [] };
  op = 0;
  run_left = ticks_at (slice_get d.script.ops 0);
  back = false;
  last = first_cpu w t d;
  left_at = None;
  looped = false;
  bound = None;
}

unfoldable pub first_thread : Work → ℕ → ThreadDecl → ThreadState
first_thread w t d = record { body = first_body w t d; place = first_place w t d }

-- the threads from number t on
abbrev pub first_threads : Work → ℕ → List ThreadDecl → List ThreadState
first_threads w t [] = []
first_threads w t (d ∷ ds) = first_thread w t d ∷ first_threads w (t + 1) ds

abbrev pub count_of : ChanKind → ℕ
count_of Chan = 0
count_of (Sema count) = count

abbrev pub first_count : Name × ChanKind → ℕ
first_count k = count_of k.1

unfoldable pub first_cpu_state : Work → ℕ → CpuState
first_cpu_state w c = record {
  count = 0;
  user = false;
  kernel = false;
  duty = Nothing;
  set = record { 0 = set_of_cpu w c };
  closing = None;
  bound = 0;
}

abbrev pub open_list : Work → ℕ → ArrayVec CpuId
open_list w p = record { items = cpus_of_set w p }

unfoldable pub opening : Work → State
opening w = record {
  threads = first_threads w 0 w.threads;
  locks = replicate (length w.locks) Free;
  cpus = map (first_cpu_state w) (range_with_len 0 w.cpus);
  counts = map first_count w.chans;
  open_cpus = map (open_list w) (range_with_len 0 (length w.sets + 1));
}
