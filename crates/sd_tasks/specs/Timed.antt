-- The timed lines: those of `task`, and those of `thread` with `start` or `on`. The causes of the workload's rules are
-- not repeated here. Source: this project's own.
use Rattle.std.specs.Prelude.{ℕ, ◌-◌, ◌/◌, Bool, true, false, not, ◌&&◌, ◌||◌, ◌==◌, List, [], ◌∷◌, ◌++◌, length, max, nat_le, nat_lt, cond, codes, Option, Some, None, is_some, is_none, option_map, unwrap_or}
use Rattle.std.specs.Option.{option_map_or}
use Rattle.sd_types.specs.Limits.{greatest_limit, greatest_span, most_objects, most_operations, most_threads}
use Rattle.sd_script.specs.declared.faults.ScriptFault.TheVariants.{TooLong}
use Rattle.sd_lines.specs.declared.threads.ThreadClass.{ThreadClass}
use Rattle.sd_lines.specs.declared.threads.ThreadClass.TheVariants.{Ts, Fx, Sys, Rt}
use Rattle.sd_lines.specs.Words.{Word}
use Rattle.sd_declare.specs.declared.causes.WorkCause.{WorkCause}
use Rattle.sd_declare.specs.declared.causes.WorkCause.TheVariants.{Syntax, Twice, Range, Script, Sets, Limits}
use Rattle.sd_tasks.specs.declared.forms.TimedOptions.{TimedOptions}
use Rattle.sd_tasks.specs.declared.releases.Release.{Release}
use Rattle.sd_tasks.specs.Above.{Above, Member, is_chan_name, is_kept_name, least_cpu, partition, set_number}
use Rattle.sd_tasks.specs.Forms.{Timed}
use Rattle.sd_tasks.specs.Releases.{release_count}
use Rattle.sd_tasks.specs.Written.{Written, written}

-- ---- what is declared

-- level 59 of the real-time class, which is kept for the clocks
abbrev pub is_high_class : ThreadClass → Bool
is_high_class (Ts cpupri limit upri) = false
is_high_class (Fx limit pri quantum) = false
is_high_class (Sys pri) = false
is_high_class (Rt pri quantum) = pri == 59

-- a task, or a thread with `start`
abbrev pub is_gated_line : Bool → Timed → Bool
is_gated_line is_task t = is_task || is_some t.options.start

-- of a thread that begins at a tick: one release
abbrev pub start_release : ℕ → Release
start_release tick = record { first = tick; period = 1; most = 1 }

-- where the number of jobs is not bounded, no more are released than there are ticks
abbrev pub release_of : Bool → TimedOptions → Option Release
release_of true o = Some (record { first = unwrap_or o.offset 0; period = unwrap_or o.period 0; most = unwrap_or o.jobs greatest_limit })
release_of false o = option_map start_release o.start

-- of a task: within how many ticks of its release a job is to be complete; within its period, where nothing is said
abbrev pub deadline_of : Bool → TimedOptions → Option ℕ
deadline_of true o = Some (unwrap_or o.deadline (unwrap_or o.period 0))
deadline_of false o = None

-- how many times the script is written
abbrev pub rounds_of : Above → Bool → Option Release → ℕ
rounds_of a true (Some r) = release_count r (unwrap_or a.limit 0)
rounds_of a true None = 1
rounds_of a false r = 1

abbrev pub rounds : Above → Bool → Timed → ℕ
rounds a is_task t = rounds_of a is_task (release_of is_task t.options)

unfoldable pub member_of : Above → ℕ → Bool → Timed → Member
member_of a number is_task t = record {
  name = t.thread.name;
  line = number;
  set = set_number a t.thread.set;
  home = unwrap_or t.options.cpu (least_cpu a (set_number a t.thread.set));
  release = release_of is_task t.options;
  rounds = rounds a is_task t;
  cpu = t.options.cpu;
  deadline = deadline_of is_task t.options;
  is_task = is_task;
  is_given = false;
}

abbrev pub chans_with : Above → Bool → Timed → List Word
chans_with a is_task t = a.chans ++ cond (is_gated_line is_task t) (t.thread.name ∷ []) []

abbrev pub with_timed : Above → ℕ → Bool → Timed → Above
with_timed a number is_task t = record a {
  chans = chans_with a is_task t;
  threads = a.threads ++ member_of a number is_task t ∷ [];
  is_timed = true;
}

-- ---- causes

-- the number of an option, where it is given, is from this one to 100,000
abbrev pub fits_from : ℕ → Option ℕ → Bool
fits_from least option = option_map_or (λ n. nat_le least n && nat_le n greatest_span) option true

abbrev pub are_options_within : TimedOptions → Bool
are_options_within o = fits_from 1 o.period && fits_from 0 o.offset && fits_from 1 o.deadline && fits_from 1 o.jobs && fits_from 0 o.start

-- the semaphore has the name of a channel or semaphore
abbrev pub is_chan_taken : Above → Bool → Timed → Bool
is_chan_taken a is_task t = is_gated_line is_task t && is_chan_name a t.thread.name

-- there is no room for its semaphore
abbrev pub has_no_room : Above → Bool → Timed → Bool
has_no_room a is_task t = is_gated_line is_task t && nat_le most_objects (length a.chans)

abbrev pub is_twice : Above → Bool → Timed → Bool
is_twice a is_task t = a.has_kept || is_kept_name t.thread.name || is_chan_taken a is_task t

abbrev pub is_no_cpu : Above → Option ℕ → Bool
is_no_cpu a cpu = option_map_or (λ c. nat_le a.cpus c) cpu false

unfoldable pub is_out : Above → Timed → Bool
is_out a t = a.has_high || is_high_class t.thread.class || is_no_cpu a t.options.cpu || not (are_options_within t.options)

-- the processor is not of the thread's set
abbrev pub is_elsewhere : Above → Timed → Bool
is_elsewhere a t = option_map_or (λ c. not (partition a c == set_number a t.thread.set)) t.options.cpu false

abbrev pub is_full : Above → Bool → Timed → Bool
is_full a is_task t = has_no_room a is_task t || nat_le most_threads (length a.threads)

unfoldable pub timed_cause : Above → Bool → Option Timed → Option WorkCause
timed_cause a is_task None = Some Syntax
timed_cause a is_task (Some t) =
    cond (is_none a.limit) (Some Syntax)
    (cond (is_twice a is_task t) (Some Twice)
    (cond (is_out a t) (Some Range)
    (cond (nat_lt most_operations (rounds a is_task t)) (Some (Script TooLong))
    (cond (is_elsewhere a t) (Some Sets)
    (cond (is_full a is_task t) (Some Limits) None)))))

-- ---- the lines of the workload

abbrev pub sema_line : Word → ℕ → Written
sema_line name number = written (codes "sema " ++ (name ++ codes " 0")) number

abbrev pub head_line : List ℕ → ℕ → Written
head_line head number = written (codes "thread" ++ head) number

-- A semaphore that cannot be declared is left out, so that the line of the thread is judged.
abbrev pub sema_lines : Above → ℕ → Bool → Timed → List Written
sema_lines a number is_task t =
    cond (is_gated_line is_task t && not (is_chan_name a t.thread.name) && nat_lt (length a.chans) most_objects) (sema_line t.thread.name number ∷ []) []

unfoldable pub timed_lines : Above → ℕ → Bool → Timed → List Written
timed_lines a number is_task t = sema_lines a number is_task t ++ head_line t.head number ∷ []
