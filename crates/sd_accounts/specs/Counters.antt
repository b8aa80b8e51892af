-- The running counters of the accounts: what an entry adds to them, of which entries they are the counts, and the texts
-- that are made of them.
-- Source: this project's own.
use Rattle.std.specs.Prelude.{◌≡◌, ℕ, ◌+◌, ◌%◌, ◌^◌, ◌<◌, Bool, true, List, ◌++◌, length, flat_map, count_by, codes, decimal, Option, Some, None, slice_get, slice_set, slice_index_or, if◌then◌else◌}
use Rattle.std.specs.List.{range_with_len}
use Rattle.sd_types.specs.declared.events.Event.{Event}
use Rattle.sd_types.specs.declared.events.Event.TheVariants.{Tick, Spin, Dispatch, Steal, Preempt, Away, Napend, Wake, Rouse, Unblock, Grant, SemaVWake}
use Rattle.sd_types.specs.declared.events.Entry.{Entry}
use Rattle.sd_types.specs.declared.works.Work.{Work}
use Rattle.sd_types.specs.Events.{ticks}
use Rattle.sd_state.specs.declared.states.State.{State}
use Rattle.sd_state.specs.States.{thread_of}
use Rattle.sd_state.specs.Accounts.{is_tick_of, is_dispatch_of, is_preempt_of, is_wake_of, is_idle, thread_ticks, thread_dispatches, thread_preempts, thread_wakes, cpu_ticks, cpu_idle}
use Rattle.sd_state.specs.Texts.{thread_name, state_text}
use Rattle.sd_machine.specs.Accounts.{entries_of, is_dispatch, is_steal, is_preempt, is_wake, is_block, is_will}
use Rattle.sd_machine.specs.Threads.{has_ended}
use Rattle.sd_machine.specs.Texts.{count_line}
use Rattle.sd_accounts.specs.declared.counters.ThreadCounts.{ThreadCounts}
use Rattle.sd_accounts.specs.declared.counters.CpuCounts.{CpuCounts}
use Rattle.sd_accounts.specs.declared.counters.Totals.{Totals}
use Rattle.sd_accounts.specs.declared.accounts.Accounts.{Accounts}

-- a count of 64 bits after an entry that counts or does not
abbrev pub more : Bool → ℕ → ℕ
more counts n = if counts then (n + 1) % 2 ^ 64 else n

abbrev pub no_thread_counts : ThreadCounts
no_thread_counts = record { ticks = 0; dispatches = 0; preempts = 0; wakes = 0 }

abbrev pub no_cpu_counts : CpuCounts
no_cpu_counts = record { ticks = 0; idle = 0 }

abbrev pub no_totals : Totals
no_totals = record { entries = 0; ticks = 0; idle = 0; dispatches = 0; steals = 0; preempts = 0; wakes = 0; blocks = 0; wills = 0 }

-- the counts of thread t after an event more
unfoldable pub thread_after : ℕ → Event → ThreadCounts → ThreadCounts
thread_after t e x = record {
  ticks = more (is_tick_of t e) x.ticks;
  dispatches = more (is_dispatch_of t e) x.dispatches;
  preempts = more (is_preempt_of t e) x.preempts;
  wakes = more (is_wake_of t e) x.wakes;
}

-- the counts of a processor after an event of its own
unfoldable pub cpu_after : Event → CpuCounts → CpuCounts
cpu_after e x = record { ticks = more (ticks e) x.ticks; idle = more (is_idle e) x.idle }

unfoldable pub totals_after : Event → Totals → Totals
totals_after e x = record {
  entries = more true x.entries;
  ticks = more (ticks e) x.ticks;
  idle = more (is_idle e) x.idle;
  dispatches = more (is_dispatch e) x.dispatches;
  steals = more (is_steal e) x.steals;
  preempts = more (is_preempt e) x.preempts;
  wakes = more (is_wake e) x.wakes;
  blocks = more (is_block e) x.blocks;
  wills = more (is_will e) x.wills;
}

-- the one thread of whose accounts an event is, where it is of any
abbrev pub counted_thread : Event → Option ℕ
counted_thread (Tick t) = Some t.0
counted_thread (Spin t l) = Some t.0
counted_thread (Dispatch t p) = Some t.0
counted_thread (Steal v t p) = Some t.0
counted_thread (Preempt t end) = Some t.0
counted_thread (Away t c) = Some t.0
counted_thread (Napend t at) = Some t.0
counted_thread (Wake t k (Some (u, at))) = Some u.0
counted_thread (Rouse k (Some (u, at))) = Some u.0
counted_thread (Unblock l u at) = Some u.0
counted_thread (Grant l u at) = Some u.0
counted_thread (SemaVWake t k u at) = Some u.0
counted_thread _ = None

abbrev pub counted_at : Option ℕ → Event → List ThreadCounts → List ThreadCounts
counted_at None e xs = xs
counted_at (Some t) e xs = slice_set xs t (thread_after t e (slice_index_or xs t no_thread_counts))

unfoldable pub threads_after : Event → List ThreadCounts → List ThreadCounts
threads_after e xs = counted_at (counted_thread e) e xs

unfoldable pub cpus_after : ℕ → Event → List CpuCounts → List CpuCounts
cpus_after c e xs = slice_set xs c (cpu_after e (slice_index_or xs c no_cpu_counts))

-- The counts of entries.

abbrev pub thread_counts_of : List Entry → ℕ → ThreadCounts
thread_counts_of es t = record { ticks = thread_ticks t es; dispatches = thread_dispatches t es; preempts = thread_preempts t es; wakes = thread_wakes t es }

abbrev pub cpu_counts_of : List Entry → ℕ → CpuCounts
cpu_counts_of es c = record { ticks = cpu_ticks c es; idle = cpu_idle c es }

abbrev pub totals_of : List Entry → Totals
totals_of es = record {
  entries = length es;
  ticks = entries_of ticks es;
  idle = entries_of is_idle es;
  dispatches = entries_of is_dispatch es;
  steals = entries_of is_steal es;
  preempts = entries_of is_preempt es;
  wakes = entries_of is_wake es;
  blocks = entries_of is_block es;
  wills = entries_of is_will es;
}

-- the accounts of a workload have taken in these entries, and no other
pub record HasTaken (w : Work) (es : List Entry) (a : Accounts) : Type 0 where
  pub threads : (t : ℕ) → t < length w.threads → slice_get a.threads t ≡ Some (thread_counts_of es t)
  pub cpus : (c : ℕ) → c < w.cpus → slice_get a.cpus c ≡ Some (cpu_counts_of es c)
  pub totals : a.totals ≡ totals_of es

-- The texts of counters.

unfoldable pub counted_text : ThreadCounts → List ℕ
counted_text x =
    codes " ticks " ++ decimal x.ticks ++ (codes " dispatches " ++ decimal x.dispatches)
    ++ (codes " preempts " ++ decimal x.preempts) ++ (codes " wakes " ++ decimal x.wakes)

unfoldable pub counted_thread_line : Work → List ThreadCounts → State → ℕ → List ℕ
counted_thread_line w xs s t =
    codes "thread " ++ thread_name w t ++ counted_text (slice_index_or xs t no_thread_counts) ++ codes " " ++ state_text w (thread_of s t).place ++ codes "\n"

unfoldable pub counted_cpu_line : List CpuCounts → ℕ → List ℕ
counted_cpu_line xs c =
    let x = slice_index_or xs c no_cpu_counts in
    codes "cpu " ++ decimal c ++ codes " ticks " ++ decimal x.ticks ++ codes " idle " ++ decimal x.idle ++ codes "\n"

unfoldable pub counted_threads_text : Work → List ThreadCounts → State → List ℕ
counted_threads_text w xs s = flat_map (counted_thread_line w xs s) (range_with_len 0 (length w.threads))

unfoldable pub counted_cpus_text : Work → List CpuCounts → List ℕ
counted_cpus_text w xs = flat_map (counted_cpu_line xs) (range_with_len 0 w.cpus)

unfoldable pub counted_summary : Totals → State → List ℕ
counted_summary x s =
    count_line (codes "entries") x.entries ++ (count_line (codes "ticks") x.ticks
    ++ (count_line (codes "idle") x.idle ++ (count_line (codes "dispatches") x.dispatches
    ++ (count_line (codes "steals") x.steals ++ (count_line (codes "preempts") x.preempts
    ++ (count_line (codes "wakes") x.wakes ++ (count_line (codes "blocks") x.blocks
    ++ (count_line (codes "wills") x.wills ++ count_line (codes "ended") (count_by (λ t. has_ended t.place) s.threads)))))))))
