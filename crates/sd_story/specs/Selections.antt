-- Which entries of a run are told.
-- Source: this project's own.
use Rattle.std.specs.Prelude.{ℕ, Bool, false, ◌&&◌, ◌||◌, nat_le, List, Option, Some, None}
use Rattle.std.specs.List.{list_any}
use Rattle.sd_types.specs.Works.{same_bytes}
use Rattle.sd_types.specs.declared.numbers.ThreadId.{ThreadId}
use Rattle.sd_types.specs.declared.events.Entry.{Entry}
use Rattle.sd_types.specs.declared.works.Work.{Work}
use Rattle.sd_state.specs.declared.states.State.{State}
use Rattle.sd_state.specs.States.{cpu_of}
use Rattle.sd_state.specs.Texts.{thread_name}
use Rattle.sd_stretches.specs.Named.{first_named, second_named}
use Rattle.sd_story.specs.declared.selections.Selection.{Selection}
use Rattle.sd_story.specs.declared.selections.Selection.TheVariants.{Ticks, Thread}

abbrev pub is_named : Work → List ℕ → Option ThreadId → Bool
is_named w name None = false
is_named w name (Some t) = same_bytes (thread_name w t.0) name

-- the count of its processor before the entry
abbrev pub tick_of : State → Entry → ℕ
tick_of s e = (cpu_of s e.cpu.0).count

abbrev pub is_told : Work → Selection → State → Entry → Bool
is_told w (Ticks from to) s e = nat_le from (tick_of s e) && nat_le (tick_of s e) to
is_told w (Thread name) s e = is_named w name.items (first_named e.event) || is_named w name.items (second_named e.event)

-- a thread of the workload has this name
unfoldable pub has_thread : Work → List ℕ → Bool
has_thread w name = list_any (λ d. same_bytes d.name.text.items name) w.threads
