-- What is drawn of a journal.
-- Source: this project's own.
use Rattle.std.specs.Prelude.{◌≡◌, ℕ, Bool, ◌&&◌, ◌+◌, ◌-◌, ◌/◌, ◌==◌, max, min, nat_lt, List, [], ◌++◌, length, codes, decimal, Option, if◌then◌else◌}
use Rattle.sd_types.specs.declared.events.Entry.{Entry}
use Rattle.sd_types.specs.declared.works.Work.{Work}
use Rattle.sd_types.specs.Limits.{greatest_limit}
use Rattle.sd_state.specs.declared.states.State.{State}
use Rattle.sd_state.specs.Opening.{opening}
use Rattle.sd_machine.specs.Runs.{final, IsComplete}
use Rattle.sd_stretches.specs.declared.histories.History.{History}
use Rattle.sd_stretches.specs.Histories.{IsHistory}
use Rattle.sd_audit.specs.Audits.{IsJournalOf}
use Rattle.sd_tasks.specs.SetTasks.{NamedTask}
use Rattle.sd_layout.specs.declared.frames.Frame.{Frame}
use Rattle.sd_layout.specs.Frames.{last_act}
use Rattle.sd_timeline.specs.Picture.{timeline_text}
use Rattle.sd_trace.specs.Tracks.{trace_text}
use Rattle.sd_story.specs.declared.selections.Selection.{Selection}
use Rattle.sd_story.specs.declared.selections.Selection.TheVariants.{Ticks, Thread}
use Rattle.sd_story.specs.Selections.{has_thread}
use Rattle.sd_story.specs.Story.{story}
use Rattle.sd_viewer.specs.declared.drawings.Drawing.{Drawing}
use Rattle.sd_viewer.specs.declared.drawings.Drawing.TheVariants.{Timeline, Trace, Story, Report, Sheet, Jobs}
use Rattle.sd_viewer.specs.Reports.{jobs_by, report_by, sheet_by}

-- the ticks from a to b, as far as the run goes, and of these the first 2,000; and the first 100 threads
abbrev pub first_tick : Work → ℕ → ℕ
first_tick w from = min from w.limit

abbrev pub last_tick : Work → ℕ → ℕ → ℕ
last_tick w from to = min (min to w.limit) (first_tick w from + 2000)

abbrev pub rows : Work → ℕ
rows w = min (length w.threads) 100

-- a tenth more of the ticks up to the last at which anything happens, and one, so that it is seen how things stand then
abbrev pub shown_act : History → ℕ
shown_act h = last_act h.happenings.items + last_act h.happenings.items / 10 + 1

-- where all ticks are asked for, those behind it are cut off, but for the first one of all
abbrev pub cut_tick : Work → History → ℕ → ℕ → ℕ
cut_tick w h from to =
    if to == greatest_limit then min (last_tick w from to) (max (shown_act h) (first_tick w from + 1)) else last_tick w from to

abbrev pub frame_of : Work → History → ℕ → ℕ → Frame
frame_of w h from to = record { from = first_tick w from; to = cut_tick w h from to; cpus = w.cpus; threads = rows w }

-- a word and a number
abbrev pub counted : List ℕ → ℕ → List ℕ
counted word n = word ++ decimal n

-- the run ends before the last of the ticks that were asked for; the greatest number, beyond which no run goes, asks for all
abbrev pub asks_past : Work → ℕ → Bool
asks_past w to = nat_lt w.limit to && nat_lt to greatest_limit

unfoldable pub past_line : List ℕ → Work → List ℕ
past_line form w = form ++ counted (codes ": the run ends at tick ") w.limit ++ codes "\n"

unfoldable pub from_to : List ℕ → ℕ → List ℕ → ℕ → List ℕ
from_to word from then_word to = counted word from ++ counted then_word to

unfoldable pub ticks_words : ℕ → ℕ → List ℕ
ticks_words from to = from_to (codes "timeline: ticks ") from (codes " to ") to ++ from_to (codes " are not drawn; type: timeline ") from (codes " ") to ++ codes "\n"

-- ticks that were asked for are left out
unfoldable pub ticks_line : Work → ℕ → ℕ → List ℕ
ticks_line w from to = if nat_lt (last_tick w from to) (min to w.limit) then ticks_words (last_tick w from to) (min to w.limit) else []

unfoldable pub threads_words : ℕ → List ℕ
threads_words n = counted (codes "timeline: ") n ++ codes " threads are not drawn; type for one: list NAME\n"

-- threads are left out
unfoldable pub threads_line : Work → List ℕ
threads_line w = if nat_lt 100 (length w.threads) then threads_words (length w.threads - 100) else []

-- the run does not have all ticks that were asked for
unfoldable pub end_line : List ℕ → Work → ℕ → List ℕ
end_line form w to = if asks_past w to then past_line form w else []

unfoldable pub parts_line : Work → ℕ → ℕ → List ℕ
parts_line w from to = end_line (codes "timeline") w to ++ ticks_line w from to ++ threads_line w

-- where the run has none of the ticks, nothing is drawn
unfoldable pub timeline_line : Work → ℕ → ℕ → List ℕ
timeline_line w from to = if nat_lt from w.limit then parts_line w from to else past_line (codes "timeline: no picture is drawn") w

-- what happens at the last tick, behind all, is told too
unfoldable pub story_line : Work → Selection → List ℕ
story_line w (Ticks from to) = if nat_lt w.limit from then past_line (codes "list") w else end_line (codes "list") w to
story_line w (Thread name) = if has_thread w name.items then [] else codes "list: no thread has this name\n"

-- what the error output says of a drawing: what is left out of it, or that the run does not have what was asked for
abbrev pub left_line : Drawing → Work → List ℕ
left_line (Timeline from to) w = timeline_line w from to
left_line Trace w = []
left_line (Story selection) w = story_line w selection
left_line Report w = []
left_line Sheet w = []
left_line Jobs w = []

-- the picture of the ticks from a to b, of a run with this history and this last state; there is none where the run has none of the ticks
abbrev pub picture_text : Work → History → ℕ → ℕ → State → List ℕ
picture_text w h from to end = if nat_lt from w.limit then timeline_text w (frame_of w h from to) h end else []

-- the text is the drawing of the run of these entries, whose input tells these tasks
abbrev pub IsDrawingOf : Drawing → Option (List NamedTask) → Work → List Entry → List ℕ → Type 0
IsDrawingOf (Timeline from to) tasks w es text = (h : History) × IsHistory w es h × (text ≡ picture_text w h from to (final w (opening w) es))
IsDrawingOf Trace tasks w es text = (h : History) × IsHistory w es h × (text ≡ trace_text w h)
IsDrawingOf (Story selection) tasks w es text = text ≡ story w selection es
IsDrawingOf Report tasks w es text = (h : History) × IsHistory w es h × (text ≡ report_by tasks w h (final w (opening w) es))
IsDrawingOf Sheet tasks w es text = (h : History) × IsHistory w es h × (text ≡ sheet_by tasks w h (final w (opening w) es))
IsDrawingOf Jobs tasks w es text = (h : History) × IsHistory w es h × (text ≡ jobs_by tasks w h (final w (opening w) es))

-- the text is the drawing of the complete legal run whose journal was read, and whose input tells these tasks
pub record IsDrawn (drawing : Drawing) (tasks : Option (List NamedTask)) (w : Work) (journal drawn : List ℕ) : Type 0 where
  pub entries : List Entry
  pub journal_of : IsJournalOf w journal entries
  pub complete : IsComplete w (final w (opening w) entries)
  pub drawing_of : IsDrawingOf drawing tasks w entries drawn
