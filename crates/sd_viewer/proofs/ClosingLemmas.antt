-- Drawings are whole lines, and so is what is said of them: each text ends with a newline.
use Rattle.std.proofs.Common.{ℕ, ◌-◌, min, Bool, true, false, cond, List, [], ◌∷◌, ◌++◌, length, Option, Some, None, refl, sym, subst, append_assoc}
use Rattle.std.specs.Prelude.{codes, decimal, nat_lt}
use Rattle.std.specs.List.{flat_map}
use Rattle.sd_types.specs.declared.events.Entry.{Entry}
use Rattle.sd_types.specs.declared.works.Work.{Work}
use Rattle.sd_text.specs.Lines.{EndsLine}
use Rattle.sd_text.proofs.PieceLemmas.{EndsLine-append, EndsLine-newline}
use Rattle.sd_state.specs.declared.states.State.{State}
use Rattle.sd_state.specs.Opening.{opening}
use Rattle.sd_machine.specs.Events.{after}
use Rattle.sd_audit.specs.Audits.{entry_line}
use Rattle.sd_stretches.specs.declared.histories.History.{History}
use Rattle.sd_story.specs.Sentences.{sentence}
use Rattle.sd_story.specs.declared.selections.Selection.{Selection}
use Rattle.sd_story.specs.declared.selections.Selection.TheVariants.{Ticks, Thread}
use Rattle.sd_story.specs.Selections.{has_thread, is_told, tick_of}
use Rattle.sd_story.specs.Story.{cell, heading, line_blanks, row, row_if, rows_from, story, tick_blanks}
use Rattle.sd_layout.specs.declared.frames.Frame.{Frame}
use Rattle.sd_layout.specs.Layouts.{Layout}
use Rattle.sd_timeline.specs.Legend.{Drawn, drawn_of}
use Rattle.sd_timeline.specs.Picture.{ground_text, laid_out, rows_text, shown_holds, timeline_text}
use Rattle.sd_layout.specs.Rows.{layout_of}
use Rattle.sd_trace.specs.Flows.{hand_flow, load_event, wake_flow}
use Rattle.sd_trace.specs.Marks.{mark_text}
use Rattle.sd_trace.specs.Tracks.{all_tracks, trace_text}
use Rattle.sd_tasks.specs.SetTasks.{NamedTask}
use Rattle.sd_deadlines.specs.Numbering.{found_tasks, numbered_tasks}
use Rattle.sd_report.proofs.ClosingLemmas.{report-ends, sheet-ends}
use Rattle.sd_report.proofs.SetClosingLemmas.{jobs-end, set_report-ends, set_sheet-ends}
use Rattle.sd_viewer.specs.declared.drawings.Drawing.{Drawing}
use Rattle.sd_viewer.specs.declared.drawings.Drawing.TheVariants.{Timeline, Trace, Story, Report, Sheet, Jobs}
use Rattle.sd_viewer.specs.Reports.{jobs_by, report_by, sheet_by}
use Rattle.sd_viewer.specs.Drawings.{IsDrawingOf, IsDrawn, asks_past, counted, end_line, frame_of, from_to, last_tick, left_line, parts_line, picture_text, past_line, story_line, threads_line, threads_words, ticks_line, ticks_words, timeline_line}

-- what ends with a fixed text and a newline
behind : (xs fixed : List ℕ) → EndsLine (xs ++ (fixed ++ 10 ∷ []))
behind xs fixed = subst EndsLine (append_assoc xs fixed (10 ∷ [])) (EndsLine-newline (xs ++ fixed))

-- one of two texts
either : (b : Bool) (xs ys : List ℕ) → EndsLine xs → EndsLine ys → EndsLine (cond b xs ys)
either true xs ys p q = p
either false xs ys p q = q

-- ---- drawings

laid_out-ends : (w : Work) (f : Layout) (h : History) (s : State) (d : Drawn) → EndsLine (laid_out w f h s d)
unfolding laid_out
laid_out-ends w f h s d = behind (ground_text w f h d ++ rows_text w f h d s) (codes "</svg>")

timeline-ends : (w : Work) (f : Frame) (h : History) (s : State) → EndsLine (timeline_text w f h s)
timeline-ends w f h s =
    let holds = shown_holds w f h in
    laid_out-ends w (layout_of w f h holds) h s (drawn_of w (layout_of w f h holds) h holds)

picture-ends : (w : Work) (h : History) (from to : ℕ) (s : State) → EndsLine (picture_text w h from to s)
picture-ends w h from to s = either (nat_lt from w.limit) (timeline_text w (frame_of w h from to) h s) [] (timeline-ends w (frame_of w h from to) h s) refl

trace-ends : (w : Work) (h : History) → EndsLine (trace_text w h)
unfolding trace_text
trace-ends w h =
    let flows = all_tracks w h ++ flat_map (wake_flow w) h.wakeups.items ++ flat_map (hand_flow w) h.hand_overs.items in
    behind (flows ++ flat_map (mark_text w) h.happenings.items ++ flat_map (load_event w) h.loads.items) (codes "\n]}")

row-ends : (w : Work) (s : State) (e : Entry) → EndsLine (row w s e)
unfolding row
row-ends w s e = EndsLine-newline (cell tick_blanks (decimal (tick_of s e)) ++ cell line_blanks (entry_line w e) ++ sentence w s e.cpu e.event)

row_if-ends : (w : Work) (sel : Selection) (s : State) (e : Entry) → EndsLine (row_if w sel s e)
unfolding row_if
row_if-ends w sel s e = either (is_told w sel s e) (row w s e) [] (row-ends w s e) refl

rows-end : (w : Work) (sel : Selection) (s : State) (es : List Entry) → EndsLine (rows_from w sel s es)
unfolding rows_from
rows-end w sel s [] = refl
rows-end w sel s (e ∷ es) =
    let s' = after w s e.number e.cpu e.event in
    EndsLine-append (row_if w sel s e) (rows_from w sel s' es) (row_if-ends w sel s e) (rows-end w sel s' es)

story-ends : (w : Work) (sel : Selection) (es : List Entry) → EndsLine (story w sel es)
unfolding story
story-ends w sel es = EndsLine-append heading (rows_from w sel (opening w) es) refl (rows-end w sel (opening w) es)

report_by-ends : (tasks : Option (List NamedTask)) (w : Work) (h : History) (s : State) → EndsLine (report_by tasks w h s)
report_by-ends None w h s = report-ends w h s
report_by-ends (Some tasks) w h s = set_report-ends w h s (numbered_tasks w tasks)

sheet_by-ends : (tasks : Option (List NamedTask)) (w : Work) (h : History) (s : State) → EndsLine (sheet_by tasks w h s)
sheet_by-ends None w h s = sheet-ends w h s
sheet_by-ends (Some tasks) w h s = set_sheet-ends w h s (numbered_tasks w tasks)

jobs_by-ends : (tasks : Option (List NamedTask)) (w : Work) (h : History) (s : State) → EndsLine (jobs_by tasks w h s)
jobs_by-ends None w h s = jobs-end w h s (found_tasks w)
jobs_by-ends (Some tasks) w h s = jobs-end w h s (numbered_tasks w tasks)

drawing-ends : (d : Drawing) (tasks : Option (List NamedTask)) (w : Work) (es : List Entry) (text : List ℕ) → IsDrawingOf d tasks w es text → EndsLine text
drawing-ends (Timeline from to) tasks w es text (h, is, e) = subst EndsLine (sym e) (picture-ends w h from to _)
drawing-ends Trace tasks w es text (h, is, e) = subst EndsLine (sym e) (trace-ends w h)
drawing-ends (Story sel) tasks w es text e = subst EndsLine (sym e) (story-ends w sel es)
drawing-ends Report tasks w es text (h, is, e) = subst EndsLine (sym e) (report_by-ends tasks w h _)
drawing-ends Sheet tasks w es text (h, is, e) = subst EndsLine (sym e) (sheet_by-ends tasks w h _)
drawing-ends Jobs tasks w es text (h, is, e) = subst EndsLine (sym e) (jobs_by-ends tasks w h _)

pub drawn-ends : (d : Drawing) (tasks : Option (List NamedTask)) (w : Work) (journal text : List ℕ) → IsDrawn d tasks w journal text → EndsLine text
drawn-ends d tasks w journal text is = drawing-ends d tasks w is.entries text is.drawing_of

-- ---- what is said of them

past-ends : (form : List ℕ) (w : Work) → EndsLine (past_line form w)
unfolding past_line
past-ends form w = EndsLine-newline (form ++ counted (codes ": the run ends at tick ") w.limit)

end_line-ends : (form : List ℕ) (w : Work) (to : ℕ) → EndsLine (end_line form w to)
unfolding end_line
end_line-ends form w to = either (asks_past w to) (past_line form w) [] (past-ends form w) refl

ticks_words-end : (from to : ℕ) → EndsLine (ticks_words from to)
unfolding ticks_words
ticks_words-end from to =
    EndsLine-newline (from_to (codes "timeline: ticks ") from (codes " to ") to ++ from_to (codes " are not drawn; type: timeline ") from (codes " ") to)

ticks-ends : (w : Work) (from to : ℕ) → EndsLine (ticks_line w from to)
unfolding ticks_line
ticks-ends w from to =
    either (nat_lt (last_tick w from to) (min to w.limit)) (ticks_words (last_tick w from to) (min to w.limit)) [] (ticks_words-end (last_tick w from to) (min to w.limit)) refl

threads_words-end : (n : ℕ) → EndsLine (threads_words n)
unfolding threads_words
threads_words-end n = behind (counted (codes "timeline: ") n) (codes " threads are not drawn; type for one: list NAME")

threads-end : (w : Work) → EndsLine (threads_line w)
unfolding threads_line
threads-end w = either (nat_lt 100 (length w.threads)) (threads_words (length w.threads - 100)) [] (threads_words-end (length w.threads - 100)) refl

parts-end : (w : Work) (from to : ℕ) → EndsLine (parts_line w from to)
unfolding parts_line
parts-end w from to =
    EndsLine-append (end_line (codes "timeline") w to ++ ticks_line w from to) (threads_line w)
    (EndsLine-append (end_line (codes "timeline") w to) (ticks_line w from to) (end_line-ends (codes "timeline") w to) (ticks-ends w from to)) (threads-end w)

timeline_line-ends : (w : Work) (from to : ℕ) → EndsLine (timeline_line w from to)
unfolding timeline_line
timeline_line-ends w from to =
    either (nat_lt from w.limit) (parts_line w from to) (past_line (codes "timeline: no picture is drawn") w) (parts-end w from to)
    (past-ends (codes "timeline: no picture is drawn") w)

story_line-ends : (w : Work) (sel : Selection) → EndsLine (story_line w sel)
unfolding story_line
story_line-ends w (Ticks from to) =
    either (nat_lt w.limit from) (past_line (codes "list") w) (end_line (codes "list") w to) (past-ends (codes "list") w) (end_line-ends (codes "list") w to)
story_line-ends w (Thread name) = either (has_thread w name.items) [] (codes "list: no thread has this name\n") refl refl

pub left-ends : (d : Drawing) (w : Work) → EndsLine (left_line d w)
left-ends (Timeline from to) w = timeline_line-ends w from to
left-ends Trace w = refl
left-ends (Story sel) w = story_line-ends w sel
left-ends Report w = refl
left-ends Sheet w = refl
left-ends Jobs w = refl
