-- The whole picture, from the history and the last state of a run.
-- Source: this project's own.
use Rattle.std.specs.Prelude.{ℕ, nat_lt, List, [], ◌++◌, length, codes, Option, Some, None, slice_get, if◌then◌else◌}
use Rattle.std.specs.List.{flat_map, range_with_len}
use Rattle.sd_types.specs.declared.numbers.CpuId.{CpuId}
use Rattle.sd_types.specs.declared.works.Work.{Work}
use Rattle.sd_state.specs.declared.states.State.{State}
use Rattle.sd_state.specs.declared.states.ThreadState.{ThreadState}
use Rattle.sd_machine.specs.LockGraph.{cycles_of}
use Rattle.sd_stretches.specs.declared.histories.History.{History}
use Rattle.sd_stretches.specs.declared.rows.Stretch.{Stretch}
use Rattle.sd_stretches.specs.declared.spin_pieces.Track.TheVariants as track
use Rattle.sd_stretches.specs.Rows.{levels}
use Rattle.sd_stretches.specs.SpinPieces.{pieces}
use Rattle.sd_holds.specs.declared.holdings.Hold.{Hold}
use Rattle.sd_holds.specs.Bands.{holds_between}
use Rattle.sd_layout.specs.declared.layouts.Row.TheVariants.{Thread}
use Rattle.sd_layout.specs.declared.frames.Frame.{Frame}
use Rattle.sd_layout.specs.Frames.{last_act}
use Rattle.sd_layout.specs.Layouts.{Layout, row_of}
use Rattle.sd_layout.specs.Rows.{layout_of}
use Rattle.sd_timeline.specs.Bars.{run_bar, stretch_bar}
use Rattle.sd_timeline.specs.Arrows.{hand_texts, wake_text}
use Rattle.sd_timeline.specs.Labels.{fold_text, level_text, mark_text}
use Rattle.sd_timeline.specs.Head.{bound_label, head, thread_head}
use Rattle.sd_timeline.specs.declared.legend.Key.{Key}
use Rattle.sd_timeline.specs.Legend.{Drawn, drawn_of, keys_of, keys_text, lines_of}
use Rattle.sd_timeline.specs.Circles.{rings_text}
use Rattle.sd_timeline.specs.Held.{bands_text}
use Rattle.sd_timeline.specs.Moments.{moment_text}
use Rattle.sd_timeline.specs.Notes.{note_text}

abbrev pub bound_of : Option ThreadState → Option CpuId
bound_of None = None
bound_of (Some x) = x.body.bound

-- the row of a thread: its name, the processor to which it is bound at the end, a bar for each of its stretches, a band for each lock
-- that it holds and a label for each level of its priority
unfoldable pub own_row : Work → Layout → History → List Hold → State → ℕ → List Stretch → ℕ → List ℕ
own_row w f h holds s t own row =
    thread_head w f row t ++ bound_label f row (bound_of (slice_get s.threads t)) ++ flat_map (stretch_bar w f (Thread row)) own
    ++ bands_text w f holds t row ++ flat_map (level_text f row) (levels t h.ranks.items w.limit)

abbrev pub row_text : Work → Layout → History → List Hold → State → ℕ → List Stretch → Option ℕ → List ℕ
row_text w f h holds s t own None = []
row_text w f h holds s t own (Some row) = own_row w f h holds s t own row

-- the bars of a thread in the rows of processors, and its own row, if it has one
unfoldable pub thread_text : Work → Layout → History → List Hold → State → ℕ → List ℕ
thread_text w f h holds s t =
    flat_map (run_bar w f) (pieces (track.Thread t) h w.limit) ++ row_text w f h holds s t (pieces (track.Thread t) h w.limit) (row_of f t)

-- the marks of threads in these blocking cycles, and of those in other circles of wants
unfoldable pub all_marks : Work → Layout → Drawn → List (List ℕ) → List ℕ
all_marks w f d cycles = flat_map (flat_map (mark_text f)) cycles ++ rings_text w f d.holds d.pieces cycles

-- the marks of the last state, where all that happens up to the end is drawn
abbrev pub marks_text : Work → Layout → History → Drawn → State → List ℕ
marks_text w f h d s = if nat_lt f.to (last_act h.happenings.items) then [] else all_marks w f d (cycles_of s)

-- what lies above and under the rows, with these keys of the legend
unfoldable pub frame_text : Work → Layout → List Key → List ℕ
frame_text w f keys = head w f (lines_of keys) ++ keys_text f keys

abbrev pub arrows_text : Work → Layout → History → Drawn → List ℕ
arrows_text w f h d = flat_map (wake_text w f) h.wakeups.items ++ hand_texts w f None 0 d.hand_overs

unfoldable pub ground_text : Work → Layout → History → Drawn → List ℕ
ground_text w f h d = frame_text w f (keys_of f h d) ++ arrows_text w f h d

-- the rows, and the marks over and under them
unfoldable pub rows_text : Work → Layout → History → Drawn → State → List ℕ
rows_text w f h d s =
    flat_map (thread_text w f h d.holds s) (range_with_len 0 (length w.threads)) ++ flat_map (moment_text w f) d.pieces
    ++ flat_map (note_text w f) h.happenings.items ++ marks_text w f h d s ++ flat_map (fold_text f) f.folds

unfoldable pub laid_out : Work → Layout → History → State → Drawn → List ℕ
laid_out w f h s d = ground_text w f h d ++ rows_text w f h d s ++ codes "</svg>\n"

-- the holds that are drawn
abbrev pub shown_holds : Work → Frame → History → List Hold
shown_holds w f h = holds_between w.limit f.from f.to h.happenings.items

-- the picture, where these are the holds: arrows lie under the bars and the priorities, and the marks of threads that run within a
-- tick over them
abbrev pub with_holds : Work → Frame → History → State → List Hold → List ℕ
with_holds w f h s holds = laid_out w (layout_of w f h holds) h s (drawn_of w (layout_of w f h holds) h holds)

abbrev pub timeline_text : Work → Frame → History → State → List ℕ
timeline_text w f h s = with_holds w f h s (shown_holds w f h)
