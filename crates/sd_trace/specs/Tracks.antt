-- The tracks, and the whole trace, from the history of a run.
-- Source: Trace Event Format (JSON object format, metadata events).
use Rattle.std.specs.Prelude.{ℕ, ◌==◌, List, [], ◌++◌, length, codes, decimal, if◌then◌else◌}
use Rattle.std.specs.List.{flat_map, range_with_len}
use Rattle.sd_types.specs.declared.works.Work.{Work}
use Rattle.sd_state.specs.Texts.{thread_name}
use Rattle.sd_stretches.specs.declared.histories.History.{History}
use Rattle.sd_stretches.specs.declared.rows.Stretch.{Stretch}
use Rattle.sd_stretches.specs.declared.spin_pieces.Track.TheVariants as track
use Rattle.sd_stretches.specs.SpinPieces.{pieces}
use Rattle.sd_holds.specs.declared.banding.Band.{Band}
use Rattle.sd_holds.specs.declared.holdings.Hold.{Hold}
use Rattle.sd_holds.specs.Bands.{bands, most_lanes}
use Rattle.sd_holds.specs.Holds.{holds}
use Rattle.sd_trace.specs.Words.{cpu_number, hold_number, thread_number}
use Rattle.sd_trace.specs.Slices.{run_slice, state_slices}
use Rattle.sd_trace.specs.Flows.{hand_flow, load_event, wake_flow}
use Rattle.sd_trace.specs.Holds.{hold_slice}
use Rattle.sd_trace.specs.Marks.{mark_text}

-- the start of the name of a track of a process
unfoldable pub track_start : ℕ → ℕ → List ℕ
track_start process track = (codes ",\n{\"name\":\"thread_name\",\"ph\":\"M\",\"pid\":" ++ decimal process) ++ (codes ",\"tid\":" ++ decimal track)

unfoldable pub name_start : List ℕ
name_start = codes ",\"args\":{\"name\":\""

unfoldable pub name_end : List ℕ
name_end = codes "\"}}"

unfoldable pub cpu_name : ℕ → List ℕ
cpu_name c = name_start ++ (codes "processor " ++ decimal c)

-- tracks stand in the order of their numbers; without it viewers go by their names, where 10 is before 2
unfoldable pub track_order : ℕ → ℕ → List ℕ
track_order process track =
    (codes ",\n{\"name\":\"thread_sort_index\",\"ph\":\"M\",\"pid\":" ++ decimal process) ++ (codes ",\"tid\":" ++ decimal track)
    ++ (codes ",\"args\":{\"sort_index\":" ++ decimal track) ++ codes "}}"

unfoldable pub cpu_track : ℕ → List ℕ
cpu_track c =
    track_start 1 (cpu_number c) ++ cpu_name c ++ name_end ++ track_order 1 (cpu_number c)

unfoldable pub thread_track : Work → ℕ → List ℕ
thread_track w t =
    track_start 2 (thread_number t) ++ name_start ++ thread_name w t ++ name_end ++ track_order 2 (thread_number t)

-- the track of a processor with its slices
abbrev pub cpu_part : Work → History → ℕ → List ℕ
cpu_part w h c = cpu_track c ++ flat_map (run_slice w c) (pieces (track.Cpu c) h w.limit)

-- the track of a thread, with a slice for each of its stretches
abbrev pub own_part : Work → ℕ → List Stretch → List ℕ
own_part w t own =
    thread_track w t ++ state_slices w (thread_number t) 0 own

unfoldable pub thread_part : Work → History → ℕ → List ℕ
thread_part w h t = own_part w t (pieces (track.Thread t) h w.limit)

unfoldable pub holds_start : List ℕ
holds_start = codes ",\n{\"name\":\"process_name\",\"ph\":\"M\",\"pid\":3,\"args\":{\"name\":\"locks held\"}}"

-- the track of a lane of what a thread holds
unfoldable pub hold_track : Work → ℕ → ℕ → List ℕ
hold_track w t lane =
    track_start 3 (hold_number t lane) ++ name_start ++ thread_name w t ++ codes " holds" ++ name_end ++ track_order 3 (hold_number t lane)

-- the tracks of what a thread holds, with a slice for each hold
abbrev pub holds_part : Work → ℕ → List Band → List ℕ
holds_part w t own = flat_map (hold_track w t) (range_with_len 0 (most_lanes own)) ++ flat_map (hold_slice w) own

abbrev pub own_holds : Work → List Hold → ℕ → List ℕ
own_holds w hs t = holds_part w t (bands t 0 w.limit hs)

unfoldable pub some_holds : Work → List Hold → List ℕ
some_holds w hs = holds_start ++ flat_map (own_holds w hs) (range_with_len 0 (length w.threads))

-- none where no lock is taken
abbrev pub all_holds : Work → List Hold → List ℕ
all_holds w hs = if length hs == 0 then [] else some_holds w hs

unfoldable pub trace_start : List ℕ
trace_start = codes "{\"displayTimeUnit\":\"ms\",\"traceEvents\":[\n{\"name\":\"process_name\",\"ph\":\"M\",\"pid\":1,\"args\":{\"name\":\"processors\"}}"

unfoldable pub threads_start : List ℕ
threads_start = codes ",\n{\"name\":\"process_name\",\"ph\":\"M\",\"pid\":2,\"args\":{\"name\":\"threads\"}}"

-- the tracks with their slices
unfoldable pub all_tracks : Work → History → List ℕ
all_tracks w h =
    trace_start ++ threads_start ++ flat_map (cpu_part w h) (range_with_len 0 w.cpus) ++ flat_map (thread_part w h) (range_with_len 0 (length w.threads))
    ++ all_holds w (holds w.limit h.happenings.items)

-- the trace
unfoldable pub trace_text : Work → History → List ℕ
trace_text w h =
    all_tracks w h ++ flat_map (wake_flow w) h.wakeups.items ++ flat_map (hand_flow w) h.hand_overs.items ++ flat_map (mark_text w) h.happenings.items
    ++ flat_map (load_event w) h.loads.items ++ codes "\n]}\n"
