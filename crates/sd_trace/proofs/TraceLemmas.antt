-- Which bytes traces are made of.
use Rattle.std.proofs.Common.{ℕ, eqb, ◌∷◌, [], List, length, Option, Some, None, refl}
use Rattle.std.specs.Prelude.{codes, max}
use Rattle.std.specs.List.{range_with_len}
use Rattle.std.proofs.lemmas.List.Folds.{list_all-append}
use Rattle.sd_types.specs.declared.classes.Class.{Class}
use Rattle.sd_types.specs.declared.classes.Class.TheVariants.{Ts, Fx, Sys, Rt}
use Rattle.sd_types.specs.declared.numbers.CpuId.{CpuId}
use Rattle.sd_types.specs.declared.numbers.SetId.{SetId}
use Rattle.sd_types.specs.declared.numbers.ThreadId.{ThreadId}
use Rattle.sd_types.specs.declared.events.AssignAnswer.{AssignAnswer}
use Rattle.sd_types.specs.declared.events.AssignAnswer.TheVariants as assign
use Rattle.sd_types.specs.declared.events.BindAnswer.{BindAnswer}
use Rattle.sd_types.specs.declared.events.BindAnswer.TheVariants as bind
use Rattle.sd_types.specs.declared.events.Event.{Event}
use Rattle.sd_types.specs.declared.events.Event.TheVariants as event
use Rattle.sd_types.specs.declared.works.Work.{Work}
use Rattle.sd_stretches.specs.declared.sights.Doing.{Doing}
use Rattle.sd_stretches.specs.declared.sights.Doing.TheVariants as doing
use Rattle.sd_stretches.specs.declared.changes.HandOver.{HandOver}
use Rattle.sd_stretches.specs.declared.changes.Happening.{Happening}
use Rattle.sd_stretches.specs.declared.changes.Load.{Load}
use Rattle.sd_stretches.specs.declared.changes.Wakeup.{Wakeup}
use Rattle.sd_stretches.specs.declared.histories.History.{History}
use Rattle.sd_stretches.specs.declared.rows.Stretch.{Stretch}
use Rattle.sd_stretches.specs.declared.spin_pieces.Track.TheVariants as track
use Rattle.sd_holds.specs.declared.banding.Band.{Band}
use Rattle.sd_holds.specs.declared.holdings.Hold.{Hold}
use Rattle.sd_holds.specs.Bands.{bands, most_lanes}
use Rattle.sd_holds.specs.Holds.{holds}
use Rattle.sd_trace.specs.Holds.{given_argument, hold_arguments, hold_slice, taken_arguments}
use Rattle.sd_stretches.specs.SpinPieces.{pieces}
use Rattle.sd_stretches.specs.Plain.{is_text_byte, IsText}
use Rattle.sd_stretches.proofs.TextLemmas.{flat-text, either-text, decimal-text, lock-text, thread-text, set-text, doing-text}
use Rattle.sd_trace.specs.Words.{class_word, hold_number, place_at, thread_number}
use Rattle.sd_trace.specs.Slices.{about, class_argument, class_start, entry_arguments, length_of, priority_argument, run_name, run_slice, slice_kind, spin_words, state_slice, state_slices}
use Rattle.sd_trace.specs.Flows.{arrow_end, arrow_from, arrow_start, end_kind, entry_argument, flow, hand_flow, load_argument, load_event, load_start, named, start_kind, track_at, wake_flow}
use Rattle.sd_trace.specs.Marks.{assign_mark, bind_mark, bound_mark, bound_name, mark_at, mark_by, mark_kind, mark_text, set_mark}
use Rattle.sd_trace.specs.Tracks.{all_holds, all_tracks, cpu_name, cpu_part, cpu_track, hold_track, holds_part, holds_start, name_end, name_start, own_holds, own_part, some_holds, thread_part, thread_track, threads_start, trace_start, track_order, track_start, trace_text}

-- ---- slices

place-text : (w : Work) (tick process track : ℕ) → IsText (place_at w tick process track)
unfolding place_at
place-text w tick process track = simp (list_all-append is_text_byte, decimal-text)

class-text : (class : Class) → IsText (class_word class)
class-text Ts = refl
class-text Fx = refl
class-text Sys = refl
class-text Rt = refl

about-text : (x : Stretch) → IsText (about x)
unfolding about class_argument class_start priority_argument entry_arguments
about-text x = simp (list_all-append is_text_byte, decimal-text, class-text)

length-text : (w : Work) (from to : ℕ) → IsText (length_of w from to)
unfolding length_of
length-text w from to = simp decimal-text

spin-words-text : (w : Work) (d : Doing) → IsText (spin_words w d)
unfolding spin_words
spin-words-text w (doing.Spinning c l) = simp (list_all-append is_text_byte, lock-text w l.0)
spin-words-text w d = refl

run-text : (w : Work) (c : ℕ) (x : Stretch) → IsText (run_slice w c x)
unfolding run_slice run_name slice_kind
run-text w c x = simp (list_all-append is_text_byte, thread-text w x.thread, spin-words-text w x.doing, place-text, length-text, about-text)

state-text : (w : Work) (track from to : ℕ) (x : Stretch) → IsText (state_slice w track from to x)
unfolding state_slice slice_kind
state-text w track from to x = simp (list_all-append is_text_byte, doing-text w x.doing, place-text, length-text, about-text)

states-text : (w : Work) (track from : ℕ) (own : List Stretch) → IsText (state_slices w track from own)
unfolding state_slices
states-text w track from [] = refl
states-text w track from (x ∷ xs) = simp (list_all-append is_text_byte, state-text w track from (max from x.to) x, states-text w track (max from x.to) xs)

-- ---- flows

arrow-start-text : (w : Work) (word : List ℕ) (entry tick track : ℕ) → IsText word → IsText (arrow_start w word entry tick track)
unfolding arrow_start named start_kind entry_argument
arrow-start-text w word entry tick track h = simp (list_all-append is_text_byte, h, decimal-text, place-text)

arrow-end-text : (w : Work) (word : List ℕ) (entry tick track : ℕ) → IsText word → IsText (arrow_end w word entry tick track)
unfolding arrow_end named end_kind
arrow-end-text w word entry tick track h = simp (list_all-append is_text_byte, h, decimal-text, place-text)

arrow-text-from : (w : Work) (word : List ℕ) (entry tick : ℕ) (from : Option ℕ) (to : ℕ) → IsText word → IsText (arrow_from w word entry tick from to)
arrow-text-from w word entry tick None to h = refl
arrow-text-from w word entry tick (Some track) to h =
    simp (list_all-append is_text_byte, arrow-start-text w word entry tick track h, arrow-end-text w word entry tick to h)

flow-text : (w : Work) (word : List ℕ) (entry tick : ℕ) (from : Option ℕ) (to : ℕ) → IsText word → IsText (flow w word entry tick from to)
flow-text w word entry tick None to h = refl
flow-text w word entry tick (Some from) to h = arrow-text-from w word entry tick (track_at w from) (thread_number to) h

load-text : (w : Work) (x : Load) → IsText (load_event w x)
unfolding load_event load_start load_argument
load-text w x = simp (list_all-append is_text_byte, decimal-text)

-- ---- marks

mark-at-text : (w : Work) (x : Happening) (process track : ℕ) → IsText (mark_at w x process track)
unfolding mark_at mark_kind entry_argument
mark-at-text w x process track = simp (list_all-append is_text_byte, decimal-text, place-text)

set-mark-text : (w : Work) (x : Happening) (c : CpuId) (word : List ℕ) (set : SetId) → IsText word → IsText (set_mark w x c word set)
unfolding set_mark named
set-mark-text w x c word set h = simp (list_all-append is_text_byte, h, set-text w set.0, mark-at-text)

assign-mark-text : (w : Work) (x : Happening) (c : CpuId) (set : SetId) (answer : AssignAnswer) → IsText (assign_mark w x c set answer)
assign-mark-text w x c set assign.Changed = set-mark-text w x c (codes "closes for ") set refl
assign-mark-text w x c set assign.EPERM = refl
assign-mark-text w x c set assign.EINVAL = refl
assign-mark-text w x c set assign.EBUSY = refl

bound-name-text : (cpu : Option CpuId) → IsText (bound_name cpu)
unfolding named
bound-name-text None = refl
bound-name-text (Some c) = simp (list_all-append is_text_byte, decimal-text)

bound-mark-text : (w : Work) (x : Happening) (t : ThreadId) (cpu : Option CpuId) → IsText (bound_mark w x t cpu)
unfolding bound_mark
bound-mark-text w x t cpu = simp (list_all-append is_text_byte, bound-name-text cpu, mark-at-text)

bind-mark-text : (w : Work) (x : Happening) (t : ThreadId) (cpu : Option CpuId) (answer : BindAnswer) → IsText (bind_mark w x t cpu answer)
bind-mark-text w x t cpu (bind.Changed at) = bound-mark-text w x t cpu
bind-mark-text w x t cpu bind.ESRCH = refl
bind-mark-text w x t cpu bind.EINVAL = refl
bind-mark-text w x t cpu bind.EPERM = refl
bind-mark-text w x t cpu bind.EBUSY = refl

mark-by-text : (w : Work) (x : Happening) (e : Event) → IsText (mark_by w x e)
mark-by-text w x (event.Assign t c set answer) = assign-mark-text w x c set answer
mark-by-text w x (event.Joined set) = set-mark-text w x x.cpu (codes "in ") set refl
mark-by-text w x (event.Bind t u cpu answer) = bind-mark-text w x u cpu answer
mark-by-text w x _ = refl

mark-text : (w : Work) (x : Happening) → IsText (mark_text w x)
mark-text w x = mark-by-text w x x.event

-- ---- tracks

cpu-text : (c : ℕ) → IsText (cpu_track c)
unfolding cpu_track track_start track_order cpu_name name_start name_end
cpu-text c = simp (list_all-append is_text_byte, decimal-text)

track-text : (w : Work) (t : ℕ) → IsText (thread_track w t)
unfolding thread_track track_start track_order name_start name_end
track-text w t = simp (list_all-append is_text_byte, decimal-text, thread-text w t)

own-text : (w : Work) (t : ℕ) (own : List Stretch) → IsText (own_part w t own)
own-text w t own = simp (list_all-append is_text_byte, track-text w t, states-text w (thread_number t) 0 own)

cpu-part-text : (w : Work) (h : History) (c : ℕ) → IsText (cpu_part w h c)
cpu-part-text w h c = simp (list_all-append is_text_byte, cpu-text c, flat-text (run_slice w c) (run-text w c) (pieces (track.Cpu c) h w.limit))

part-text : (w : Work) (h : History) (t : ℕ) → IsText (thread_part w h t)
unfolding thread_part
part-text w h t = own-text w t (pieces (track.Thread t) h w.limit)

given-text : (o : Option ℕ) → IsText (given_argument o)
given-text None = refl
given-text (Some n) = simp (list_all-append is_text_byte, decimal-text)

hold-text : (w : Work) (b : Band) → IsText (hold_slice w b)
unfolding hold_slice hold_arguments taken_arguments slice_kind
hold-text w b =
    simp (list_all-append is_text_byte, lock-text w b.hold.lock.0, place-text, length-text, decimal-text, given-text b.hold.given)

hold-track-text : (w : Work) (t lane : ℕ) → IsText (hold_track w t lane)
unfolding hold_track track_start track_order name_start name_end
hold-track-text w t lane = simp (list_all-append is_text_byte, decimal-text, thread-text w t)

holds-part-text : (w : Work) (t : ℕ) (own : List Band) → IsText (holds_part w t own)
holds-part-text w t own =
    simp (
      list_all-append is_text_byte,
      flat-text (hold_track w t) (hold-track-text w t) (range_with_len 0 (most_lanes own)),
      flat-text (hold_slice w) (hold-text w) own,
    )

own-holds-text : (w : Work) (hs : List Hold) (t : ℕ) → IsText (own_holds w hs t)
own-holds-text w hs t = holds-part-text w t (bands t 0 w.limit hs)

some-holds-text : (w : Work) (hs : List Hold) → IsText (some_holds w hs)
unfolding some_holds holds_start
some-holds-text w hs = simp (list_all-append is_text_byte, flat-text (own_holds w hs) (own-holds-text w hs) (range_with_len 0 (length w.threads)))

holds-text : (w : Work) (hs : List Hold) → IsText (all_holds w hs)
holds-text w hs = either-text (eqb (length hs) 0) [] (some_holds w hs) refl (some-holds-text w hs)

tracks-text : (w : Work) (h : History) → IsText (all_tracks w h)
unfolding all_tracks trace_start threads_start
tracks-text w h =
    simp (
      list_all-append is_text_byte,
      flat-text (cpu_part w h) (cpu-part-text w h) (range_with_len 0 w.cpus),
      flat-text (thread_part w h) (part-text w h) (range_with_len 0 (length w.threads)),
      holds-text w (holds w.limit h.happenings.items),
    )

wake-text : (w : Work) (x : Wakeup) → IsText (wake_flow w x)
wake-text w x = flow-text w (codes "wakes") x.entry x.tick x.waker x.woken.0 refl

hand-text : (w : Work) (x : HandOver) → IsText (hand_flow w x)
hand-text w x = flow-text w (codes "hands priority on") x.entry x.tick x.waiter x.owner.0 refl

pub trace-text : (w : Work) (h : History) → IsText (trace_text w h)
unfolding trace_text
trace-text w h =
    simp (
      list_all-append is_text_byte,
      tracks-text w h,
      flat-text (wake_flow w) (wake-text w) h.wakeups.items,
      flat-text (hand_flow w) (hand-text w) h.hand_overs.items,
      flat-text (mark_text w) (mark-text w) h.happenings.items,
      flat-text (load_event w) (load-text w) h.loads.items,
    )
