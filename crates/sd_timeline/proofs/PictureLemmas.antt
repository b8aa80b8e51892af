-- Which bytes pictures are made of.
use Rattle.std.proofs.Common.{ℕ, ◌+◌, ◌-◌, ◌*◌, ◌%◌, Bool, true, false, ◌&&◌, eqb, ltb, List, [], ◌∷◌, length, Option, Some, None, refl}
use Rattle.std.specs.Prelude.{codes, slice_get, if◌then◌else◌}
use Rattle.std.specs.List.{flat_map, range_with_len}
use Rattle.std.proofs.lemmas.List.Folds.{list_all-append}
use Rattle.sd_types.specs.declared.numbers.CpuId.{CpuId}
use Rattle.sd_types.specs.declared.numbers.SetId.{SetId}
use Rattle.sd_types.specs.declared.numbers.ThreadId.{ThreadId}
use Rattle.sd_types.specs.declared.events.AssignAnswer.{AssignAnswer}
use Rattle.sd_types.specs.declared.events.AssignAnswer.TheVariants as assign
use Rattle.sd_types.specs.declared.events.BindAnswer.{BindAnswer}
use Rattle.sd_types.specs.declared.events.BindAnswer.TheVariants as bind
use Rattle.sd_types.specs.declared.events.Event.{Event}
use Rattle.sd_types.specs.declared.events.Event.TheVariants as event
use Rattle.sd_types.specs.Partitions.{set_of_cpu}
use Rattle.sd_machine.specs.Texts.{set_name}
use Rattle.sd_types.specs.declared.works.Work.{Work}
use Rattle.sd_state.specs.declared.states.State.{State}
use Rattle.sd_state.specs.Texts.{chan_name, lock_name, thread_name}
use Rattle.sd_machine.specs.LockGraph.{cycles_of}
use Rattle.sd_stretches.specs.declared.sights.Doing.{Doing}
use Rattle.sd_stretches.specs.declared.sights.Doing.TheVariants.{Running, Spinning, Runnable, Waiting, Asleep, Napping, Ended}
use Rattle.sd_stretches.specs.declared.changes.HandOver.{HandOver}
use Rattle.sd_stretches.specs.declared.changes.Happening.{Happening}
use Rattle.sd_stretches.specs.declared.changes.Wakeup.{Wakeup}
use Rattle.sd_stretches.specs.declared.histories.History.{History}
use Rattle.sd_stretches.specs.declared.rows.Level.{Level}
use Rattle.sd_stretches.specs.declared.rows.Stretch.{Stretch}
use Rattle.sd_stretches.specs.declared.spin_pieces.Track.TheVariants as track
use Rattle.sd_stretches.specs.Rows.{levels}
use Rattle.sd_stretches.specs.SpinPieces.{pieces}
use Rattle.sd_stretches.specs.Plain.{is_plain_byte, is_text_byte, IsPlain, IsText}
use Rattle.sd_stretches.proofs.PlainLemmas.{thread-plain, lock-plain, doing-plain, decimal-plain}
use Rattle.sd_stretches.proofs.TextLemmas.{plain-text, flat-text, either-text, decimal-text, thread-text, lock-text, chan-text, set-text, append-text}
use Rattle.sd_layout.specs.declared.layouts.Row.{Row}
use Rattle.sd_layout.specs.declared.layouts.Row.TheVariants.{Cpu, Thread}
use Rattle.sd_layout.specs.declared.folds.Column.{Column}
use Rattle.sd_layout.specs.declared.frames.Frame.{Frame}
use Rattle.sd_layout.specs.Layouts.{Layout, above, across, axes, axis_base, base, beneath, beside, bottom, column, depth, floor, inside, is_clear, lane_base, lane_top, over, row_of, shifted, shown, shows, step, top, under, width}
use Rattle.sd_layout.specs.Frames.{last_act}
use Rattle.sd_holds.specs.declared.banding.Band.{Band}
use Rattle.sd_holds.specs.declared.holdings.Hold.{Hold}
use Rattle.sd_holds.specs.Bands.{bands}
use Rattle.sd_timeline.specs.declared.legend.Key.{Key}
use Rattle.sd_timeline.specs.declared.legend.Key.TheVariants as key
use Rattle.sd_timeline.specs.declared.legend.Shape.{Shape}
use Rattle.sd_timeline.specs.declared.legend.Shape.TheVariants as shape
use Rattle.sd_timeline.specs.Pieces.{attribute, box_text, ends_text, path_ends, path_start, bar_start, cover, label_start, word_label, number_label, grid_line}
use Rattle.sd_timeline.specs.declared.colours.Colour.{Colour}
use Rattle.sd_timeline.specs.declared.colours.Colour.TheVariants.{Blue}
use Rattle.sd_timeline.specs.declared.colours.Texture.{Texture}
use Rattle.sd_timeline.specs.declared.colours.Texture.TheVariants.{Plain, Dots, Rising, Falling}
use Rattle.sd_timeline.specs.declared.bars.Spot.{Spot}
use Rattle.sd_timeline.specs.Colours.{colour_name, colour_of, run_class, spin_class, texture_cover, texture_of}
use Rattle.sd_timeline.specs.Bars.{bar_box, bar_class, bar_drop, bar_height, bar_text, between, cpu_on, cpu_word, fits, letter_ground, on_bar, on_cpu_bar, on_thread_bar, over_bar, place_text, run_bar, run_bar_by, spot_of, stretch_bar, stretch_title, times_text, word_on, word_text}
use Rattle.sd_timeline.specs.Circles.{circle, dead_threads, is_among, last_wants, ring_at, ring_text, ring_words, rings_text}
use Rattle.sd_timeline.specs.Held.{band_text, bands_text, held_title, held_words, lock_word}
use Rattle.sd_timeline.specs.Style.{colours, forms, letters, lines, page, patterns, state_patterns, stripes, style, textures, thread_patterns, tips}
use Rattle.sd_timeline.specs.Arrows.{arrow_start, hand_path, hand_rows, hand_text, hand_texts, hand_title, heights, is_drawn_wake, nth_at, waiter_text, wake_by, wake_path, wake_rows, wake_text, wake_title}
use Rattle.sd_timeline.specs.Labels.{fold_text, fold_title, has_room, inherited_level, inherited_word, level_area, level_label, level_text, level_title, many_text, mark_at, mark_text, own_level, raised_line, some_level, whole_level}
use Rattle.sd_timeline.specs.Legend.{Drawn, box_key, class_of, drawn_of, key_at, key_box, key_drop, key_height, key_if, key_line, key_text, key_words, keys_of, keys_text, line_key, lines_of, sample_class, sample_key, sample_of, shape_of, slot_x, slot_y, word_key, words_of}
use Rattle.sd_timeline.specs.Moments.{cpu_moment, is_moment, moment_line, moment_lines, moment_text, thread_moment}
use Rattle.sd_timeline.specs.Notes.{assign_note, bind_note, bound_words, note_by, note_text, set_note, set_words, thread_note}
use Rattle.sd_timeline.specs.Head.{axis, bound_label, counts_text, cpu_head, description, file_title, fold_marks, head, heading, inner_number, mark, mark_if, measures, opened, rowless, rowless_text, set_label, size, start, swatch, thread_head, ticks_text, view_box}
use Rattle.sd_timeline.specs.Picture.{all_marks, bound_of, frame_text, ground_text, laid_out, marks_text, own_row, row_text, rows_text, shown_holds, thread_text, timeline_text, with_holds}
use Rattle.sd_layout.specs.Rows.{layout_of}
use Rattle.sd_timeline.specs.Plain.{HasPlainTitles}

-- ---- pieces

bar-start-text : (class : List ℕ) (x y width height : ℕ) → IsText class → IsText (bar_start class x y width height)
unfolding bar_start box_text attribute
bar-start-text class x y width height h = simp (list_all-append is_text_byte, h, decimal-text)

cover-text : (class : List ℕ) (x y width height : ℕ) → IsText class → IsText (cover class x y width height)
unfolding cover box_text attribute
cover-text class x y width height h = simp (list_all-append is_text_byte, h, decimal-text)

label-start-text : (class : List ℕ) (x y : ℕ) → IsText class → IsText (label_start class x y)
unfolding label_start attribute
label-start-text class x y h = simp (list_all-append is_text_byte, h, decimal-text)

word-label-text : (class : List ℕ) (x y : ℕ) (word : List ℕ) → IsText class → IsText word → IsText (word_label class x y word)
unfolding word_label
word-label-text class x y word p q = simp (list_all-append is_text_byte, label-start-text class x y p, q)

number-label-text : (class : List ℕ) (x y : ℕ) (word : List ℕ) (n : ℕ) → IsText class → IsText word → IsText (number_label class x y word n)
unfolding number_label
number-label-text class x y word n p q =
    simp (list_all-append is_text_byte, label-start-text class x y p, q, decimal-text)

line-text : (class : List ℕ) (from to : ℕ × ℕ) → IsText class → IsText (grid_line class from to)
unfolding grid_line ends_text attribute
line-text class from to h = simp (list_all-append is_text_byte, h, decimal-text)

path-start-text : (class : List ℕ) (column : ℕ) (heights : ℕ × ℕ) → IsText class → IsText (path_start class column heights)
unfolding path_start path_ends
path-start-text class column heights h = simp (list_all-append is_text_byte, h, decimal-text)

-- ---- bars

colour-text : (c : Colour) → IsText (colour_name c)
colour-text Blue = refl
colour-text c = refl

run-class-text : (c : Colour) → IsText (run_class c)
run-class-text Blue = refl
run-class-text c = refl

spin-class-text : (c : Colour) → IsText (spin_class c)
spin-class-text Blue = refl
spin-class-text c = refl

texture-text : (x : Texture) (left top width height : ℕ) → IsText (texture_cover x left top width height)
texture-text Plain left top width height = refl
texture-text Dots left top width height = cover-text (codes "dots") left top width height refl
texture-text Rising left top width height = cover-text (codes "rising") left top width height refl
texture-text Falling left top width height = cover-text (codes "falling") left top width height refl

class-text : (t : ℕ) (d : Doing) → IsText (bar_class t d)
class-text t (Running c) = run-class-text (colour_of t)
class-text t (Spinning c l) = spin-class-text (colour_of t)
class-text t d = refl

bar-title : (w : Work) (x : Stretch) → IsPlain (stretch_title w x)
unfolding stretch_title place_text times_text between
bar-title w x = simp (list_all-append is_plain_byte, thread-plain w x.thread, doing-plain w x.doing, decimal-plain)

title-text : (w : Work) (x : Stretch) → IsText (stretch_title w x)
title-text w x = plain-text (stretch_title w x) (bar-title w x)

plate-text : (class : List ℕ) (p : Spot) (len : ℕ) → IsText class → IsText (letter_ground class p len)
plate-text class p len h = cover-text class p.plate p.top (8 * len + 6) 14 h

word-on-text : (plate class : List ℕ) (p : Spot) (word : List ℕ) → IsText plate → IsText class → IsText word → IsText (word_on plate class p word)
unfolding word_on
word-on-text plate class p word g h k =
    append-text (letter_ground plate p (length word)) (word_label class p.words p.base word) (plate-text plate p (length word) g)
    (word-label-text class p.words p.base word h k)

word-text : (plate class : List ℕ) (p : Spot) (word : List ℕ) → IsText plate → IsText class → IsText word → IsText (word_text plate class p word)
word-text plate class p word g h k = either-text (fits (length word) p.width) (word_on plate class p word) [] (word-on-text plate class p word g h k) refl

cpu-on-text : (t : ℕ) (p : Spot) (len : ℕ) (word : List ℕ) (c : CpuId) → IsText word → IsText (cpu_on t p len word c)
unfolding cpu_on
cpu-on-text t p len word c h =
    append-text (letter_ground (colour_name (colour_of t)) p len) (number_label (codes "on") p.words p.base word c.0)
    (plate-text (colour_name (colour_of t)) p len (colour-text (colour_of t))) (number-label-text (codes "on") p.words p.base word c.0 refl h)

cpu-short-text : (t : ℕ) (p : Spot) (c : CpuId) → IsText (if fits 2 p.width then cpu_on t p 2 [] c else [])
cpu-short-text t p c = either-text (fits 2 p.width) (cpu_on t p 2 [] c) [] (cpu-on-text t p 2 [] c refl) refl

cpu-text : (t : ℕ) (p : Spot) (c : CpuId) → IsText (cpu_word t p c)
cpu-text t p c =
    either-text (fits 6 p.width) (cpu_on t p 6 (codes "cpu ") c) (if fits 2 p.width then cpu_on t p 2 [] c else []) (cpu-on-text t p 6 (codes "cpu ") c refl)
    (cpu-short-text t p c)

on-cpu-text : (w : Work) (p : Spot) (x : Stretch) (d : Doing) → IsText (on_cpu_bar w p x d)
on-cpu-text w p x (Running c) =
    word-text (colour_name (colour_of x.thread)) (codes "on") p (thread_name w x.thread) (colour-text (colour_of x.thread)) refl (thread-text w x.thread)
on-cpu-text w p x d = word-text (codes "plate") (codes "in") p (thread_name w x.thread) refl refl (thread-text w x.thread)

on-thread-text : (w : Work) (p : Spot) (t : ℕ) (d : Doing) → IsText (on_thread_bar w p t d)
on-thread-text w p t (Running c) = cpu-text t p c
on-thread-text w p t (Spinning c l) = word-text (codes "plate") (codes "in") p (lock_name w l.0) refl refl (lock-text w l.0)
on-thread-text w p t Runnable = refl
on-thread-text w p t (Waiting l) = word-text (codes "plate") (codes "in") p (lock_name w l.0) refl refl (lock-text w l.0)
on-thread-text w p t (Asleep k) = word-text (codes "plate") (codes "in") p (chan_name w k.0) refl refl (chan-text w k.0)
on-thread-text w p t Napping = refl
on-thread-text w p t Ended = word-text (codes "plate") (codes "note") p (codes "ended") refl refl refl

on-text : (w : Work) (f : Layout) (row : Row) (x : Stretch) → IsText (on_bar w f row x)
on-text w f (Cpu c) x = on-cpu-text w (spot_of f (Cpu c) x) x x.doing
on-text w f (Thread t) x = on-thread-text w (spot_of f (Thread t) x) x.thread x.doing

over-text : (f : Layout) (row : Row) (x : Stretch) (d : Doing) → IsText (over_bar f row x d)
over-text f row x (Running c) = texture-text (texture_of x.thread) (column f x.from) (top f row) (width f x.from x.to) 18
over-text f row x Ended = cover-text (codes "stop") (column f x.from) (top f row + 4) 2 10 refl
over-text f row x d = refl

box-text : (w : Work) (f : Layout) (row : Row) (x : Stretch) → IsText (bar_box w f row x)
unfolding bar_box
box-text w f row x =
    let begins = bar-start-text (bar_class x.thread x.doing) (column f x.from) (top f row + bar_drop x.doing) (width f x.from x.to) (bar_height x.doing) (class-text x.thread x.doing) in
    simp (list_all-append is_text_byte, begins, title-text w x)

whole-text : (w : Work) (f : Layout) (row : Row) (x : Stretch) → IsText (bar_text w f row x)
unfolding bar_text
whole-text w f row x = simp (list_all-append is_text_byte, box-text w f row x, over-text f row x x.doing, on-text w f row x)

bar-text : (w : Work) (f : Layout) (row : Row) (x : Stretch) → IsText (stretch_bar w f row x)
bar-text w f row x = either-text (eqb (width f x.from x.to) 0) [] (bar_text w f row x) refl (whole-text w f row x)

run-text-by : (w : Work) (f : Layout) (x : Stretch) (d : Doing) → IsText (run_bar_by w f x d)
run-text-by w f x (Running c) = bar-text w f (Cpu c.0) x
run-text-by w f x (Spinning c l) = bar-text w f (Cpu c.0) x
run-text-by w f x d = refl

run-text : (w : Work) (f : Layout) (x : Stretch) → IsText (run_bar w f x)
run-text w f x = run-text-by w f x x.doing

-- ---- labels and arrows

own-level-text : (f : Layout) (t : ℕ) (x : Level) → IsText (own_level f t x)
own-level-text f t x = number-label-text (codes "own") (beside f x.from) (above f t) [] x.priority refl refl

inherited-level-text : (f : Layout) (t : ℕ) (x : Level) → IsText (inherited_level f t x)
inherited-level-text f t x =
    either-text (ltb (width f x.from x.to) 46)
    (word_label (codes "inherited") (beside f x.from) (above f t) (codes "&#9650;"))
    (number_label (codes "inherited") (beside f x.from) (above f t) (codes "&#9650;") x.priority)
    (word-label-text (codes "inherited") (beside f x.from) (above f t) (codes "&#9650;") refl refl)
    (number-label-text (codes "inherited") (beside f x.from) (above f t) (codes "&#9650;") x.priority refl refl)

some-level-text : (f : Layout) (t : ℕ) (x : Level) → IsText (some_level f t x)
some-level-text f t x = either-text x.inherited (inherited_level f t x) (own_level f t x) (inherited-level-text f t x) (own-level-text f t x)

level-label-text : (f : Layout) (t : ℕ) (x : Level) → IsText (level_label f t x)
level-label-text f t x = either-text (has_room f x) (some_level f t x) [] (some-level-text f t x) refl

inherited-word-text : (b : Bool) → IsText (inherited_word b)
inherited-word-text true = refl
inherited-word-text false = refl

level-title-text : (x : Level) → IsText (level_title x)
unfolding level_title between
level-title-text x = simp (list_all-append is_text_byte, decimal-text, inherited-word-text x.inherited)

level-area-text : (f : Layout) (t : ℕ) (x : Level) → IsText (level_area f t x)
unfolding level_area
level-area-text f t x =
    let begins = bar-start-text (codes "level") (column f x.from) (over f t) (width f x.from x.to) 13 refl in
    simp (list_all-append is_text_byte, begins, level-title-text x)

raised-text : (f : Layout) (t : ℕ) (x : Level) → IsText (raised_line f t x)
raised-text f t x =
    either-text x.inherited (cover (codes "raised") (column f x.from) (over f t + 13) (width f x.from x.to) 2) []
    (cover-text (codes "raised") (column f x.from) (over f t + 13) (width f x.from x.to) 2 refl) refl

whole-level-text : (f : Layout) (t : ℕ) (x : Level) → IsText (whole_level f t x)
unfolding whole_level
whole-level-text f t x = simp (list_all-append is_text_byte, level-label-text f t x, raised-text f t x, level-area-text f t x)

level-text : (f : Layout) (t : ℕ) (x : Level) → IsText (level_text f t x)
level-text f t x = either-text (eqb (width f x.from x.to) 0) [] (whole_level f t x) refl (whole-level-text f t x)

-- ---- holds

held-title : (w : Work) (x : Hold) → IsPlain (held_title w x)
unfolding held_title held_words between
held-title w x = simp (list_all-append is_plain_byte, thread-plain w x.thread.0, lock-plain w x.lock.0, decimal-plain)

lock-word-text : (w : Work) (f : Layout) (row : ℕ) (b : Band) → IsText (lock_word w f row b)
lock-word-text w f row b =
    let name = lock_name w b.hold.lock.0 in
    either-text (fits (length name) (width f b.hold.from b.hold.to)) (word_label (codes "held") (beside f b.hold.from) (lane_base f row b.lane) name) []
    (word-label-text (codes "held") (beside f b.hold.from) (lane_base f row b.lane) name refl (lock-text w b.hold.lock.0)) refl

band-text : (w : Work) (f : Layout) (row : ℕ) (b : Band) → IsText (band_text w f row b)
unfolding band_text
band-text w f row b =
    let begins = bar-start-text (codes "hold") (column f b.hold.from) (lane_top f row b.lane) (width f b.hold.from b.hold.to) 13 refl in
    let title = plain-text (held_title w b.hold) (held-title w b.hold) in
    simp (list_all-append is_text_byte, begins, title, lock-word-text w f row b)

bands-text : (w : Work) (f : Layout) (holds : List Hold) (t row : ℕ) → IsText (bands_text w f holds t row)
bands-text w f holds t row = flat-text (band_text w f row) (band-text w f row) (bands t f.from f.to holds)

-- ---- arrows

arrow-title : (w : Work) (x : HandOver) (waiter : ℕ) → IsPlain (hand_title w x waiter)
unfolding hand_title waiter_text
arrow-title w x waiter =
    simp (list_all-append is_plain_byte, thread-plain w waiter, lock-plain w x.lock.0, thread-plain w x.owner.0, decimal-plain)

wake-title : (w : Work) (x : Wakeup) (waker : ℕ) → IsPlain (wake_title w x waker)
unfolding wake_title
wake-title w x waker = simp (list_all-append is_plain_byte, thread-plain w waker, thread-plain w x.woken.0, decimal-plain)

pub plain_titles : (w : Work) → HasPlainTitles w
plain_titles w = record { bars = bar-title w; holds = held-title w; arrows = arrow-title w; wakeups = wake-title w }

arrow-start-text : (class : List ℕ) (column : ℕ) (f : Layout) (from to : ℕ) → IsText class → IsText (arrow_start class column f from to)
unfolding arrow_start
arrow-start-text class column f from to h = path-start-text class column (heights f from to) h

hand-path-text : (w : Work) (f : Layout) (n : ℕ) (x : HandOver) (waiter : ℕ) (rows : ℕ × ℕ) → IsText (hand_path w f n x waiter rows)
unfolding hand_path
hand-path-text w f n x waiter rows =
    let begins = arrow-start-text (codes "will") (shifted f x.tick n) f rows.0 rows.1 refl in
    let title = plain-text (hand_title w x waiter) (arrow-title w x waiter) in
    simp (list_all-append is_text_byte, begins, title)

hand-rows-text : (w : Work) (f : Layout) (n : ℕ) (x : HandOver) (waiter : ℕ) (from to : Option ℕ) → IsText (hand_rows w f n x waiter from to)
hand-rows-text w f n x waiter None to = refl
hand-rows-text w f n x waiter (Some from) None = refl
hand-rows-text w f n x waiter (Some from) (Some to) = hand-path-text w f n x waiter (from, to)

hand-text : (w : Work) (f : Layout) (n : ℕ) (x : HandOver) (waiter : Option ℕ) → IsText (hand_text w f n x waiter)
hand-text w f n x None = refl
hand-text w f n x (Some waiter) = hand-rows-text w f n x waiter (row_of f waiter) (row_of f x.owner.0)

hand-texts-text : (w : Work) (f : Layout) (earlier : Option ℕ) (n : ℕ) (xs : List HandOver) → IsText (hand_texts w f earlier n xs)
unfolding hand_texts
hand-texts-text w f earlier n [] = refl
hand-texts-text w f earlier n (x ∷ xs) =
    let m = nth_at earlier n x.tick in
    simp (list_all-append is_text_byte, hand-text w f m x x.waiter, hand-texts-text w f (Some x.tick) m xs)

wake-path-text : (w : Work) (f : Layout) (x : Wakeup) (waker : ℕ) (rows : ℕ × ℕ) → IsText (wake_path w f x waker rows)
unfolding wake_path
wake-path-text w f x waker rows =
    let begins = arrow-start-text (codes "wake") (column f x.tick) f rows.0 rows.1 refl in
    let title = plain-text (wake_title w x waker) (wake-title w x waker) in
    simp (list_all-append is_text_byte, begins, title)

wake-rows-text : (w : Work) (f : Layout) (x : Wakeup) (waker : ℕ) (from to : Option ℕ) → IsText (wake_rows w f x waker from to)
wake-rows-text w f x waker None to = refl
wake-rows-text w f x waker (Some from) None = refl
wake-rows-text w f x waker (Some from) (Some to) = wake-path-text w f x waker (from, to)

wake-by-text : (w : Work) (f : Layout) (x : Wakeup) (waker : Option ℕ) → IsText (wake_by w f x waker)
wake-by-text w f x None = refl
wake-by-text w f x (Some waker) = wake-rows-text w f x waker (row_of f waker) (row_of f x.woken.0)

wake-text : (w : Work) (f : Layout) (x : Wakeup) → IsText (wake_text w f x)
wake-text w f x = either-text (is_drawn_wake f x) (wake_by w f x x.waker) [] (wake-by-text w f x x.waker) refl

-- ---- moments and notes

moment-line-text : (w : Work) (f : Layout) (row : Row) (x : Stretch) → IsText (moment_line w f row x)
unfolding moment_line
moment-line-text w f row x =
    let begins = path-start-text (codes "moment") (column f x.from) (across f row) refl in
    simp (list_all-append is_text_byte, begins, title-text w x)

cpu-moment-text : (w : Work) (f : Layout) (x : Stretch) (d : Doing) → IsText (cpu_moment w f x d)
cpu-moment-text w f x (Running c) = moment-line-text w f (Cpu c.0) x
cpu-moment-text w f x d = refl

thread-moment-text : (w : Work) (f : Layout) (x : Stretch) (row : Option ℕ) → IsText (thread_moment w f x row)
thread-moment-text w f x None = refl
thread-moment-text w f x (Some t) = moment-line-text w f (Thread t) x

moment-lines-text : (w : Work) (f : Layout) (x : Stretch) → IsText (moment_lines w f x)
moment-lines-text w f x =
    append-text (cpu_moment w f x x.doing) (thread_moment w f x (row_of f x.thread)) (cpu-moment-text w f x x.doing) (thread-moment-text w f x (row_of f x.thread))

moment-text : (w : Work) (f : Layout) (x : Stretch) → IsText (moment_text w f x)
moment-text w f x = either-text (is_moment f x) (moment_lines w f x) [] (moment-lines-text w f x) refl

set-note-text : (class : List ℕ) (w : Work) (f : Layout) (tick : ℕ) (c : CpuId) (word : List ℕ) (set : SetId) → IsText class → IsText word
    → IsText (set_note class w f tick c word set)
unfolding set_note set_words
set-note-text class w f tick c word set is h =
    simp (list_all-append is_text_byte, label-start-text class (column f tick) (under f (Cpu c.0)) is, h, set-text w set.0)

assign-note-text : (w : Work) (f : Layout) (tick : ℕ) (c : CpuId) (set : SetId) (answer : AssignAnswer) → IsText (assign_note w f tick c set answer)
assign-note-text w f tick c set assign.Changed = set-note-text (codes "note closes") w f tick c (codes "closes for ") set refl refl
assign-note-text w f tick c set assign.EPERM = refl
assign-note-text w f tick c set assign.EINVAL = refl
assign-note-text w f tick c set assign.EBUSY = refl

bound-words-text : (cpu : Option CpuId) → IsText (bound_words cpu)
unfolding bound_words
bound-words-text None = refl
bound-words-text (Some c) = simp (list_all-append is_text_byte, decimal-text)

thread-note-text : (f : Layout) (tick : ℕ) (cpu : Option CpuId) (row : Option ℕ) → IsText (thread_note f tick cpu row)
thread-note-text f tick cpu None = refl
thread-note-text f tick cpu (Some t) =
    simp (list_all-append is_text_byte, label-start-text (codes "note") (column f tick) (under f (Thread t)) refl, bound-words-text cpu)

bind-note-text : (f : Layout) (tick : ℕ) (t : ThreadId) (cpu : Option CpuId) (answer : BindAnswer) → IsText (bind_note f tick t cpu answer)
bind-note-text f tick t cpu (bind.Changed at) = thread-note-text f tick cpu (row_of f t.0)
bind-note-text f tick t cpu bind.ESRCH = refl
bind-note-text f tick t cpu bind.EINVAL = refl
bind-note-text f tick t cpu bind.EPERM = refl
bind-note-text f tick t cpu bind.EBUSY = refl

note-by-text : (w : Work) (f : Layout) (x : Happening) (e : Event) → IsText (note_by w f x e)
note-by-text w f x (event.Assign t c set answer) = assign-note-text w f x.tick c set answer
note-by-text w f x (event.Joined set) = set-note-text (codes "note") w f x.tick x.cpu (codes "&#9652;in ") set refl refl
note-by-text w f x (event.Bind t u cpu answer) = bind-note-text f x.tick u cpu answer
note-by-text w f x _ = refl

note-text : (w : Work) (f : Layout) (x : Happening) → IsText (note_text w f x)
note-text w f x = either-text (shows f x.tick) (note_by w f x x.event) [] (note-by-text w f x x.event) refl

fold-title-text : (x : Column) → IsText (fold_title x)
unfolding fold_title many_text between
fold-title-text x = simp (list_all-append is_text_byte, decimal-text)

fold-text : (f : Layout) (x : Column) → IsText (fold_text f x)
unfolding fold_text
fold-text f x =
    let begins = bar-start-text (codes "gap") (column f x.from) 50 (width f x.from x.to) (depth f) refl in
    simp (list_all-append is_text_byte, begins, fold-title-text x)

mark-at-text : (f : Layout) (row : Option ℕ) → IsText (mark_at f row)
mark-at-text f None = refl
mark-at-text f (Some row) = word-label-text (codes "dead") (inside f f.to) (base f (Thread row)) (codes "deadlock") refl refl

mark-text : (f : Layout) (t : ℕ) → IsText (mark_text f t)
mark-text f t = mark-at-text f (row_of f t)

-- ---- what stands above the rows

counts-text : (w : Work) → IsText (counts_text w)
unfolding counts_text
counts-text w = simp (list_all-append is_text_byte, decimal-text)

ticks-text : (w : Work) (f : Layout) → IsText (ticks_text w f)
unfolding ticks_text
ticks-text w f = simp (list_all-append is_text_byte, decimal-text)

file-title-text : (w : Work) → IsText (file_title w)
unfolding file_title
file-title-text w = simp (list_all-append is_text_byte, counts-text w)

description-text : (w : Work) (f : Layout) → IsText (description w f)
unfolding description
description-text w f = simp (list_all-append is_text_byte, ticks-text w f)

style-text : IsText style
unfolding style letters lines forms colours stripes
style-text = refl

patterns-text : IsText patterns
unfolding patterns thread_patterns state_patterns textures tips
patterns-text = refl

page-text : IsText page
unfolding page
page-text = refl

size-text : (f : Layout) (many : ℕ) → IsText (size f many)
unfolding size measures view_box attribute
size-text f many = simp (list_all-append is_text_byte, decimal-text)

start-text : (w : Work) (f : Layout) (many : ℕ) → IsText (start w f many)
unfolding start opened
start-text w f many =
    simp (list_all-append is_text_byte, size-text f many, file-title-text w, description-text w f, style-text, patterns-text, page-text)

many-rowless-text : (n : ℕ) → IsText (rowless_text n)
unfolding rowless_text
many-rowless-text n = simp (list_all-append is_text_byte, decimal-text)

rowless-text : (w : Work) (f : Layout) → IsText (rowless w f)
rowless-text w f =
    either-text (ltb f.threads (length w.threads)) (rowless_text (length w.threads - f.threads)) [] (many-rowless-text (length w.threads - f.threads)) refl

heading-text : (w : Work) (f : Layout) → IsText (heading w f)
unfolding heading
heading-text w f = simp (list_all-append is_text_byte, label-start-text (codes "head") 20 20 refl, ticks-text w f, counts-text w, rowless-text w f)

inner-number-text : (f : Layout) (tick k : ℕ) → IsText (inner_number f tick k)
unfolding inner_number
inner-number-text f tick k = number-label-text (codes "tick") (column f tick) (axis_base f k) [] tick refl refl

tick-text : (f : Layout) (tick : ℕ) → IsText (mark f tick)
unfolding mark
tick-text f tick =
    simp (
      list_all-append is_text_byte,
      line-text (codes "grid") (column f tick, 50) (column f tick, bottom f) refl,
      number-label-text (codes "tick") (column f tick) 44 [] tick refl refl,
      number-label-text (codes "tick") (column f tick) (bottom f + 14) [] tick refl refl,
      flat-text (inner_number f tick) (inner-number-text f tick) (range_with_len 0 (axes f)),
    )

tick-text-if : (f : Layout) (n : ℕ) → IsText (mark_if f n)
tick-text-if f n = either-text (eqb (n % step f) 0 && is_clear f (f.from + n)) (mark f (f.from + n)) [] (tick-text f (f.from + n)) refl

fold-marks-text : (f : Layout) (x : Column) → IsText (fold_marks f x)
unfolding fold_marks
fold-marks-text f x = append-text (mark f x.from) (mark f x.to) (tick-text f x.from) (tick-text f x.to)

axis-text : (f : Layout) → IsText (axis f)
unfolding axis
axis-text f =
    simp (
      list_all-append is_text_byte,
      word-label-text (codes "side") 126 44 (codes "tick") refl refl,
      flat-text (mark_if f) (tick-text-if f) (range_with_len 0 (shown f)),
      tick-text-if f (shown f),
      flat-text (fold_marks f) (fold-marks-text f) f.folds,
    )

set-label-text : (w : Work) (f : Layout) (c set : ℕ) → IsText (set_label w f c set)
unfolding set_label
set-label-text w f c set =
    either-text (eqb set 0) [] (word_label (codes "side") 126 (beneath f (Cpu c)) (set_name w set)) refl
    (word-label-text (codes "side") 126 (beneath f (Cpu c)) (set_name w set) refl (set-text w set))

cpu-head-text : (w : Work) (f : Layout) (c : ℕ) → IsText (cpu_head w f c)
unfolding cpu_head
cpu-head-text w f c =
    simp (
      list_all-append is_text_byte,
      set-label-text w f c (set_of_cpu w c),
      number-label-text (codes "name") 126 (base f (Cpu c)) (codes "processor ") c refl refl,
      line-text (codes "base") (150, floor f (Cpu c)) (column f f.to, floor f (Cpu c)) refl,
    )

swatch-text : (f : Layout) (row t : ℕ) → IsText (swatch f row t)
swatch-text f row t =
    append-text (cover (colour_name (colour_of t)) 131 (top f (Thread row) + 3) 12 12) (texture_cover (texture_of t) 131 (top f (Thread row) + 3) 12 12)
    (cover-text (colour_name (colour_of t)) 131 (top f (Thread row) + 3) 12 12 (colour-text (colour_of t)))
    (texture-text (texture_of t) 131 (top f (Thread row) + 3) 12 12)

thread-head-text : (w : Work) (f : Layout) (row t : ℕ) → IsText (thread_head w f row t)
unfolding thread_head
thread-head-text w f row t =
    append-text (word_label (codes "name") 126 (base f (Thread row)) (thread_name w t)) (swatch f row t)
    (word-label-text (codes "name") 126 (base f (Thread row)) (thread_name w t) refl (thread-text w t)) (swatch-text f row t)

bound-label-text : (f : Layout) (row : ℕ) (bound : Option CpuId) → IsText (bound_label f row bound)
bound-label-text f row None = refl
bound-label-text f row (Some c) = number-label-text (codes "side") 126 (beneath f (Thread row)) (codes "bound to ") c.0 refl refl

head-text : (w : Work) (f : Layout) (many : ℕ) → IsText (head w f many)
unfolding head
head-text w f many =
    simp (
      list_all-append is_text_byte,
      start-text w f many,
      heading-text w f,
      axis-text f,
      flat-text (cpu_head w f) (cpu-head-text w f) (range_with_len 0 f.cpus),
    )

-- ---- the legend

key-class-text : (k : Key) → IsText (class_of k)
key-class-text key.Running = refl
key-class-text k = refl

key-words-text : (k : Key) → IsText (words_of k)
key-words-text key.Running = refl
key-words-text k = refl

sample-text : (k : Key) → IsText (sample_of k)
sample-text key.Running = refl
sample-text k = refl

sample-class-text : (k : Key) → IsText (sample_class k)
sample-class-text key.Running = refl
sample-class-text k = refl

all-words-text : (k : Key) (x y : ℕ) → IsText (key_words x y (words_of k))
all-words-text k x y = word-label-text (codes "key") (x + 44) (y + 13) (words_of k) refl (key-words-text k)

box-text-of : (class : List ℕ) (x y height : ℕ) (words : List ℕ) → IsText class → IsText words → IsText (key_box class x y height words)
unfolding key_box
box-text-of class x y height words p q = simp (list_all-append is_text_byte, bar-start-text class x y 34 height p, q)

box-key-text : (k : Key) (x y : ℕ) → IsText (box_key k x y)
unfolding box_key
box-key-text k x y =
    append-text (key_box (class_of k) x (y + key_drop k) (key_height k) (words_of k)) (key_words x y (words_of k))
    (box-text-of (class_of k) x (y + key_drop k) (key_height k) (words_of k) (key-class-text k) (key-words-text k)) (all-words-text k x y)

sample-key-text : (k : Key) (x y : ℕ) → IsText (sample_key k x y)
unfolding sample_key
sample-key-text k x y =
    append-text (box_key k x y) (word_label (sample_class k) (x + 6) (y + 13) (sample_of k)) (box-key-text k x y)
    (word-label-text (sample_class k) (x + 6) (y + 13) (sample_of k) (sample-class-text k) (sample-text k))

line-text-of : (class : List ℕ) (x : ℕ) (heights : ℕ × ℕ) (words : List ℕ) → IsText class → IsText words → IsText (key_line class x heights words)
unfolding key_line
line-text-of class x heights words p q = simp (list_all-append is_text_byte, path-start-text class x heights p, q)

line-key-text : (k : Key) (x y : ℕ) → IsText (line_key k x y)
unfolding line_key
line-key-text k x y =
    append-text (key_line (class_of k) (x + 16) (y, y + 18) (words_of k)) (key_words x y (words_of k))
    (line-text-of (class_of k) (x + 16) (y, y + 18) (words_of k) (key-class-text k) (key-words-text k)) (all-words-text k x y)

word-key-text : (k : Key) (x y : ℕ) → IsText (word_key k x y)
unfolding word_key
word-key-text k x y =
    append-text (word_label (class_of k) x (y + 13) (sample_of k)) (key_words x y (words_of k))
    (word-label-text (class_of k) x (y + 13) (sample_of k) (key-class-text k) (sample-text k)) (all-words-text k x y)

key-shape-text : (k : Key) (x y : ℕ) (shape : Shape) → IsText (key_text k x y shape)
key-shape-text k x y shape.Box = box-key-text k x y
key-shape-text k x y shape.Sample = sample-key-text k x y
key-shape-text k x y shape.Line = line-key-text k x y
key-shape-text k x y shape.Word = word-key-text k x y

key-if-text : (f : Layout) (n : ℕ) (k : Option Key) → IsText (key_if f n k)
key-if-text f n None = refl
key-if-text f n (Some k) = key-shape-text k (slot_x n) (slot_y f n) (shape_of k)

keys-text : (f : Layout) (keys : List Key) → IsText (keys_text f keys)
keys-text f keys = flat-text (key_at f keys) (λ n. key-if-text f n (slice_get keys n)) (range_with_len 0 (length keys))

-- ---- the picture

own-row-text : (w : Work) (f : Layout) (h : History) (holds : List Hold) (s : State) (t : ℕ) (own : List Stretch) (row : ℕ)
    → IsText (own_row w f h holds s t own row)
unfolding own_row
own-row-text w f h holds s t own row =
    simp (
      list_all-append is_text_byte,
      thread-head-text w f row t,
      bound-label-text f row (bound_of (slice_get s.threads t)),
      flat-text (stretch_bar w f (Thread row)) (bar-text w f (Thread row)) own,
      bands-text w f holds t row,
      flat-text (level_text f row) (level-text f row) (levels t h.ranks.items w.limit),
    )

row-text : (w : Work) (f : Layout) (h : History) (holds : List Hold) (s : State) (t : ℕ) (own : List Stretch) (row : Option ℕ)
    → IsText (row_text w f h holds s t own row)
row-text w f h holds s t own None = refl
row-text w f h holds s t own (Some row) = own-row-text w f h holds s t own row

thread-row-text : (w : Work) (f : Layout) (h : History) (holds : List Hold) (s : State) (t : ℕ) → IsText (thread_text w f h holds s t)
unfolding thread_text
thread-row-text w f h holds s t =
    let own = pieces (track.Thread t) h w.limit in
    simp (list_all-append is_text_byte, flat-text (run_bar w f) (run-text w f) own, row-text w f h holds s t own (row_of f t))

ring-words-text : (d : Doing) → IsText (ring_words d)
ring-words-text (Spinning c l) = refl
ring-words-text d = refl

ring-at-text : (f : Layout) (d : Doing) (row : Option ℕ) → IsText (ring_at f d row)
ring-at-text f d None = refl
ring-at-text f d (Some row) = word-label-text (codes "ring") (inside f f.to) (base f (Thread row)) (ring_words d) refl (ring-words-text d)

ring-text : (f : Layout) (dead : List ℕ) (x : Stretch) → IsText (ring_text f dead x)
ring-text f dead x =
    either-text (is_among dead x.thread) [] (ring_at f x.doing (row_of f x.thread)) refl (ring-at-text f x.doing (row_of f x.thread))

rings-text : (w : Work) (f : Layout) (holds : List Hold) (pieces : List Stretch) (cycles : List (List ℕ)) → IsText (rings_text w f holds pieces cycles)
unfolding rings_text
rings-text w f holds pieces cycles =
    flat-text (ring_text f (dead_threads cycles)) (ring-text f (dead_threads cycles)) (circle holds (last_wants w f pieces))

all-marks-text : (w : Work) (f : Layout) (d : Drawn) (cycles : List (List ℕ)) → IsText (all_marks w f d cycles)
unfolding all_marks
all-marks-text w f d cycles =
    append-text (flat_map (flat_map (mark_text f)) cycles) (rings_text w f d.holds d.pieces cycles)
    (flat-text (flat_map (mark_text f)) (flat-text (mark_text f) (mark-text f)) cycles) (rings-text w f d.holds d.pieces cycles)

marks-text : (w : Work) (f : Layout) (h : History) (d : Drawn) (s : State) → IsText (marks_text w f h d s)
marks-text w f h d s =
    either-text (ltb f.to (last_act h.happenings.items)) [] (all_marks w f d (cycles_of s)) refl (all-marks-text w f d (cycles_of s))

frame-text : (w : Work) (f : Layout) (keys : List Key) → IsText (frame_text w f keys)
unfolding frame_text
frame-text w f keys = append-text (head w f (lines_of keys)) (keys_text f keys) (head-text w f (lines_of keys)) (keys-text f keys)

plate-all-text : (w : Work) (f : Layout) (h : History) (d : Drawn) → IsText (ground_text w f h d)
unfolding ground_text
plate-all-text w f h d =
    simp (
      list_all-append is_text_byte,
      frame-text w f (keys_of f h d),
      flat-text (wake_text w f) (wake-text w f) h.wakeups.items,
      hand-texts-text w f None 0 d.hand_overs,
    )

rows-text : (w : Work) (f : Layout) (h : History) (d : Drawn) (s : State) → IsText (rows_text w f h d s)
unfolding rows_text
rows-text w f h d s =
    simp (
      list_all-append is_text_byte,
      flat-text (thread_text w f h d.holds s) (thread-row-text w f h d.holds s) (range_with_len 0 (length w.threads)),
      flat-text (moment_text w f) (moment-text w f) d.pieces,
      flat-text (note_text w f) (note-text w f) h.happenings.items,
      marks-text w f h d s,
      flat-text (fold_text f) (fold-text f) f.folds,
    )

laid-out-text : (w : Work) (f : Layout) (h : History) (s : State) (d : Drawn) → IsText (laid_out w f h s d)
unfolding laid_out
laid-out-text w f h s d = simp (list_all-append is_text_byte, plate-all-text w f h d, rows-text w f h d s)

with-holds-text : (w : Work) (f : Frame) (h : History) (s : State) (holds : List Hold) → IsText (with_holds w f h s holds)
with-holds-text w f h s holds = laid-out-text w (layout_of w f h holds) h s (drawn_of w (layout_of w f h holds) h holds)

pub timeline-text : (w : Work) (f : Frame) (h : History) (s : State) → IsText (timeline_text w f h s)
timeline-text w f h s = with-holds-text w f h s (shown_holds w f h)
