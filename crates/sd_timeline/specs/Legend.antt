-- The legend: what the colours, lines, numbers and names of a picture mean, as far as they are drawn.
-- Source: this project's own.
use Rattle.std.specs.Prelude.{ℕ, ◌+◌, ◌*◌, ◌/◌, ◌%◌, Bool, true, false, not, ◌&&◌, ◌||◌, ◌==◌, List, [], ◌∷◌, ◌++◌, length, codes, filter, Option, Some, None, slice_get}
use Rattle.std.specs.List.{flat_map, list_any, range_with_len}
use Rattle.sd_types.specs.declared.works.Work.{Work}
use Rattle.sd_stretches.specs.declared.sights.Doing.{Doing}
use Rattle.sd_stretches.specs.declared.sights.Doing.TheVariants as doing
use Rattle.sd_stretches.specs.declared.changes.HandOver.{HandOver}
use Rattle.sd_stretches.specs.declared.histories.History.{History}
use Rattle.sd_stretches.specs.declared.rows.Level.{Level}
use Rattle.sd_stretches.specs.declared.rows.Stretch.{Stretch}
use Rattle.sd_holds.specs.declared.holdings.Hold.{Hold}
use Rattle.sd_timeline.specs.declared.legend.Key.{Key}
use Rattle.sd_timeline.specs.declared.legend.Key.TheVariants.{Running, Spinning, Runnable, Waiting, Asleep, Napping, Ended, Number, Held, Moment, Wake, HandOver as GivesOn, Own, Inherited, Fold}
use Rattle.sd_timeline.specs.declared.legend.Shape.{Shape}
use Rattle.sd_timeline.specs.declared.legend.Shape.TheVariants.{Box, Sample, Line, Word}
use Rattle.sd_layout.specs.Layouts.{Layout, bottom, width}
use Rattle.sd_timeline.specs.Arrows.{drawn_hands, has_row, is_drawn_wake}
use Rattle.sd_timeline.specs.Bars.{has_number}
use Rattle.sd_timeline.specs.Held.{is_shown_hold}
use Rattle.sd_timeline.specs.Labels.{labelled}
use Rattle.sd_timeline.specs.Moments.{drawn_pieces, is_moment}
use Rattle.sd_timeline.specs.Pieces.{bar_start, bar_end, path_start, path_end, word_label}

-- what is drawn of a run: the parts of it that have a bar or a mark, the holds of locks, the arrows to owners, and the priorities that
-- are written
pub record Drawn : Type 0 where
  pub pieces : List Stretch
  pub holds : List Hold
  pub hand_overs : List HandOver
  pub levels : List Level

abbrev pub drawn_of : Work → Layout → History → List Hold → Drawn
drawn_of w f h holds = record { pieces = drawn_pieces w f h; holds = holds; hand_overs = drawn_hands f h; levels = labelled w f h }

abbrev pub shape_of : Key → Shape
shape_of Number = Sample
shape_of Held = Sample
shape_of Moment = Line
shape_of Wake = Line
shape_of GivesOn = Line
shape_of Own = Word
shape_of Inherited = Word
shape_of _ = Box

abbrev pub class_of : Key → List ℕ
class_of Running = codes "run blue"
class_of Spinning = codes "blue-stripes"
class_of Runnable = codes "ready"
class_of Waiting = codes "wait"
class_of Asleep = codes "sleep"
class_of Napping = codes "nap"
class_of Ended = codes "end"
class_of Number = codes "run blue"
class_of Held = codes "hold"
class_of Moment = codes "moment"
class_of Wake = codes "wake"
class_of GivesOn = codes "will"
class_of Own = codes "own"
class_of Inherited = codes "inherited"
class_of Fold = codes "gap"

-- words that stand alone
abbrev pub words_of : Key → List ℕ
words_of Running = codes "runs (a colour for each thread)"
words_of Spinning = codes "spins for a lock"
words_of Runnable = codes "ready, on a queue"
words_of Waiting = codes "waits for a lock"
words_of Asleep = codes "sleeps on a channel"
words_of Napping = codes "naps"
words_of Ended = codes "has ended"
words_of Number = codes "runs on processor 0"
words_of Held = codes "holds lock m"
words_of Moment = codes "runs for less than a tick"
words_of Wake = codes "wakes a thread"
words_of GivesOn = codes "hands its priority on"
words_of Own = codes "priority 29"
words_of Inherited = codes "inherited priority 110"
words_of Fold = codes "nothing changes in these ticks"

-- the word that is shown as an example, and its class
abbrev pub sample_of : Key → List ℕ
sample_of Number = codes "0"
sample_of Held = codes "m"
sample_of Own = codes "29"
sample_of Inherited = codes "&#9650;110"
sample_of _ = []

abbrev pub sample_class : Key → List ℕ
sample_class Number = codes "on"
sample_class _ = codes "held"

-- how far the box lies below the top of its line, and its height, which are those of the bars of the picture
abbrev pub key_drop : Key → ℕ
key_drop Runnable = 5
key_drop Waiting = 1
key_drop Asleep = 8
key_drop Napping = 8
key_drop Ended = 9
key_drop Held = 2
key_drop _ = 0

abbrev pub key_height : Key → ℕ
key_height Runnable = 8
key_height Waiting = 16
key_height Asleep = 3
key_height Napping = 3
key_height Ended = 1
key_height Held = 13
key_height _ = 18

-- it is what the key explains
abbrev pub does : Key → Doing → Bool
does Running (doing.Running c) = true
does Spinning (doing.Spinning c l) = true
does Runnable doing.Runnable = true
does Waiting (doing.Waiting l) = true
does Asleep (doing.Asleep k) = true
does Napping doing.Napping = true
does Ended doing.Ended = true
does _ _ = false

-- on a processor, so that it has a bar in the row of that too
abbrev pub is_on_cpu : Doing → Bool
is_on_cpu (doing.Running c) = true
is_on_cpu (doing.Spinning c l) = true
is_on_cpu _ = false

abbrev pub length_of : Layout → Stretch → ℕ
length_of f x = width f x.from x.to

-- the piece has a bar: in the row of its processor, or in its thread's, if it has one
abbrev pub has_bar : Layout → Stretch → Bool
has_bar f x = not (length_of f x == 0) && (is_on_cpu x.doing || has_row f x.thread)

-- the number of the processor stands on a bar of the piece
abbrev pub shows_number : Layout → Stretch → Bool
shows_number f x = has_row f x.thread && has_number (length_of f x) x.doing

-- what the key explains is drawn
abbrev pub occurs : Layout → History → Drawn → Key → Bool
occurs f h d Number = list_any (shows_number f) d.pieces
occurs f h d Held = list_any (is_shown_hold f) d.holds
occurs f h d Moment = list_any (is_moment f) d.pieces
occurs f h d Wake = list_any (is_drawn_wake f) h.wakeups.items
occurs f h d GivesOn = not (length d.hand_overs == 0)
occurs f h d Own = list_any (λ x. not x.inherited) d.levels
occurs f h d Inherited = list_any (λ x. x.inherited) d.levels
occurs f h d Fold = not (length f.folds == 0)
occurs f h d key = list_any (λ x. does key x.doing && has_bar f x) d.pieces

abbrev pub all_keys : List Key
all_keys =
    Running ∷ Spinning ∷ Runnable ∷ Waiting ∷ Asleep ∷ Napping ∷ Ended ∷ Number ∷ Held ∷ Own ∷ Inherited ∷ GivesOn ∷ Wake ∷ Moment ∷ Fold ∷ []

unfoldable pub keys_of : Layout → History → Drawn → List Key
keys_of f h d = filter (occurs f h d) all_keys

-- four keys stand in a line
abbrev pub lines_of : List Key → ℕ
lines_of keys = (length keys % 20 + 3) / 4

-- the place of key n, under the rows
abbrev pub slot_x : ℕ → ℕ
slot_x n = 20 + 255 * (n % 4)

abbrev pub slot_y : Layout → ℕ → ℕ
slot_y f n = bottom f + 30 + 24 * (n % 20 / 4)

abbrev pub key_words : ℕ → ℕ → List ℕ → List ℕ
key_words x y words = word_label (codes "key") (x + 44) (y + 13) words

unfoldable pub key_box : List ℕ → ℕ → ℕ → ℕ → List ℕ → List ℕ
key_box class x y height words = bar_start class x y 34 height ++ words ++ bar_end

-- a box and its meaning
unfoldable pub box_key : Key → ℕ → ℕ → List ℕ
box_key k x y = key_box (class_of k) x (y + key_drop k) (key_height k) (words_of k) ++ key_words x y (words_of k)

-- a box with a word on it, and its meaning
unfoldable pub sample_key : Key → ℕ → ℕ → List ℕ
sample_key k x y = box_key k x y ++ word_label (sample_class k) (x + 6) (y + 13) (sample_of k)

unfoldable pub key_line : List ℕ → ℕ → ℕ × ℕ → List ℕ → List ℕ
key_line class x heights words = path_start class x heights ++ words ++ path_end

-- an upright line and its meaning
unfoldable pub line_key : Key → ℕ → ℕ → List ℕ
line_key k x y = key_line (class_of k) (x + 16) (y, y + 18) (words_of k) ++ key_words x y (words_of k)

-- a word as it stands in the picture, and its meaning
unfoldable pub word_key : Key → ℕ → ℕ → List ℕ
word_key k x y = word_label (class_of k) x (y + 13) (sample_of k) ++ key_words x y (words_of k)

abbrev pub key_text : Key → ℕ → ℕ → Shape → List ℕ
key_text k x y Box = box_key k x y
key_text k x y Sample = sample_key k x y
key_text k x y Line = line_key k x y
key_text k x y Word = word_key k x y

abbrev pub key_if : Layout → ℕ → Option Key → List ℕ
key_if f n None = []
key_if f n (Some k) = key_text k (slot_x n) (slot_y f n) (shape_of k)

abbrev pub key_at : Layout → List Key → ℕ → List ℕ
key_at f keys n = key_if f n (slice_get keys n)

abbrev pub keys_text : Layout → List Key → List ℕ
keys_text f keys = flat_map (key_at f keys) (range_with_len 0 (length keys))
