-- Circles of wants: at the end of a run threads wait or spin for locks that others of them hold, so none of them gets on. Those in a
-- blocking cycle are a deadlock. In the others a thread spins, or waits for one that reads, so the machine reports no cycle.
-- Source: this project's own.
use Rattle.std.specs.Prelude.{ℕ, zero, suc, Bool, true, false, ◌&&◌, ◌==◌, List, [], length, codes, filter, Option, Some, None, if◌then◌else◌}
use Rattle.std.specs.List.{flat_map, list_any}
use Rattle.sd_types.specs.declared.works.Work.{Work}
use Rattle.sd_stretches.specs.declared.sights.Doing.{Doing}
use Rattle.sd_stretches.specs.declared.sights.Doing.TheVariants.{Spinning, Waiting}
use Rattle.sd_stretches.specs.declared.rows.Stretch.{Stretch}
use Rattle.sd_holds.specs.declared.holdings.Hold.{Hold}
use Rattle.sd_layout.specs.declared.layouts.Row.TheVariants.{Thread}
use Rattle.sd_layout.specs.Layouts.{Layout, base, inside, row_of}
use Rattle.sd_timeline.specs.Arrows.{has_row}
use Rattle.sd_timeline.specs.Pieces.{word_label}

-- thread t holds lock l at the end of the run by this hold
abbrev pub ends_open : Option ℕ → Bool
ends_open None = true
ends_open (Some given) = false

abbrev pub is_held_by : ℕ → ℕ → Hold → Bool
is_held_by t l x = ends_open x.given && (x.thread.0 == t && x.lock.0 == l)

abbrev pub holds_lock : List Hold → ℕ → ℕ → Bool
holds_lock holds t l = list_any (is_held_by t l) holds

-- who waits or spins so wants a lock that thread t holds
abbrev pub wants_of : List Hold → ℕ → Doing → Bool
wants_of holds t (Spinning c l) = holds_lock holds t l.0
wants_of holds t (Waiting l) = holds_lock holds t l.0
wants_of holds t _ = false

abbrev pub does_want : Doing → Bool
does_want (Spinning c l) = true
does_want (Waiting l) = true
does_want _ = false

-- the piece is a thread's last, over which it wants a lock, and the thread has a row
abbrev pub is_last_want : Work → Layout → Stretch → Bool
is_last_want w f x = does_want x.doing && (x.to == w.limit && has_row f x.thread)

unfoldable pub last_wants : Work → Layout → List Stretch → List Stretch
last_wants w f xs = filter (is_last_want w f) xs

-- one of these wants a lock of another, and another wants one of it
abbrev pub wants_one : List Hold → List Stretch → Stretch → Bool
wants_one holds xs x = list_any (λ y. wants_of holds y.thread x.doing) xs

abbrev pub is_wanted : List Hold → List Stretch → Stretch → Bool
is_wanted holds xs x = list_any (λ y. wants_of holds x.thread y.doing) xs

abbrev pub stays : List Hold → List Stretch → Stretch → Bool
stays holds xs x = wants_one holds xs x && is_wanted holds xs x

-- those of which this is so
unfoldable pub trimmed : List Hold → List Stretch → List Stretch
trimmed holds xs = filter (stays holds xs) xs

-- so often
unfoldable pub trimmed_by : List Hold → ℕ → List Stretch → List Stretch
trimmed_by holds zero xs = xs
trimmed_by holds (suc n) xs = trimmed_by holds n (trimmed holds xs)

-- the most of them: each wants a lock of another of these, and holds one that another wants
abbrev pub circle : List Hold → List Stretch → List Stretch
circle holds xs = trimmed_by holds (length xs) xs

unfoldable pub all_of : List ℕ → List ℕ
all_of threads = threads

-- the threads of blocking cycles
unfoldable pub dead_threads : List (List ℕ) → List ℕ
dead_threads cycles = flat_map all_of cycles

abbrev pub is_among : List ℕ → ℕ → Bool
is_among threads t = list_any (λ u. u == t) threads

abbrev pub ring_words : Doing → List ℕ
ring_words (Spinning c l) = codes "spins in a circle"
ring_words _ = codes "waits in a circle"

abbrev pub ring_at : Layout → Doing → Option ℕ → List ℕ
ring_at f doing None = []
ring_at f doing (Some row) = word_label (codes "ring") (inside f f.to) (base f (Thread row)) (ring_words doing)

-- the mark of a thread that is in such a circle, and not among those of blocking cycles
abbrev pub ring_text : Layout → List ℕ → Stretch → List ℕ
ring_text f dead x = if is_among dead x.thread then [] else ring_at f x.doing (row_of f x.thread)

unfoldable pub rings_text : Work → Layout → List Hold → List Stretch → List (List ℕ) → List ℕ
rings_text w f holds pieces cycles = flat_map (ring_text f (dead_threads cycles)) (circle holds (last_wants w f pieces))
