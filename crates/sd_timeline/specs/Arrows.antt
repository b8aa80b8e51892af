-- The arrows from waiters to owners that inherit, and from threads that wake to those that they wake.
-- Source: this project's own.
use Rattle.std.specs.Prelude.{ℕ, ◌+◌, ◌%◌, Bool, false, ◌&&◌, ◌==◌, nat_lt, List, [], ◌∷◌, ◌++◌, codes, decimal, filter, Option, Some, None, is_some, if◌then◌else◌}
use Rattle.sd_types.specs.declared.works.Work.{Work}
use Rattle.sd_state.specs.Texts.{thread_name}
use Rattle.sd_stretches.specs.declared.sights.Doing.TheVariants.{Waiting}
use Rattle.sd_stretches.specs.declared.changes.HandOver.{HandOver}
use Rattle.sd_stretches.specs.declared.changes.Wakeup.{Wakeup}
use Rattle.sd_stretches.specs.declared.histories.History.{History}
use Rattle.sd_stretches.specs.Doings.{doing_text}
use Rattle.sd_layout.specs.declared.layouts.Row.TheVariants.{Thread}
use Rattle.sd_layout.specs.Layouts.{Layout, column, floor, landing, row_of, shifted, shows, top}
use Rattle.sd_timeline.specs.Pieces.{path_start, path_end}

-- who waits for what
unfoldable pub waiter_text : Work → HandOver → ℕ → List ℕ
waiter_text w x waiter = (codes "entry " ++ decimal x.entry) ++ codes ": " ++ thread_name w waiter ++ codes " " ++ doing_text w (Waiting x.lock)

unfoldable pub hand_title : Work → HandOver → ℕ → List ℕ
hand_title w x waiter = waiter_text w x waiter ++ codes ", so " ++ thread_name w x.owner.0 ++ (codes " has " ++ decimal x.priority)

-- from which height to which an arrow goes from the bar of one thread to that of another, or to the locks under it
abbrev pub heights : Layout → ℕ → ℕ → ℕ × ℕ
heights f from to =
    if nat_lt to from then (top f (Thread from), landing f to) else (floor f (Thread from), top f (Thread to))

unfoldable pub arrow_start : List ℕ → ℕ → Layout → ℕ → ℕ → List ℕ
arrow_start class column f from to = path_start class column (heights f from to)

unfoldable pub hand_path : Work → Layout → ℕ → HandOver → ℕ → ℕ × ℕ → List ℕ
hand_path w f n x waiter rows = arrow_start (codes "will") (shifted f x.tick n) f rows.0 rows.1 ++ hand_title w x waiter ++ path_end

abbrev pub hand_rows : Work → Layout → ℕ → HandOver → ℕ → Option ℕ → Option ℕ → List ℕ
hand_rows w f n x waiter None to = []
hand_rows w f n x waiter (Some from) None = []
hand_rows w f n x waiter (Some from) (Some to) = hand_path w f n x waiter (from, to)

-- the arrow from a waiter to the owner
abbrev pub hand_text : Work → Layout → ℕ → HandOver → Option ℕ → List ℕ
hand_text w f n x None = []
hand_text w f n x (Some waiter) = hand_rows w f n x waiter (row_of f waiter) (row_of f x.owner.0)

abbrev pub has_row : Layout → ℕ → Bool
has_row f t = is_some (row_of f t)

abbrev pub has_row_if : Layout → Option ℕ → Bool
has_row_if f None = false
has_row_if f (Some t) = has_row f t

-- something was inherited, and the tick and the rows of both are drawn
abbrev pub is_drawn_hand : Layout → HandOver → Bool
is_drawn_hand f x = x.inherited && (shows f x.tick && (has_row_if f x.waiter && has_row f x.owner.0))

unfoldable pub drawn_hands : Layout → History → List HandOver
drawn_hands f h = filter (is_drawn_hand f) h.hand_overs.items

-- which one it is at its tick, from 0
abbrev pub nth_at : Option ℕ → ℕ → ℕ → ℕ
nth_at None n tick = 0
nth_at (Some before) n tick = if before == tick then (n % 8 + 1) % 8 else 0

-- those of one tick that are drawn stand beside one another
unfoldable pub hand_texts : Work → Layout → Option ℕ → ℕ → List HandOver → List ℕ
hand_texts w f earlier n [] = []
hand_texts w f earlier n (x ∷ xs) =
    hand_text w f (nth_at earlier n x.tick) x x.waiter ++ hand_texts w f (Some x.tick) (nth_at earlier n x.tick) xs

unfoldable pub wake_title : Work → Wakeup → ℕ → List ℕ
wake_title w x waker =
    (codes "entry " ++ decimal x.entry) ++ codes ": " ++ thread_name w waker ++ codes " wakes " ++ thread_name w x.woken.0

unfoldable pub wake_path : Work → Layout → Wakeup → ℕ → ℕ × ℕ → List ℕ
wake_path w f x waker rows = arrow_start (codes "wake") (column f x.tick) f rows.0 rows.1 ++ wake_title w x waker ++ path_end

abbrev pub wake_rows : Work → Layout → Wakeup → ℕ → Option ℕ → Option ℕ → List ℕ
wake_rows w f x waker None to = []
wake_rows w f x waker (Some from) None = []
wake_rows w f x waker (Some from) (Some to) = wake_path w f x waker (from, to)

abbrev pub wake_by : Work → Layout → Wakeup → Option ℕ → List ℕ
wake_by w f x None = []
wake_by w f x (Some waker) = wake_rows w f x waker (row_of f waker) (row_of f x.woken.0)

-- its tick and both rows are drawn
abbrev pub is_drawn_wake : Layout → Wakeup → Bool
is_drawn_wake f x = shows f x.tick && (has_row_if f x.waker && has_row f x.woken.0)

-- the arrow from a thread that wakes
abbrev pub wake_text : Work → Layout → Wakeup → List ℕ
wake_text w f x = if is_drawn_wake f x then wake_by w f x x.waker else []
