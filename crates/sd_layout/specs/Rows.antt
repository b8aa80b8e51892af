-- Which threads have a row, and in which order.
-- Source: this project's own.
use Rattle.std.specs.Prelude.{◌≡◌, ℕ, Bool, true, false, not, ◌&&◌, ◌||◌, ◌==◌, ◌<◌, nat_le, nat_lt, min, List, ◌++◌, length, filter, map, take, if◌then◌else◌}
use Rattle.std.specs.List.{All, Contains, IsDistinct, list_any}
use Rattle.sd_types.specs.declared.works.Work.{Work}
use Rattle.sd_state.specs.States.{thread_numbers}
use Rattle.sd_stretches.specs.declared.histories.History.{History}
use Rattle.sd_stretches.specs.declared.rows.Stretch.{Stretch}
use Rattle.sd_stretches.specs.Rows.{stretches}
use Rattle.sd_stretches.specs.Sights.{does_run}
use Rattle.sd_holds.specs.declared.holdings.Hold.{Hold}
use Rattle.sd_holds.specs.Bands.{bands, most_lanes}
use Rattle.sd_layout.specs.declared.frames.Frame.{Frame}
use Rattle.sd_layout.specs.Folds.{folds, scale_of}
use Rattle.sd_layout.specs.Layouts.{Layout}

-- the thread runs in the ticks that are drawn, or comes there from doing one thing to doing another
abbrev pub runs_in : Frame → Stretch → Bool
runs_in f x = does_run x.doing && (nat_le x.from f.to && nat_le f.from x.to)

abbrev pub begins_in : Frame → Stretch → Bool
begins_in f x = nat_lt 0 x.first && (nat_le f.from x.from && nat_le x.from f.to)

abbrev pub is_deed : Frame → Stretch → Bool
is_deed f x = runs_in f x || begins_in f x

-- does something in the ticks that are drawn
abbrev pub acts : Work → Frame → History → ℕ → Bool
acts w f h t = list_any (is_deed f) (stretches t h.onsets.items h.entries w.limit)

-- those that are to stand first, and behind them the others, each in their order
abbrev pub ordered : (ℕ → Bool) → List ℕ → List ℕ
ordered first ts = filter first ts ++ filter (λ t. not (first t)) ts

-- All threads, where there is room for all. Else those that act in the ticks that are drawn come first, in order of number, and
-- behind them the others, as far as there is room.
unfoldable pub rows_of : Work → Frame → History → List ℕ
rows_of w f h =
    if nat_le (length w.threads) f.threads then thread_numbers w else take f.threads (ordered (acts w f h) (thread_numbers w))

-- how many lanes the holds of a thread need, of these that lie in the ticks that are drawn
abbrev pub lanes_of : Frame → List Hold → ℕ → ℕ
lanes_of f holds t = most_lanes (bands t f.from f.to holds)

-- what is drawn of a run, with these holds
abbrev pub layout_of : Work → Frame → History → List Hold → Layout
layout_of w f h holds = record {
  from = f.from;
  to = f.to;
  cpus = f.cpus;
  threads = f.threads;
  rows = rows_of w f h;
  lanes = map (lanes_of f holds) (rows_of w f h);
  sets = nat_lt 0 (length w.sets);
  scale = scale_of f (folds f h);
  folds = folds f h;
}

-- ---- laws

-- each row is of a thread of the workload, and of one of its own
pub record RowsAreOwn (w : Work) (f : Frame) (h : History) : Type 0 where
  pub threads : All (λ t. t < length w.threads) (rows_of w f h)
  pub distinct : IsDistinct (λ t u. t == u) (rows_of w f h)
  pub room : length (rows_of w f h) ≡ min f.threads (length w.threads)

abbrev pub AllRowsAreOwn : Type 0
AllRowsAreOwn = (w : Work) (f : Frame) (h : History) → RowsAreOwn w f h

-- no thread that does nothing in the ticks that are drawn has a row while one that acts there has none
abbrev pub ActingThreadsComeFirst : Type 0
ActingThreadsComeFirst =
    (w : Work) (f : Frame) (h : History) (t u : ℕ) → u < length w.threads → acts w f h t ≡ false → acts w f h u ≡ true
    → Contains (rows_of w f h) t → Contains (rows_of w f h) u
