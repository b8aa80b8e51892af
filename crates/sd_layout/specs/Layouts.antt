-- Where things stand in the picture.
-- Source: this project's own.
use Rattle.std.specs.Prelude.{ℕ, Bool, not, ◌&&◌, ◌+◌, ◌-◌, ◌*◌, ◌/◌, ◌%◌, ◌==◌, min, max, nat_le, nat_lt, sum, take, List, Option, Some, None, if◌then◌else◌}
use Rattle.std.specs.List.{list_any, position}
use Rattle.sd_layout.specs.declared.folds.Column.{Column}
use Rattle.sd_layout.specs.declared.layouts.Row.{Row}
use Rattle.sd_layout.specs.declared.layouts.Row.TheVariants.{Cpu, Thread}
use Rattle.sd_layout.specs.Folds.{place_from}

-- what is drawn: the ticks from `from` to `to`, so many pixels each, but for those that are folded; a row for each processor, and
-- one for each of these threads, in this order, for which there is room for so many. Under each of these rows are so many lanes for
-- the locks that the thread holds; `sets` says whether there are processor sets, of which notes tell under the rows of processors.
pub record Layout : Type 0 where
  pub from : ℕ
  pub to : ℕ
  pub cpus : ℕ
  pub threads : ℕ
  pub rows : List ℕ
  pub lanes : List ℕ
  pub sets : Bool
  pub scale : ℕ
  pub folds : List Column

-- how many ticks are drawn
abbrev pub shown : Layout → ℕ
shown f = f.to - f.from

-- how many ticks lie between the numbers of the axis
abbrev pub step : Layout → ℕ
step f = if nat_le 50 f.scale then 1 else if nat_le 25 f.scale then 2 else if nat_le 10 f.scale then 5 else if nat_le 5 f.scale then 10 else if nat_le 3 f.scale then 20 else 50

-- how far a tick lies from the first one that is drawn; one that is not drawn lies at the nearer edge
abbrev pub place : Layout → ℕ → ℕ
place f tick = place_from f.scale f.from (min (max tick f.from) f.to) f.folds

-- where a tick begins, from the left
abbrev pub column : Layout → ℕ → ℕ
column f tick = 150 + place f tick

-- how long the part that is drawn of the ticks from a to b is
abbrev pub width : Layout → ℕ → ℕ → ℕ
width f a b = place f b - place f a

-- where the ground of a word begins that stands on a bar that begins with a tick
abbrev pub inside : Layout → ℕ → ℕ
inside f tick = 153 + place f tick

-- where words begin that tell of what begins with a tick: beside a line that may end there
abbrev pub beside : Layout → ℕ → ℕ
beside f tick = 156 + place f tick

-- a fold lies so near a tick, or nearer
abbrev pub is_near : ℕ → ℕ → Column → Bool
is_near room tick x = nat_le x.from (tick + room) && nat_le tick (x.to + room)

-- a number of the axis has room where no fold lies near it
abbrev pub is_clear : Layout → ℕ → Bool
is_clear f tick = not (list_any (is_near (step f / 3) tick) f.folds)

-- the number of a row among all rows
abbrev pub number : Layout → Row → ℕ
number f (Cpu c) = c
number f (Thread t) = f.cpus + t

-- the room in front of row n for the numbers of the axis, which stand after every 40 rows
abbrev pub gap : ℕ → ℕ
gap n = 18 * (n / 40)

-- the height of the row of a processor, with its notes
abbrev pub cpu_height : Layout → ℕ
cpu_height f = if f.sets then 40 else 26

-- how many lanes the first rows of threads have
abbrev pub lanes_above : Layout → ℕ → ℕ
lanes_above f t = sum (take t f.lanes)

-- the height of all rows of processors, and of so many rows of threads
abbrev pub cpus_height : Layout → ℕ
cpus_height f = cpu_height f * f.cpus

abbrev pub threads_height : Layout → ℕ → ℕ
threads_height f t = 48 * t + 16 * lanes_above f t

-- how far a row lies below the first one
abbrev pub lowered : Layout → Row → ℕ
lowered f (Cpu c) = cpu_height f * c + gap (number f (Cpu c))
lowered f (Thread t) = cpus_height f + threads_height f t + gap (number f (Thread t))

-- the top of the bars of a row, and the base line of the texts on them
abbrev pub top : Layout → Row → ℕ
top f (Cpu c) = 56 + lowered f (Cpu c)
top f (Thread t) = 76 + lowered f (Thread t)

abbrev pub base : Layout → Row → ℕ
base f (Cpu c) = 69 + lowered f (Cpu c)
base f (Thread t) = 89 + lowered f (Thread t)

-- the lower edge of the bars of a row
abbrev pub floor : Layout → Row → ℕ
floor f (Cpu c) = 74 + lowered f (Cpu c)
floor f (Thread t) = 94 + lowered f (Thread t)

-- the lower edge of the lanes of a thread
abbrev pub landing : Layout → ℕ → ℕ
landing f t = floor f (Thread t) + 16 * (lanes_above f (t + 1) - lanes_above f t)

-- from where to where a line across the bars of a row goes
abbrev pub across : Layout → Row → ℕ × ℕ
across f (Cpu c) = (53 + lowered f (Cpu c), 77 + lowered f (Cpu c))
across f (Thread t) = (73 + lowered f (Thread t), 97 + lowered f (Thread t))

-- the base line of the note under the name of a row
abbrev pub beneath : Layout → Row → ℕ
beneath f (Cpu c) = 87 + lowered f (Cpu c)
beneath f (Thread t) = 104 + lowered f (Thread t)

-- the base line of the notes under a row, which is below the lanes of a thread
abbrev pub under : Layout → Row → ℕ
under f (Cpu c) = beneath f (Cpu c)
under f (Thread t) = beneath f (Thread t) + 16 * (lanes_above f (t + 1) - lanes_above f t)

-- the top of a lane under the row of a thread, and the base line of the names on it
abbrev pub lane_top : Layout → ℕ → ℕ → ℕ
lane_top f t lane = 96 + lowered f (Thread t) + 16 * min lane 7

abbrev pub lane_base : Layout → ℕ → ℕ → ℕ
lane_base f t lane = 107 + lowered f (Thread t) + 16 * min lane 7

-- the base line of the priorities of a thread, above its bars
abbrev pub above : Layout → ℕ → ℕ
above f t = 71 + lowered f (Thread t)

-- the top of the priorities of a thread
abbrev pub over : Layout → ℕ → ℕ
over f t = 60 + lowered f (Thread t)

-- where the arrow begins that is number n, from 0, among those of a tick
abbrev pub shifted : Layout → ℕ → ℕ → ℕ
shifted f tick n = 150 + place f tick + 5 * (n % 8)

-- the number of the last row
abbrev pub last_row : Layout → ℕ
last_row f = f.cpus + f.threads - 1

-- how often the numbers of the axis stand between rows, and their base line there, in front of row 40, 80 and so on
abbrev pub axes : Layout → ℕ
axes f = last_row f / 40

abbrev pub between_rows : Layout → ℕ → ℕ
between_rows f n =
    if nat_lt n f.cpus then 50 + cpu_height f * n + gap n else 56 + cpus_height f + threads_height f (n - f.cpus) + gap n

abbrev pub axis_base : Layout → ℕ → ℕ
axis_base f k = between_rows f (40 * (k + 1))

-- the lower edge of the last row, and the width of the picture
abbrev pub bottom : Layout → ℕ
bottom f = 62 + (cpus_height f + threads_height f f.threads) + gap (last_row f)

-- how far the last row reaches below the axis
abbrev pub depth : Layout → ℕ
depth f = bottom f - 50

abbrev pub total_width : Layout → ℕ
total_width f = max (280 + place f f.to) 1040

-- a tick is drawn, or ends what is drawn
abbrev pub shows : Layout → ℕ → Bool
shows f tick = nat_le f.from tick && nat_le tick f.to

abbrev pub row_if : Layout → Option ℕ → Option ℕ
row_if f None = None
row_if f (Some row) = if nat_lt row f.threads then Some row else None

-- the number of a thread's row, if it has one for which there is room
unfoldable pub row_of : Layout → ℕ → Option ℕ
row_of f t = row_if f (position (λ u. u == t) f.rows)
