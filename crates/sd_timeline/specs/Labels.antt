-- The priorities above the bars, and the marks of deadlocks.
-- Source: this project's own.
use Rattle.std.specs.Prelude.{ℕ, ◌+◌, Bool, true, false, ◌==◌, nat_le, nat_lt, List, [], ◌++◌, codes, decimal, filter, Option, Some, None, if◌then◌else◌}
use Rattle.std.specs.List.{flat_map}
use Rattle.sd_types.specs.declared.works.Work.{Work}
use Rattle.sd_stretches.specs.declared.histories.History.{History}
use Rattle.sd_stretches.specs.declared.rows.Level.{Level}
use Rattle.sd_stretches.specs.Rows.{levels}
use Rattle.sd_layout.specs.declared.folds.Column.{Column}
use Rattle.sd_layout.specs.declared.layouts.Row.TheVariants.{Thread}
use Rattle.sd_layout.specs.Layouts.{Layout, above, base, beside, column, depth, inside, over, row_of, width}
use Rattle.sd_timeline.specs.Pieces.{bar_end, bar_start, cover, word_label, number_label}
use Rattle.sd_timeline.specs.Bars.{between}
use Rattle.sd_layout.specs.Folds.{many}

abbrev pub own_level : Layout → ℕ → Level → List ℕ
own_level f t x = number_label (codes "own") (beside f x.from) (above f t) [] x.priority

-- a triangle tells that it is inherited
abbrev pub inherited_level : Layout → ℕ → Level → List ℕ
inherited_level f t x =
    if nat_lt (width f x.from x.to) 46 then word_label (codes "inherited") (beside f x.from) (above f t) (codes "&#9650;")
    else number_label (codes "inherited") (beside f x.from) (above f t) (codes "&#9650;") x.priority

-- there is room for it
abbrev pub has_room : Layout → Level → Bool
has_room f x = nat_le 30 (width f x.from x.to)

abbrev pub some_level : Layout → ℕ → Level → List ℕ
some_level f t x = if x.inherited then inherited_level f t x else own_level f t x

-- a priority where it changes, if it stays so long that there is room for it
abbrev pub level_label : Layout → ℕ → Level → List ℕ
level_label f t x = if has_room f x then some_level f t x else []

-- the priorities of threads that have a row for which there is room
abbrev pub labelled_by : Work → Layout → History → ℕ → List Level
labelled_by w f h t = filter (has_room f) (levels t h.ranks.items w.limit)

unfoldable pub labelled : Work → Layout → History → List Level
labelled w f h = flat_map (labelled_by w f h) f.rows

abbrev pub inherited_word : Bool → List ℕ
inherited_word true = codes ", inherited"
inherited_word false = []

-- what is shown where the pointer rests on a priority
unfoldable pub level_title : Level → List ℕ
level_title x = (codes "priority " ++ decimal x.priority) ++ inherited_word x.inherited ++ between (codes ", ticks ") x.from x.to

-- the place of a priority, which shows it also where there is no room for it
unfoldable pub level_area : Layout → ℕ → Level → List ℕ
level_area f t x = bar_start (codes "level") (column f x.from) (over f t) (width f x.from x.to) 13 ++ level_title x ++ bar_end

-- a line as long as a priority is inherited
abbrev pub raised_line : Layout → ℕ → Level → List ℕ
raised_line f t x = if x.inherited then cover (codes "raised") (column f x.from) (over f t + 13) (width f x.from x.to) 2 else []

unfoldable pub whole_level : Layout → ℕ → Level → List ℕ
whole_level f t x = level_label f t x ++ raised_line f t x ++ level_area f t x

-- none where no tick of it is drawn
abbrev pub level_text : Layout → ℕ → Level → List ℕ
level_text f t x = if width f x.from x.to == 0 then [] else whole_level f t x

unfoldable pub many_text : ℕ → List ℕ
many_text n = codes "nothing changes in these ticks: " ++ decimal n

unfoldable pub fold_title : Column → List ℕ
fold_title x = many_text (many x) ++ between (codes ", ") x.from x.to

-- a gap across the rows, which tells how many ticks are folded
unfoldable pub fold_text : Layout → Column → List ℕ
fold_text f x = bar_start (codes "gap") (column f x.from) 50 (width f x.from x.to) (depth f) ++ fold_title x ++ bar_end

abbrev pub mark_at : Layout → Option ℕ → List ℕ
mark_at f None = []
mark_at f (Some row) = word_label (codes "dead") (inside f f.to) (base f (Thread row)) (codes "deadlock")

-- the mark of a thread that is blocked for good
abbrev pub mark_text : Layout → ℕ → List ℕ
mark_text f t = mark_at f (row_of f t)
