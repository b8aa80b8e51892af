-- The locks that a thread holds: each hold of which a tick is drawn is a band with the lock's name, under the row of the thread.
-- Source: this project's own.
use Rattle.std.specs.Prelude.{ℕ, Bool, List, [], ◌++◌, length, codes, decimal, if◌then◌else◌}
use Rattle.std.specs.List.{flat_map}
use Rattle.sd_types.specs.declared.works.Work.{Work}
use Rattle.sd_state.specs.Texts.{lock_name, thread_name}
use Rattle.sd_holds.specs.declared.banding.Band.{Band}
use Rattle.sd_holds.specs.declared.holdings.Hold.{Hold}
use Rattle.sd_holds.specs.Bands.{bands}
use Rattle.sd_layout.specs.Layouts.{Layout, beside, column, lane_base, lane_top, width}
use Rattle.sd_timeline.specs.Arrows.{has_row}
use Rattle.sd_timeline.specs.Bars.{between, fits}
use Rattle.sd_timeline.specs.Pieces.{bar_start, bar_end, word_label}

-- what is shown on a band
unfoldable pub held_words : Work → Hold → List ℕ
held_words w x = thread_name w x.thread.0 ++ codes " holds " ++ lock_name w x.lock.0

unfoldable pub held_title : Work → Hold → List ℕ
held_title w x = held_words w x ++ between (codes ", ticks ") x.from x.to ++ (codes ", from entry " ++ decimal x.taken)

abbrev pub lock_word : Work → Layout → ℕ → Band → List ℕ
lock_word w f row b =
    if fits (length (lock_name w b.hold.lock.0)) (width f b.hold.from b.hold.to)
    then word_label (codes "held") (beside f b.hold.from) (lane_base f row b.lane) (lock_name w b.hold.lock.0) else []

unfoldable pub band_text : Work → Layout → ℕ → Band → List ℕ
band_text w f row b =
    bar_start (codes "hold") (column f b.hold.from) (lane_top f row b.lane) (width f b.hold.from b.hold.to) 13 ++ held_title w b.hold ++ bar_end
    ++ lock_word w f row b

-- those of thread t, of these holds
abbrev pub bands_text : Work → Layout → List Hold → ℕ → ℕ → List ℕ
bands_text w f holds t row = flat_map (band_text w f row) (bands t f.from f.to holds)

-- a band is drawn of it
abbrev pub is_shown_hold : Layout → Hold → Bool
is_shown_hold f x = has_row f x.thread.0
