-- Which bytes pictures, and what is shown on their bars and arrows, are made of.
-- Source: XML 1.0, sections 2.2 (characters) and 2.4 (character data and markup).
use Rattle.std.specs.Prelude.{ℕ}
use Rattle.sd_types.specs.declared.works.Work.{Work}
use Rattle.sd_state.specs.declared.states.State.{State}
use Rattle.sd_stretches.specs.declared.changes.HandOver.{HandOver}
use Rattle.sd_stretches.specs.declared.changes.Wakeup.{Wakeup}
use Rattle.sd_stretches.specs.declared.histories.History.{History}
use Rattle.sd_stretches.specs.declared.rows.Stretch.{Stretch}
use Rattle.sd_stretches.specs.Plain.{IsPlain, IsText}
use Rattle.sd_holds.specs.declared.holdings.Hold.{Hold}
use Rattle.sd_layout.specs.declared.frames.Frame.{Frame}
use Rattle.sd_timeline.specs.Bars.{stretch_title}
use Rattle.sd_timeline.specs.Held.{held_title}
use Rattle.sd_timeline.specs.Arrows.{hand_title, wake_title}
use Rattle.sd_timeline.specs.Picture.{timeline_text}

-- the titles of bars, bands and arrows
pub record HasPlainTitles (w : Work) : Type 0 where
  pub bars : (x : Stretch) → IsPlain (stretch_title w x)
  pub holds : (x : Hold) → IsPlain (held_title w x)
  pub arrows : (x : HandOver) (waiter : ℕ) → IsPlain (hand_title w x waiter)
  pub wakeups : (x : Wakeup) (waker : ℕ) → IsPlain (wake_title w x waker)

abbrev pub TitlesNeedNoEscaping : Type 0
TitlesNeedNoEscaping = (w : Work) → HasPlainTitles w

abbrev pub TimelinesArePlain : Type 0
TimelinesArePlain = (w : Work) (f : Frame) (h : History) (s : State) → IsText (timeline_text w f h s)
