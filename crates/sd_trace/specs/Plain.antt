-- Which bytes traces are made of.
-- Source: RFC 8259, section 7 (escapes in strings).
use Rattle.sd_types.specs.declared.works.Work.{Work}
use Rattle.sd_stretches.specs.declared.histories.History.{History}
use Rattle.sd_stretches.specs.Plain.{IsText}
use Rattle.sd_trace.specs.Tracks.{trace_text}

abbrev pub TracesArePlain : Type 0
TracesArePlain = (w : Work) (h : History) → IsText (trace_text w h)
