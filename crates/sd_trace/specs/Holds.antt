-- The slices of the locks that threads hold: each hold that takes a tick is one complete event, on a track of its thread.
-- Source: Trace Event Format (complete events).
use Rattle.std.specs.Prelude.{ℕ, List, [], ◌++◌, codes, decimal, Option, Some, None}
use Rattle.sd_types.specs.declared.works.Work.{Work}
use Rattle.sd_state.specs.Texts.{lock_name}
use Rattle.sd_holds.specs.declared.banding.Band.{Band}
use Rattle.sd_holds.specs.declared.holdings.Hold.{Hold}
use Rattle.sd_trace.specs.Slices.{length_of, slice_kind}
use Rattle.sd_trace.specs.Words.{hold_number, place_at}

-- by which entry the lock is given up, if it is
abbrev pub given_argument : Option ℕ → List ℕ
given_argument None = []
given_argument (Some n) = codes ",\"given up by entry\":" ++ decimal n

unfoldable pub taken_arguments : Hold → List ℕ
taken_arguments x = (codes ",\"args\":{\"taken by entry\":" ++ decimal x.taken) ++ given_argument x.given

unfoldable pub hold_arguments : Hold → List ℕ
hold_arguments x = taken_arguments x ++ codes "}}"

-- a slice with the name of the lock, on the track of its lane
unfoldable pub hold_slice : Work → Band → List ℕ
hold_slice w b =
    codes ",\n{\"name\":\"" ++ lock_name w b.hold.lock.0 ++ slice_kind (codes "hold") ++ place_at w b.hold.from 3 (hold_number b.hold.thread.0 b.lane)
    ++ length_of w b.hold.from b.hold.to ++ hold_arguments b.hold
