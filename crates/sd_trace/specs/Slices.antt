-- The slices of the stretches of threads: each stretch is one complete event, with its numbers of entries as arguments.
-- Source: Trace Event Format (complete events).
use Rattle.std.specs.Prelude.{ℕ, ◌-◌, max, List, [], ◌∷◌, ◌++◌, codes, decimal}
use Rattle.sd_types.specs.declared.works.Work.{Work}
use Rattle.sd_state.specs.Texts.{lock_name, thread_name}
use Rattle.sd_stretches.specs.declared.sights.Doing.{Doing}
use Rattle.sd_stretches.specs.declared.sights.Doing.TheVariants.{Spinning}
use Rattle.sd_stretches.specs.declared.rows.Stretch.{Stretch}
use Rattle.sd_stretches.specs.Doings.{doing_text}
use Rattle.sd_trace.specs.Words.{class_word, cpu_number, micros, place_at}

unfoldable pub class_start : List ℕ
class_start = codes ",\"args\":{\"class\":\""

unfoldable pub class_argument : List ℕ → List ℕ
class_argument word = class_start ++ word

unfoldable pub priority_argument : ℕ → List ℕ
priority_argument priority = codes "\",\"priority\":" ++ decimal priority

unfoldable pub entry_arguments : ℕ → ℕ → List ℕ
entry_arguments first last = (codes ",\"first entry\":" ++ decimal first) ++ (codes ",\"last entry\":" ++ decimal last) ++ codes "}}"

-- class, priority and entries of a stretch
unfoldable pub about : Stretch → List ℕ
about x = class_argument (class_word x.class) ++ priority_argument x.priority ++ entry_arguments x.first x.last

-- how long a slice is
unfoldable pub length_of : Work → ℕ → ℕ → List ℕ
length_of w from to = codes ",\"dur\":" ++ decimal (micros w (to - from))

-- the kind of a slice
unfoldable pub slice_kind : List ℕ → List ℕ
slice_kind category = codes "\",\"cat\":\"" ++ category ++ codes "\",\"ph\":\"X\""

-- for which lock the thread spins, if it does
unfoldable pub spin_words : Work → Doing → List ℕ
spin_words w (Spinning c l) = codes " spins for " ++ lock_name w l.0
spin_words w _ = []

-- who runs, and for which lock, if the thread spins
unfoldable pub run_name : Work → Stretch → List ℕ
run_name w x = thread_name w x.thread ++ spin_words w x.doing

-- a slice on the track of processor c
unfoldable pub run_slice : Work → ℕ → Stretch → List ℕ
run_slice w c x =
    codes ",\n{\"name\":\"" ++ run_name w x ++ slice_kind (codes "run") ++ place_at w x.from 1 (cpu_number c)
    ++ length_of w x.from x.to ++ about x

-- a slice on the track of a thread
unfoldable pub state_slice : Work → ℕ → ℕ → ℕ → Stretch → List ℕ
state_slice w track from to x =
    codes ",\n{\"name\":\"" ++ doing_text w x.doing ++ slice_kind (codes "state") ++ place_at w from 2 track
    ++ length_of w from to ++ about x

-- The slices of a thread's stretches, on its track from a tick on: each begins where the one in front of it ends. That is where its
-- stretch begins, or a tick later: of two processors that change what a thread does one may be a tick ahead, and slices of
-- one track must not overlap.
unfoldable pub state_slices : Work → ℕ → ℕ → List Stretch → List ℕ
state_slices w track from [] = []
state_slices w track from (x ∷ xs) = state_slice w track from (max from x.to) x ++ state_slices w track (max from x.to) xs
