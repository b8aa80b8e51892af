-- What each kind of step does to the view of the seat that steps, and what it tells.
-- Source: this project's own.
use Rattle.std.specs.Prelude.{◌≡◌, ◌≢◌, ℕ, ◌+◌, ◌^◌, ◌<◌, ◌≤◌, ◌&&◌, ◌==◌, Bool, true, List, [], ◌∷◌, ◌++◌, length, Option, Some, None, ⊤}
use Rattle.std.specs.List.{list_any}
use Rattle.atomic_table.specs.Table.{Step, Me, rest}
use Rattle.sd_types.specs.declared.numbers.CpuId.{CpuId}
use Rattle.sd_types.specs.declared.events.Which.{Which}
use Rattle.sd_types.specs.declared.events.Hints.{Hints}
use Rattle.sd_types.specs.declared.events.Event.{Event}
use Rattle.sd_types.specs.declared.events.Entry.{Entry}
use Rattle.sd_types.specs.declared.works.Work.{Work}
use Rattle.sd_types.specs.Partitions.{cpu_of_number}
use Rattle.sd_state.specs.declared.states.State.{State}
use Rattle.sd_state.specs.States.{cpu_of}
use Rattle.sd_machine.specs.Runs.{IsRun}
use Rattle.sd_machine.specs.Events.{next}
use Rattle.sd_machine.specs.Hints.{reads}
use Rattle.sd_homes.specs.declared.home.Home.{Home}
use Rattle.sd_world.specs.declared.notes.Count.{Count}
use Rattle.sd_shared_rule.specs.declared.views.Note.{Note}
use Rattle.sd_shared_rule.specs.declared.views.Written.{Written}
use Rattle.sd_shared_rule.specs.declared.views.Desk.{Desk}
use Rattle.sd_shared_rule.specs.declared.views.View.{View}
use Rattle.sd_shared_rule.specs.declared.views.View.TheVariants.{Works}
use Rattle.sd_shared_rule.specs.Ledgers.{Since}
use Rattle.sd_shared_rule.specs.Places.{Stands, Touches, holds, home_count, moved, now, place_home, without}
use Rattle.sd_shared_rule.specs.Words.{which_word}

abbrev pub Slot : Type 0
Slot = Option Home

-- Views.

abbrev pub new_desk : ℕ → Desk
new_desk c = record { cpu = c; held = []; seen = []; stray = []; counts = []; hints = []; glances = []; misses = []; written = [] }

abbrev pub desk_of : View → Desk
desk_of (Works d) = d
desk_of _ = new_desk 0

-- a longer history was seen
abbrev pub seeing : Desk → List Entry → Desk
seeing d h = record d { seen = h }

abbrev pub taking : Desk → ℕ → Desk
taking d k = record d { held = k ∷ d.held }

-- this word was found in the lock of home k
abbrev pub missing : Desk → ℕ → ℕ → Desk
missing d k n = record d { misses = record { home = k; word = n } ∷ d.misses }

abbrev pub giving : Desk → ℕ → Desk
giving d k = record d { held = without k d.held }

abbrev pub noting : Desk → Count → Desk
noting d x = record d { counts = x ∷ d.counts }

abbrev pub hinted : Desk → Note → Desk
hinted d x = record d { hints = x ∷ d.hints }

-- the word of thread t named home n
abbrev pub looking : Desk → ℕ → ℕ → Desk
looking d t n = record d { glances = record { thread = t; home = n } ∷ d.glances }

abbrev pub writing : Desk → Written → Desk
writing d x = record d { written = x ∷ d.written }

abbrev pub naming : Desk → ℕ → Desk
naming d t = record d { stray = without t d.stray }

abbrev pub entry_as : ℕ → ℕ → Event → Option Hints → Entry
entry_as n c e hints = record { number = n; cpu = cpu_of_number c; event = e; hints = hints }

-- after an entry each thread that has moved is a stray, beside those that were; no hint is noted, and nothing has been written
abbrev pub committing : Work → Desk → List Entry → Event → Option Hints → Desk
committing w d h e hints =
    record d {
      seen = h ++ entry_as (length h) d.cpu e hints ∷ [];
      stray = moved w (now w h) (now w (h ++ entry_as (length h) d.cpu e hints ∷ [])) ++ d.stray;
      hints = [];
      written = [];
    }

-- the history so far was seen
pub record Sees (w : Work) (d : Desk) (h : List Entry) : Type 0 where
  pub run : IsRun w h
  pub since : Since w d.cpu d.held d.seen h

-- Hints.

abbrev pub is_note : ℕ → Which → ℕ → Note → Bool
is_note c which n x = (x.cpu == c) && (which_word x.which == which_word which) && (x.number == n)

-- the number was read of the processor since the last entry
unfoldable pub is_noted : List Note → ℕ → Which → ℕ → Bool
is_noted notes c which n = list_any (is_note c which n) notes

abbrev pub AllNoted : List Note → Which → List CpuId → List ℕ → Type 0
AllNoted notes which [] [] = ⊤
AllNoted notes which (c ∷ cs) (n ∷ ns) = (is_noted notes c.0 which n ≡ true) × AllNoted notes which cs ns
AllNoted notes which _ _ = ⊥

-- the hints of an entry are what the processor reads in this state, and each was noted
abbrev pub HintsNoted : Work → State → Desk → Option Hints → Type 0
HintsNoted w s d None = ⊤
HintsNoted w s d (Some hs) = (cpus : List CpuId) × (reads w s d.cpu ≡ Some (hs.which, cpus)) × AllNoted d.hints hs.which cpus hs.numbers.items

-- the number was written into the word since the last entry
unfoldable pub is_written : List Written → ℕ → ℕ → Bool
is_written xs i n = list_any (λ x. (x.word == i) && (x.number == n)) xs

-- What each kind of step tells: of the word that was found, and of the seat after it.

-- the lock of a home was exchanged for the seat's own, where it was 0: then the home was taken, which stands for its part; else the word
-- has the number of a processor plus 1, and the seat notes it of this home
abbrev pub Took : Work → Step Slot → Me Slot View → ℕ → Me Slot View → Type 0
Took w st m n m' =
    (h : List Entry) × Sees w (desk_of m.0) h
    × (n ≡ 0 → (x : Home) × Stands w st.word h x × (m' ≡ (Works (taking (seeing (desk_of m.0) h) st.word), (st.word, Some x) ∷ m.1)))
    × (n ≢ 0 → (n ≤ w.cpus) × (m' ≡ (Works (missing (seeing (desk_of m.0) h) st.word n), m.1)))

-- the home that was taken last was given back
abbrev pub Gave : Work → Step Slot → Me Slot View → ℕ → Me Slot View → Type 0
Gave w st m n m' = m' ≡ (Works (giving (desk_of m.0) st.word), rest m.1)

-- the word of thread t was read: where it names a home that is held, and no word is unpublished, the thread stands there
abbrev pub Looked : Work → ℕ → Step Slot → Me Slot View → ℕ → Me Slot View → Type 0
Looked w t st m n m' =
    (h : List Entry) × Sees w (desk_of m.0) h × (m' ≡ (Works (looking (seeing (desk_of m.0) h) t n), m.1)) × (n < home_count w)
    × ((desk_of m.0).stray ≡ [] → holds n (desk_of m.0).held ≡ true → place_home w (now w h) t ≡ n)

-- the word of thread t was published
abbrev pub Published : Work → ℕ → Step Slot → Me Slot View → ℕ → Me Slot View → Type 0
Published w t st m n m' = m' ≡ (Works (naming (desk_of m.0) t), m.1)

-- a hint of processor c was read
abbrev pub Hinted : Work → ℕ → Which → Step Slot → Me Slot View → ℕ → Me Slot View → Type 0
Hinted w c which st m n m' = (n < 2 ^ 8) × (m' ≡ (Works (hinted (desk_of m.0) (record { cpu = c; which = which; number = n })), m.1))

-- the word of the ticks of processor c was read: its count has reached that number
abbrev pub Counted : Work → ℕ → Step Slot → Me Slot View → ℕ → Me Slot View → Type 0
Counted w c st m n m' =
    (h : List Entry) × Sees w (desk_of m.0) h × (n ≤ (cpu_of (now w h) c).count) × (n < 2 ^ 32)
    × (m' ≡ (Works (noting (seeing (desk_of m.0) h) (record { cpu = c; number = n })), m.1))

-- a hint or the own ticks were written
abbrev pub Wrote : Work → Step Slot → Me Slot View → ℕ → Me Slot View → Type 0
Wrote w st m n m' = m' ≡ (Works (writing (desk_of m.0) (record { word = st.word; number = st.first })), m.1)

-- the number of an entry was drawn from the stamp: the entry is a step of the run so far, with hints that were noted
abbrev pub Committed : Work → Event → Option Hints → Step Slot → Me Slot View → ℕ → Me Slot View → Type 0
Committed w e hints st m n m' =
    (h : List Entry) × Sees w (desk_of m.0) h × (length h ≡ n) × (n < 2 ^ 48) × (next w (now w h) (cpu_of_number (desk_of m.0).cpu) hints ≡ Some e)
    × HintsNoted w (now w h) (desk_of m.0) hints
    × IsRun w (h ++ entry_as n (desk_of m.0).cpu e hints ∷ []) × (m' ≡ (Works (committing w (desk_of m.0) h e hints), m.1))

-- What a step of a commit asks for: in each run that the seat may see, the processor may make the event, holds all homes that the event
-- touches, and has noted the hints.
pub record MayCommit (w : Work) (d : Desk) (e : Event) (hints : Option Hints) (h : List Entry) : Type 0 where
  pub step : next w (now w h) (cpu_of_number d.cpu) hints ≡ Some e
  pub touched : (k : ℕ) → Touches w (now w h) (cpu_of_number d.cpu) e k → holds k d.held ≡ true
  pub noted : HintsNoted w (now w h) d hints
