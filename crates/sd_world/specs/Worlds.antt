-- What a world means on which a processor acts, and what each of its calls does to that.
-- Source: this project's own; that a processor holds the locks of few homes at once is as in Solaris Internals.
use Rattle.std.specs.Prelude.{◌≡◌, ◌≢◌, ◌⊎◌, ℕ, ◌+◌, ◌-◌, ◌^◌, ◌<◌, ◌≤◌, Bool, true, false, List, [], ◌∷◌, ◌++◌, length, map, Option, Some, None, Result, Ok, Err, ⊤}
use Rattle.atomic_table.specs.Seated.{TableId}
use Rattle.sd_types.specs.declared.numbers.CpuId.{CpuId}
use Rattle.sd_types.specs.declared.numbers.HomeId.{HomeId}
use Rattle.sd_types.specs.declared.numbers.ThreadId.{ThreadId}
use Rattle.sd_types.specs.declared.events.Which.{Which}
use Rattle.sd_types.specs.declared.events.Hints.{Hints}
use Rattle.sd_types.specs.declared.events.Event.{Event}
use Rattle.sd_types.specs.declared.events.Entry.{Entry}
use Rattle.sd_types.specs.declared.events.Stop.{Stop}
use Rattle.sd_types.specs.declared.events.Stop.TheVariants.{Full, Memory}
use Rattle.sd_types.specs.declared.works.Work.{Work}
use Rattle.sd_types.specs.Limits.{most_entries}
use Rattle.sd_state.specs.declared.states.State.{State}
use Rattle.sd_state.specs.Opening.{opening}
use Rattle.sd_state.specs.States.{cpu_of}
use Rattle.sd_machine.specs.Events.{next}
use Rattle.sd_machine.specs.Hints.{hint_shown, reads}
use Rattle.sd_machine.specs.Runs.{IsRun, final}
use Rattle.sd_dispatcher.specs.declared.reading.Reading.{Reading}
use Rattle.sd_store.specs.declared.parts.Part.{Part}
use Rattle.sd_store.specs.declared.parts.Part.TheVariants as part
use Rattle.sd_store.specs.Parts.{IsAmong}
use Rattle.sd_step.specs.Touched.{after_parts}
use Rattle.sd_homes.specs.Numbers.{IsHomeOf}
use Rattle.sd_homes.specs.declared.home.Home.{Home}
use Rattle.sd_homes.specs.declared.list_id.ListId.{ListId}
use Rattle.sd_homes.specs.Families.{has, home_id, list_in}
use Rattle.sd_homes.specs.Kinds.{IsListed}
use Rattle.sd_hand.specs.declared.acting.Acting.{Acting}
use Rattle.sd_hand.specs.Acting.{IsShown, has_part}
use Rattle.sd_hand.specs.Hands.{HoldsMore, has_thread, held as held_in, how_many_held}
use Rattle.sd_footprint.specs.There.{IsPartThere}
use Rattle.sd_world.specs.Homes.{IsNumber, index_of, sizes_in}
use Rattle.sd_world.specs.declared.notes.Count.{Count}
use Rattle.sd_world.specs.declared.notes.Glance.{Glance}
use Rattle.sd_world.specs.declared.notes.Miss.{Miss}
use Rattle.sd_world.specs.declared.world.Take.{Take}
use Rattle.sd_world.specs.declared.world.Take.TheVariants.{Taken, Busy}
use Rattle.sd_world.specs.declared.world.ThreadLock.{ThreadLock}
use Rattle.sd_world.specs.declared.world.ThreadLock.TheVariants as thread
use Rattle.sd_world.specs.declared.world.Behind.{Behind}

-- which table it is, where it is one; the work; whether nobody else makes entries; whether it has all homes in its hand from the first; the processor that acts, with its
-- hand; the entries that this world made, and the run that it has seen; room for entries; how often it was stopped; the counts of others that it read, the locks that it
-- found taken and the homes that the words of threads named, the newest first; which numbers may be used as hints, and which a processor's count has reached
pub record Meaning : Type 0 where
  pub table : Option TableId
  pub work : Work
  pub alone : Bool
  pub all : Bool
  pub acting : Acting
  pub log : List Entry
  pub seen : List Entry
  pub spare : ℕ
  pub stops : ℕ
  pub notes : List Count
  pub misses : List Miss
  pub glances : List Glance
  pub hinted : ℕ → Which → ℕ → Bool
  pub counted : ℕ → ℕ → Bool

-- the state after these entries, and the one that it has seen
abbrev pub after_run : Meaning → List Entry → State
after_run m h = final m.work (opening m.work) h

abbrev pub now : Meaning → State
now m = after_run m m.seen

-- the acting processor
abbrev pub actor_of : Meaning → CpuId
actor_of m = m.acting.actor.cpu

abbrev pub slots_of : Meaning → List (Option Home)
slots_of m = m.acting.hand.slots

-- one run begins with the other
abbrev pub Begins : List Entry → List Entry → Type 0
Begins es more = (rest : List Entry) × (more ≡ es ++ rest)

-- a run to which the world may have come: it begins with what was seen, and all that the processor holds stands for the state after it
pub record MayStand (m : Meaning) (h : List Entry) : Type 0 where
  pub run : IsRun m.work h
  pub begins : Begins m.seen h
  pub still : m.alone ≡ true → h ≡ m.seen
  pub shown : IsShown m.acting (length h) (after_run m h)

-- wherever it may have come, a world that has all homes has each part that is there, and a processor's count has reached what was read
pub record IsGood (m : Meaning) : Type 0 where
  pub stands : MayStand m m.seen
  pub cpu : (actor_of m).0 < m.work.cpus
  pub everything : m.all ≡ true → (h : List Entry) → MayStand m h → (p : Part) → IsPartThere (after_run m h) (actor_of m) p → has_part m.acting p ≡ true
  pub reached : (d n : ℕ) → m.counted d n ≡ true → (h : List Entry) → MayStand m h → n ≤ (cpu_of (after_run m h) d).count

-- it did not fall, and it rose or stands at the greatest number
abbrev pub Rises : ℕ → ℕ → Type 0
Rises a b = (a ≤ b) × ((a < b) ⊎ (b ≡ 2 ^ 64 - 1))

-- what no call but commit changes; others may have made entries, unless the world is alone
pub record Stays (m m' : Meaning) : Type 0 where
  pub table : m'.table ≡ m.table
  pub work : m'.work ≡ m.work
  pub alone : m'.alone ≡ m.alone
  pub all : m'.all ≡ m.all
  pub actor : m'.acting.actor ≡ m.acting.actor
  pub log : m'.log ≡ m.log
  pub begins : Begins m.seen m'.seen
  pub still : m.alone ≡ true → m'.seen ≡ m.seen
  pub hinted : (c : ℕ) (which : Which) (n : ℕ) → m.hinted c which n ≡ true → m'.hinted c which n ≡ true
  pub counted : (c n : ℕ) → m.counted c n ≡ true → m'.counted c n ≡ true

-- and no stop is counted, no count was read, and no lock was found taken
pub record IsQuiet (m m' : Meaning) : Type 0 where
  pub stops : m'.stops ≡ m.stops
  pub notes : m'.notes ≡ m.notes
  pub misses : m'.misses ≡ m.misses

-- stopped by another processor
pub record IsStopped (m m' : Meaning) : Type 0 where
  pub stays : Stays m m'
  pub acting : m'.acting ≡ m.acting
  pub stops : Rises m.stops m'.stops

-- one home more is held
pub record Gains (m m' : Meaning) (home : Home) : Type 0 where
  pub stays : Stays m m'
  pub quiet : IsQuiet m m'
  pub more : HoldsMore (slots_of m) home (slots_of m')
  pub count : how_many_held (slots_of m') ≡ how_many_held (slots_of m) + 1

-- it was in the hand, and nothing is changed
pub record HadHome (m m' : Meaning) (home : Home) : Type 0 where
  pub stays : Stays m m'
  pub quiet : IsQuiet m m'
  pub acting : m'.acting ≡ m.acting
  pub here : held_in (home_id home) (slots_of m) ≡ Some home

-- it is held, and was in the hand before only where the world has all homes from the first
pub record Gets (m m' : Meaning) (home : Home) : Type 0 where
  pub gains : m.all ≡ false → Gains m m' home
  pub had : m.all ≡ true → HadHome m m' home

-- this word was found in the lock of the home
abbrev pub miss : Work → HomeId → ℕ → Miss
miss w k n = record { home = index_of (sizes_in w) k; word = n }

-- where others make entries too, one lock was found taken: that of this home, whose word had the holder's number plus 1
abbrev pub Misses : Meaning → Meaning → HomeId → CpuId → Type 0
Misses m m' k holder = m.alone ≡ false → m'.misses ≡ miss m.work k (holder.0 + 1) ∷ m.misses

-- the word of thread t named this home
abbrev pub glance : Work → ℕ → HomeId → Glance
glance w t k = record { thread = t; home = index_of (sizes_in w) k }

-- homes of the run
abbrev pub AreHomesOf : Work → List HomeId → Type 0
AreHomesOf w [] = ⊤
AreHomesOf w (k ∷ ks) = IsNumber (sizes_in w) k × AreHomesOf w ks

-- the word of the thread was read so often, and named these homes of the run, the last one first
pub record HasGlanced (m m' : Meaning) (t : ThreadId) (ks : List HomeId) : Type 0 where
  pub homes : AreHomesOf m.work ks
  pub glances : m'.glances ≡ map (glance m.work t.0) ks ++ m.glances

abbrev pub Glances : Meaning → Meaning → ThreadId → List HomeId → Type 0
Glances m m' t ks = m.alone ≡ false → HasGlanced m m' t ks

-- a home of the run; where the world has not all homes from the first, it is not held, and there is room for it
pub record CanTake (m : Meaning) (k : HomeId) : Type 0 where
  pub there : IsHomeOf (now m) k
  pub room : m.all ≡ false → how_many_held (slots_of m) < 4
  pub fresh : m.all ≡ false → has_part m.acting (part.Home k) ≡ false

abbrev pub Takes : Meaning → Meaning → HomeId → Take → Type 0
Takes m m' k Taken = (x : Home) × (home_id x ≡ k) × Gets m m' x
Takes m m' k (Busy holder) = IsStopped m m' × Misses m m' k holder

-- a thread of the run; where the world has not all homes from the first, its home is not held, and there is room for it
pub record CanLock (m : Meaning) (t : ThreadId) : Type 0 where
  pub there : t.0 < length (now m).threads
  pub room : m.all ≡ false → how_many_held (slots_of m) < 4
  pub fresh : m.all ≡ false → has_thread t.0 (slots_of m) ≡ false

-- the thread stands in one of the lists of the home
abbrev pub IsListedIn : ThreadId → Home → Type 0
IsListedIn t x = (sp : ListId) × IsListed t.0 (home_id x) (list_in x) (has t.0 x) sp

-- where others make entries too, the word of the thread named the home: twice, the second time while it was held, or once, or it named another one the second time
abbrev pub Locks : Meaning → Meaning → ThreadId → ThreadLock → Type 0
Locks m m' t (thread.Held k) = (x : Home) × (home_id x ≡ k) × IsListedIn t x × Gets m m' x × Glances m m' t (k ∷ k ∷ [])
Locks m m' t (thread.Busy k holder) = IsStopped m m' × Misses m m' k holder × Glances m m' t (k ∷ [])
Locks m m' t (thread.Moved a b) = IsStopped m m' × (a ≢ b) × Glances m m' t (b ∷ a ∷ [])

-- each number may be used as a hint of its processor
abbrev pub AllHinted : Meaning → Which → List CpuId → List ℕ → Type 0
AllHinted m which [] [] = ⊤
AllHinted m which (c ∷ cs) (n ∷ ns) = (m.hinted c.0 which n ≡ true) × AllHinted m which cs ns
AllHinted m which _ _ = ⊥

-- the numbers of these processors were read: where nobody else makes entries, those of the state
pub record ReadsHints (m m' : Meaning) (reading : Reading) (hints : Hints) : Type 0 where
  pub stays : Stays m m'
  pub quiet : IsQuiet m m'
  pub acting : m'.acting ≡ m.acting
  pub which : hints.which ≡ reading.which
  pub hinted : AllHinted m' reading.which reading.cpus.items hints.numbers.items
  pub own : m.alone ≡ true → hints.numbers.items ≡ map (hint_shown (now m) reading.which) reading.cpus.items

-- this number was read of processor c
abbrev pub note : ℕ → ℕ → Count
note c n = record { cpu = c; number = n }

-- these were added in front
abbrev pub Adds : List Count → List Count → Type 0
Adds old new = (more : List Count) × (new ≡ more ++ old)

-- the counts of others were read, until one was below the own
pub record ReadsCounts (m m' : Meaning) : Type 0 where
  pub stays : Stays m m'
  pub stops : m'.stops ≡ m.stops
  pub misses : m'.misses ≡ m.misses
  pub notes : Adds m.notes m'.notes
  pub acting : m'.acting ≡ m.acting

-- of every other processor a number was read that its count has reached, and that is not below the own count
abbrev pub NoneBehind : Meaning → Type 0
NoneBehind m = (d : ℕ) → d < m.work.cpus → d ≢ (actor_of m).0 → (n : ℕ) × (m.acting.actor.count ≤ n) × (m.counted d n ≡ true)

-- this count of this processor is the newest of those that were read in the call
abbrev pub IsNewest : Meaning → Meaning → ℕ → ℕ → Type 0
IsNewest m m' c n = (more : List Count) × (m'.notes ≡ note c n ∷ (more ++ m.notes))

-- another processor, whose count has reached this number, which is below the own count: where nobody else makes entries it is the processor's count, and else
-- the last that was read
pub record IsBehind (m m' : Meaning) (c n : ℕ) : Type 0 where
  pub less : n < m.acting.actor.count
  pub there : c < m.work.cpus
  pub other : c ≢ (actor_of m).0
  pub reached : m'.counted c n ≡ true
  pub own : m.alone ≡ true → n ≡ (cpu_of (now m) c).count
  pub newest : m.alone ≡ false → IsNewest m m' c n

abbrev pub Finds : Meaning → Meaning → Option Behind → Type 0
Finds m m' None = NoneBehind m'
Finds m m' (Some b) = IsBehind m m' b.cpu.0 b.count

-- room for an entry
pub record Reserves (m m' : Meaning) : Type 0 where
  pub stays : Stays m m'
  pub quiet : IsQuiet m m'
  pub acting : m'.acting ≡ m.acting

abbrev pub HasRoomFor : List Entry → ℕ → Result Unit Stop → Type 0
HasRoomFor es spare (Ok u) = (1 ≤ spare) × (length es < most_entries)
HasRoomFor es spare (Err Full) = most_entries ≤ length es
HasRoomFor es spare (Err Memory) = length es < most_entries

abbrev pub HasReserved : Meaning → Meaning → Result Unit Stop → Type 0
HasReserved m m' r = HasRoomFor m.log m'.spare r

-- what the processor reads, in every run to whose state its hand stands
abbrev pub Reads : Meaning → Which → List CpuId → Type 0
Reads m which cpus = (h : List Entry) → MayStand m h → reads m.work (after_run m h) (actor_of m).0 ≡ Some (which, cpus)

-- hints that were read may be used
abbrev pub MayUse : Meaning → Option Hints → Type 0
MayUse m None = ⊤
MayUse m (Some hs) = (cpus : List CpuId) × Reads m hs.which cpus × AllHinted m hs.which cpus hs.numbers.items

-- wherever the world may have come, the event is the one that the processor may make with these hints, and its hand has all that the
-- event touches
abbrev pub Makes : Meaning → Event → Option Hints → Type 0
Makes m e hints = (h : List Entry) → MayStand m h → next m.work (after_run m h) (actor_of m) hints ≡ Some e

abbrev pub Holds : Meaning → Event → Type 0
Holds m e = (h : List Entry) → MayStand m h → (p : Part) → IsAmong p (after_parts m.work (after_run m h) (actor_of m) e) → has_part m.acting p ≡ true

pub record CanCommit (m : Meaning) (w : Work) (e : Event) (hints : Option Hints) : Type 0 where
  pub work : w ≡ m.work
  pub spare : 1 ≤ m.spare
  pub room : length m.log < most_entries
  pub makes : Makes m e hints
  pub holds : Holds m e
  pub noted : MayUse m hints

abbrev pub entry_of : Meaning → ℕ → Event → Option Hints → Entry
entry_of m n e hints = record { number = n; cpu = actor_of m; event = e; hints = hints }

-- this one entry was made, behind a run that begins with what was seen
pub record Made (m m' : Meaning) (n : ℕ) (e : Event) (hints : Option Hints) (h : List Entry) : Type 0 where
  pub begins : Begins m.seen h
  pub still : m.alone ≡ true → h ≡ m.seen
  pub number : length h ≡ n
  pub step : next m.work (after_run m h) (actor_of m) hints ≡ Some e
  pub log : m'.log ≡ m.log ++ entry_of m n e hints ∷ []
  pub after : Begins (h ++ entry_of m n e hints ∷ []) m'.seen
  pub after_still : m.alone ≡ true → m'.seen ≡ h ++ entry_of m n e hints ∷ []

-- the hand has what it had; where others make entries too, a number may be used as a hint only once it is read again
pub record Commits (m m' : Meaning) (n : ℕ) (e : Event) (hints : Option Hints) : Type 0 where
  pub run : List Entry
  pub made : Made m m' n e hints run
  pub quiet : IsQuiet m m'
  pub table : m'.table ≡ m.table
  pub work : m'.work ≡ m.work
  pub alone : m'.alone ≡ m.alone
  pub all : m'.all ≡ m.all
  pub cpu : actor_of m' ≡ actor_of m
  pub held : has_part m'.acting ≡ has_part m.acting
  pub unhinted : m.alone ≡ false → (c : ℕ) (which : Which) (k : ℕ) → m'.hinted c which k ≡ false

-- the hand is empty, unless it has all homes from the first
pub record Gives (m m' : Meaning) : Type 0 where
  pub stays : Stays m m'
  pub quiet : IsQuiet m m'
  pub empty : m.all ≡ false → how_many_held (slots_of m') ≡ 0
