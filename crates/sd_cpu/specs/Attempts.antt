-- What an attempt and a turn say.
-- Source: this project's own.
use Rattle.std.specs.Prelude.{◌≡◌, ℕ, ◌<◌, ◌≤◌, Bool, true, false, List, length, map, Option, Some, None, Result, Ok, Err, ⊤}
use Rattle.sd_types.specs.Events.{ticks}
use Rattle.sd_types.specs.declared.events.Hints.{Hints}
use Rattle.sd_types.specs.declared.events.Event.{Event}
use Rattle.sd_types.specs.declared.events.Entry.{Entry}
use Rattle.sd_types.specs.declared.events.Stop.{Stop}
use Rattle.sd_types.specs.declared.events.Stop.TheVariants.{Full, Memory}
use Rattle.sd_machine.specs.Events.{next, wish}
use Rattle.sd_machine.specs.Runs.{serial_hints}
use Rattle.sd_machine.specs.Hints.{hint_shown}
use Rattle.sd_dispatcher.specs.declared.reading.Reading.{Reading}
use Rattle.sd_hand.specs.Hands.{how_many_held}
use Rattle.sd_types.specs.Limits.{most_entries}
use Rattle.sd_world.specs.Worlds.{AllHinted, Begins, IsBehind, slots_of, Made, Meaning, NoneBehind, Rises, actor_of, after_run, now}
use Rattle.sd_cpu.specs.declared.attempts.Turned.{Turned}
use Rattle.sd_cpu.specs.declared.attempts.Turned.TheVariants.{Acted, Ticked, Behind, Finished}
use Rattle.sd_cpu.specs.declared.attempts.Attempted.{Attempted}
use Rattle.sd_cpu.specs.declared.attempts.Attempted.TheVariants as attempted

-- which world it is, and who acts
pub record IsSameWorld (m m' : Meaning) : Type 0 where
  pub table : m'.table ≡ m.table
  pub work : m'.work ≡ m.work
  pub alone : m'.alone ≡ m.alone
  pub all : m'.all ≡ m.all
  pub cpu : actor_of m' ≡ actor_of m

-- no entry was made
pub record Idles (m m' : Meaning) : Type 0 where
  pub world : IsSameWorld m m'
  pub actor : m'.acting.actor ≡ m.acting.actor
  pub log : m'.log ≡ m.log
  pub begins : Begins m.seen m'.seen
  pub still : m.alone ≡ true → m'.seen ≡ m.seen

-- exactly one entry was made; where nobody else makes entries, with the numbers of the state
pub record MakesOne (m m' : Meaning) (n : ℕ) (b : Bool) : Type 0 where
  pub world : IsSameWorld m m'
  pub event : Event
  pub hints : Option Hints
  pub run : List Entry
  pub made : Made m m' n event hints run
  pub given : m.alone ≡ true → hints ≡ serial_hints m.work (now m) (actor_of m)
  pub kind : ticks event ≡ b

-- none was made, since in a run to which the world came the processor would tick; where nobody else makes entries it may make none
pub record MayNotTick (m m' : Meaning) : Type 0 where
  pub idles : Idles m m'
  pub run : List Entry
  pub after : Begins m.seen run
  pub before : Begins run m'.seen
  pub hints : Option Hints
  pub wish : ticks (wish m.work (after_run m run) (actor_of m).0 hints) ≡ true
  pub none : m.alone ≡ true → next m.work (now m) (actor_of m) (serial_hints m.work (now m) (actor_of m)) ≡ None

abbrev pub AttemptTakesTurn : Meaning → Meaning → Turned → Type 0
AttemptTakesTurn m m' (Acted n) = MakesOne m m' n false
AttemptTakesTurn m m' (Ticked n) = MakesOne m m' n true
AttemptTakesTurn m m' (Behind c n) = MayNotTick m m' × (m.acting.actor.count < m.work.limit) × IsBehind m m' c.0 n
AttemptTakesTurn m m' Finished = MayNotTick m m' × (m.work.limit ≤ m.acting.actor.count)

-- somebody was in the way
pub record IsHindered (m m' : Meaning) : Type 0 where
  pub idles : Idles m m'
  pub stops : Rises m.stops m'.stops

-- there was no room for the entry
abbrev pub Refuses : Meaning → Meaning → Stop → Type 0
Refuses m m' Full = Idles m m' × (most_entries ≤ length m.log)
Refuses m m' Memory = Idles m m' × (length m.log < most_entries)

-- one entry was made of this number, somebody was in the way, or there was no room
abbrev pub Enters : Meaning → Meaning → Bool → Result (Option ℕ) Stop → Type 0
Enters m m' b (Ok (Some n)) = MakesOne m m' n b
Enters m m' b (Ok None) = IsHindered m m'
Enters m m' b (Err s) = Refuses m m' s

-- the turn in which an entry was made that ticks or not
abbrev pub turn_of : Result (Option ℕ) Stop → Bool → Result (Option Turned) Stop
turn_of (Ok (Some n)) true = Ok (Some (Ticked n))
turn_of (Ok (Some n)) false = Ok (Some (Acted n))
turn_of (Ok None) b = Ok None
turn_of (Err s) b = Err s

abbrev pub Acts : Meaning → Meaning → Result (Option Turned) Stop → Type 0
Acts m m' (Ok (Some t)) = AttemptTakesTurn m m' t
Acts m m' (Ok None) = IsHindered m m'
Acts m m' (Err s) = Refuses m m' s

abbrev pub Attempts : Meaning → Meaning → Attempted → Type 0
Attempts m m' (attempted.Made t) = AttemptTakesTurn m m' t
Attempts m m' (attempted.Again passed) = IsHindered m m'

-- the turn was made, or is to be repeated
abbrev pub attempted_of : Option Turned → Bool → Attempted
attempted_of (Some t) passed = attempted.Made t
attempted_of None passed = attempted.Again passed

-- where the gate was passed before it is not to be passed again
abbrev pub StaysPassed : Bool → Result Attempted Stop → Type 0
StaysPassed before (Ok (attempted.Made t)) = ⊤
StaysPassed before (Ok (attempted.Again now)) = before ≡ true → now ≡ true
StaysPassed before (Err s) = ⊤

abbrev pub Answers : Meaning → Meaning → Result Attempted Stop → Type 0
Answers m m' (Ok r) = Attempts m m' r
Answers m m' (Err s) = Refuses m m' s

-- its count is below the limit, and of no other processor was a lesser one read
pub record MayTick (m : Meaning) : Type 0 where
  pub below : m.acting.actor.count < m.work.limit
  pub none : NoneBehind m

-- why the processor may not tick: none, where it may
abbrev pub Hinders : Meaning → Meaning → Option Turned → Type 0
Hinders m m' None = MayTick m'
Hinders m m' (Some (Behind c n)) = (m.acting.actor.count < m.work.limit) × IsBehind m m' c.0 n
Hinders m m' (Some Finished) = m.work.limit ≤ m.acting.actor.count
Hinders m m' (Some _) = ⊥

-- the numbers that are read for it: where nobody else makes entries, those of the state
abbrev pub AreRead : Meaning → Meaning → Option Reading → Option Hints → Type 0
AreRead m m' None None = ⊤
AreRead m m' (Some r) (Some hs) =
    (hs.which ≡ r.which) × AllHinted m' r.which r.cpus.items hs.numbers.items × (m.alone ≡ true → hs.numbers.items ≡ map (hint_shown (now m) r.which) r.cpus.items)
AreRead m m' _ _ = ⊥

-- no home is held, but where the world has all from the first
abbrev pub IsEmpty : Meaning → Type 0
IsEmpty m = m.all ≡ false → how_many_held (slots_of m) ≡ 0
