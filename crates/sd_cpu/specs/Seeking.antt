-- For what a processor holds homes while it seeks its event.
-- Source: this project's own.
use Rattle.std.specs.Prelude.{◌≡◌, ◌⊎◌, ℕ, Bool, true, false, List, Option, Some, Result, IfOk, option_map}
use Rattle.sd_types.specs.declared.numbers.ChanId.{ChanId}
use Rattle.sd_types.specs.declared.numbers.CpuId.{CpuId}
use Rattle.sd_types.specs.declared.numbers.HomeId.{HomeId}
use Rattle.sd_types.specs.declared.events.Entry.{Entry}
use Rattle.sd_types.specs.declared.events.Event.{Event}
use Rattle.sd_types.specs.declared.events.Hints.{Hints}
use Rattle.sd_types.specs.declared.works.Work.{Work}
use Rattle.sd_state.specs.declared.states.State.{State}
use Rattle.sd_machine.specs.declared.plans.Plan.{Plan}
use Rattle.sd_machine.specs.Events.{wish}
use Rattle.sd_machine.specs.Hints.{hints_fit, plan_reads, reads}
use Rattle.sd_machine.specs.Runs.{serial_hints}
use Rattle.sd_machine.specs.Needs.{CanCount}
use Rattle.sd_machine.specs.Plans.{plan}
use Rattle.sd_dispatcher.specs.declared.reading.Reading.{Reading}
use Rattle.sd_dispatcher.specs.Reading.{parts}
use Rattle.sd_store.specs.declared.parts.Part.{Part}
use Rattle.sd_store.specs.declared.parts.Part.TheVariants as part
use Rattle.sd_store.specs.Parts.{IsAmong}
use Rattle.sd_step.specs.Needed.{needed, reads_parts}
use Rattle.sd_step.specs.Touched.{after_parts}
use Rattle.sd_homes.specs.declared.home.Home.{Home}
use Rattle.sd_homes.specs.Families.{home_id}
use Rattle.sd_hand.specs.declared.acting.Acting.{Acting}
use Rattle.sd_hand.specs.Acting.{IsShown}
use Rattle.sd_hand.specs.Hands.{IsHeld}
use Rattle.sd_footprint.specs.Homes.{home_in}
use Rattle.sd_world.specs.Worlds.{CanLock, CanTake, Gains, Holds, IsListedIn, IsQuiet, IsStopped, Makes, MayStand, MayUse, Meaning, Rises, Stays, actor_of, after_run, now, slots_of}
use Rattle.sd_cpu.specs.declared.seeking.Course.{Course}

-- the home has the part
abbrev pub HomeHas : Home → Part → Type 0
HomeHas x (part.Home k) = home_id x ≡ k
HomeHas x (part.Thread t) = IsListedIn t x
HomeHas x (part.Actor d) = ⊥

-- the part is one that is there, lacking, and there is room for its home; so the world has not all
abbrev pub CanFetch : Meaning → Part → Type 0
CanFetch m (part.Home k) = CanTake m k × (m.all ≡ false)
CanFetch m (part.Thread t) = CanLock m t × (m.all ≡ false)
CanFetch m (part.Actor d) = ⊥

-- the home was taken that has the part, or another processor was in the way
abbrev pub Fetches : Meaning → Meaning → Part → Bool → Type 0
Fetches m m' p true = (x : Home) × HomeHas x p × Gains m m' x
Fetches m m' p false = IsStopped m m'

-- the processor looks at the part to find what it reads, its event with these numbers, or the event touches it
abbrev pub IsSought : Work → State → CpuId → Option Hints → Part → Type 0
IsSought w s c hints p = IsAmong p (reads_parts w s c) ⊎ (IsAmong p (needed w s c hints) ⊎ IsAmong p (after_parts w s c (wish w s c.0 hints)))

-- wherever the world may have come, each home is held for a part of this kind
pub record IsWanted (m : Meaning) (s : State) (Kind : Part → Type 0) (k : HomeId) : Type 0 where
  pub part : Part
  pub kind : Kind part
  pub lies : home_in s part ≡ Some k

abbrev pub HoldsFor : Meaning → (State → Part → Type 0) → Type 0
HoldsFor m Kind = m.all ≡ false → (h : List Entry) → MayStand m h → (k : HomeId) → IsHeld k (slots_of m) → IsWanted m (after_run m h) (Kind (after_run m h)) k

-- for the plan and what it reads, and for all
abbrev pub HoldsToRead : Meaning → Type 0
HoldsToRead m = HoldsFor m (λ s p. IsAmong p (reads_parts m.work s (actor_of m)))

abbrev pub HoldsToMake : Meaning → Option Hints → Type 0
HoldsToMake m hints = HoldsFor m (λ s p. IsSought m.work s (actor_of m) hints p)

-- no entry was made, nobody was in the way, and where the world may have come by now it might have come before
pub record Looks (m m' : Meaning) : Type 0 where
  pub stays : Stays m m'
  pub quiet : IsQuiet m m'
  pub narrows : (h : List Entry) → MayStand m' h → MayStand m h

-- somebody was in the way
pub record GivesUp (m m' : Meaning) : Type 0 where
  pub stays : Stays m m'
  pub stops : Rises m.stops m'.stops

-- wherever the world may have come, it is what the processor is about to do, and what it reads for that
abbrev pub IsCourse : Meaning → Plan → Option Reading → Type 0
IsCourse m p reading = (h : List Entry) → MayStand m h → (p ≡ plan m.work (after_run m h) (actor_of m).0) × (option_map parts reading ≡ plan_reads m.work (after_run m h) (actor_of m).0 p)

-- the same with numbers that were read for it
abbrev pub IsReady : Meaning → Plan → Option Hints → Type 0
IsReady m p hints = (h : List Entry) → MayStand m h → (p ≡ plan m.work (after_run m h) (actor_of m).0) × (hints_fit (plan_reads m.work (after_run m h) (actor_of m).0 p) hints ≡ true)

-- and it is the event to which the processor comes with these numbers
abbrev pub IsWish : Meaning → Event → Option Hints → Type 0
IsWish m e hints = (h : List Entry) → MayStand m h → wish m.work (after_run m h) (actor_of m).0 hints ≡ e

pub record FindsCourse (m m' : Meaning) (x : Course) : Type 0 where
  pub looks : Looks m m'
  pub course : IsCourse m' x.plan x.reading
  pub holds : HoldsToRead m'

pub record FindsEvent (m m' : Meaning) (hints : Option Hints) (e : Event) : Type 0 where
  pub looks : Looks m m'
  pub wish : IsWish m' e hints
  pub holds : HoldsToMake m' hints

-- with some numbers the event may be made, and the homes are held for that
pub record IsOnItsWay (m : Meaning) (e : Event) : Type 0 where
  pub hints : Option Hints
  pub makes : Makes m e hints
  pub holds : HoldsToMake m hints

-- all is held that the event touches, or another processor was in the way
abbrev pub HoldsAll : Meaning → Meaning → Event → Bool → Type 0
HoldsAll m m' e true = Looks m m' × Holds m' e
HoldsAll m m' e false = GivesUp m m'

-- the course is that of each state that the hand shows, where every count of a semaphore may be raised
abbrev pub TellsCourse : Work → Acting → Result Course Part → Type 0
TellsCourse w x r =
    IfOk r (λ k. (n : ℕ) (s : State) → IsShown x n s → ((ch : ChanId) → CanCount s ch)
    → (k.plan ≡ plan w s x.actor.cpu.0) × (option_map parts k.reading ≡ plan_reads w s x.actor.cpu.0 k.plan))

-- the processor comes to this event with these numbers, which may be used, and are those of the state where nobody else makes entries
pub record Comes (m : Meaning) (e : Event) (hints : Option Hints) : Type 0 where
  pub fit : (h : List Entry) → MayStand m h → hints_fit (reads m.work (after_run m h) (actor_of m).0) hints ≡ true
  pub wish : IsWish m e hints
  pub noted : MayUse m hints
  pub given : m.alone ≡ true → hints ≡ serial_hints m.work (now m) (actor_of m)
