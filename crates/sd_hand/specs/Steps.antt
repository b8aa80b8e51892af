-- What becomes of a thread on its way from list to list.
-- Source: this project's own; see `sd_machine`'s Changes.
use Rattle.std.specs.Prelude.{◌≡◌, ℕ, ℤ, Bool, false, List, Option, Some, is_some, MatchOption}
use Rattle.sd_types.specs.declared.classes.ClassState.{ClassState}
use Rattle.sd_types.specs.declared.numbers.CpuId.{CpuId}
use Rattle.sd_types.specs.declared.numbers.HomeId.{HomeId}
use Rattle.sd_types.specs.declared.numbers.HomeId.TheVariants as id
use Rattle.sd_types.specs.declared.numbers.ThreadId.{ThreadId}
use Rattle.sd_types.specs.declared.events.Put.{Put}
use Rattle.sd_types.specs.declared.events.Put.TheVariants.{Cpu, RealTime}
use Rattle.sd_types.specs.declared.works.Work.{Work}
use Rattle.sd_state.specs.declared.states.Place.TheVariants.{Queued, Running}
use Rattle.sd_machine.specs.Bodies.{arrived, departed, with_class}
use Rattle.sd_state.specs.States.{set_of}
use Rattle.sd_store.specs.declared.changes.BodyChange.{BodyChange}
use Rattle.sd_store.specs.declared.spots.Destination.{Destination}
use Rattle.sd_store.specs.declared.spots.Destination.TheVariants as to
use Rattle.sd_store.specs.Bodies.{changed}
use Rattle.sd_record.specs.Records.{ThreadRecord}
use Rattle.sd_homes.specs.declared.list_id.ListId.{ListId}
use Rattle.sd_homes.specs.declared.list_id.ListId.TheVariants.{Ends, Naps, Queues, Runs, Sleeps, Urgent, Waits}
use Rattle.sd_homes.specs.Bodies.{CanChangeThread}
use Rattle.sd_homes.specs.Standing.{home_at, record_key}
use Rattle.sd_homes.specs.declared.home.Home.{Home}
use Rattle.sd_homes.specs.Families.{putting, taken_from, taking}
use Rattle.sd_homes.specs.Homes.{with_body_of, with_key}
use Rattle.sd_hand.specs.Hands.{AreApart, HasRoom, IsHeld, StandsIn, edit, has_thread, held}
use Rattle.sd_hand.specs.Shown.{IsListThere}
use Rattle.sd_hand.specs.declared.steps.Step.{Step}
use Rattle.sd_hand.specs.declared.steps.Step.TheVariants.{Arrive, Depart, Move, MoveAs}

abbrev pub stepped : Step → ThreadRecord → ThreadRecord
stepped (Arrive c) r = with_key (record_key (Running c)) (with_body_of (arrived c r.body) r)
stepped (Depart count place) r = with_key (record_key place) (with_body_of (departed count r.body) r)
stepped (Move place) r = with_key (record_key place) r
stepped (MoveAs class place) r = with_key (record_key place) (with_body_of (with_class r.body class) r)

-- the list to which a thread goes that leaves processor c
abbrev pub list_by : CpuId → Destination → ListId
list_by c (to.Queue d end) = Queues d
list_by c (to.RealTime p end) = Urgent p
list_by c (to.Turnstile l side) = Waits l side
list_by c (to.SleepQueue k) = Sleeps k
list_by c (to.Nap due) = Naps c
list_by c to.Nowhere = Ends c

-- the list to which a thread goes that is put
abbrev pub list_put : Work → ThreadId → Put → ListId
list_put w t (Cpu x) = Queues x
list_put w t (RealTime x) = Urgent (set_of w t.0)

-- thread t, where it stands in a list of these homes, which is told, has gone from there to another list; where it does not, all is as it was
pub record Relocated (t : ℕ) (from : ListId) (step : Step) (to : ListId) (hs new : List (Option Home)) (stands : Bool) : Type 0 where
  pub stood : stands ≡ is_some (taken_from t from (held (home_at from) hs))
  pub untouched : stands ≡ false → new ≡ hs
  pub moved : (r : ThreadRecord) → Some r ≡ taken_from t from (held (home_at from) hs)
      → new ≡ edit (home_at to) (putting (stepped step r) to) (edit (home_at from) (taking t from) hs)
  pub homes : (k : HomeId) → is_some (held k new) ≡ is_some (held k hs)
  pub apart : AreApart hs → AreApart new
  pub threads : IsHeld (home_at to) hs → IsListThere to → HasRoom t from to hs → (u : ℕ) → has_thread u new ≡ has_thread u hs

-- thread t, which stands in a list of these homes, has gone from there to another list, where that is one of a home that is held and has room
pub record HasGone (t : ThreadId) (step : Step) (to : ListId) (hs new : List (Option Home)) (from : ListId) : Type 0 where
  pub stands : StandsIn t.0 hs from
  pub moved : (r : ThreadRecord) → Some r ≡ taken_from t.0 from (held (home_at from) hs)
      → new ≡ edit (home_at to) (putting (stepped step r) to) (edit (home_at from) (taking t.0 from) hs)
  pub homes : (k : HomeId) → is_some (held k new) ≡ is_some (held k hs)
  pub apart : AreApart hs → AreApart new
  pub threads : IsHeld (home_at to) hs → IsListThere to → HasRoom t.0 from to hs → (u : ℕ) → has_thread u new ≡ has_thread u hs

-- the body of thread t has changed where it stands, if it can be changed so
pub record IsChanged (w : Work) (t : ThreadId) (change : BodyChange) (hs new : List (Option Home)) : Type 0 where
  pub at : ListId
  pub stands : StandsIn t.0 hs at
  pub moved : (r : ThreadRecord) → Some r ≡ taken_from t.0 at (held (home_at at) hs) → CanChangeThread w t.0 change r.body
      → new ≡ edit (home_at at) (putting (with_body_of (changed w t.0 change r.body) r) at) (edit (home_at at) (taking t.0 at) hs)

-- it has, among homes that are the same, with the same threads
pub record HasChanged (w : Work) (t : ThreadId) (change : BodyChange) (hs new : List (Option Home)) : Type 0 where
  pub changed : IsChanged w t change hs new
  pub homes : (k : HomeId) → is_some (held k new) ≡ is_some (held k hs)
  pub apart : AreApart hs → AreApart new
  pub threads : (u : ℕ) → has_thread u new ≡ has_thread u hs

-- the thread that runs on processor c, where it is t, becomes such a one where it stands
abbrev pub RunsChanged : ℕ → CpuId → (ThreadRecord → ThreadRecord → Type 0) → List (Option Home) → List (Option Home) → Type 0
RunsChanged t c P hs new =
    MatchOption (taken_from t (Runs c) (held (id.Cpu c) hs)) (new ≡ hs)
    (λ r. (q : ThreadRecord) × (new ≡ edit (id.Cpu c) (putting q (Runs c)) (edit (id.Cpu c) (taking t (Runs c)) hs)) × (q.id ≡ r.id) × P r q)

-- thread t, where it stands in one list, has gone from there to another list, and become such a one on the way
abbrev pub GoesWithin : ℕ → ListId → ListId → (ThreadRecord → ThreadRecord) → List (Option Home) → List (Option Home) → Type 0
GoesWithin t from to f hs new =
    MatchOption (taken_from t from (held (home_at from) hs)) (new ≡ hs)
    (λ r. new ≡ edit (home_at to) (putting (f r) to) (edit (home_at from) (taking t from) hs))

-- by this step the thread goes from the queue of a processor to run there, or back to that queue with another class state and key
abbrev pub RunsFromQueue : CpuId → ListId → Step → ListId → Type 0
RunsFromQueue c from step to = (from ≡ Queues c) × (step ≡ Arrive c) × (to ≡ Runs c)

abbrev pub GoesBack : CpuId → ClassState → ℤ → ListId → Step → ListId → Type 0
GoesBack c class key from step to = (from ≡ Queues c) × (step ≡ MoveAs class (Queued c key)) × (to ≡ Queues c)
