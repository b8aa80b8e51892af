-- What one look at the home of a processor tells of its next event.
-- Source: this project's own.
use Rattle.std.specs.Prelude.{◌≡◌, ◌⊎◌, ℕ, ◌≤◌, ⊤, true, false, length, Option, Some, None, slice_get}
use Rattle.sd_types.specs.declared.works.Work.{Work}
use Rattle.sd_types.specs.declared.events.Duty.TheVariants.{Nothing}
use Rattle.sd_types.specs.declared.events.Event.TheVariants.{Tick}
use Rattle.sd_types.specs.declared.numbers.HomeId.TheVariants.{RealTime}
use Rattle.sd_types.specs.declared.numbers.SetId.{SetId}
use Rattle.sd_types.specs.declared.scripts.Op.TheVariants.{Run}
use Rattle.sd_types.specs.Limits.{most_processors}
use Rattle.sd_state.specs.declared.states.State.{State}
use Rattle.sd_state.specs.Operations.{op_of}
use Rattle.sd_state.specs.States.{cpu_of, thread_of}
use Rattle.sd_rules.specs.ClassRules.{class_expires}
use Rattle.sd_machine.specs.declared.plans.Plan.TheVariants.{Make, Search}
use Rattle.sd_machine.specs.Dispatching.{dispatch_plan}
use Rattle.sd_machine.specs.Plans.{op_plan, plan, run_plan}
use Rattle.sd_machine.specs.Prioritising.{age_plan}
use Rattle.sd_machine.specs.Threads.{best_ready}
use Rattle.sd_record.specs.Records.{ThreadRecord}
use Rattle.sd_homes.specs.declared.list_id.ListId.TheVariants.{Queues, Urgent}
use Rattle.sd_homes.specs.declared.home.Home.{Home}
use Rattle.sd_homes.specs.Families.{list_in, open_in}
use Rattle.sd_store.specs.declared.parts.CpuView.{CpuView}
use Rattle.sd_hand.specs.declared.acting.Acting.{Acting}
use Rattle.sd_hand.specs.Acting.{IsShown}
use Rattle.sd_hand.specs.Hands.{held}
use Rattle.sd_rounds.specs.Searched.{HasNothing, all_show_zero}
use Rattle.sd_rounds.specs.declared.sight.Searched.{Searched}
use Rattle.sd_rounds.specs.declared.sight.Sight.{Sight}
use Rattle.sd_rounds.specs.declared.sight.Sight.TheVariants.{Runs, Acts, Marked, Ages, Idles, Searches, Ready, Unclear}

-- what is seen of processor c is its plan, and where its thread runs for a tick or it searches in vain, that it has no duty; and whether its tick ends the quantum of its thread; and where it searches, itself one of the open processors of its set, there is
-- nothing in that
abbrev pub Sees : Work → State → ℕ → Sight → Type 0
Sees w s c (Runs t expires) = ((cpu_of s c).duty ≡ Nothing) × (Make (Tick t) ≡ plan w s c) × (expires ≡ class_expires (thread_of s t.0).body.class)
Sees w s c (Acts t) = op_plan w s t.0 (op_of w t.0 (thread_of s t.0).body) ≡ plan w s c
Sees w s c (Marked t) = run_plan w s c t.0 ≡ plan w s c
Sees w s c (Ages t) = age_plan w s (Some t.0) ≡ Some (plan w s c)
Sees w s c (Idles found) =
    ((cpu_of s c).duty ≡ Nothing) × (Search ≡ plan w s c) × (found.set ≡ (cpu_of s c).set) × ((cpu_of s c).closing ≡ None) × HasNothing s found
Sees w s c Searches = Search ≡ plan w s c
Sees w s c Ready = dispatch_plan s (best_ready s c) ≡ plan w s c
Sees w s c Unclear = ⊤

-- of a thread that runs: on a processor with no mark, whether its operation is to run
abbrev pub SeesRunner : Work → CpuView → ThreadRecord → Sight → Type 0
SeesRunner w v r (Runs t expires) = (t ≡ r.id) × (v.user ≡ false) × (v.kernel ≡ false) × (expires ≡ class_expires r.body.class) × (n : ℕ) × (op_of w r.id.0 r.body ≡ Some (Run n))
SeesRunner w v r (Acts t) = (t ≡ r.id) × (v.user ≡ false) × (v.kernel ≡ false)
SeesRunner w v r (Marked t) = t ≡ r.id
SeesRunner w v r (Ages t) = ⊥
SeesRunner w v r (Idles found) = ⊥
SeesRunner w v r Searches = ⊥
SeesRunner w v r Ready = ⊥
SeesRunner w v r Unclear = ⊤

-- a search finds nothing in the set of this home
pub record FindsNothing (x : Acting) (found : Searched) : Type 0 where
  pub home : Home
  pub there : held (RealTime found.set) x.hand.slots ≡ Some home
  pub urgent : slice_get (list_in home (Urgent found.set)) 0 ≡ None
  pub zero : (n : ℕ) (s : State) → IsShown x n s → all_show_zero s (open_in home) ≡ true
  pub count : found.cpus ≡ length (open_in home)
  pub most : found.cpus ≤ most_processors

-- nobody stands in the real-time queue of this set, as its home shows it
pub record FindsNoUrgent (x : Acting) (set : SetId) : Type 0 where
  pub home : Home
  pub there : held (RealTime set) x.hand.slots ≡ Some home
  pub urgent : slice_get (list_in home (Urgent set)) 0 ≡ None

-- of a search in this set
abbrev pub SeesSearch : Acting → SetId → Sight → Type 0
SeesSearch x set (Runs t expires) = ⊥
SeesSearch x set (Acts t) = ⊥
SeesSearch x set (Marked t) = ⊥
SeesSearch x set (Ages t) = ⊥
SeesSearch x set (Idles found) = (found.set ≡ set) × FindsNothing x found
SeesSearch x set Searches = FindsNoUrgent x set
SeesSearch x set Ready = ⊤
SeesSearch x set Unclear = ⊤

-- of a processor on which no thread runs, which is not closing: nobody stands in its queue, and there is nothing in its set, as is known or
-- as a search finds
abbrev pub SeesQuiet : Acting → Home → CpuView → Option Searched → Sight → Type 0
SeesQuiet x h v known (Runs t expires) = ⊥
SeesQuiet x h v known (Acts t) = ⊥
SeesQuiet x h v known (Marked t) = ⊥
SeesQuiet x h v known (Ages t) = ⊥
SeesQuiet x h v known (Idles found) =
    (found.set ≡ v.set) × (v.closing ≡ None) × (slice_get (list_in h (Queues x.actor.cpu)) 0 ≡ None) × ((known ≡ Some found) ⊎ FindsNothing x found)
SeesQuiet x h v known Searches = (v.closing ≡ None) × (slice_get (list_in h (Queues x.actor.cpu)) 0 ≡ None) × FindsNoUrgent x v.set
SeesQuiet x h v known Ready = v.closing ≡ None
SeesQuiet x h v known Unclear = ⊤

-- what is known of a search after this look
abbrev pub noted : Option Searched → Sight → Option Searched
noted known (Runs t expires) = known
noted known (Acts t) = known
noted known (Marked t) = known
noted known (Ages t) = known
noted known (Idles found) = Some found
noted known Searches = known
noted known Ready = known
noted known Unclear = known
