-- Lists of parts that lie in some homes.
use Rattle.std.proofs.Common.{◌≡◌, ℕ, ◌≤◌, List, [], ◌∷◌, ◌++◌, length, Option, Some, None, ap, refl, subst, sym, inl, inr}
use Rattle.sd_types.specs.declared.numbers.CpuId.{CpuId}
use Rattle.sd_types.specs.declared.numbers.HomeId.{HomeId}
use Rattle.sd_types.specs.declared.numbers.HomeId.TheVariants as home
use Rattle.sd_types.specs.declared.numbers.ThreadId.{ThreadId}
use Rattle.sd_types.specs.declared.events.Event.{Event}
use Rattle.sd_types.specs.declared.events.Hints.{Hints}
use Rattle.sd_types.specs.declared.events.Put.{Put}
use Rattle.sd_types.specs.declared.events.Put.TheVariants as put
use Rattle.sd_types.specs.declared.works.Work.{Work}
use Rattle.sd_state.specs.declared.states.Place.{Place}
use Rattle.sd_state.specs.declared.states.Place.TheVariants.{Running}
use Rattle.sd_state.specs.declared.states.State.{State}
use Rattle.sd_state.specs.States.{cpu_of, thread_of, set_of}
use Rattle.sd_machine.specs.declared.plans.Placement.{Placement}
use Rattle.sd_machine.specs.declared.plans.Plan.{Plan}
use Rattle.sd_machine.specs.declared.plans.Plan.TheVariants.{Make, Place as PlaceIt, Search}
use Rattle.sd_machine.specs.declared.plans.Requeue.{Requeue}
use Rattle.sd_machine.specs.declared.plans.Requeue.TheVariants.{Stays, Behind, Anew}
use Rattle.sd_machine.specs.Changes.{cpu_put}
use Rattle.sd_machine.specs.Choosing.{put_chosen}
use Rattle.sd_machine.specs.Events.{event_of, plan_event}
use Rattle.sd_machine.specs.Hints.{placed_thread}
use Rattle.sd_machine.specs.Requeueing.{requeue_plan}
use Rattle.sd_homes.specs.Standing.{home_of, home_of_place}
use Rattle.sd_footprint.specs.Homes.{IsOneOf, LiesIn}
use Rattle.sd_dispatcher.specs.Touched.{put_parts_if, reordered_parts}
use Rattle.sd_step.specs.Needed.{choice_parts, read_parts}
use Rattle.sd_step.specs.Touched.{after_parts}
use Rattle.sd_store.specs.declared.parts.Part.{Part}
use Rattle.sd_store.specs.Parts.{IsAmong, cpu_part, put_parts, thread_part}

-- each of the parts lies in one of the homes, or is the count and the duty of processor c
abbrev pub Cover : State → CpuId → List HomeId → List Part → Type 0
Cover s c hs [] = Unit {0}
Cover s c hs (p ∷ ps) = LiesIn s c hs p × Cover s c hs ps

pub cover_each : (s : State) (c : CpuId) (hs : List HomeId) (ps : List Part) → Cover s c hs ps → (p : Part) → IsAmong p ps → LiesIn s c hs p
cover_each s c hs [] cover p among = absurd among
cover_each s c hs (q ∷ qs) cover p (inl e) = rw e cover.0
cover_each s c hs (q ∷ qs) cover p (inr later) = cover_each s c hs qs cover.1 p later

pub cover_join : (s : State) (c : CpuId) (hs : List HomeId) (ps qs : List Part) → Cover s c hs ps → Cover s c hs qs → Cover s c hs (ps ++ qs)
cover_join s c hs [] qs first second = second
cover_join s c hs (p ∷ ps) qs first second = (first.0, cover_join s c hs ps qs first.1 second)

more : (s : State) (c : CpuId) (h : HomeId) (hs : List HomeId) (p : Part) → LiesIn s c hs p → LiesIn s c (h ∷ hs) p
more s c h hs p (inl e) = inl e
more s c h hs p (inr at) = inr (inr at)

-- one home more, in front or behind the first
pub cover_more : (s : State) (c : CpuId) (h : HomeId) (hs : List HomeId) (ps : List Part) → Cover s c hs ps → Cover s c (h ∷ hs) ps
cover_more s c h hs [] cover = tt
cover_more s c h hs (p ∷ ps) cover = (more s c h hs p cover.0, cover_more s c h hs ps cover.1)

more_behind : (s : State) (c : CpuId) (b h : HomeId) (hs : List HomeId) (p : Part) → LiesIn s c (b ∷ hs) p → LiesIn s c (b ∷ (h ∷ hs)) p
more_behind s c b h hs p (inl e) = inl e
more_behind s c b h hs p (inr (inl e)) = inr (inl e)
more_behind s c b h hs p (inr (inr at)) = inr (inr (inr at))

pub cover_behind : (s : State) (c : CpuId) (b h : HomeId) (hs : List HomeId) (ps : List Part) → Cover s c (b ∷ hs) ps → Cover s c (b ∷ (h ∷ hs)) ps
cover_behind s c b h hs [] cover = tt
cover_behind s c b h hs (p ∷ ps) cover = (more_behind s c b h hs p cover.0, cover_behind s c b h hs ps cover.1)

-- the home of a processor whose part is among those that lie in the homes
pub own_home : (s : State) (c d : CpuId) (hs : List HomeId) → LiesIn s c hs (cpu_part d) → IsOneOf (Some (home.Cpu d)) hs
own_home s c d hs (inl e) = cc
own_home s c d hs (inr at) = at

-- A turn: a plan and what comes of it. The homes, at most n, hold some parts and what the plan chooses from; with one home beside
-- them they hold all that its event touches.
pub record Turn (w : Work) (s : State) (c : CpuId) (hints : Option Hints) (n : ℕ) (parts : List Part) (plan : Plan) : Type 0 where
  pub homes : List HomeId
  pub beside : HomeId
  pub few : length homes ≤ n
  pub planned : Cover s c homes parts
  pub chosen : Cover s c homes (choice_parts w s c hints plan)
  pub touched : Cover s c (beside ∷ homes) (after_parts w s c (plan_event w s c.0 hints plan))

-- of a plan that chooses nothing
pub made : (w : Work) (s : State) (c : CpuId) (hints : Option Hints) (n : ℕ) (b : HomeId) (hs : List HomeId) (parts : List Part) (e : Event) → length hs ≤ n
    → Cover s c hs parts → Cover s c (b ∷ hs) (after_parts w s c e) → Turn w s c hints n parts (Make e)
made w s c hints n b hs parts e few cover touched = record { homes = hs; beside = b; few = few; planned = cover; chosen = tt; touched = touched }

-- what a thread touches that is put on a processor's queue, or on the real-time queue of its partition
pub put_cover : (w : Work) (s : State) (c : CpuId) (hs : List HomeId) (u : ThreadId) (at : Put)
    → IsOneOf (Some (home_of (thread_of s u.0))) hs → IsOneOf (Some (home.RealTime (set_of w u.0))) hs
    → Cover s c (home.Cpu (cpu_put at) ∷ hs) (put_parts w u at)
put_cover w s c hs u (put.Cpu x) stands real = (inr (inr stands), (inr (inl refl), tt))
put_cover w s c hs u (put.RealTime x) stands real = (inr (inr stands), (inr (inl refl), (inr (inr real), tt)))

-- what is chosen for a thread needs its home and the real-time queue of its partition
placed : (w : Work) (s : State) (c : CpuId) (hints : Option Hints) (hs : List HomeId) (thread : Placement) (p : ℕ)
    → IsOneOf (Some (home_of (thread_of s (placed_thread thread)))) hs → IsOneOf (Some (home.RealTime (set_of w (placed_thread thread)))) hs
    → Cover s c hs (choice_parts w s c hints (PlaceIt thread p))
placed w s c hints hs thread p stands real = (inl refl, (inr stands, (inr real, tt)))

-- the processor to which it goes is the home beside these
pub placing : (w : Work) (s : State) (c : CpuId) (hints : Option Hints) (n : ℕ) (hs : List HomeId) (parts : List Part) (thread : Placement) (p : ℕ) → length hs ≤ n → Cover s c hs parts
    → IsOneOf (Some (home_of (thread_of s (placed_thread thread)))) hs → IsOneOf (Some (home.RealTime (set_of w (placed_thread thread)))) hs
    → ((at : Put) → Cover s c (home.Cpu (cpu_put at) ∷ hs) (after_parts w s c (event_of thread at))) → Turn w s c hints n parts (PlaceIt thread p)
placing w s c hints n hs parts thread p few cover stands real touched = record {
  homes = hs;
  beside = home.Cpu (cpu_put (put_chosen w s c.0 (placed_thread thread) p hints));
  few = few;
  planned = cover;
  chosen = placed w s c hints hs thread p stands real;
  touched = touched (put_chosen w s c.0 (placed_thread thread) p hints);
}

-- A thread whose priority changes where it stands: what runs may have to leave for what is ready there, and what is queued goes to a
-- processor's queue or to a real-time queue.

abbrev pub beside_put : CpuId → Option Put → HomeId
beside_put c None = home.Cpu c
beside_put c (Some at) = home.Cpu (cpu_put at)

abbrev pub beside_reordered : State → CpuId → Option Put → Place → HomeId
beside_reordered s c at (Running d) = home.RealTime (cpu_of s d.0).set
beside_reordered s c at _ = beside_put c at

moved_cover : (w : Work) (s : State) (c : CpuId) (hs : List HomeId) (u : ThreadId) (at : Option Put)
    → IsOneOf (Some (home_of (thread_of s u.0))) hs → IsOneOf (Some (home.RealTime (set_of w u.0))) hs
    → Cover s c (beside_put c at ∷ hs) (thread_part u ∷ put_parts_if w u at)
moved_cover w s c hs u None stands real = (inr (inr stands), tt)
moved_cover w s c hs u (Some at) stands real = (inr (inr stands), put_cover w s c hs u at stands real)

pub reordered_cover : (w : Work) (s : State) (c : CpuId) (hs : List HomeId) (u : ThreadId) (at : Option Put) (place : Place) → (thread_of s u.0).place ≡ place
    → IsOneOf (Some (home_of (thread_of s u.0))) hs → IsOneOf (Some (home.RealTime (set_of w u.0))) hs
    → Cover s c (beside_reordered s c at place ∷ hs) (reordered_parts w s u at place)
reordered_cover w s c hs u at (Running d) is stands real =
    let there : IsOneOf (Some (home.Cpu d)) hs = subst (λ (x : HomeId). IsOneOf (Some x) hs) (ap (λ (p : Place). home_of_place p (thread_of s u.0).body.last) is) stands in
    (inr (inr stands), (inr (inr there), (inr (inl refl), tt)))
reordered_cover w s c hs u at _ is stands real = moved_cover w s c hs u at stands real

pub requeueing : (w : Work) (s : State) (c : CpuId) (hints : Option Hints) (n : ℕ) (hs : List HomeId) (parts : List Part) (q : Requeue) (event : Option Put → Event) (thread : Placement) (p : ℕ) (place : Place)
    → length hs ≤ n → Cover s c hs parts → IsOneOf (Some (home_of (thread_of s (placed_thread thread)))) hs → IsOneOf (Some (home.RealTime (set_of w (placed_thread thread)))) hs
    → ((at : Put) → event_of thread at ≡ event (Some at)) → ((at : Option Put) → Cover s c (beside_reordered s c at place ∷ hs) (after_parts w s c (event at)))
    → Turn w s c hints n parts (requeue_plan q event thread p)
requeueing w s c hints n hs parts Stays event thread p place few cover stands real same touched =
    made w s c hints n (beside_reordered s c None place) hs parts (event None) few cover (touched None)
requeueing w s c hints n hs parts (Behind d) event thread p place few cover stands real same touched =
    made w s c hints n (beside_reordered s c (Some (put.Cpu d)) place) hs parts (event (Some (put.Cpu d))) few cover (touched (Some (put.Cpu d)))
requeueing w s c hints n hs parts Anew event thread p place few cover stands real same touched =
    let at : Put = put_chosen w s c.0 (placed_thread thread) p hints in
    let beside : HomeId = beside_reordered s c (Some at) place in
    record {
      homes = hs;
      beside = beside;
      few = few;
      planned = cover;
      chosen = placed w s c hints hs thread p stands real;
      touched = subst (λ (e : Event). Cover s c (beside ∷ hs) (after_parts w s c e)) (sym (same at)) (touched (Some at));
    }

-- what is read is chosen from
pub cover_read : (w : Work) (s : State) (c : CpuId) (hints : Option Hints) (hs : List HomeId) (plan : Plan) → Cover s c hs (choice_parts w s c hints plan) → Cover s c hs (read_parts w s c plan)
cover_read w s c hints hs (Make e) cover = tt
cover_read w s c hints hs (PlaceIt thread p) cover = cover
cover_read w s c hints hs Search cover = (cover.0, (cover.1.0, tt))
