-- What homes keep beside their threads is the state's, which has as much of everything as its workload.
use Rattle.std.proofs.Common.{◌≡◌, ℕ, ◌%◌, ◌<◌, List, length, get_or, Option, Some, None, sym, ◌∙◌, subst}
use Rattle.std.proofs.lemmas.Option.{slice_get-get_or}
use Rattle.sd_types.specs.declared.numbers.ChanId.{ChanId}
use Rattle.sd_types.specs.declared.numbers.CpuId.{CpuId}
use Rattle.sd_types.specs.declared.numbers.HomeId.{HomeId}
use Rattle.sd_types.specs.declared.numbers.HomeId.TheVariants as id
use Rattle.sd_types.specs.declared.numbers.LockId.{LockId}
use Rattle.sd_types.specs.declared.numbers.SetId.{SetId}
use Rattle.sd_types.specs.declared.works.Work.{Work}
use Rattle.sd_state.specs.declared.states.State.{State}
use Rattle.sd_state.specs.States.{cpu_of}
use Rattle.sd_machine.specs.Runs.{IsReached}
use Rattle.sd_machine.specs.Shapes.{FitsFully}
use Rattle.sd_machine.specs.Threads.{count_of, lock_of, open_of}
use Rattle.sd_invariants.proofs.Ready.{reached_ready}
use Rattle.sd_store.specs.declared.parts.CpuView.{CpuView}
use Rattle.sd_store.specs.Parts.{view_of}
use Rattle.sd_homes.specs.declared.home.Home.{Home}
use Rattle.sd_homes.specs.Families.{lock_in, open_in, tokens_in, view_in}
use Rattle.sd_hand.specs.declared.acting.Actor.{Actor}
use Rattle.sd_hand.specs.Hands.{held}
use Rattle.sd_hand.specs.OneHome.{AreAllHomes}
use Rattle.sd_homes.specs.Numbers.{IsHomeOf}
use Rattle.sd_hand.proofs.SlotLemmas.{held_id}
use Rattle.sd_hand.proofs.TellLemmas.{lock_by, open_by, tokens_by, view_by}
use Rattle.sd_world.specs.Told.{AreActorsOf, IsActorOf, IsToldBy}

pub fits : (w : Work) (n : ℕ) (s : State) → IsReached w n s → FitsFully w s
fits w n s reached = (reached_ready w n s reached).fits

pub told_by : (w : Work) (n : ℕ) (s : State) (hs : List (Option Home)) → IsReached w n s → AreAllHomes n s hs → IsToldBy hs s
told_by w n s hs reached homes = record { work = w; number = n; reached = reached; homes = homes }

module _ (hs : List (Option Home)) (s : State) (told : IsToldBy hs s) where
  pub never_lacks : (k : HomeId) → IsHomeOf s k → held k hs ≡ None → ⊥
  never_lacks k there none = let (h, is) = told.homes.all k there in absurd cc

  pub view_is : (c : CpuId) (h : Home) (v : CpuView) → held (id.Cpu c) hs ≡ Some h → Some v ≡ view_in h → v ≡ view_of (cpu_of s c.0)
  view_is c h v is e =
      let same : Some v ≡ Some (view_of (cpu_of s c.0)) = e ∙ view_by s c h (held_id (id.Cpu c) h hs is) (told.homes.shown (id.Cpu c) h is).parts in
      cc

  pub lock_is : (l : LockId) (h : Home) → held (id.Chain (l.0 % 64)) hs ≡ Some h → lock_in l.0 h ≡ lock_of s l.0
  lock_is l h is = sym (lock_by s l h (held_id (id.Chain (l.0 % 64)) h hs is) (told.homes.shown (id.Chain (l.0 % 64)) h is).parts told.homes.locks)

  pub tokens_are : (k : ChanId) (h : Home) → held (id.Sleepers (k.0 % 64)) hs ≡ Some h → tokens_in k.0 h ≡ count_of s k.0
  tokens_are k h is = sym (tokens_by s k h (held_id (id.Sleepers (k.0 % 64)) h hs is) (told.homes.shown (id.Sleepers (k.0 % 64)) h is).parts told.homes.chans)

  pub open_is : (p : SetId) (h : Home) → held (id.RealTime p) hs ≡ Some h → open_in h ≡ open_of s p.0
  open_is p h is = sym (open_by s p h (held_id (id.RealTime p) h hs is) (told.homes.shown (id.RealTime p) h is).parts)

-- ---- processors
pub actor_at : (s : State) (actors : List Actor) (c : ℕ) (d : Actor) → AreActorsOf s actors → c < length actors → IsActorOf s c (get_or actors c d)
actor_at s actors c d are inside = are.each c (get_or actors c d) (slice_get-get_or actors c d inside)

pub actor_inside : (s : State) (actors : List Actor) (c : ℕ) (d : Actor) → AreActorsOf s actors → c < length actors → (get_or actors c d).cpu.0 < length s.cpus
actor_inside s actors c d are inside = subst (λ n. n < length s.cpus) (sym (actor_at s actors c d are inside).cpu) (subst (λ n. c < n) are.many inside)

pub own_number : (s : State) (c : ℕ) (a : Actor) → IsActorOf s c a → IsActorOf s a.cpu.0 a
own_number s c a is = subst (λ n. IsActorOf s n a) (sym is.cpu) is

-- what its home keeps of a processor, with its own count and duty
pub cpu_is : (s : State) (c : ℕ) (a : Actor) (v : CpuView) → v ≡ view_of (cpu_of s c) → IsActorOf s c a
    → record { count = a.count; user = v.user; kernel = v.kernel; duty = a.duty; set = v.set; closing = v.closing; bound = v.bound } ≡ cpu_of s c
cpu_is s c a v e is = (λ i. record { count = is.count i; user = (e i).user; kernel = (e i).kernel; duty = is.duty i; set = (e i).set; closing = (e i).closing; bound = (e i).bound })
