-- A run that goes on homes, all of which one thread of the host has.
-- Source: this project's own.
use Rattle.std.specs.Prelude.{◌≡◌, ℕ, ◌<◌, ◌≤◌, ◌==◌, nat_le, true, List, [], length, slice_get, Option, Some, None}
use Rattle.std.specs.List.{Contains}
use Rattle.sd_types.specs.declared.events.Which.{Which}
use Rattle.sd_types.specs.declared.events.Which.TheVariants.{Running as OfRunning, Queued as OfQueued}
use Rattle.sd_types.specs.declared.events.Entry.{Entry}
use Rattle.sd_types.specs.declared.numbers.CpuId.{CpuId}
use Rattle.sd_types.specs.declared.works.Work.{Work}
use Rattle.sd_state.specs.declared.states.State.{State}
use Rattle.sd_state.specs.Opening.{opening}
use Rattle.sd_machine.specs.Runs.{IsReached, IsRun, final, state_at}
use Rattle.sd_state.specs.States.{cpu_of}
use Rattle.sd_machine.specs.Hints.{hint_shown}
use Rattle.sd_machine.specs.Threads.{best_unbound, runner}
use Rattle.sd_hand.specs.OneHome.{AreAllHomes, StandsInHomes}
use Rattle.sd_world.specs.Told.{AreActorsOf, IsActorOf}
use Rattle.sd_types.specs.declared.events.Duty.TheVariants.{Nothing}
use Rattle.sd_hand.specs.declared.acting.Acting.{Acting}
use Rattle.sd_hand.specs.declared.acting.Actor.{Actor}
use Rattle.sd_hand.specs.Acting.{IsShown}
use Rattle.sd_world.specs.declared.plain.PlainWorld.{PlainWorld}
use Rattle.sd_world.specs.declared.world.Behind.{Behind}
use Rattle.sd_world.specs.Worlds.{IsGood, Meaning}

-- the state to which its entries lead
abbrev pub told : Work → PlainWorld → State
told w x = final w (opening w) x.entries.items

-- each state before the last stood in homes
abbrev pub HasStood : Work → List Entry → Type 0
HasStood w es = (k : ℕ) → k < length es → StandsInHomes k (state_at w es k)

-- its entries are a run, its homes stand for the state to which they lead, all of them, and it knows the counts and the duties
pub record Stands (w : Work) (x : PlainWorld) : Type 0 where
  pub run : IsRun w x.entries.items
  pub all : AreAllHomes (length x.entries.items) (told w x) x.acting.hand.slots
  pub actors : AreActorsOf (told w x) x.actors.items
  pub inside : x.acting.actor.cpu.0 < length (told w x).cpus
  pub acts : IsActorOf (told w x) x.acting.actor.cpu.0 x.acting.actor
  pub stood : HasStood w x.entries.items

-- the homes of a hand, with the processor that acts, stand for a state of a run
pub record StandsInRun (x : Acting) : Type 0 where
  pub work : Work
  pub number : ℕ
  pub state : State
  pub reached : IsReached work number state
  pub shown : IsShown x number state

-- the processors are the workload's
abbrev pub AreCpus : Work → List CpuId → Type 0
AreCpus w cpus = (d : CpuId) → Contains cpus d → d.0 < w.cpus

-- the thread whose priority a processor shows: the one that runs, or the best on its queue that is bound to none
abbrev pub thread_shown : State → Which → CpuId → Option ℕ
thread_shown s OfRunning d = runner s d.0
thread_shown s OfQueued d = best_unbound s d.0

-- for a number that is no processor's
abbrev pub no_actor : Actor
no_actor = record { cpu = record { 0 = 0 }; count = 0; duty = Nothing }

-- none of the processors has a count below this one
abbrev pub NoneLess : List Actor → ℕ → Type 0
NoneLess actors count = (i : ℕ) (a : Actor) → slice_get actors i ≡ Some a → count ≤ a.count

-- one of them has
pub record IsLess (actors : List Actor) (count : ℕ) (b : Behind) : Type 0 where
  pub index : ℕ
  pub actor : Actor
  pub there : slice_get actors index ≡ Some actor
  pub cpu : b.cpu ≡ actor.cpu
  pub same : b.count ≡ actor.count
  pub less : b.count < count

-- as a world: nobody else makes entries, so nothing is read of others, and all homes are in its hand; a number is a hint where the state shows it
abbrev pub plain_meaning : PlainWorld → Meaning
plain_meaning x = record {
  table = None;
  work = x.work.now;
  alone = true;
  all = true;
  acting = x.acting;
  log = x.entries.items;
  seen = x.entries.items;
  spare = x.entries.room;
  stops = 0;
  notes = [];
  misses = [];
  glances = [];
  hinted = λ c which n. n == hint_shown (told x.work.now x) which (record { 0 = c });
  counted = λ c n. nat_le n (cpu_of (told x.work.now x) c).count;
}

-- it stands as a run on homes, and so as a world
pub record IsPlain (x : PlainWorld) : Type 0 where
  pub stands : Stands x.work.now x
  pub good : IsGood (plain_meaning x)
