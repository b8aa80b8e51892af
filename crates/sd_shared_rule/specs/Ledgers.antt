-- The history behind the words of a table, and what a processor knew that is so still.
-- Source: this project's own.
use Rattle.std.specs.Prelude.{◌≡◌, ℕ, zero, suc, ◌^◌, ◌<◌, true, false, List, length, filter, ◌==◌}
use Rattle.sd_types.specs.declared.events.Entry.{Entry}
use Rattle.sd_types.specs.declared.works.Work.{Work}
use Rattle.sd_state.specs.declared.states.State.{State}
use Rattle.sd_state.specs.States.{cpu_of}
use Rattle.sd_homes.specs.declared.home.Home.{Home}
use Rattle.sd_world.specs.Worlds.{Begins}
use Rattle.sd_shared_rule.specs.Places.{Stands, holds, home_count, now, place_home}

-- the entries of processor c
unfoldable pub by : ℕ → List Entry → List Entry
by c h = filter (λ e. e.cpu.0 == c) h

-- what processor c, with these homes, knew after the old history is so after the new one: each home that stood stands, its count and
-- duty are the same, and it has made no entry since
pub record Since (w : Work) (c : ℕ) (held : List ℕ) (old new : List Entry) : Type 0 where
  pub begins : Begins old new
  pub keeps : (k : ℕ) (x : Home) → holds k held ≡ true → Stands w k old x → Stands w k new x
  pub count : (cpu_of (now w old) c).count ≡ (cpu_of (now w new) c).count
  pub duty : (cpu_of (now w old) c).duty ≡ (cpu_of (now w new) c).duty
  pub mine : by c old ≡ by c new

-- the word of a thread, by the lock of the home in which it stands: where nobody holds that home, the word names it; else the word names
-- a home with the same holder, and that very one unless the thread is a stray of the holder
abbrev pub NamedBy : Work → State → (ℕ → ℕ) → (ℕ → ℕ) → (ℕ → List ℕ) → ℕ → ℕ → Type 0
NamedBy w s lock word stray t zero = word t ≡ place_home w s t
NamedBy w s lock word stray t (suc c) = (lock (word t) ≡ suc c) × (holds t (stray c) ≡ false → word t ≡ place_home w s t)

-- each word names a home; a stray of a processor stands in a home that it holds
pub record Named (w : Work) (s : State) (lock word : ℕ → ℕ) (stray : ℕ → List ℕ) : Type 0 where
  pub each : (t : ℕ) → t < length w.threads → NamedBy w s lock word stray t (lock (place_home w s t))
  pub inside : (t : ℕ) → t < length w.threads → word t < home_count w
  pub stand : (c t : ℕ) → holds t (stray c) ≡ true → (t < length w.threads) × (lock (place_home w s t) ≡ suc c)
