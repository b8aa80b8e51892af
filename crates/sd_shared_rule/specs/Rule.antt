-- The rule of the table.
-- Source: this project's own.
use Rattle.std.specs.Prelude.{◌≡◌, ℕ, zero, suc, ◌^◌, ◌<◌, ◌≤◌, ◌==◌, Bool, true, false, List, [], length, Option, Some, slice_index, slice_index_or}
use mathlib.Core.Option as M
use lib.ListN.{get_elem?}
use Rattle.atomic_table.specs.Table.{State as TableState}
use Rattle.sd_types.specs.declared.events.Entry.{Entry}
use Rattle.sd_types.specs.declared.works.Work.{Work}
use Rattle.sd_state.specs.States.{cpu_of}
use Rattle.sd_machine.specs.Runs.{IsRun}
use Rattle.sd_homes.specs.declared.home.Home.{Home}
use Rattle.sd_world.specs.declared.notes.Count.{Count}
use Rattle.sd_shared_rule.specs.declared.views.Desk.{Desk}
use Rattle.sd_shared_rule.specs.declared.views.View.{View}
use Rattle.sd_shared_rule.specs.declared.views.View.TheVariants.{Maker, Works, Gathers, Spent}
use Rattle.sd_types.specs.Limits.{most_entries}
use Rattle.sd_shared_rule.specs.Ledgers.{Named, Since, by}
use Rattle.sd_shared_rule.specs.Places.{Apart, Stands, holds, home_count, now}
use Rattle.sd_shared_rule.specs.Words.{hint_at, lock_of, tick_of, word_count, word_of}

-- the entries so far; how many seats were made; which seat a processor has; whose seat was gathered; and the strays of each
pub record Ledger : Type 0 where
  pub history : List Entry
  pub made : ℕ
  pub seat : ℕ → ℕ
  pub gone : ℕ → Bool
  pub stray : ℕ → List ℕ

-- a home that nobody holds lies in its slot and stands for its part; a home that is held has a holder whose seat was not gathered
abbrev pub AtHome : Work → Ledger → List (M.Option (Option Home)) → ℕ → ℕ → Type 0
AtHome w l homes k zero = (x : Home) × (get_elem? homes k ≡ M.some (M.some (Some x))) × Stands w k l.history x
AtHome w l homes k (suc c) = (c < l.made) × (l.gone c ≡ false)

-- the seat of a processor: it holds just the homes whose locks name it, and all that it knows is so still
pub record Desked (w : Work) (l : Ledger) (lock : ℕ → ℕ) (j : ℕ) (d : Desk) : Type 0 where
  pub made : d.cpu < l.made
  pub seat : l.seat d.cpu ≡ j
  pub here : l.gone d.cpu ≡ false
  pub since : Since w d.cpu d.held d.seen l.history
  pub held : (k : ℕ) → k < home_count w → holds k d.held ≡ (lock k == suc d.cpu)
  pub inside : (k : ℕ) → holds k d.held ≡ true → k < home_count w
  pub apart : Apart d.held
  pub stray : l.stray d.cpu ≡ d.stray
  pub counts : (n : ℕ) (x : Count) → get_elem? d.counts n ≡ M.some x → x.number ≤ (cpu_of (now w l.history) x.cpu).count

-- what was gathered, processor by processor
abbrev pub Gathered : Work → Ledger → List (List Entry) → Type 0
Gathered w l seens = (c : ℕ) → c < length seens → (l.gone c ≡ true) × Since w c [] (slice_index_or seens c []) l.history

abbrev pub Knows : Work → Ledger → (ℕ → ℕ) → ℕ → View → Type 0
Knows w l lock j (Maker n) = (n ≡ l.made) × (j ≡ 0)
Knows w l lock j (Works d) = Desked w l lock j d
Knows w l lock j (Gathers seens) = Gathered w l seens
Knows w l lock j Spent = Unit {0}

-- the history is a run, and its length is the stamp; no processor has too many entries, and one without a seat none
pub record Story (w : Work) (l : Ledger) (n : ℕ) : Type 0 where
  pub run : IsRun w l.history
  pub stamp : n ≡ length l.history
  pub few : (c : ℕ) → length (by c l.history) ≤ most_entries
  pub some_made : l.made ≤ w.cpus
  pub unmade : (c : ℕ) → l.made ≤ c → (by c l.history ≡ []) × (l.gone c ≡ false) × (l.stray c ≡ [])
  pub stay : (c : ℕ) → l.gone c ≡ true → l.stray c ≡ []

-- History: `story`. Replay and one holder: `each_home`, and of each seat `Desked`. Thread words: `named`. Ticks: `ticks`, and of each seat
-- `counts`. Beside these, each hint is a priority plus 1, or 0, in 8 bits.
pub record Kept (w : Work) (s : TableState (Option Home) View) : Type 0 where
  pub ledger : Ledger
  pub wide : length s.words ≡ word_count w
  pub deep : length s.homes ≡ home_count w
  pub story : Story w ledger (slice_index s.words (home_count w))
  pub each_home : (k : ℕ) → k < home_count w → AtHome w ledger s.homes k (lock_of w s.words k)
  pub named : Named w (now w ledger.history) (lock_of w s.words) (word_of w s.words) ledger.stray
  pub ticks : (c : ℕ) → tick_of w s.words c ≤ (cpu_of (now w ledger.history) c).count
  pub small : (i : ℕ) → hint_at w s.words i < 2 ^ 8
  pub each_seat : (j : ℕ) (v : View) → get_elem? s.views j ≡ M.some v → Knows w ledger (lock_of w s.words) j v
