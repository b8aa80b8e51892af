-- The logs of the processors of a run.
-- Source: this project's own.
use Rattle.std.specs.Prelude.{◌≡◌, ◌⊎◌, ℕ, ◌<◌, List, length, slice_get, Some, Vec}
use Rattle.std.specs.List.{Contains}
use Rattle.std.specs.declared.alloc.Global.{Global}
use Rattle.sd_types.specs.declared.events.Entry.{Entry}
use Rattle.sd_shared_rule.specs.Ledgers.{by}

-- each entry has the number of its place
abbrev pub IsNumbered : List Entry → Type 0
IsNumbered h = (i : ℕ) (e : Entry) → slice_get h i ≡ Some e → e.number ≡ i

-- the entries of the log are entries of the run
abbrev pub AreIn : List Entry → List Entry → Type 0
AreIn h log = (e : Entry) → Contains log e → slice_get h e.number ≡ Some e

-- each entry of the run that lay there, or is one of the log, lies there now
abbrev pub HasPut : List Entry → List Entry → List Entry → List Entry → Type 0
HasPut h log es new = (i : ℕ) (e : Entry) → slice_get h i ≡ Some e → (slice_get es i ≡ Some e) ⊎ Contains log e → slice_get new i ≡ Some e

-- each entry of the run has the number of its place, and is one of a processor that has a log; the logs are those of this run
pub record AreLogsOf (h : List Entry) (logs : List (Vec Entry Global)) : Type 0 where
  pub numbered : IsNumbered h
  pub within : (i : ℕ) (e : Entry) → slice_get h i ≡ Some e → e.cpu.0 < length logs
  pub each : (c : ℕ) (log : Vec Entry Global) → slice_get logs c ≡ Some log → log.items ≡ by c h
