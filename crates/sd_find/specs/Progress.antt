-- What is shown of a search that goes on: a line each time that it is told how far it has come, unless the last argument is `--quiet`.
-- Source: this project's own.
use Rattle.std.specs.Prelude.{◌≡◌, ℕ, ◌⊎◌, Bool, true, false, List, ◌++◌, codes, decimal, map, string_bytes, Option, Some, None, Result, Ok, Err, ⊤}
use Rattle.std.specs.Io.KnownBytes.{Appends}
use Rattle.std.specs.declared.io.Error.{Error}
use Rattle.std.specs.declared.string.String.{String}
use Rattle.std.specs.declared.vec.Vec.{Vec}
use Rattle.std.specs.declared.alloc.Global.{Global}
use Rattle.sd_types.specs.declared.works.Work.{Work}
use Rattle.sd_answers.specs.Inputs.{IsWorkload}
use Rattle.sd_answers.specs.StreamChanges.{StreamChange, AppendsPart, HasFault, HasNoFault, IsUntouched, change_of}
use Rattle.sd_search_answers.specs.Watched.{IsWatched}
use Rattle.sd_set_inputs.specs.Sets.{sets}
use Rattle.sd_find.specs.declared.progress.Progress.{Progress}
use Rattle.sd_find.specs.Asked.{is_quiet}

-- so many states were found, the last of them after so many turns of processors
abbrev pub progress_line : ℕ → ℕ → List ℕ
progress_line states depth = codes "states " ++ (decimal states ++ (codes " depth " ++ (decimal depth ++ codes "\n")))

-- the line of these numbers was written; or a part of it, and a fault was counted; or memory ran out, and nothing was written
abbrev pub ShowsLine : StreamChange → ℕ → ℕ → Type 0
ShowsLine sink states depth =
    (Appends sink.before sink.after (progress_line states depth) × HasNoFault sink)
    ⊎ ((AppendsPart sink.before sink.after (progress_line states depth) × HasFault sink) ⊎ IsUntouched sink)

-- on a sink, if there is one
abbrev pub ShowsOn : {P : Type 0} → (P → Option (List ℕ)) → (P → ℕ) → Option P → Option P → ℕ → ℕ → Type 0
ShowsOn contents faults (Some before) (Some after) states depth =
    ShowsLine (change_of (contents before) (contents after) (faults before) (faults after)) states depth
ShowsOn contents faults None None states depth = ⊤
ShowsOn contents faults _ _ states depth = ⊥

-- what one call does: nothing but the sink changes
abbrev pub Shows : {P : Type 0} → (P → Option (List ℕ)) → (P → ℕ) → Progress P → Progress P → ℕ → ℕ → Type 0
Shows contents faults before after states depth = (after.alloc ≡ before.alloc) × ShowsOn contents faults before.sink after.sink states depth

-- it is told of the search of the workload that the input spells, or of none, and nothing of it changes
abbrev pub IsWatching : {W : Type 0} → (W → W → ℕ → ℕ → Type 0) → StreamChange → W → W → Type 0
IsWatching Noted input before after = (after ≡ before) ⊎ ((w : Work) × IsWorkload sets input w × IsWatched Noted w before after)

-- where no lines of progress are asked for nothing of it changes
abbrev pub IsWatchingUnless : {W : Type 0} → Bool → (W → W → ℕ → ℕ → Type 0) → StreamChange → W → W → Type 0
IsWatchingUnless true Noted input before after = after ≡ before
IsWatchingUnless false Noted input before after = IsWatching Noted input before after

-- arguments that were not read show nothing
abbrev pub ShowsProgress : {P : Type 0} → (P → Option (List ℕ)) → (P → ℕ) → Result (Vec (String Global) Global) Error → StreamChange → Progress P → Progress P → Type 0
ShowsProgress contents faults (Ok arguments) input before after = IsWatchingUnless (is_quiet (map string_bytes arguments.items)) (Shows contents faults) input before after
ShowsProgress contents faults (Err error) input before after = after ≡ before
