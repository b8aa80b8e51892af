-- What `dispfind` is asked for: its arguments without a last `--quiet`, which asks for no lines of progress.
-- Source: this project's own.
use Rattle.std.specs.Prelude.{ℕ, Bool, false, List, codes, length, take, slice_get, Option, Some, None, if◌then◌else◌, ◌-◌}
use Rattle.sd_types.specs.Works.{same_bytes}

abbrev pub is_quiet_word : Option (List ℕ) → Bool
is_quiet_word (Some word) = same_bytes word (codes "--quiet")
is_quiet_word None = false

-- the last argument is `--quiet`
abbrev pub is_quiet : List (List ℕ) → Bool
is_quiet arguments = is_quiet_word (slice_get arguments (length arguments - 1))

-- the arguments without it
abbrev pub asked : List (List ℕ) → List (List ℕ)
asked arguments = if is_quiet arguments then take (length arguments - 1) arguments else arguments
