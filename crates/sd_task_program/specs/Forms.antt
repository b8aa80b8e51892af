-- The forms of the arguments of `disptask`: an option, a file, or an option and a file behind it. Source: this project's own.
use Rattle.std.specs.Prelude.{ℕ, List, [], ◌∷◌, Bool, true, false, ◌==◌, codes, Option, Some, None, if◌then◌else◌}
use Rattle.sd_types.specs.Works.{same_bytes}
use Rattle.sd_task_program.specs.declared.forms.Request.{Request}
use Rattle.sd_task_program.specs.declared.forms.Request.TheVariants.{Help, Expand}

-- a word that begins with `-` names no file
abbrev pub begins_with_dash : List ℕ → Bool
begins_with_dash [] = false
begins_with_dash (byte ∷ bytes) = byte == 45

abbrev pub option_request : List ℕ → Option Request
option_request word = if same_bytes word (codes "--map") then Some (Expand true) else if same_bytes word (codes "--help") then Some Help else None

abbrev pub word_request : List ℕ → Option Request
word_request word = if begins_with_dash word then option_request word else Some (Expand false)

-- no file stands behind `--help`
abbrev pub unless_help : Option Request → Option Request
unless_help None = None
unless_help (Some Help) = None
unless_help (Some (Expand is_mapped)) = Some (Expand is_mapped)

abbrev pub file_request : List ℕ → List ℕ → Option Request
file_request option file = if begins_with_dash file then None else unless_help (option_request option)

unfoldable pub request_of : List (List ℕ) → Option Request
request_of [] = Some (Expand false)
request_of (word ∷ []) = word_request word
request_of (option ∷ file ∷ []) = file_request option file
request_of (option ∷ file ∷ word ∷ words) = None

-- ---- the file that the arguments name, where they name one

abbrev pub file_word : List ℕ → Option (List ℕ)
file_word word = if begins_with_dash word then None else Some word

unfoldable pub file_of : List (List ℕ) → Option (List ℕ)
file_of [] = None
file_of (word ∷ []) = file_word word
file_of (option ∷ file ∷ []) = if same_bytes option (codes "--map") then file_word file else None
file_of (option ∷ file ∷ word ∷ words) = None
