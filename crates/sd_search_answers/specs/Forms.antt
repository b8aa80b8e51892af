-- The forms of the arguments of `dispfind`.
-- Source: this project's own.
use Rattle.std.specs.Prelude.{ℕ, ◌&&◌, nat_le, List, [], ◌∷◌, length, codes, Option, Some, None, if◌then◌else◌}
use Rattle.arrayvec.specs.ArrayVec.{ArrayVec}
use Rattle.sd_types.specs.Works.{same_bytes}
use Rattle.sd_types.specs.Limits.{most_name_bytes}
use Rattle.sd_text.specs.Numbers.{number_of}
use Rattle.sd_search.specs.declared.questions.Question.TheVariants.{Blocked, Stuck}
use Rattle.sd_search_answers.specs.declared.forms.Aim.{Aim}
use Rattle.sd_search_answers.specs.declared.forms.Aim.TheVariants.{Find, Count, Ends, Waits}
use Rattle.sd_search_answers.specs.declared.forms.Request.{Request}
use Rattle.sd_search_answers.specs.declared.forms.Request.TheVariants.{Help, Search}

-- what a word asks for
abbrev pub aim_of : List ℕ → Option Aim
aim_of word =
    if same_bytes word (codes "blocked") then Some (Find Blocked) else if same_bytes word (codes "stuck") then Some (Find Stuck)
    else if same_bytes word (codes "states") then Some Count else None

-- and a word with the name of a thread, which has 16 bytes at most
abbrev pub named_aim : List ℕ → ArrayVec ℕ → Option Aim
named_aim word name =
    if same_bytes word (codes "ends") then Some (Ends name) else if same_bytes word (codes "waits") then Some (Waits name) else None

abbrev pub thread_aim : List ℕ → List ℕ → Option Aim
thread_aim word name = if nat_le (length name) most_name_bytes then named_aim word (record { items = name }) else None

-- the name of the thread of which is asked
abbrev pub name_in : Aim → Option (List ℕ)
name_in (Ends name) = Some name.items
name_in (Waits name) = Some name.items
name_in _ = None

-- from 1 to 1,000,000,000 states
abbrev pub bounded : Option ℕ → Option ℕ
bounded None = None
bounded (Some most) = if nat_le 1 most && nat_le most 1000000000 then Some most else None

-- the number of states at which the search ends, by an option with its number
abbrev pub most_of : List ℕ → List ℕ → Option ℕ
most_of option most = if same_bytes option (codes "--most") then bounded (number_of most) else None

abbrev pub search_of : Option Aim → Option ℕ → Option Request
search_of (Some aim) (Some most) = Some (Search aim most)
search_of _ _ = None

unfoldable pub request_of : List (List ℕ) → Option Request
request_of (word ∷ []) = if same_bytes word (codes "--help") then Some Help else search_of (aim_of word) (Some 1000000)
request_of (word ∷ name ∷ []) = search_of (thread_aim word name) (Some 1000000)
request_of (word ∷ option ∷ most ∷ []) = search_of (aim_of word) (most_of option most)
request_of (word ∷ name ∷ option ∷ most ∷ []) = search_of (thread_aim word name) (most_of option most)
request_of _ = None
