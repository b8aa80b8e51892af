-- A trace as a reader of JSON finds it.
-- Source: this project's own, over the grammar of the crate `serde_json`.
use Rattle.std.specs.Prelude.{◌≡◌, ℕ, List, codes, Option, Some, None, option_map, option_and_then}
use Rattle.std.specs.Str.{IsUtf8}
use Rattle.serde_json.specs.Data.{Data}
use Rattle.serde_json.specs.Events.{items_len}
use Rattle.serde_json.specs.Find.{get, as_array}
use Rattle.serde_json.specs.Read.{read}

-- how many items the array `traceEvents` of a value has, None where it has no such array
abbrev pub number_of_events : Data → Option ℕ
number_of_events trace = option_map items_len (option_and_then as_array (get (codes "traceEvents") trace))

-- the text is JSON with so many events, or None: it is no JSON or has no such array
abbrev pub Counts : List ℕ → Option ℕ → Type 0
Counts text (Some n) = IsUtf8 text × (option_and_then number_of_events (read text) ≡ Some n)
Counts text None = IsUtf8 text → option_and_then number_of_events (read text) ≡ None
