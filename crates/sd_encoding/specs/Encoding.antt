-- A state as bytes, and the state that bytes spell.
use Rattle.std.specs.Prelude.{◌≡◌, ℕ, ◌<◌, ◌^◌, ◌==◌, List, length, Option, Some, None, if◌then◌else◌}
use Rattle.std.specs.List.{All}
use Rattle.sd_state.specs.declared.states.State.{State}
use Rattle.sd_encoding.specs.Numbers.{vector}
use Rattle.sd_encoding.specs.Reading.{◌>>=◌, state_at}
use Rattle.sd_encoding.specs.Fits.{FitsState}
use Rattle.sd_encoding.specs.Bytes.{bytes_of, numbers_in}

-- the bytes of its numbers
unfoldable pub encoded : State → List ℕ
encoded s = bytes_of (vector s)

-- the state whose numbers the bytes spell, all of them
unfoldable pub state_in : List ℕ → Option State
state_in bytes = do
  ns ← numbers_in bytes
  s ← state_at ns
  if length s.1 == 0 then Some s.0 else None

-- a state that the program can hold: each part lies in its type, and each number below 2^64
pub record IsHeld (s : State) : Type 0 where
  pub parts : FitsState s
  pub numbers : All (λ n. n < 2 ^ 64) (vector s)

abbrev pub StatesAreReadAgain : Type 0
StatesAreReadAgain = (s : State) → IsHeld s → state_in (encoded s) ≡ Some s

abbrev pub EncodingsDiffer : Type 0
EncodingsDiffer = (x s : State) → IsHeld x → IsHeld s → encoded x ≡ encoded s → x ≡ s
