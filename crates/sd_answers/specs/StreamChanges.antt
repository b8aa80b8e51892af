-- What a call did to a stream, as far as the stream tells it: its bytes and its count of faults before and after.
-- Source: this project's own.
use Rattle.std.specs.Prelude.{◌≡◌, ℕ, ◌≤◌, ◌⊎◌, List, [], take, Option, Result, Ok, Err, OnOk, OnErr, IsErrOf, ⊤}
use Rattle.std.specs.Io.KnownBytes.{Appends, Keeps}
use Rattle.sd_text.specs.Faults.{HasRisen}
use Rattle.sd_answers.specs.declared.writing.Unwritten.{Unwritten}
use Rattle.sd_answers.specs.declared.writing.Unwritten.TheVariants.{Fault, Memory}

pub record StreamChange : Type 0 where
  pub before : Option (List ℕ)
  pub after : Option (List ℕ)
  pub faults_before : ℕ
  pub faults_after : ℕ

-- a stream before and after a call
abbrev pub change_of : Option (List ℕ) → Option (List ℕ) → ℕ → ℕ → StreamChange
change_of before after faults faults' = record { before = before; after = after; faults_before = faults; faults_after = faults' }

-- a fault was counted, or the count stands at its greatest
abbrev pub HasFault : StreamChange → Type 0
HasFault s = HasRisen s.faults_before s.faults_after

-- no fault was counted
abbrev pub HasNoFault : StreamChange → Type 0
HasNoFault s = s.faults_after ≡ s.faults_before

-- nothing was read, written or counted
pub record IsUntouched (s : StreamChange) : Type 0 where
  pub bytes : s.after ≡ s.before
  pub no_fault : HasNoFault s

-- a prefix of the text was appended
abbrev pub AppendsPart : Option (List ℕ) → Option (List ℕ) → List ℕ → Type 0
AppendsPart before after text = (n : ℕ) × Appends before after (take n text)

-- What a call that writes the text to a sink did: with Ok the text was appended, and else a prefix of it. The result
-- is a fault only where the count rose, and otherwise no fault was counted.
pub record Puts (before after : Option (List ℕ)) (faults faults' : ℕ) (text : List ℕ) (result : Result (Unit {0}) Unwritten) : Type 0 where
  pub never_falls : faults ≤ faults'
  pub ok : OnOk result (Appends before after text)
  pub fault : IsErrOf result Fault → HasRisen faults faults'
  pub no_fault : (IsErrOf result Fault → ⊥) → faults' ≡ faults
  pub part : OnErr result (AppendsPart before after text)

-- What a call that writes a line to the error output did: the line was written whole where no fault was counted, and else
-- a prefix of it.
pub record TellsLine (err : StreamChange) (line : List ℕ) : Type 0 where
  pub part : AppendsPart err.before err.after line
  pub whole : (HasFault err → ⊥) → Appends err.before err.after line

-- ---- bytes that a sink holds back

-- What handing on does behind a call that ended so. It appends nothing. A fault of the call stays, and nothing more is tried;
-- otherwise nothing is held back any more, or a fault was counted.
pub record HandsOn (put : Result (Unit {0}) Unwritten) (before after : Option (List ℕ)) (faults faults' : ℕ) (held : List ℕ) (result : Result (Unit {0}) Unwritten) : Type 0 where
  pub never_falls : faults ≤ faults'
  pub same : Keeps before after
  pub fault : IsErrOf result Fault → IsErrOf put Fault ⊎ HasRisen faults faults'
  pub no_fault : (IsErrOf result Fault → ⊥) → (result ≡ put) × (faults' ≡ faults) × (held ≡ [])

-- What a call that printed leaves held back of what it was before: nothing, or, where memory ran out before it wrote, no more than that. Where
-- a write failed nothing is said.
abbrev pub LeavesHeld : List ℕ → List ℕ → Result (Unit {0}) Unwritten → Type 0
LeavesHeld before after (Ok u) = after ≡ []
LeavesHeld before after (Err Fault) = ⊤
LeavesHeld before after (Err Memory) = (after ≡ before) ⊎ (after ≡ [])
