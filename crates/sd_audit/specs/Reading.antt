-- The audit while it reads.
-- Source: this project's own.
use Rattle.std.specs.Prelude.{◌≡◌, ℕ, ◌≤◌, List, ◌∷◌, ◌++◌, length, drop, codes}
use Rattle.sd_types.specs.declared.events.Entry.{Entry}
use Rattle.sd_types.specs.declared.works.Work.{Work}
use Rattle.sd_state.specs.declared.states.State.{State}
use Rattle.sd_state.specs.Opening.{opening}
use Rattle.sd_text.specs.Lines.{lines_of}
use Rattle.sd_machine.specs.Runs.{final}
use Rattle.sd_machine.specs.Texts.{entries_text}
use Rattle.sd_accounts.specs.declared.accounts.Accounts.{Accounts}
use Rattle.sd_accounts.specs.Counters.{HasTaken}
use Rattle.sd_audit.specs.Audits.{TellsRun}

-- The lines before this byte of the text told a run of so many entries, which leads to the state, and which the accounts
-- have taken in.
pub record HasRead (w : Work) (text : List ℕ) (s : State) (accounts : Accounts) (number from : ℕ) : Type 0 where
  pub entries : List Entry
  pub told : TellsRun w text entries (lines_of (drop from text))
  pub many : length entries ≡ number
  pub ends : s ≡ final w (opening w) entries
  pub taken : HasTaken w entries accounts
  pub parts : from ≤ length text → text ≡ entries_text w entries ++ drop from text

-- so it is, and this holds of the entries
abbrev pub HasReadWith : Work → List ℕ → State → Accounts → ℕ → ℕ → (List Entry → Type 0) → Type 0
HasReadWith w text s accounts number from Has = (r : HasRead w text s accounts number from) × Has r.entries

-- the line `accounts` begins at this byte
pub record IsAtAccounts (text : List ℕ) (from : ℕ) : Type 0 where
  pub rest : List (List ℕ)
  pub within : from ≤ length text
  pub lines : lines_of (drop from text) ≡ codes "accounts" ∷ rest
