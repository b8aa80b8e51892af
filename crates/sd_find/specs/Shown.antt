-- The runs that are shown: what a finding says of a workload, and that its journal is one that the audit finds legal.
-- Source: this project's own.
use Rattle.std.specs.Prelude.{List, length}
use Rattle.sd_types.specs.declared.events.Entry.{Entry}
use Rattle.sd_types.specs.declared.works.Work.{Work}
use Rattle.sd_state.specs.Opening.{opening}
use Rattle.sd_machine.specs.Runs.{final}
use Rattle.sd_machine.specs.Texts.{journal}
use Rattle.sd_audit.specs.Audits.{IsJournal}
use Rattle.sd_search.specs.declared.questions.Question.{Question}
use Rattle.sd_search.specs.Questions.{IsWitness}

-- the journal of the entries is the journal of a complete run as the audit asks for it, with its last state and its number of entries
abbrev pub IsCertified : Work → List Entry → Type 0
IsCertified w es = IsJournal w (journal w es) (final w (opening w) es) (length es)

-- The entries are a complete legal run of the workload in which each processor reads the numbers of the state, and it ends as was asked
-- for. Its journal is one that the audit finds legal.
pub record IsShown (w : Work) (q : Question) (es : List Entry) : Type 0 where
  pub witness : IsWitness w q es
  pub certified : IsCertified w es
