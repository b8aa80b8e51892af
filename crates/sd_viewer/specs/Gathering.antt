-- A run that was gathered while its journal was judged.
-- Source: this project's own.
use Rattle.std.specs.Prelude.{◌≡◌, ℕ, List, map}
use Rattle.sd_types.specs.declared.works.Work.{Work}
use Rattle.sd_machine.specs.LockGraph.{cycles_of}
use Rattle.sd_audit.specs.Audits.{IsJournal}
use Rattle.sd_stretches.specs.Histories.{IsHistory}
use Rattle.sd_viewer.specs.declared.gathering.Gathered.{Gathered}

-- the text is the journal of the complete run whose history, end with its blocking cycles, and number of entries these are
pub record IsGathered (w : Work) (text : List ℕ) (g : Gathered) : Type 0 where
  pub journal : IsJournal w text g.end g.number
  pub history : IsHistory w journal.entries g.history
  pub cycles : map (λ v. v.items) g.cycles.items ≡ cycles_of g.end
