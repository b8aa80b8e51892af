-- What the reading of a text returns: the workload that it spells, or why there is none. Out of memory says nothing of the text.
-- Source: this project's own.
use Rattle.std.specs.Prelude.{◌≡◌, ℕ, List, Result, Ok, Err, ⊤}
use Rattle.sd_types.specs.declared.works.Work.{Work}
use Rattle.sd_workload.specs.Accepted.{Accepted}
use Rattle.sd_tasks.specs.Written.{Written, text_of}
use Rattle.sd_releases.specs.declared.expanding.SetFault.{SetFault}
use Rattle.sd_releases.specs.declared.expanding.SetFault.TheVariants.{At, Memory}
use Rattle.sd_releases.specs.Verdicts.{SetVerdict, Expands, RefusesSet}
use Rattle.sd_answers.specs.declared.answers.Answer.{Answer}
use Rattle.sd_answers.specs.declared.answers.Answer.TheVariants.{Refused, OutOfMemory}
use Rattle.sd_set_inputs.specs.declared.spelling.Spelled.{Spelled}
use Rattle.sd_set_inputs.specs.Sets.{RefusesSetAt, SpellsSet}

-- the answer where a set is refused
abbrev pub fault_answer : SetFault → Answer
fault_answer (At line cause) = Refused line cause
fault_answer Memory = OutOfMemory

-- the set expands to the lines of this workload
pub record HasExpanded (verdict : SetVerdict) (w : Work) : Type 0 where
  pub lines : List Written
  pub expands : verdict ≡ Expands lines
  pub accepted : Accepted (text_of lines) w

abbrev pub IsExpanded : SetVerdict → Result Spelled Answer → Type 0
IsExpanded verdict (Ok found) = HasExpanded verdict found.work
IsExpanded verdict (Err (Refused line cause)) = verdict ≡ RefusesSet line cause
IsExpanded verdict (Err OutOfMemory) = ⊤
IsExpanded verdict (Err _) = ⊥

abbrev pub IsSpelled : List ℕ → Result Spelled Answer → Type 0
IsSpelled text (Ok found) = SpellsSet text found.work
IsSpelled text (Err (Refused line cause)) = RefusesSetAt text line cause
IsSpelled text (Err OutOfMemory) = ⊤
IsSpelled text (Err _) = ⊥
