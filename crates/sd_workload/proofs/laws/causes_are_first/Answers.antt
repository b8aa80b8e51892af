use Rattle.sd_dispadmin.specs.TableText.{word_lines}
use Rattle.sd_workload.proofs.FirstLemmas.{first-back, refused, taken-back, accepted}
use Rattle.sd_workload.proofs.laws.causes_are_first.Goals as goal

pub returns-clause-refused : goal.returns-clause-refused
returns-clause-refused c = λ text line cause. (first-back (word_lines text) line cause, refused (word_lines text) line cause)

pub returns-clause-accepted : goal.returns-clause-accepted
returns-clause-accepted c = λ text d. (taken-back (word_lines text) d, accepted (word_lines text) d)
