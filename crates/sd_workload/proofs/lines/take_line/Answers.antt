use Rattle.sd_text.specs.Words.{words_of}
use Rattle.sd_declare.specs.Kept.{declarations}
use Rattle.sd_workload.proofs.JudgedLemmas.{blank-declared, blank-opened}
use Rattle.sd_workload.proofs.lines.take_line.Goals as goal

pub returns-in_default-clause-new : goal.returns-in_default-clause-new
returns-in_default-clause-new c = blank-declared (declarations c.args.d.now) (words_of c.args.line.now) c.in_default.ensures.none

pub returns-in_default-clause-opened : goal.returns-in_default-clause-opened
returns-in_default-clause-opened c = blank-opened (declarations c.args.d.now) (words_of c.args.line.now) c.in_default.ensures.none
