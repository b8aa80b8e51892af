use Rattle.std.proofs.Common.{arith}
use Rattle.sd_answers.proofs.EndLemmas.{some_line, whole_line}
use Rattle.sd_answers.proofs.writing.line_end.Goals as goal

pub returns-in-Some-clause-line : goal.returns-in-Some-clause-line
returns-in-Some-clause-line c =
    (whole_line c.args.text.now c.args.from c.in-Some.line.0 c.in-Some.line.1 c.requires.inside c.requires.whole c.in-Some.ensures.line c.in-Some.ensures.start
    c.in-Some.ensures.within.0 c.in-Some.ensures.within.1).1

pub returns-in-Some-clause-within : goal.returns-in-Some-clause-within
returns-in-Some-clause-within c =
    let found =
    whole_line c.args.text.now c.args.from c.in-Some.line.0 c.in-Some.line.1 c.requires.inside c.requires.whole c.in-Some.ensures.line c.in-Some.ensures.start
    c.in-Some.ensures.within.0 c.in-Some.ensures.within.1 in
    omega (arith, found.0)

pub returns-in-None-clause-line : goal.returns-in-None-clause-line
returns-in-None-clause-line c = some_line c.args.text.now c.args.from c.requires.inside c.in-None.ensures.none
