use Rattle.std.proofs.Common.{drop, sym}
use Rattle.sd_text.specs.Lines.{lines_of}
use Rattle.sd_audit.proofs.audits.end_of.Goals as goal

pub returns-in-Err-clause-fault : goal.returns-in-Err-clause-fault
returns-in-Err-clause-fault c =
    let r = c.requires.read in
    record { entries = r.entries; rest = lines_of (drop c.args.at.from c.args.text.now); told = r.told; counted = sym r.many }
