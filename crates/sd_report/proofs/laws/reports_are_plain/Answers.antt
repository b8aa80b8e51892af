use Rattle.sd_report.proofs.PlainLemmas.{report-text}
use Rattle.sd_report.proofs.SetPlainLemmas.{jobs-text, set_report-text}
use Rattle.sd_report.proofs.laws.reports_are_plain.Goals as goal

pub returns-clause-workloads : goal.returns-clause-workloads
returns-clause-workloads c = report-text

pub returns-clause-sets : goal.returns-clause-sets
returns-clause-sets c = set_report-text

pub returns-clause-jobs : goal.returns-clause-jobs
returns-clause-jobs c = jobs-text
