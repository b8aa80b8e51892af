use Rattle.sd_audit.proofs.ExactLemmas.{refused_rightly}
use Rattle.sd_viewer.proofs.drawings.draw.Goals as goal

pub returns-in-Timeline-clause-exact : goal.returns-in-Timeline-clause-exact
returns-in-Timeline-clause-exact c = refused_rightly c.args.work.now c.args.text.now c.draw_view.result c.draw_view.ensures.fault

pub returns-in-Trace-clause-exact : goal.returns-in-Trace-clause-exact
returns-in-Trace-clause-exact c = refused_rightly c.args.work.now c.args.text.now c.draw_view-in-Trace.result c.draw_view-in-Trace.ensures.fault

pub returns-in-Report-clause-exact : goal.returns-in-Report-clause-exact
returns-in-Report-clause-exact c = refused_rightly c.args.work.now c.args.text.now c.draw_view-in-Report.result c.draw_view-in-Report.ensures.fault

pub returns-in-Sheet-clause-exact : goal.returns-in-Sheet-clause-exact
returns-in-Sheet-clause-exact c = refused_rightly c.args.work.now c.args.text.now c.draw_view-in-Sheet.result c.draw_view-in-Sheet.ensures.fault

pub returns-in-Jobs-clause-exact : goal.returns-in-Jobs-clause-exact
returns-in-Jobs-clause-exact c = refused_rightly c.args.work.now c.args.text.now c.draw_view-in-Jobs.result c.draw_view-in-Jobs.ensures.fault
