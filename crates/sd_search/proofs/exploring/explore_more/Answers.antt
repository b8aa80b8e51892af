use Rattle.std.proofs.Common.{◌≤◌, length}
use Rattle.sd_types.specs.declared.works.Work.{Work}
use Rattle.sd_search.specs.declared.graph.Graph.{Graph}
use Rattle.sd_search.specs.Graphs.{AreApart, Gathers, HasEveryRun, packed, steps_of}
use Rattle.sd_search.proofs.FinalLemmas.{apart, gathers_all}
use Rattle.sd_search.proofs.exploring.explore_more.Goals as goal

all_apart : (w : Work) (g : Graph) → Gathers w g → AreApart (packed g)
all_apart w g h = apart w (packed g) (steps_of g) g.done h

has_all : (w : Work) (g : Graph) → Gathers w g → length (packed g) ≤ g.done → HasEveryRun w (packed g)
has_all w g h all = gathers_all w (packed g) (steps_of g) g.done h all

pub returns-clause-apart : goal.returns-clause-apart
returns-clause-apart c = all_apart c.args.work.now c.states.graph c.states.invariant.gathered

pub returns-clause-all : goal.returns-clause-all
returns-clause-all c = has_all c.args.work.now c.states.graph c.states.invariant.gathered
