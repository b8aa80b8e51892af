use Rattle.std.proofs.Common.{sym, ◌∙◌}
use Rattle.sd_homes.proofs.IndexLemmas.{tells_none, tells_some}
use Rattle.sd_homes.proofs.ready_index.ReadyIndex.place_of.Goals as goal

pub returns-in-None : goal.returns-in-None
returns-in-None c = λ rs h. tells_none c.args.self.now.priorities.items c.args.self.now.ageing c.args.id rs (h c.if-not-self.false) (sym c.priority_at.ensures ∙ c.in-None.is)

pub returns-in-Some : goal.returns-in-Some
returns-in-Some c = λ rs h. tells_some c.args.self.now.priorities.items c.args.self.now.ageing c.args.id c.in-Some.priority rs (h c.if-not-self.false) (sym c.priority_at.ensures ∙ c.in-Some.is)
