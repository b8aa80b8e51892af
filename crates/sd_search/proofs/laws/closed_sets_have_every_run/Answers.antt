use Rattle.std.specs.List.{Contains}
use Rattle.sd_search.proofs.RunLemmas.{every_run}
use Rattle.sd_search.proofs.laws.closed_sets_have_every_run.Goals as goal

pub returns : goal.returns
returns c = λ w states es closed run fresh. every_run w (λ x. Contains states x) closed es run fresh
