use Rattle.sd_search_answers.specs.Answered.{IsCounted, IsSearch}
use Rattle.sd_search_answers.proofs.SaidLemmas.{said}
use Rattle.sd_search_answers.proofs.answering.count.Goals as goal

pub returns-clause-said : goal.returns-clause-said
returns-clause-said g c =
    said (λ m. IsSearch c.args.work.now m c.in_ok-graph.graph) (IsCounted c.args.work.now) c.count_from.result c.args.most c.count_from.ensures c.in_ok-graph.ensures.found
