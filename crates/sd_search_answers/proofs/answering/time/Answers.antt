use Rattle.sd_search_answers.specs.Answered.{IsTimed, IsSearch}
use Rattle.sd_search_answers.proofs.SaidLemmas.{said}
use Rattle.sd_search_answers.proofs.answering.time.Goals as goal

pub returns-clause-said : goal.returns-clause-said
returns-clause-said g c =
    said (λ m. IsSearch c.args.work.now m c.in_ok-graph.graph) (IsTimed c.args.work.now c.args.thread) c.time_from.result c.args.most c.time_from.ensures c.in_ok-graph.ensures.found
