use Rattle.sd_search_answers.specs.Answered.{IsAnswered, IsSearch}
use Rattle.sd_search_answers.proofs.SaidLemmas.{said}
use Rattle.sd_search_answers.proofs.answering.answer.Goals as goal

pub returns-clause-said : goal.returns-clause-said
returns-clause-said g c =
    said (λ m. IsSearch c.args.work.now m c.in_ok-graph.graph) (IsAnswered c.args.work.now c.args.question) c.answer_from.result c.args.most c.answer_from.ensures c.in_ok-graph.ensures.found
