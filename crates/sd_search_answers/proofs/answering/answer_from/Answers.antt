use Rattle.sd_search_answers.proofs.answering.answer_from.Goals as goal

pub returns : goal.returns
returns c = λ most search. record {
  graph = c.args.graph.now;
  search = search;
  finding = c.in_ok-finding.finding;
  is = c.in_ok-finding.ensures.finding;
  fair = c.in_ok-finding.ensures.fair;
  shortest = c.in_ok-finding.ensures.shortest;
  short = c.in_ok-text.ensures.short;
  verdict = c.verdict_of-verdict.ensures;
  written = rw c.len-many.ensures at c.in_ok-text.ensures.text;
}
