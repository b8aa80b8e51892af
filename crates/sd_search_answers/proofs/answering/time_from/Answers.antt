use Rattle.sd_search_answers.proofs.answering.time_from.Goals as goal

pub returns : goal.returns
returns c = λ most search. record {
  graph = c.args.graph.now;
  search = search;
  timing = c.in_ok-timing.timing;
  is = c.in_ok-timing.ensures;
  short = c.in_ok-text.ensures.short;
  verdict = c.timing_verdict-verdict.ensures;
  written = rw c.len-many.ensures at c.in_ok-text.ensures.text;
}
