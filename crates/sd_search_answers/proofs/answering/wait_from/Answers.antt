use Rattle.sd_search_answers.proofs.answering.wait_from.Goals as goal

pub returns : goal.returns
returns c = λ most search. record {
  graph = c.args.graph.now;
  search = search;
  longest = c.in_ok-longest.longest;
  is = c.in_ok-longest.ensures.longest;
  left = c.in_ok-longest.ensures.open;
  short = c.in_ok-text.ensures.short;
  verdict = c.longest_verdict-verdict.ensures;
  written = rw c.len-many.ensures at c.in_ok-text.ensures.text;
}
