use Rattle.sd_search_answers.proofs.answering.count_from.Goals as goal

pub returns : goal.returns
returns c = λ most search. record {
  graph = c.args.graph.now;
  search = search;
  finals = c.in_ok-finals.finals.items;
  are = c.in_ok-finals.ensures;
  entries = c.in_ok-entries.entries;
  longest = c.in_ok-entries.ensures;
  verdict = rw c.is_closed-all.ensures at c.count_verdict-verdict.ensures;
  written = rw (c.len-many.ensures, c.is_closed-all.ensures, c.len.ensures, c.in_ok-finals.finals.ok.0) at c.in_ok-text.ensures;
}
