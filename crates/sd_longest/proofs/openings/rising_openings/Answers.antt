use Rattle.std.proofs.Common.{rules}
use Rattle.std.proofs.lemmas.List.Sorted.{IsNonDecreasingBy-from_sort_by_key}
use Rattle.sd_longest.specs.declared.openings.Opening.{Opening}
use Rattle.sd_longest.specs.Edges.{rows_of}
use Rattle.sd_longest.proofs.OpeningLemmas.{reordered}
use Rattle.sd_longest.proofs.openings.rising_openings.Goals as goal

pub returns-clause-all : goal.returns-clause-all
returns-clause-all c = reordered (rows_of c.args.rows.now) c.in_ok-found.found.items c.sort_by_key.new.self.items c.in_ok-sort_by_key.ensures.permutation c.in_ok-found.ensures

pub returns-clause-rising : goal.returns-clause-rising
returns-clause-rising c = IsNonDecreasingBy-from_sort_by_key (λ (o : Opening). o.edge.tick) _ c.in_ok-sort_by_key.ensures.sorted (λ a r q k. search rules)
