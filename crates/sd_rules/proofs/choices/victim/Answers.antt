use Rattle.std.proofs.Common.{Some, refl, ap, arith}
use Rattle.sd_rules.proofs.ChoiceLemmas.{same_victim, busiest_is_victim, all_zero}
use Rattle.sd_rules.proofs.FunctionLemmas.{victim-none, victim-some, no_victim}
use Rattle.sd_rules.proofs.choices.victim.Goals as goal

pub returns-then-hints-index-eq0-clause-value : goal.returns-then-hints-index-eq0-clause-value
returns-then-hints-index-eq0-clause-value c =
    victim-none c.args.cpus.now c.args.hints.now c.requires
    (all_zero c.args.cpus.now c.args.hints.now c.busiest-index.result c.requires c.if-hints-index-eq0.true c.busiest-index.ensures.best)

pub returns-then-hints-index-eq0-clause-none : goal.returns-then-hints-index-eq0-clause-none
returns-then-hints-index-eq0-clause-none c =
    (λ n. all_zero c.args.cpus.now c.args.hints.now c.busiest-index.result c.requires c.if-hints-index-eq0.true c.busiest-index.ensures.best, λ all. refl)

pub returns-then-hints-index-eq0-clause-only : goal.returns-then-hints-index-eq0-clause-only
returns-then-hints-index-eq0-clause-only c = λ d v.
    absurd (no_victim c.args.cpus.now c.args.hints.now d
    (all_zero c.args.cpus.now c.args.hints.now c.busiest-index.result c.requires c.if-hints-index-eq0.true c.busiest-index.ensures.best) v)

pub returns-else-hints-index-eq0-clause-victim : goal.returns-else-hints-index-eq0-clause-victim
returns-else-hints-index-eq0-clause-victim c =
    busiest_is_victim c.args.cpus.now c.args.hints.now c.busiest-index.result c.requires c.busiest-index.ensures.within (omega arith) c.busiest-index.ensures.best

pub returns-else-hints-index-eq0-clause-value : goal.returns-else-hints-index-eq0-clause-value
returns-else-hints-index-eq0-clause-value c =
    victim-some c.args.cpus.now c.args.hints.now _ c.requires (returns-else-hints-index-eq0-clause-victim c)

pub returns-else-hints-index-eq0-clause-only : goal.returns-else-hints-index-eq0-clause-only
returns-else-hints-index-eq0-clause-only c = λ d v.
    ap Some (same_victim c.args.cpus.now c.args.hints.now _ d (returns-else-hints-index-eq0-clause-victim c) v)
