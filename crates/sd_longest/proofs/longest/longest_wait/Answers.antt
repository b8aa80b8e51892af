use Rattle.std.proofs.Common.{List, None, Option, Some, subst, sym, arith}
use Rattle.sd_longest.specs.declared.labels.Label.{Label}
use Rattle.sd_longest.specs.Edges.{rows_of}
use Rattle.sd_longest.specs.Labels.{IsLabelling}
use Rattle.sd_longest.proofs.CandidateLemmas.{no_longer}
use Rattle.sd_longest.proofs.longest.longest_wait.Goals as goal

pub returns-in-Some : goal.returns-in-Some
returns-in-Some c =
    let rows = rows_of c.args.rows.now in
    let labels = c.deref.result.now in
    let is = subst (λ (ls : List (Option Label)). IsLabelling rows ls) (sym c.deref.ensures.value) c.in_ok-labels.ensures in
    let ticks = c.in_ok-wait-in-Some.ensures.ticks in (
      c.in_ok-wait-in-Some.ensures.found,
      λ i a bs e w. let le = no_longer rows labels (Some c.in-Some.end) is c.in-Some.ensures i a bs e w in omega (arith, le, ticks),
    )

pub returns : goal.returns
returns c = λ i a bs e w.
    let rows = rows_of c.args.rows.now in
    let is = subst (λ (ls : List (Option Label)). IsLabelling rows ls) (sym c.deref.ensures.value) c.in_ok-labels.ensures in
    no_longer rows c.deref.result.now None is c.in-None.ensures i a bs e w
