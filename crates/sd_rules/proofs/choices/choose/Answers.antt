use Rattle.std.proofs.Common.{◌≡◌, ◌&&◌, false, sym, ◌∙◌}
use Rattle.std.proofs.lemmas.Bool.{and_left, and_right}
use Rattle.sd_rules.specs.Choices.{is_among}
use Rattle.sd_rules.proofs.ChoiceLemmas.{same_choice, best_by_hints, chosen_by_hints, Contains-from_among}
use Rattle.sd_rules.proofs.FunctionLemmas.{chosen_is}
use Rattle.sd_rules.proofs.choices.choose.Goals as goal
use Rattle.sd_rules.proofs.choices.choose.Goals.{else-warm-via-then-warm+else-is_among, else-warm-via-else-warm}

pub returns-then-is_among-clause-among : goal.returns-then-is_among-clause-among
returns-then-is_among-clause-among c = Contains-from_among c.args.last c.args.cpus.now (sym c.is_among.ensures ∙ c.if-is_among.true)

pub returns-clause-chosen : goal.returns-clause-chosen
returns-clause-chosen c =
    let away : (c.args.warm && is_among c.args.last c.args.cpus.now) ≡ false = elim c.else-warm.branch [
      | else-warm-via-then-warm+else-is_among w ↦ and_right c.args.warm _ (sym w.is_among.ensures ∙ w.if-is_among.false)
      | else-warm-via-else-warm w ↦ and_left c.args.warm _ w.if-warm.false
    ] in
    chosen_by_hints _ c.args.cpus.now c.args.hints.now c.args.last _ away
    (best_by_hints c.args.cpus.now c.args.hints.now c.args.last c.least_busy.result c.requires.hints c.least_busy.ensures.within c.least_busy.ensures.best)

pub returns-clause-only : goal.returns-clause-only
returns-clause-only c = λ d chosen.
    same_choice c.args.cpus.now c.args.hints.now c.args.last c.args.warm _ d (returns-clause-chosen c) chosen

pub returns-clause-value : goal.returns-clause-value
returns-clause-value c =
    returns-clause-only c _ (chosen_is c.args.cpus.now c.args.hints.now c.args.last c.args.warm c.requires.some c.requires.hints)
