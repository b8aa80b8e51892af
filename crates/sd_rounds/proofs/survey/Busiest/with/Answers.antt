use Rattle.std.proofs.Common.{◌≡◌, ◌⊎◌, ◌<◌, sym, ◌∙◌, inl, inr, arith}
use Rattle.sd_rounds.proofs.SurveyLemmas.{busier_comes, busier_kept, no_more, nobody_first, one_more}
use Rattle.sd_rounds.proofs.survey.Busiest.with.Goals.{then-number-eq0-via-then-number-eq0, then-number-eq0-via-else-number-eq0+then-number-self}
use Rattle.sd_rounds.proofs.survey.Busiest.with.Goals as goal

pub returns-then-number-eq0 : goal.returns-then-number-eq0
returns-then-number-eq0 c = λ cpus numbers long is.
    let less : (c.args.number ≡ 0) ⊎ (c.args.number < c.args.self.number) = elim c.then-number-eq0.branch [
      | then-number-eq0-via-then-number-eq0 w ↦ inl w.if-number-eq0.true
      | then-number-eq0-via-else-number-eq0+then-number-self w ↦ inr w.if-number-self.true
    ] in
    let kept = no_more cpus numbers c.args.d c.args.number long c.args.self.number (sym is.number) less in
    record { cpu = is.cpu ∙ kept.0; number = kept.1 }

pub returns-in-Some : goal.returns-in-Some
returns-in-Some c = λ cpus numbers long is.
    let some : 0 < c.args.number = omega (arith, c.if-number-eq0.false) in
    let kept = busier_kept cpus numbers c.args.d c.args.number long c.in-Some.c c.args.self.number (sym is.cpu ∙ c.in-Some.is) (sym is.number) some (sym c.is_busier.ensures ∙ c.if-not-is_busier.true) in
    record { cpu = c.in-Some.is ∙ kept.0; number = kept.1 }

pub returns-in_default : goal.returns-in_default
returns-in_default c = λ cpus numbers long is.
    let some : 0 < c.args.number = omega (arith, c.if-number-eq0.false) in
    let first = busier_comes cpus numbers c.args.d c.args.number long c.in-Some.c c.args.self.number (sym is.cpu ∙ c.in-Some.is) (sym is.number) some (sym c.is_busier.ensures ∙ c.if-not-is_busier.false) in
    record { cpu = first.0; number = first.1 }

pub returns-in_default-2 : goal.returns-in_default-2
returns-in_default-2 c = λ cpus numbers long is.
    let zero = nobody_first cpus numbers (sym is.cpu ∙ c.in_default.is) in
    let first = one_more cpus numbers c.args.d c.args.number long (omega (arith, zero, c.if-number-eq0.false)) in
    record { cpu = first.0; number = first.1 }
