use Rattle.std.proofs.Common.{◌≡◌, ◌<◌, ℕ, true, Option, IfSome, sym, ap, ◌∙◌, subst, nat_lt, arith}
use Rattle.std.specs.List.{list_all}
use Rattle.sd_types.specs.Priorities.{greatest_willed}
use Rattle.sd_types.specs.Willed.{Numbers, eff_with}
use Rattle.sd_types.proofs.WilledLemmas.{with-one, with-none, below-without}
use Rattle.sd_types.proofs.bodies.ThreadBody.effective_with.Goals as goal

pub returns-in-Some-clause-value : goal.returns-in-Some-clause-value
returns-in-Some-clause-value c =
    let greatest = c.greatest_willed-greatest.ensures.value ∙ ap (λ (ws : Numbers). greatest_willed c.base.result ws) c.as_slice.ensures.value in
    let one = with-one c.args.self.now c.args.l c.base.result c.greatest_willed-greatest.result c.in-Some.pri c.without_number-rest.result.items c.requires c.base.ensures.value c.without_number-rest.ensures greatest in
    c.max.ensures ∙ one ∙ ap (λ (o : Option ℕ). eff_with c.args.l o c.args.self.now) (sym c.in-Some.is)

pub returns-in-None-clause-value : goal.returns-in-None-clause-value
returns-in-None-clause-value c =
    let greatest = c.greatest_willed-greatest.ensures.value ∙ ap (λ (ws : Numbers). greatest_willed c.base.result ws) c.as_slice.ensures.value in
    let one = with-none c.args.self.now c.args.l c.base.result c.greatest_willed-greatest.result c.without_number-rest.result.items c.base.ensures.value c.without_number-rest.ensures greatest in
    one ∙ ap (λ (o : Option ℕ). eff_with c.args.l o c.args.self.now) (sym c.in-None.is)

pub returns-in-Some-clause-below : goal.returns-in-Some-clause-below
returns-in-Some-clause-below c = λ h.
    let low : c.in-Some.pri < 160 = subst (λ (o : Option ℕ). IfSome o (λ n. n < 160)) c.in-Some.is h in
    let rest = below-without c.args.self.now c.args.l c.without_number-rest.result.items c.requires c.without_number-rest.ensures in
    let all = subst (λ (ws : Numbers). list_all (λ w. nat_lt w.1 160) ws ≡ true) (sym c.as_slice.ensures.value) rest in
    let greatest = c.greatest_willed-greatest.ensures.below c.base.ensures.below all in
    omega arith

pub returns-in-None-clause-below : goal.returns-in-None-clause-below
returns-in-None-clause-below c = λ h.
    let rest = below-without c.args.self.now c.args.l c.without_number-rest.result.items c.requires c.without_number-rest.ensures in
    let all = subst (λ (ws : Numbers). list_all (λ w. nat_lt w.1 160) ws ≡ true) (sym c.as_slice.ensures.value) rest in
    c.greatest_willed-greatest.ensures.below c.base.ensures.below all
