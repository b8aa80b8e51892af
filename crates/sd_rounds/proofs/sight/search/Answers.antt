use Rattle.std.proofs.Common.{◌≡◌, ◌∙◌, Some, length, true, refl, sym, ap, subst}
use Rattle.std.specs.Option.{option_copied}
use Rattle.sd_basics.proofs.Lists.{none_of}
use Rattle.sd_rounds.specs.Searched.{all_show_zero}
use Rattle.sd_rounds.proofs.sight.search.Goals as goal

pub returns-else-not-have_none_to_steal : goal.returns-else-not-have_none_to_steal
returns-else-not-have_none_to_steal c =
    let urgent = none_of c.first.result (sym c.is_some.ensures ∙ c.if-is_some.false) in
    let opened = c.open_cpus-open.ensures.value in (
      refl,
      record {
        home = c.in-Ok.urgent.now;
        there = c.in-Ok.ensures.1 ∙ ap Some (sym c.in-Ok.ensures.2);
        urgent = sym c.first.ensures ∙ ap option_copied urgent;
        zero = λ n s sh. subst (λ cs. all_show_zero s cs ≡ true) opened (c.have_none_to_steal.ensures c.if-not-have_none_to_steal.false n s sh);
        count = ap length opened;
        most = c.open_cpus-open.ensures.fits;
      },
    )
