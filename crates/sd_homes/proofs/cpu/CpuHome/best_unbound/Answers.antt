use Rattle.std.proofs.Common.{not, slice_get, sym, ap, ◌∙◌}
use Rattle.std.specs.Option.{is_none}
use Rattle.sd_boxq.specs.Order.{find_first}
use Rattle.sd_record.specs.declared.record.Kept.{Kept}
use Rattle.sd_homes.specs.Standing.{is_unbound}
use Rattle.sd_homes.specs.Homes.{OfCpu}
use Rattle.sd_homes.proofs.FirstLemmas.{none_first, some_first}
use Rattle.sd_homes.proofs.cpu.CpuHome.best_unbound.Goals as goal

pub returns-in-None : goal.returns-in-None
returns-in-None c =
    none_first is_unbound c.self.inside.queue (c.in-None.ensures.value ∙ ap (λ xs. slice_get xs 0) c.threads.ensures)
    ∙ ap (λ (h : OfCpu). find_first is_unbound h.queue) c.self.view_is

pub returns-then-is_none : goal.returns-then-is_none
returns-then-is_none c =
    some_first is_unbound c.in-Some.best.now c.self.inside.queue (c.in-Some.ensures.value ∙ ap (λ xs. slice_get xs 0) c.threads.ensures)
    (ap is_unbound (sym c.best-in-Some.view_is) ∙ (ap (λ (k : Kept). is_none k.body.bound) (sym c.deref.ensures) ∙ ap not c.is_none.ensures ∙ ap (λ b. not (not b)) c.if-is_none.true))
    ∙ ap (λ (h : OfCpu). find_first is_unbound h.queue) c.self.view_is
