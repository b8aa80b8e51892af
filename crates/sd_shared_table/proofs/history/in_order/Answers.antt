use Rattle.std.proofs.Common.{◌≡◌, List, length, sym, subst, ◌∙◌}
use Rattle.std.proofs.lemmas.Result.{IfOk-weaker}
use Rattle.sd_types.specs.declared.events.Entry.{Entry}
use Rattle.sd_shared_table.specs.Logs.{AreLogsOf, IsNumbered}
use Rattle.sd_shared_table.proofs.history.in_order.Goals as goal

pub shortened-requires : goal.shortened-requires
shortened-requires c =
    let (h, are, many) = c.requires.logs in
    subst IsNumbered (sym (c.in_ok-entries.ensures h are many)) are.numbered

pub returns : goal.returns
returns c =
    IfOk-weaker c.shortened.result (λ l. l.items ≡ c.in_ok-entries.entries.items) (λ l. (h : List Entry) → AreLogsOf h c.args.logs.items → length h ≡ c.args.count → l.items ≡ h)
    (λ l e h are many. e ∙ c.in_ok-entries.ensures h are many) c.shortened.ensures
