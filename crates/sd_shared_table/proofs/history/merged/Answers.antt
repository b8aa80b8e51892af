use Rattle.std.proofs.Common.{◌≡◌, length, sym, ◌∙◌, arith}
use Rattle.std.specs.Prelude.{vec_len}
use Rattle.sd_shared_table.proofs.LogLemmas.{fills_first, fills_last, fills_next, log_fits, log_inside}
use Rattle.sd_shared_table.proofs.history.merged.Goals as goal

pub logs-init : goal.logs-init
logs-init c = λ h are many. fills_first h c.args.logs.items c.in_ok-entries.entries.items are (c.in_ok-entries.ensures ∙ sym many)

pub put-requires : goal.put-requires
put-requires c =
    let (h, are, many) = c.requires.logs in
    record { inside = log_fits h c.logs.logs.items c.pop.new.self.items c.in-Some.log c.logs.entries.items (c.logs.invariant h are many) c.in-Some.ensures.items are.numbered }

pub logs-preserved : goal.logs-preserved
logs-preserved c = λ h are many.
    let f = c.logs.invariant h are many in
    fills_next h c.logs.logs.items c.pop.new.self.items c.in-Some.log c.logs.entries.items f c.in-Some.ensures.items are.numbered c.put.new.entries.items c.put.ensures.many
    (c.put.ensures.put h are.numbered (log_inside h c.logs.logs.items c.pop.new.self.items c.in-Some.log c.logs.entries.items f c.in-Some.ensures.items are.numbered))

pub returns : goal.returns
returns c = λ h are many.
    let long : vec_len c.logs.logs ≡ length c.logs.logs.items = grind arith in
    let none = c.in_default.ensures.cases.0 in
    fills_last h c.logs.logs.items c.logs.entries.items (c.logs.invariant h are many) (omega (arith, long, none))
