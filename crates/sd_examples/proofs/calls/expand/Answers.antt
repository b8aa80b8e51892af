use Rattle.std.proofs.Common.{[], map, ap, ◌∙◌}
use Rattle.std.specs.Prelude.{string_bytes}
use Rattle.sd_task_program.specs.Promises.{ExpandsAsPromised}
use Rattle.sd_examples.proofs.CallLemmas.{writes-of}
use Rattle.sd_examples.proofs.calls.expand.Goals as goal

pub returns : goal.returns
returns c =
    let called = c.expand_set-status in
    writes-of ExpandsAsPromised (map string_bytes c.deref.result.now) [] c.args.set.now
    c.in_ok-input.input called.new.input c.in_ok-out.out called.new.out c.in_ok-err.err called.new.err called.result
    (ap (map string_bytes) (c.deref.ensures.value ∙ c.new-arguments.ensures.items)) c.in_ok-input.ensures c.in_ok-out.ensures called.ensures.promises
