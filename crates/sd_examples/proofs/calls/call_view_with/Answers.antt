use Rattle.std.proofs.Common.{[], ◌∷◌, map, ap, ◌∙◌}
use Rattle.std.specs.Prelude.{string_bytes}
use Rattle.sd_viewer.specs.Promises.{ShowsAsPromised}
use Rattle.sd_examples.proofs.CallLemmas.{writes-of}
use Rattle.sd_examples.proofs.calls.call_view_with.Goals as goal

pub returns : goal.returns
returns c =
    let called = c.view-status in
    writes-of ShowsAsPromised (map string_bytes c.deref.result.now) (c.args.word.now ∷ c.args.option.now ∷ []) c.args.certificate.now
    c.in_ok-input.input called.new.input c.in_ok-out.out called.new.out c.in_ok-err.err called.new.err called.result
    (ap (map string_bytes) c.deref.ensures.value ∙ c.in_ok-arguments.ensures) c.in_ok-input.ensures c.in_ok-out.ensures called.ensures.promises
