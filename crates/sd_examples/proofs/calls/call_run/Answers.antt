use Rattle.std.proofs.Common.{◌≢◌, ℕ, List, [], ◌∷◌, Some, codes, map, sym, ap, subst, ◌∙◌}
use Rattle.std.specs.Prelude.{string_bytes}
use Rattle.sd_program.specs.declared.forms.Command.TheVariants.{Run}
use Rattle.sd_program.specs.declared.forms.Form.TheVariants.{Journal}
use Rattle.sd_program.specs.declared.forms.Mode.TheVariants.{Threads}
use Rattle.sd_program.specs.Forms.{command_of}
use Rattle.sd_program.specs.Headline.{KeepsPromises}
use Rattle.sd_program.proofs.TopLemmas.{one_word_alone}
use Rattle.sd_examples.proofs.CallLemmas.{writes-of}
use Rattle.sd_examples.proofs.calls.call_run.Goals as goal

pub serial-status-requires : goal.serial-status-requires
serial-status-requires c =
    let same = ap (map string_bytes) c.deref.ensures.value ∙ c.in_ok-arguments.ensures in
    record { alone = subst (λ (words : List (List ℕ)). command_of words ≢ Some (Run (Journal Threads))) (sym same) (one_word_alone (codes "run")) }

pub returns : goal.returns
returns c =
    let called = c.serial-status in
    writes-of KeepsPromises (map string_bytes c.deref.result.now) (codes "run" ∷ []) c.args.workload.now
    c.in_ok-input.input called.new.input c.in_ok-out.out called.new.out c.in_ok-err.err called.new.err called.result
    (ap (map string_bytes) c.deref.ensures.value ∙ c.in_ok-arguments.ensures) c.in_ok-input.ensures c.in_ok-out.ensures called.ensures.promises
