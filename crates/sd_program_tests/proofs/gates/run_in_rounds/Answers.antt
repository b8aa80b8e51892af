use Rattle.std.proofs.Common.{◌≢◌, ℕ, List, Some, codes, map, sym, ap, subst, ◌∙◌}
use Rattle.std.specs.Prelude.{string_bytes}
use Rattle.sd_program.specs.declared.forms.Command.TheVariants.{Run}
use Rattle.sd_program.specs.declared.forms.Form.TheVariants.{Journal}
use Rattle.sd_program.specs.declared.forms.Mode.TheVariants.{Threads}
use Rattle.sd_program.specs.Forms.{command_of}
use Rattle.sd_program.proofs.TopLemmas.{one_word_alone}
use Rattle.sd_program_tests.proofs.gates.run_in_rounds.Goals as goal

pub serial-requires : goal.serial-requires
serial-requires c =
    let same = ap (map string_bytes) c.deref.ensures.value ∙ c.in_ok-arguments.ensures in
    record { alone = subst (λ (words : List (List ℕ)). command_of words ≢ Some (Run (Journal Threads))) (sym same) (one_word_alone (codes "run")) }
