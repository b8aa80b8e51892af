use Rattle.std.proofs.Common.{List, ℕ, sym, ap, string_bytes, ◌∙◌}
use Rattle.std.specs.Prelude.{codes}
use Rattle.sd_types.specs.Works.{same_bytes}
use Rattle.sd_find.proofs.QuietLemmas.{quiet_last}
use Rattle.sd_find.proofs.quiet.is_quiet.Goals as goal

pub returns-in-Some : goal.returns-in-Some
returns-in-Some c =
    c.is_word.ensures ∙ ap (λ (w : List ℕ). same_bytes w (codes "--quiet")) c.as_bytes.ensures.value
    ∙ sym (quiet_last string_bytes c.args.arguments.now c.in-Some.last.now c.in-Some.ensures.value)
