use Rattle.std.proofs.Common.{sym, ap, ◌∙◌}
use Rattle.std.specs.Prelude.{codes}
use Rattle.sd_types.specs.Works.{same_bytes}
use Rattle.sd_entry_reader.proofs.IdleLemmas.{idle_first}
use Rattle.sd_entry_reader.proofs.events.event_of.Goals as goal

pub returns-then-is_word : goal.returns-then-is_word
returns-then-is_word c =
    idle_first c.args.names.now.work.now c.args.words.now
    (sym (ap (λ w. same_bytes w (codes "idle")) c.word-k.ensures) ∙ sym c.is_word.ensures ∙ c.if-is_word.true)
