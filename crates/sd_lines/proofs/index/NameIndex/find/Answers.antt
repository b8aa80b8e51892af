use Rattle.std.proofs.Common.{sym, ap, ◌∙◌}
use Rattle.std.specs.List.{position}
use Rattle.sd_types.specs.Works.{same_bytes}
use Rattle.sd_lines.proofs.KeyLemmas.{found_there, none_long}
use Rattle.sd_lines.proofs.index.NameIndex.find.Goals as goal

pub returns-then-word-gt-MOST_NAME_BYTES-clause-value : goal.returns-then-word-gt-MOST_NAME_BYTES-clause-value
returns-then-word-gt-MOST_NAME_BYTES-clause-value c =
    sym (ap (position (λ name. same_bytes name c.args.word.now)) (sym c.self.view_is) ∙ none_long c.self.inside.keys.keys c.self.invariant c.args.word.now c.if-word-gt-MOST_NAME_BYTES.true)

pub returns-clause-value : goal.returns-clause-value
returns-clause-value c =
    c.get_index_of.ensures.index
    ∙ ap (λ k. position ((Rattle.sd_lines.specs.contracts.key.NameKeyPartialEq.TheImpl.eq-value).it k) c.self.inside.keys.keys) c.of.ensures
    ∙ found_there c.self.inside.keys.keys c.self.invariant c.args.word.now
    ∙ ap (position (λ name. same_bytes name c.args.word.now)) c.self.view_is
