use Rattle.std.proofs.Common.{ℕ, List, length, unwrap_or, ap, ◌∙◌}
use Rattle.std.specs.List.{position}
use Rattle.sd_types.specs.declared.names.Name.{Name}
use Rattle.sd_types.specs.declared.works.ChanKind.{ChanKind}
use Rattle.sd_types.specs.Works.{same_bytes}
use Rattle.sd_entry_reader.proofs.IndexLemmas.{number-named}
use Rattle.sd_entry_reader.proofs.lookups.chan_number.Goals as goal

pub returns-clause-value : goal.returns-clause-value
returns-clause-value c =
    let items = c.args.names.now.work.now.chans in
    let word = c.args.word.now in
    c.unwrap_or.ensures
    ∙ ap (λ (l : List (Name × ChanKind)). unwrap_or c.find.result (length l)) c.items-many.ensures
    ∙ ap (λ o. unwrap_or o (length items)) c.find.ensures.value
    ∙ ap (λ (names : List (List ℕ)). unwrap_or (position (λ n. same_bytes n word) names) (length items)) c.args.names.now.chans_named
    ∙ number-named (λ (d : Name × ChanKind). d.0.text.items) items word
