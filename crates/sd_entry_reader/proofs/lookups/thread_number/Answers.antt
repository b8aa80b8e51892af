use Rattle.std.proofs.Common.{ℕ, List, length, unwrap_or, ap, ◌∙◌}
use Rattle.std.specs.List.{position}
use Rattle.sd_types.specs.declared.works.ThreadDecl.{ThreadDecl}
use Rattle.sd_types.specs.Works.{same_bytes}
use Rattle.sd_entry_reader.proofs.IndexLemmas.{number-named}
use Rattle.sd_entry_reader.proofs.lookups.thread_number.Goals as goal

pub returns-clause-value : goal.returns-clause-value
returns-clause-value c =
    let items = c.args.names.now.work.now.threads in
    let word = c.args.word.now in
    c.unwrap_or.ensures
    ∙ ap (λ (l : List (ThreadDecl)). unwrap_or c.find.result (length l)) c.items-many.ensures
    ∙ ap (λ o. unwrap_or o (length items)) c.find.ensures.value
    ∙ ap (λ (names : List (List ℕ)). unwrap_or (position (λ n. same_bytes n word) names) (length items)) c.args.names.now.threads_named
    ∙ number-named (λ (d : ThreadDecl). d.name.text.items) items word
