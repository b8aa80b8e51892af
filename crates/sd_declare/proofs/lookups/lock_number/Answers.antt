use Rattle.std.proofs.Common.{◌≡◌, ℕ, List, length, vec_len, unwrap_or, ap, ◌∙◌, arith}
use Rattle.std.specs.List.{position}
use Rattle.sd_types.specs.Works.{same_bytes}
use Rattle.sd_types.specs.declared.works.LockKind.{LockKind}
use Rattle.sd_lines.specs.Words.{Word}
use Rattle.sd_lines.specs.Said.{word_of}
use Rattle.sd_declare.specs.Declarations.{lock_number}
use Rattle.sd_declare.specs.Kept.{lock_kept}
use Rattle.sd_declare.proofs.PlaceLemmas.{number-named, number-within}
use Rattle.sd_declare.proofs.lookups.lock_number.Goals as goal

pub returns : goal.returns
unfolding lock_number
returns c =
    let items = c.args.d.now.locks.items in
    let word = word_of c.args.name.now in
    let many : vec_len c.args.d.now.locks ≡ length items = grind arith in
    let sought : List ℕ → List Word → ℕ = λ w names. unwrap_or (position (λ n. same_bytes n w) names) (length items) in
    let found = c.unwrap_or.ensures
    ∙ ap (λ n. unwrap_or c.find.result n) (c.len.ensures ∙ many)
    ∙ ap (λ o. unwrap_or o (length items)) c.find.ensures.value
    ∙ ap (λ w. sought w c.args.d.now.lock_names) c.bytes.ensures
    ∙ ap (sought word) c.args.d.now.locks_named in
    let within = number-within lock_kept (λ (x : Word × LockKind). x.0) items word in
    record { value = found ∙ number-named lock_kept (λ (x : Word × LockKind). x.0) items word; bound = omega (arith, found, within) }
