use Rattle.std.proofs.Common.{◌≡◌, length, [], sym, ap, ◌∙◌, rules}
use Rattle.std.proofs.lemmas.List.{nil_from_length}
use Rattle.sd_stretches.specs.SpinPieces.{cut_all, pieces, spells_on}
use Rattle.sd_stretches.proofs.SpinLemmas.{cut_nowhere}
use Rattle.sd_stretches.proofs.spin_pieces.pieces.Goals as goal

pub returns-then-is_empty : goal.returns-then-is_empty
unfolding pieces
returns-then-is_empty c =
    let whole = c.in_ok-whole.whole.items in
    let spells = c.in_ok-spells.spells.items in
    let long : length spells ≡ 0 = search rules in
    let none : spells ≡ [] = nil_from_length spells long in
    sym (cut_nowhere whole) ∙ ap (cut_all whole) (sym none ∙ c.in_ok-spells.ensures) ∙ ap (λ xs. cut_all xs (spells_on c.args.track c.args.history.now.happenings.items)) c.in_ok-whole.ensures
