use Rattle.std.proofs.Common.{ℕ, ◌++◌, ◌∙◌, ◌+◌, replicate}
use Rattle.sd_world.specs.Plain.{told}
use Rattle.sd_shared_table.proofs.OpeningLemmas.{first_words}
use Rattle.sd_shared_table.proofs.words.words_of.Goals as goal

pub returns : goal.returns
returns c =
    let w = c.args.work.now in
    let hints = c.in_ok-push_hints.ensures in
    first_words w (told w c.args.world.now) hints.0 hints.1 c.push_zeros-2.new.words.items c.push_zeros.new.words.items c.push_places.new.words.items c.push_hints.new.words.items
    (c.in_ok-push_zeros.ensures ∙ (λ i. c.new-words.ensures.items i ++ replicate {A = ℕ} (c.home_count.ensures i + 1) 0))
    c.in_ok-push_places.ensures hints.2 c.in_ok-push_zeros-2.ensures
