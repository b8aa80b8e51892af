use Rattle.std.proofs.Common.{◌≤◌, ℕ, ◌<◌, length, List, ap, ◌∙◌, arith}
use Rattle.sd_entries.specs.Reading.{at}
use Rattle.sd_entry_reader.proofs.PlaceLemmas.{word_none, word_there}
use Rattle.sd_entry_reader.proofs.cutting.Words.word.Goals as goal

pub returns-then-i-self : goal.returns-then-i-self
returns-then-i-self c =
    let line = c.self.inside.line.now in
    let places = c.self.inside.places.now in
    let are = c.self.invariant in
    let inside : c.args.i < length places = omega (arith, c.if-i-self.true) in
    word_there line places c.args.i are (0, 0) c.requires inside
    ∙ ap (λ (ws : List (List ℕ)). at ws c.args.i) c.self.view_is

pub returns-else-i-self : goal.returns-else-i-self
returns-else-i-self c =
    let line = c.self.inside.line.now in
    let places = c.self.inside.places.now in
    let are = c.self.invariant in
    let past : length places ≤ c.args.i = omega (arith, c.if-i-self.false) in
    word_none line places c.args.i are c.requires past
    ∙ ap (λ (ws : List (List ℕ)). at ws c.args.i) c.self.view_is
