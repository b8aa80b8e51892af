use Rattle.std.proofs.Common.{◌≡◌, ℕ, ◌+◌, ◌<◌, ◌≤◌, List, length, take, get_or, ap, arith}
use Rattle.std.specs.List.{flat_map}
use Rattle.std.proofs.lemmas.List.Folds.{length-flat_map-take}
use Rattle.sd_answers.proofs.writing.joined.Goals as goal

-- there is room for one part more
room : {X : Type 0} (f : X → List ℕ) (xs : List X) (line : List ℕ) (i : ℕ) (d : X) → i < length xs → length (flat_map f xs) ≤ 128
    → line ≡ flat_map f (take i xs) → length line + length (f (get_or xs i d)) ≤ 128
room f xs line i d inside short is = omega (arith, length-flat_map-take f xs i d inside, ap length is)

pub unwrap-requires : goal.unwrap-requires
unwrap-requires c =
    c.try_extend_from_slice.ensures.variant.1
    (room (λ p. p.now) c.args.parts.now c.loop-part.line.items c.loop-part.part-index _ c.loop-part-test.true c.requires c.loop-part.invariant)
