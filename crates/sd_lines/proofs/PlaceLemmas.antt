-- Where the first that passes a test stands in what is shown of a list.
use Rattle.std.proofs.Common.{◌≡◌, Bool, cond, ltb, List, length, map, Some, None, ap, ◌∙◌}
use Rattle.std.specs.List.{position, position_or_len}
use Rattle.std.proofs.lemmas.List.{length-map}
use Rattle.sd_basics.proofs.Lists.{place-map}

pub position-map : {A B : Type 0} (f : A → B) (p : B → Bool) (xs : List A) → position p (map f xs) ≡ position (λ x. p (f x)) xs
position-map f p xs =
    ap (λ n. cond (ltb n (length (map f xs))) (Some n) None) (place-map p f xs)
    ∙ ap (λ n. cond (ltb (position_or_len (λ x. p (f x)) xs) n) (Some (position_or_len (λ x. p (f x)) xs)) None) (length-map xs f)
