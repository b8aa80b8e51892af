-- The last argument, and the arguments without it.
use Rattle.std.proofs.Common.{◌≡◌, ℕ, ◌-◌, List, Bool, true, Some, length, map, take, sym, ap, ◌∙◌}
use Rattle.std.specs.Prelude.{codes, slice_get, option_map, if◌then◌else◌}
use Rattle.std.proofs.lemmas.List.{length-map, take-map}
use Rattle.std.proofs.lemmas.Option.{slice_get-map}
use Rattle.sd_types.specs.Works.{same_bytes}
use Rattle.sd_find.specs.Asked.{asked, is_quiet, is_quiet_word}

module _ {X : Type 0} (f : X → List ℕ) (xs : List X) where
  last_of : slice_get (map f xs) (length (map f xs) - 1) ≡ option_map f (slice_get xs (length xs - 1))
  last_of = ap (λ (n : ℕ). slice_get (map f xs) (n - 1)) (length-map xs f) ∙ slice_get-map f xs (length xs - 1)

  pub quiet_last : (x : X) → Some x ≡ slice_get xs (length xs - 1) → is_quiet (map f xs) ≡ same_bytes (f x) (codes "--quiet")
  quiet_last x is = ap is_quiet_word (last_of ∙ ap (option_map f) (sym is))

  pub asked_quiet : is_quiet (map f xs) ≡ true → map f (take (length xs - 1) xs) ≡ asked (map f xs)
  asked_quiet quiet =
      sym (ap (λ (b : Bool). if b then take (length (map f xs) - 1) (map f xs) else map f xs) quiet ∙ ap (λ (n : ℕ). take (n - 1) (map f xs)) (length-map xs f) ∙ take-map f (length xs - 1) xs)
