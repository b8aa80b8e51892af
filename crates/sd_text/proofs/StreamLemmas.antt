-- What several reads or writes, one after the other, do to the bytes that are told.
use Rattle.std.proofs.Common.{◌≡◌, ℕ, ◌+◌, ◌-◌, ◌≤◌, Option, Some, None, Err, List, ◌++◌, length, take, drop, subst, sym, refl, ap, ◌∙◌, arith, length-append, length-take-le}
use Rattle.std.proofs.Math.Seq.{take-add}
use Rattle.std.proofs.lemmas.List.{take_rest}
use Rattle.std.proofs.KnownBytes.{Appends-trans, Consumes-trans}
use Rattle.std.specs.Io.KnownBytes.{Appends, Consumes}
use Rattle.sd_text.specs.declared.read.ReadAllFault.{ReadAllFault}
use Rattle.sd_text.specs.declared.read.ReadAllFault.TheVariants.{TooLarge}
use Rattle.sd_text.specs.Reading.{TakesUpTo}

-- a prefix of a piece and then a prefix of its rest are a longer prefix
pub Appends-more : (a b c : Option (List ℕ)) (piece : List ℕ) (at n : ℕ)
    → Appends a b (take at piece) → Appends b c (take n (take (length piece - at) (drop at piece)))
    → Appends a c (take (at + n) piece)
Appends-more a b c piece at n first second =
    let rest = subst (λ p. Appends b c (take n p)) (take_rest piece at) second in
    subst (Appends a c) (sym (take-add at n piece)) (Appends-trans a b c _ _ first rest)

-- a prefix of a slice has the length that was asked for
pub length-prefix : (xs buffer : List ℕ) (n : ℕ) → n ≤ length buffer → length (xs ++ take n buffer) ≡ length xs + n
length-prefix xs buffer n within = length-append xs (take n buffer) ∙ ap (λ k. length xs + k) (length-take-le n buffer within)

-- a read that went past the limit, by one byte
pub TakesUpTo-too_large : (most : ℕ) (a b c : Option (List ℕ)) (xs buffer : List ℕ) (n : ℕ)
    → Consumes a b xs → Consumes b c (take n buffer) → n ≤ length buffer → length xs + n ≡ most + 1
    → TakesUpTo most a c (Err TooLarge)
TakesUpTo-too_large most a b c xs buffer n first second within all = record {
  bytes = xs ++ take n buffer;
  consumed = Consumes-trans a b c _ _ first second;
  bound = omega (arith, length-prefix xs buffer n within);
  too_large = (λ _. length-prefix xs buffer n within ∙ all, λ _. refl);
  all = tt;
}

-- a read within the limit, whose bytes found no memory, and what was read past it
pub TakesUpTo-past : (most left : ℕ) (a b c d : Option (List ℕ)) (xs buffer : List ℕ) (n : ℕ) (fault : ReadAllFault)
    → Consumes a b xs → Consumes b c (take n buffer) → n ≤ length buffer → length xs + n + left ≡ most
    → TakesUpTo left c d (Err fault) → TakesUpTo most a d (Err fault)
TakesUpTo-past most left a b c d xs buffer n fault first second within all past =
    let counted : length ((xs ++ take n buffer) ++ past.bytes) ≡ length xs + n + length past.bytes =
    length-append (xs ++ take n buffer) past.bytes ∙ ap (λ k. k + length past.bytes) (length-prefix xs buffer n within) in
    record {
      bytes = (xs ++ take n buffer) ++ past.bytes;
      consumed = Consumes-trans a c d _ _ (Consumes-trans a b c _ _ first second) past.consumed;
      bound = let b = past.bound in omega (arith, counted, all);
      too_large = (λ e. let m = past.too_large.0 e in omega (arith, counted, all), λ e. past.too_large.1 (omega (arith, counted, all)));
      all = tt;
    }

-- ---- for a sink and a source that tell their bytes

pub Appends-told : (old new : Option (List ℕ)) (held bytes : List ℕ) → Appends old new bytes → old ≡ Some held → new ≡ Some (held ++ bytes)
Appends-told None new held bytes h e = absurd (cc)
Appends-told (Some xs) None held bytes h e = absurd h
Appends-told (Some xs) (Some ys) held bytes h e = let f : xs ≡ held = cc in ap Some (h ∙ ap (λ l. l ++ bytes) f)
