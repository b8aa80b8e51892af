-- What a test of sameness tells of a processor's number, and of a text with itself.
use Rattle.std.proofs.Common.{◌≡◌, ℕ, true, List, [], ◌∷◌, refl, ap}
use Rattle.std.proofs.lemmas.Bool.{eq-eqb}
use Rattle.sd_types.specs.declared.numbers.CpuId.{CpuId}
use Rattle.sd_types.specs.Works.{same_bytes}

pub same_cpu : (c d : CpuId) → c.0 ≡ d.0 → c ≡ d
same_cpu c d e = let cpu : ℕ → CpuId = λ n. record { 0 = n } in ap cpu e

pub bytes_same_itself : (bs : List ℕ) → same_bytes bs bs ≡ true
bytes_same_itself [] = refl
bytes_same_itself (b ∷ bs) = rw (eq-eqb b b refl) (bytes_same_itself bs)
