-- A state is read again from its bytes.
use Rattle.std.proofs.Common.{◌≡◌, ◌^◌, ◌<◌, [], Some, refl, sym, ap, ◌∙◌}
use Rattle.std.proofs.lemmas.List.{append-nil}
use Rattle.std.proofs.lemmas.List.Elements.{recursion_from_All}
use Rattle.sd_encoding.specs.Numbers.{vector}
use Rattle.sd_encoding.specs.Reading.{state_at}
use Rattle.sd_encoding.specs.Again.{state_again}
use Rattle.sd_encoding.specs.Bytes.{bytes_of, numbers_in}
use Rattle.sd_encoding.specs.Encoding.{encoded, state_in, StatesAreReadAgain, EncodingsDiffer}
use Rattle.sd_encoding.proofs.ByteLemmas.{numbers_again}

pub read_again : StatesAreReadAgain
unfolding encoded state_in
read_again s held =
    let numbers : numbers_in (bytes_of (vector s)) ≡ Some (vector s) = numbers_again (vector s) (recursion_from_All (λ n. n < 2 ^ 64) (vector s) held.numbers) in
    let whole : state_at (vector s) ≡ Some (s, []) = ap state_at (sym (append-nil (vector s))) ∙ state_again s [] held.parts in
    rw (numbers, whole) refl

pub differ : EncodingsDiffer
differ x s held other e =
    let same : Some x ≡ Some s = sym (read_again x held) ∙ ap state_in e ∙ read_again s other in
    cc
