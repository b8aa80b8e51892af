-- A quantum that passes the test is one that a thread may have.
use Rattle.std.specs.Prelude.{◌≡◌, ℕ, true, ◌&&◌, nat_le}
use Rattle.std.proofs.lemmas.Bool.{leb-true, eqb-true, and_parts}
use Rattle.sd_types.specs.ClassNumbers.{IsQuantum, IsLeft}
use Rattle.sd_types.specs.declared.classes.Quantum.{Quantum}
use Rattle.sd_types.specs.declared.classes.Quantum.TheVariants.{Def, Inf, Ticks}
use Rattle.sd_encoding.specs.Ranges.{is_quantum}

pub quantum_allowed : (x : Quantum) (left : ℕ) → is_quantum x left ≡ true → IsQuantum x × IsLeft x left
unfolding is_quantum
quantum_allowed Def left e = (tt, leb-true 1 left e)
quantum_allowed Inf left e = (tt, eqb-true left 0 e)
quantum_allowed (Ticks n) left e =
    let p = and_parts (nat_le 1 n) (nat_le n 1000000 && nat_le 1 left) e in
    let q = and_parts (nat_le n 1000000) (nat_le 1 left) p.1 in
    ((leb-true 1 n p.0, leb-true n 1000000 q.0), leb-true 1 left q.1)
