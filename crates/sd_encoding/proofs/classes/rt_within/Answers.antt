use Rattle.std.proofs.Common.{◌∙◌, sym, arith}
use Rattle.sd_encoding.proofs.QuantumLemmas.{quantum_allowed}
use Rattle.sd_encoding.proofs.classes.rt_within.Goals as goal

pub invariant_of-result : goal.invariant_of-result
invariant_of-result c =
    let allowed = quantum_allowed c.args.quantum c.args.left (sym c.is_quantum.ensures ∙ c.if-is_quantum.true) in
    record { pri = omega arith; quantum = allowed.0; left = allowed.1 }
