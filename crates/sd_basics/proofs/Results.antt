-- What follows from what was done, or refused.
use Rattle.std.specs.Prelude.{Result, Ok, Err, IfOk, IfErr}

pub done : {A L : Type 0} (r : Result A L) (P Q : Type 0) → (P → Q) → IfOk r (λ _. P) → IfOk r (λ _. Q)
done (Ok a) P Q f is = f is
done (Err q) P Q f is = tt

pub refused : {A L : Type 0} (r : Result A L) (P Q : Type 0) → (P → Q) → IfErr r (λ _. P) → IfErr r (λ _. Q)
refused (Ok a) P Q f is = tt
refused (Err q) P Q f is = f is
