-- The classes and the priorities of declared threads.
use Rattle.std.proofs.Common.{◌≡◌, ℕ, true, leb, arith}
use Rattle.std.proofs.lemmas.Bool.Decides.{nat_tests}
use Rattle.sd_types.specs.declared.classes.ClassParms.{ClassParms}
use Rattle.sd_types.specs.declared.classes.ClassParms.TheVariants.{Ts, Fx, Sys, Rt}
use Rattle.sd_types.specs.declared.works.Work.{Work}
use Rattle.sd_types.specs.Priorities.{base_of}
use Rattle.sd_types.specs.Works.{class_fits}
use Rattle.sd_state.specs.Opening.{first_class, is_real_time_class}
use Rattle.sd_state.specs.Invariants.{UrgentThreads}

urgent_class : (w : Work) (parms : ClassParms) (cpupri : ℕ) → class_fits parms cpupri ≡ true → is_real_time_class parms ≡ leb 100 (base_of (first_class w parms cpupri))
urgent_class w (Ts limit upri) cpupri fits = grind (arith, nat_tests)
urgent_class w (Fx limit pri quantum) cpupri fits = grind (arith, nat_tests)
urgent_class w (Sys pri) cpupri fits = grind (arith, nat_tests)
urgent_class w (Rt pri quantum) cpupri fits = grind (arith, nat_tests)

pub urgent_law : UrgentThreads
urgent_law w d fits = urgent_class w d.class d.cpupri fits
