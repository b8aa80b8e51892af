-- The operations of a line without causes name what is declared.
use Rattle.std.proofs.Common.{◌≡◌, ℕ, ◌+◌, true, ◌&&◌, ltb, leb, List, ◌++◌, Option, Some, None, refl, ◌∙◌, arith, length}
use Rattle.std.proofs.lemmas.Bool.{and_from, and_parts, not-false}
use Rattle.std.specs.Option.{option_map}
use Rattle.std.specs.List.{list_all, slice_get}
use Rattle.std.proofs.lemmas.Bool.Decides.{nat_tests}
use Rattle.std.proofs.lemmas.List.{length-map}
use Rattle.std.proofs.lemmas.List.Folds.{list_all-append}
use Rattle.sd_types.specs.declared.scripts.Op.{Op}
use Rattle.sd_types.specs.declared.scripts.Op.TheVariants as op
use Rattle.sd_types.specs.Partitions.{cpu_of_number}
use Rattle.sd_types.specs.Works.{is_mutex, is_chan, bound_fits, request_fits, short_fits, op_names}
use Rattle.sd_lines.specs.declared.operations.RequestLine.{RequestLine}
use Rattle.sd_lines.specs.declared.operations.RequestLine.TheVariants.{Ts, Fx, Sys, Rt}
use Rattle.sd_lines.specs.Operations.{Operation, Run, Yield, Nap, Sleep, Wake, WakeAll, Enter, Read, Write, Exit, Prio, CvWait, SemaP, SemaV, Assign, Pbind}
use Rattle.sd_declare.specs.Causes.{least}
use Rattle.sd_declare.specs.Declarations.{Declarations, cpu_count, set_number}
use Rattle.sd_declare.specs.Statements.{is_quantum}
use Rattle.sd_declare.specs.Operations.{is_request, is_cpu_or_none, request_of, operation_causes, op_of, ops_of_op}
use Rattle.sd_workload.specs.Sound.{named}
use Rattle.sd_workload.proofs.ClearLemmas.{clear}
use Rattle.sd_workload.proofs.StatementLemmas.{quantum-fits}

request-fits : (r : RequestLine) → is_request r ≡ true → request_fits (request_of r) ≡ true
request-fits (Ts limit pri) h = let p = and_parts (short_fits limit) (short_fits pri) h in rw (p.0, p.1) refl
request-fits (Fx limit pri q) h =
    let p = and_parts (short_fits limit && short_fits pri) (is_quantum q) h in
    let r = and_parts (short_fits limit) (short_fits pri) p.0 in
    rw (r.0, r.1, quantum-fits q p.1) refl
request-fits (Sys pri) h = rw h refl
request-fits (Rt pri q) h =
    let p = and_parts (short_fits pri) (is_quantum q) h in
    rw (p.0, quantum-fits q p.1) refl

bound-fits : (d : Declarations) (c : Option ℕ) → is_cpu_or_none d c ≡ true → bound_fits (cpu_count d) (option_map cpu_of_number c) ≡ true
bound-fits d None h = refl
bound-fits d (Some c) h = h

under : (a b : ℕ) → ltb a (b + 1) ≡ true → leb a b ≡ true
under a b h = grind (arith, nat_tests)

-- the operation of a line, or the first of and_from
op-named : (d : Declarations) (o : Operation) → least (operation_causes d o) ≡ None → op_names (named d) (op_of d o) ≡ true
op-named d (Run n) none = not-false _ (clear (operation_causes d (Run n)) none).range
op-named d Yield none = refl
op-named d (Nap n) none = not-false _ (clear (operation_causes d (Nap n)) none).range
op-named d (Sleep k) none = not-false _ (clear (operation_causes d (Sleep k)) none).unknown
op-named d (Wake k) none = not-false _ (clear (operation_causes d (Wake k)) none).unknown
op-named d (WakeAll k) none = not-false _ (clear (operation_causes d (WakeAll k)) none).unknown
op-named d (Enter l) none = not-false _ (clear (operation_causes d (Enter l)) none).unknown
op-named d (Read l) none = not-false _ (clear (operation_causes d (Read l)) none).unknown
op-named d (Write l) none = not-false _ (clear (operation_causes d (Write l)) none).unknown
op-named d (Exit l) none =
    let h = not-false _ (clear (operation_causes d (Exit l)) none).unknown in
    let e = length-map d.locks (λ x. x.1) in grind (arith, nat_tests)
op-named d (Prio t r) none =
    let c = clear (operation_causes d (Prio t r)) none in
    and_from _ _ (not-false _ c.unknown) (request-fits r (not-false _ c.range))
op-named d (CvWait k l) none = not-false _ (clear (operation_causes d (CvWait k l)) none).unknown
op-named d (SemaP k) none = not-false _ (clear (operation_causes d (SemaP k)) none).unknown
op-named d (SemaV k) none = not-false _ (clear (operation_causes d (SemaV k)) none).unknown
op-named d (Assign cpu set) none =
    let c = clear (operation_causes d (Assign cpu set)) none in
    and_from _ _ (not-false _ c.range) (under (set_number d set) (length d.sets) (not-false _ c.unknown))
op-named d (Pbind t cpu) none =
    let c = clear (operation_causes d (Pbind t cpu)) none in
    and_from _ _ (not-false _ c.unknown) (bound-fits d cpu (not-false _ c.range))

-- the operations of an operation that names what is declared
both-named : (d : Declarations) (o : Op) → op_names (named d) o ≡ true → list_all (op_names (named d)) (ops_of_op o) ≡ true
both-named d (op.CvWait k l) h =
    let p = and_parts (is_chan (slice_get (named d).chans k.0)) (is_mutex (slice_get (named d).locks l.0)) h in
    rw (p.0, p.1) refl
both-named d op.Yield h = refl
both-named d o h = rw h refl

-- one more line of a script
pub line-named : (d : Declarations) (ops : List Op) (o : Operation) → least (operation_causes d o) ≡ None → list_all (op_names (named d)) ops ≡ true
    → list_all (op_names (named d)) (ops ++ ops_of_op (op_of d o)) ≡ true
line-named d ops o none h =
    list_all-append (op_names (named d)) ops (ops_of_op (op_of d o))
    ∙ and_from _ _ h (both-named d (op_of d o) (op-named d o none))
