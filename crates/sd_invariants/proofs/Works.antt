-- What a workload says of the operation at which a thread stands.
use Rattle.std.proofs.Common.{◌≡◌, ℕ, ◌+◌, true, [], take, Option, Some, None, refl, sym, ap, subst}
use Rattle.std.specs.Prelude.{slice_get, option_map, unwrap_or}
use Rattle.std.specs.List.{list_all}
use Rattle.sd_types.specs.declared.numbers.LockId.{LockId}
use Rattle.sd_types.specs.declared.numbers.Side.{Side}
use Rattle.sd_types.specs.declared.numbers.Side.TheVariants.{Writer, Reader}
use Rattle.std.proofs.lemmas.Option.{same_Some}
use Rattle.sd_basics.proofs.Lists.{all_at}
use Rattle.sd_basics.proofs.Truths.{and_right}
use Rattle.sd_types.specs.declared.scripts.Op.{Op}
use Rattle.sd_types.specs.declared.scripts.Op.TheVariants as op
use Rattle.sd_types.specs.declared.works.ThreadDecl.{ThreadDecl}
use Rattle.sd_types.specs.declared.works.Work.{Work}
use Rattle.sd_types.specs.Scripts.{held_by, can_take, op_fits}
use Rattle.sd_types.specs.Works.{op_names, thread_fits}
use Rattle.sd_state.specs.Operations.{script_of}
use Rattle.sd_state.proofs.Declared.{declared}
use Rattle.sd_frames.specs.Causes.{wants}

-- an operation of a script that is there, of a declared thread
record Declares (w : Work) (t i : ℕ) (o : Op) : Type 0 where
  thread : ThreadDecl
  at : slice_get w.threads t ≡ Some thread
  is : slice_get thread.script.ops i ≡ Some o

declares : (w : Work) (t i : ℕ) (o : Op) → slice_get (script_of w t) i ≡ Some o → Declares w t i o
declares w t i o e = by (slice_get w.threads t) refl e
  where
    by : (d : Option ThreadDecl) → slice_get w.threads t ≡ d → slice_get (unwrap_or (option_map (λ d. d.script.ops) d) []) i ≡ Some o → Declares w t i o
    by None at is = cc
    by (Some d) at is = record { thread = d; at = at; is = is }

script_is : (w : Work) (t : ℕ) (d : ThreadDecl) → slice_get w.threads t ≡ Some d → script_of w t ≡ d.script.ops
script_is w t d e = ap (λ x. unwrap_or (option_map (λ (d : ThreadDecl). d.script.ops) x) []) e

-- the numbers of the operation name what is declared
pub op_named : (w : Work) (t i : ℕ) (o : Op) → slice_get (script_of w t) i ≡ Some o → op_names (declared w) o ≡ true
op_named w t i o e =
    let d = declares w t i o e in
    let fits : thread_fits (declared w) d.thread ≡ true = all_at (thread_fits (declared w)) w.threads t d.thread w.threads_fit d.at in
    all_at (op_names (declared w)) d.thread.script.ops i o (and_right _ (list_all (op_names (declared w)) d.thread.script.ops) fits) d.is

-- the script balances its locks
pub op_balances : (w : Work) (t i : ℕ) (o : Op) → slice_get (script_of w t) i ≡ Some o → op_fits (held_by (take i (script_of w t))) o (slice_get (script_of w t) (i + 1)) ≡ true
op_balances w t i o e =
    let d = declares w t i o e in
    subst (λ ops. op_fits (held_by (take i ops)) o (slice_get ops (i + 1)) ≡ true) (sym (script_is w t d.thread d.at)) (d.thread.script.each_fits i o d.is)

-- an operation that wants a lock finds it not held, and room for it
pub wanted_fits : (w : Work) (t i : ℕ) (o : Op) (l : LockId) (side : Side) → slice_get (script_of w t) i ≡ Some o → wants o ≡ Some (l, side) → can_take l (held_by (take i (script_of w t))) ≡ true
wanted_fits w t i (op.Enter m) l side e wanted = subst (λ x. can_take x (held_by (take i (script_of w t))) ≡ true) (ap (λ x. x.0) (same_Some (m, Writer) (l, side) wanted)) (op_balances w t i (op.Enter m) e)
wanted_fits w t i (op.Read m) l side e wanted = subst (λ x. can_take x (held_by (take i (script_of w t))) ≡ true) (ap (λ x. x.0) (same_Some (m, Reader) (l, side) wanted)) (op_balances w t i (op.Read m) e)
wanted_fits w t i (op.Write m) l side e wanted = subst (λ x. can_take x (held_by (take i (script_of w t))) ≡ true) (ap (λ x. x.0) (same_Some (m, Writer) (l, side) wanted)) (op_balances w t i (op.Write m) e)
wanted_fits w t i o l side e wanted = cc
