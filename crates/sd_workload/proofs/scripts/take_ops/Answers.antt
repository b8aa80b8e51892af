use Rattle.std.proofs.Common.{◌≡◌, leb, List, [], ◌∷◌, ◌++◌, length, None, sym, ap, ◌∙◌, subst}
use Rattle.sd_types.specs.declared.numbers.LockId.{LockId}
use Rattle.sd_types.specs.declared.scripts.Op.{Op}
use Rattle.sd_types.specs.declared.scripts.Op.TheVariants.{CvWait}
use Rattle.sd_types.specs.Scripts.{held_by}
use Rattle.sd_script.specs.Faults.{is_ninth}
use Rattle.sd_declare.specs.Operations.{ops_of_op}
use Rattle.sd_workload.specs.Scripts.{ops_fault}
use Rattle.sd_workload.proofs.FitsLemmas.{first-room, second-room}
use Rattle.sd_workload.proofs.scripts.take_ops.Goals as goal

pub push_op-requires-clause-room : goal.push_op-requires-clause-room
push_op-requires-clause-room c =
    ap (λ (held : List LockId). is_ninth held c.args.op) c.requires ∙ first-room c.args.script.now.ops.items c.args.op (sym c.in_default.ensures)

pub push_op-requires-in-CvWait-clause-room : goal.push_op-requires-in-CvWait-clause-room
push_op-requires-in-CvWait-clause-room c =
    let ops = c.args.script.now.ops.items in
    let none = subst (λ (o : Op). ops_fault ops (ops_of_op o) ≡ None) c.in-CvWait.is (sym c.in_default.ensures) in
    let held = c.in_ok-push_op.ensures.held ∙ ap held_by (c.in_ok-push_op.ensures.ops ∙ ap (λ (o : Op). ops ++ o ∷ []) c.in-CvWait.is) in
    ap (λ (held : List LockId). leb 8 (length held)) held ∙ second-room ops c.in-CvWait.field-0 c.in-CvWait.mutex none
