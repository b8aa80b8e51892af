use Rattle.std.proofs.Common.{ℕ, map, sym, subst}
use Rattle.sd_answers.specs.Handing.{IsHandedOn}
use Rattle.std.specs.Prelude.{string_bytes}
use Rattle.sd_answers.specs.StreamChanges.{change_of}
use Rattle.sd_program.proofs.Promises.{promises_of}
use Rattle.sd_answers.proofs.HandingLemmas.{handed_of}
use Rattle.sd_program.proofs.top.serial.Goals as goal

pub returns-clause-promises : goal.returns-clause-promises
returns-clause-promises g c =
    let left = g.S.Source.remaining in
    let read = g.S.Source.fault_count in
    let held = g.K.Sink.contents in
    let written = g.K.Sink.fault_count in
    let shown = g.E.Sink.contents in
    let failed = g.E.Sink.fault_count in
    let i = c.args.input.now in
    let j = c.carry_out.new.input in
    let o = c.args.out.now in
    let p = c.carry_out.new.out in
    let e = c.args.err.now in
    let f = c.tell.new.err in
    promises_of (map string_bytes c.args.arguments.now) (change_of (left i) (left j) (read i) (read j)) (change_of (held o) (held p) (written o) (written p))
    (change_of (shown e) (shown f) (failed e) (failed f)) c.carry_out.result c.tell.result c.tell.ensures.status c.carry_out.ensures.caused c.tell.ensures.told

pub returns-clause-handed_on : goal.returns-clause-handed_on
returns-clause-handed_on g c =
    let held = g.K.Sink.held_back in
    let p = c.carry_out.new.out in
    subst (λ (n : ℕ). IsHandedOn n (held c.args.out.now) (held p)) (sym c.tell.ensures.status) (handed_of c.carry_out.result (held c.args.out.now) (held p) c.carry_out.ensures.leaves)
