use Rattle.std.proofs.Common.{ℕ, List, ◌+◌, ◌∷◌, [], ◌++◌, true, false, refl, sym, ap, ◌∙◌, arith}
use Rattle.sd_encoding.specs.Writing.{written}
use Rattle.sd_encoding.proofs.WritingLemmas.{closed, none_written, number_written, view_is, zero_written}
use Rattle.sd_encoding.proofs.writer.Writer.push.Goals as goal

pub invariant_of-self : goal.invariant_of-self
invariant_of-self c =
    let w = c.self.inside in
    let ns = written w.begun w.bytes w.last in
    closed w.begun w.bytes (w.last + 32) (ns ++ c.args.number ∷ [])
    (zero_written w.begun w.bytes w.last c.args.number ns (sym c.is_counted.ensures ∙ c.if-is_counted.true) (omega arith) c.self.invariant)

pub returns-then-is_counted : goal.returns-then-is_counted
returns-then-is_counted c =
    let w = c.self.inside in
    let ns = written w.begun w.bytes w.last in
    view_is w.begun w.bytes (w.last + 32) (ns ++ c.args.number ∷ [])
    (zero_written w.begun w.bytes w.last c.args.number ns (sym c.is_counted.ensures ∙ c.if-is_counted.true) (omega arith) c.self.invariant)
    ∙ ap (λ (xs : List ℕ). xs ++ c.args.number ∷ []) c.self.view_is

pub invariant_of-self-then-number-lt32 : goal.invariant_of-self-then-number-lt32
invariant_of-self-then-number-lt32 c =
    let w = c.self.inside in
    let ns = written w.begun w.bytes w.last in
    closed true c.write_pending.new.into c.args.number (ns ++ c.args.number ∷ [])
    (number_written w.begun w.bytes c.write_pending.new.into c.write_pending.new.into w.last c.args.number c.args.number ns (sym c.is_counted.ensures ∙ c.if-is_counted.false) (omega arith) c.in_ok-write_pending.ensures.written c.if-number-lt32.true (λ more. refl) c.self.invariant)

pub returns-then-number-lt32 : goal.returns-then-number-lt32
returns-then-number-lt32 c =
    let w = c.self.inside in
    let ns = written w.begun w.bytes w.last in
    view_is true c.write_pending.new.into c.args.number (ns ++ c.args.number ∷ [])
    (number_written w.begun w.bytes c.write_pending.new.into c.write_pending.new.into w.last c.args.number c.args.number ns (sym c.is_counted.ensures ∙ c.if-is_counted.false) (omega arith) c.in_ok-write_pending.ensures.written c.if-number-lt32.true (λ more. refl) c.self.invariant)
    ∙ ap (λ (xs : List ℕ). xs ++ c.args.number ∷ []) c.self.view_is

pub invariant_of-self-in-Ok : goal.invariant_of-self-in-Ok
invariant_of-self-in-Ok c =
    let w = c.self.inside in
    let ns = written w.begun w.bytes w.last in
    closed true c.write_front.new.into c.in-Ok.last (ns ++ c.args.number ∷ [])
    (number_written w.begun w.bytes c.write_pending.new.into c.write_front.new.into w.last c.args.number c.in-Ok.last ns (sym c.is_counted.ensures ∙ c.if-is_counted.false) (omega arith) c.in_ok-write_pending.ensures.written c.in-Ok.ensures.last c.in-Ok.ensures.written c.self.invariant)

pub returns-in-Ok : goal.returns-in-Ok
returns-in-Ok c =
    let w = c.self.inside in
    let ns = written w.begun w.bytes w.last in
    view_is true c.write_front.new.into c.in-Ok.last (ns ++ c.args.number ∷ [])
    (number_written w.begun w.bytes c.write_pending.new.into c.write_front.new.into w.last c.args.number c.in-Ok.last ns (sym c.is_counted.ensures ∙ c.if-is_counted.false) (omega arith) c.in_ok-write_pending.ensures.written c.in-Ok.ensures.last c.in-Ok.ensures.written c.self.invariant)
    ∙ ap (λ (xs : List ℕ). xs ++ c.args.number ∷ []) c.self.view_is

pub invariant_of-self-in-Err : goal.invariant_of-self-in-Err
invariant_of-self-in-Err c = closed false c.clear.new.self 192 [] (rw c.clear.ensures none_written)
