use Rattle.std.proofs.Common.{◌≡◌, ◌++◌, Result, Ok, Err, ap, ◌∙◌, append_assoc}
use Rattle.std.specs.Prelude.{OnOk}
use Rattle.sd_trace.specs.Holds.{given_argument, taken_arguments}
use Rattle.sd_trace.proofs.held.put_taken.Goals as goal

on_ok : {A E P Q : Type 0} → (r : Result A E) → (P → Q) → OnOk r P → OnOk r Q
on_ok (Ok x) f h = f h
on_ok (Err e) f h = tt

pub returns : goal.returns
unfolding taken_arguments
returns c = on_ok c.put_given.result
    (λ is. is ∙ (ap (λ xs. xs ++ given_argument c.args.x.now.given) c.in_ok-put_counted.ensures.ok ∙ append_assoc c.args.out.now.items _ (given_argument c.args.x.now.given)))
    c.put_given.ensures
