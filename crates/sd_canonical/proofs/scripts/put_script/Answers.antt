use Rattle.std.proofs.Common.{ℕ, List, ◌≡◌, ◌++◌, length, sym, ap, ◌∙◌, append-nil, arith}
use Rattle.std.proofs.lemmas.Bool.Decides.{nat_tests}
use Rattle.sd_canonical.proofs.LineLemmas.{script_text_none}
use Rattle.sd_canonical.proofs.scripts.put_script.Goals as goal

pub returns-then-is_empty : goal.returns-then-is_empty
returns-then-is_empty c =
    let none : length c.args.thread.now.script.ops ≡ 0 = grind (arith, nat_tests) in
    sym (ap (λ (l : List ℕ). c.args.out.now.items ++ l) (script_text_none c.args.work.now c.args.thread.now none) ∙ append-nil c.args.out.now.items)
