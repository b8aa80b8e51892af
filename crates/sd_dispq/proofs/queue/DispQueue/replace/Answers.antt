use Rattle.std.proofs.Common.{◌≡◌, ◌≤◌, ℕ, ℤ, List, Option, Some, None, IfSome, length, refl, sym, ap, ◌∙◌, subst, arith}
use Rattle.sd_boxq.specs.Order.{find_id, replace_id, IsAlike}
use Rattle.sd_dispq.specs.Levels.{all_of, IsLevelled}
use Rattle.sd_dispq.proofs.LevelLemmas.{found_below, replace-absent, alike_in_level}
use Rattle.sd_dispq.proofs.QueueLemmas.{replaced}
use Rattle.sd_dispq.proofs.queue.DispQueue.replace.Goals as goal

-- no item has such a rank
nowhere : {X : Type 0} (rank : X → ℕ) (key : X → ℤ) (id : X → ℕ) (n : ℕ) (y : X) (ls : List (List X)) (xs : List X) → all_of ls ≡ xs → length ls ≡ 160 → IsLevelled rank ls
    → 160 ≤ rank y → IfSome (find_id id n xs) (λ x. IsAlike rank key id x y) → find_id id n xs ≡ None
nowhere {X = X} rank key id n y ls xs v k s h a = by (find_id id n xs) refl a
  where
    by : (o : Option X) → find_id id n xs ≡ o → IfSome o (λ x. IsAlike rank key id x y) → find_id id n xs ≡ None
    by None e a = e
    by (Some x) e a = let low = found_below rank key id n y ls x s (ap (find_id id n) v ∙ e) in let r = a.0 in absurd (omega arith)

pub returns-then-rank-ge-LEVELS-clause-old : goal.returns-then-rank-ge-LEVELS-clause-old
returns-then-rank-ge-LEVELS-clause-old g c =
    let r = c.rank-rank.ensures in
    let h : 160 ≤ g.T.Ranked.rank c.args.item = omega (arith, r) in
    sym (nowhere g.T.Ranked.rank g.T.Ranked.key g.T.Ranked.id c.args.id c.args.item c.self.inside.levels c.args.self.now c.self.view_is c.self.invariant.0 c.self.invariant.1 h c.requires.alike)

pub returns-then-rank-ge-LEVELS-clause-rest : goal.returns-then-rank-ge-LEVELS-clause-rest
returns-then-rank-ge-LEVELS-clause-rest g c =
    let r = c.rank-rank.ensures in
    let h : 160 ≤ g.T.Ranked.rank c.args.item = omega (arith, r) in
    let none = nowhere g.T.Ranked.rank g.T.Ranked.key g.T.Ranked.id c.args.id c.args.item c.self.inside.levels c.args.self.now c.self.view_is c.self.invariant.0 c.self.invariant.1 h c.requires.alike in
    c.self.view_is ∙ sym (replace-absent g.T.Ranked.rank g.T.Ranked.key g.T.Ranked.id c.args.id c.args.item c.args.self.now none)

pub replace-requires-clause-alike : goal.replace-requires-clause-alike
replace-requires-clause-alike g c =
    let n = c.self.invariant.0 in
    let r = c.rank-rank.ensures in
    let l = c.level_of.ensures in
    alike_in_level g.T.Ranked.rank g.T.Ranked.key g.T.Ranked.id c.args.id c.args.item c.self.inside.levels c.level_of.result c.self.invariant.1 (omega (arith, r))
    (subst (λ xs. IfSome (find_id g.T.Ranked.id c.args.id xs) (λ x. IsAlike g.T.Ranked.rank g.T.Ranked.key g.T.Ranked.id x c.args.item)) (sym c.self.view_is) c.requires.alike)

pub invariant_of-self-2 : goal.invariant_of-self-2
invariant_of-self-2 g c =
    (replaced g.T.Ranked.rank g.T.Ranked.key g.T.Ranked.id c.args.id c.args.item c.self.inside.levels c.replace.new.self c.self.inside.greatest c.level_of.result c.rank-rank.result
    c.self.invariant c.rank-rank.ensures c.level_of.ensures
    (subst (λ xs. IfSome (find_id g.T.Ranked.id c.args.id xs) (λ x. IsAlike g.T.Ranked.rank g.T.Ranked.key g.T.Ranked.id x c.args.item)) (sym c.self.view_is) c.requires.alike)
    c.replace.ensures.rest).0

pub returns : goal.returns
returns g c =
    let all = replaced g.T.Ranked.rank g.T.Ranked.key g.T.Ranked.id c.args.id c.args.item c.self.inside.levels c.replace.new.self c.self.inside.greatest c.level_of.result c.rank-rank.result
    c.self.invariant c.rank-rank.ensures c.level_of.ensures
    (subst (λ xs. IfSome (find_id g.T.Ranked.id c.args.id xs) (λ x. IsAlike g.T.Ranked.rank g.T.Ranked.key g.T.Ranked.id x c.args.item)) (sym c.self.view_is) c.requires.alike)
    c.replace.ensures.rest in record {
      old = c.replace.ensures.old ∙ all.1 ∙ ap (find_id g.T.Ranked.id c.args.id) c.self.view_is;
      rest = all.2 ∙ ap (replace_id g.T.Ranked.id c.args.id c.args.item) c.self.view_is;
    }
