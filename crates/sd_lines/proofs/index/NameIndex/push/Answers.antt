use Rattle.std.proofs.Common.{◌≡◌, List, ℕ, false, ◌∷◌, ◌++◌, [], cond, sym, subst, ap, ◌∙◌}
use Rattle.std.specs.List.{list_any}
use Rattle.sd_types.specs.Works.{same_bytes}
use Rattle.sd_lines.specs.contracts.key.NameKeyPartialEq.TheImpl.{eq-value}
use Rattle.sd_lines.specs.declared.key.NameKey.{NameKey}
use Rattle.sd_lines.proofs.KeyLemmas.{pushed}
use Rattle.sd_lines.proofs.index.NameIndex.push.Goals as goal

pub returns-clause-ok : goal.returns-clause-ok
returns-clause-ok c =
    let ks = c.self.inside.keys.keys in
    let none = subst (λ (names : List (List ℕ)). list_any (λ other. same_bytes other c.args.name.now) names ≡ false) (sym c.self.view_is) c.requires.new in
    pushed ks c.self.invariant c.args.name.now _
    (c.in_ok-insert.ensures.keys ∙ ap (λ (k : NameKey). cond (list_any (eq-value.it k) ks) ks (ks ++ k ∷ [])) c.of.ensures)
    none
    ∙ ap (λ (names : List (List ℕ)). names ++ c.args.name.now ∷ []) c.self.view_is
