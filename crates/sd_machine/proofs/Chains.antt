-- Chains of one graph.
use Rattle.std.proofs.Common.{◌≡◌, ℕ, Some, ℤ, refl, sym, ap, ◌∙◌, subst}
use Rattle.std.specs.Prelude.{◌≤ℤ◌}
use Rattle.sd_machine.specs.Graphs.{Wait, Graph, IsAhead, IsBehind, InCycle, Reaches}
use Rattle.sd_machine.specs.Graphs.IsBehind.{near, far}
use Rattle.sd_machine.specs.Graphs.Reaches.{here, on}
use Rattle.std.proofs.lemmas.Option.{same_Some}

-- one thread is ahead
pub ahead_one : (g : Graph) (t u v : ℕ) → IsAhead g t u → IsAhead g t v → u ≡ v
ahead_one g t u v (w, waits, owns) (x, waits', owns') =
    let same : w ≡ x = same_Some w x (sym waits ∙ waits') in
    same_Some u v (sym owns ∙ ap (λ (y : Wait). g.owner y.lock) same ∙ owns')

-- the chain behind o goes on behind the thread ahead of o
pub behind_ahead : (g : Graph) (o u t : ℕ) → IsAhead g o u → IsBehind g o t → IsBehind g u t
behind_ahead g o u t a (near b) = far b (near a)
behind_ahead g o u t a (far b r) = far b (behind_ahead g o u _ a r)

-- the thread ahead of one in a cycle is in a cycle
pub cycle_ahead : (g : Graph) (o u : ℕ) → InCycle g o → IsAhead g o u → InCycle g u
cycle_ahead g o u c a = first c
  where
    first : IsBehind g o o → InCycle g u
    first (near b) = subst (InCycle g) (ahead_one g o o u b a) c
    first (far b r) = subst (λ v. IsBehind g u v) (ahead_one g o _ u b a) (behind_ahead g o u _ a r)

-- what is ahead of a cycle is in a cycle
pub cycle_behind : (g : Graph) (o t : ℕ) → IsBehind g o t → InCycle g t → InCycle g o
cycle_behind g o t (near a) c = cycle_ahead g t o c a
cycle_behind g o t (far a r) c = cycle_behind g o _ r (cycle_ahead g t _ c a)

-- a chain that reaches l goes on where the owner of l waits
pub reaches_on : (g : Graph) (k : ℤ) (l s o : ℕ) (w : Wait) → Reaches g k l s → g.owner l ≡ Some o → g.waits o ≡ Some w → w.key ≤ℤ k → Reaches g k w.lock s
reaches_on g k l s o w (here v is le at) own waits less = on v is le (ap g.owner at ∙ own) (here w waits less refl)
reaches_on g k l s o w (on v is le ahead r) own waits less = on v is le ahead (reaches_on g k l _ o w r own waits less)

-- a thread whose chain reaches l is behind the owner of l
pub reaches_behind : (g : Graph) (k : ℤ) (l s o : ℕ) → Reaches g k l s → g.owner l ≡ Some o → IsBehind g o s
reaches_behind g k l s o (here v is le at) own = near (v, is, ap g.owner at ∙ own)
reaches_behind g k l s o (on v is le ahead r) own = far (v, is, ahead) (reaches_behind g k l _ o r own)
