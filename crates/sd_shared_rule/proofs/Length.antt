-- A run has no more entries than its processors can make.
use Rattle.std.proofs.Common.{◌≡◌, ℕ, zero, suc, ◌+◌, ◌*◌, ◌≤◌, true, ltb, cond, List, [], ◌∷◌, length, filter, refl, sym, ap, subst, arith}
use Rattle.std.proofs.lemmas.Bool.Decides.{nat_tests}
use Rattle.sd_types.specs.declared.events.Entry.{Entry}
use Rattle.sd_types.specs.declared.works.Work.{Work}
use Rattle.sd_state.specs.declared.states.State.{State}
use Rattle.sd_state.specs.Opening.{opening}
use Rattle.sd_machine.specs.Events.{after}
use Rattle.sd_machine.specs.Runs.{IsRunFrom, IsRun}
use Rattle.sd_shared_rule.specs.Ledgers.{by}
use Rattle.sd_invariants.proofs.Ready.{maker_inside}

-- the entries of the processors below c
below : ℕ → List Entry → List Entry
below c h = filter (λ e. ltb e.cpu.0 c) h

below-zero : (h : List Entry) → length (below 0 h) ≡ 0
unfolding below
below-zero [] = refl
below-zero (e ∷ es) = let r = below-zero es in grind (arith, nat_tests)

below-suc : (c : ℕ) (h : List Entry) → length (below (suc c) h) ≡ length (below c h) + length (by c h)
unfolding below by
below-suc c [] = refl
below-suc c (e ∷ es) = let r = below-suc c es in grind (arith, nat_tests)

below_bound : (c m : ℕ) (h : List Entry) → ((d : ℕ) → length (by d h) ≤ m) → length (below c h) ≤ c * m
below_bound zero m h few = let r = below-zero h in omega arith
below_bound (suc c) m h few = let r = below_bound c m h few in let q = below-suc c h in let f = few c in let x : ℕ = c * m in let rx : length (below c h) ≤ x = r in let y : suc c * m ≡ x + m = (let z : suc c * m ≡ c * m + m = omega (arith) in z) in omega (arith, y)

all_below : (w : Work) (s : State) (n : ℕ) (h : List Entry) → IsRunFrom w s n h → below w.cpus h ≡ h
unfolding below IsRunFrom
all_below w s n [] r = refl
all_below w s n (e ∷ es) (a, b, r) =
    let i = maker_inside w s e.cpu e.hints e.event b in
    let q = all_below w (after w s e.number e.cpu e.event) (n + 1) es r in
    let t : ltb e.cpu.0 w.cpus ≡ true = grind (arith, nat_tests) in
    subst (λ b. cond b (e ∷ below w.cpus es) (below w.cpus es) ≡ e ∷ es) (sym t) (ap (λ l. e ∷ l) q)

pub run_bound : (w : Work) (h : List Entry) (m : ℕ) → IsRun w h → ((d : ℕ) → length (by d h) ≤ m) → length h ≤ w.cpus * m
unfolding IsRun
run_bound w h m run few = subst (λ l. length l ≤ w.cpus * m) (all_below w (opening w) 0 h run) (below_bound w.cpus m h few)
