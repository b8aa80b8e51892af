-- A run is complete only where each processor has counted the ticks of the limit: of the processors that are behind it one
-- has counted least, and it may tick.
use Rattle.std.proofs.Common.{◌≡◌, ℕ, zero, suc, ◌<◌, ◌≤◌, Bool, true, false, not, ◌&&◌, ◌||◌, List, [], ◌∷◌, length, get_or, map, Option, Some, None, refl, sym, ◌∙◌, subst, inl, inr, arith}
use Rattle.std.specs.Prelude.{if◌then◌else◌, nat_lt, nat_le, ◌==◌}
use Rattle.std.specs.List.{list_all}
use Rattle.std.proofs.lemmas.Bool.{cases_lt, false≢true, and_from}
use Rattle.std.proofs.lemmas.Bool.Decides.{nat_tests}
use Rattle.std.proofs.lemmas.List.{length-map}
use Rattle.sd_basics.proofs.Numbers.{same_itself}
use Rattle.sd_basics.proofs.Truths.{and_right}
use Rattle.sd_types.specs.declared.numbers.CpuId.{CpuId}
use Rattle.sd_types.specs.declared.events.Event.{Event}
use Rattle.sd_types.specs.declared.events.Which.{Which}
use Rattle.sd_types.specs.declared.events.Which.TheVariants as which
use Rattle.sd_types.specs.declared.works.Work.{Work}
use Rattle.sd_types.specs.Events.{ticks}
use Rattle.sd_state.specs.declared.states.CpuState.{CpuState}
use Rattle.sd_state.specs.declared.states.State.{State}
use Rattle.sd_state.specs.States.{no_cpu, cpu_of}
use Rattle.sd_machine.specs.Events.{wish, may_tick, allowed, next}
use Rattle.sd_machine.specs.Hints.{hint_shown, hints_fit, reads, same_which}
use Rattle.sd_machine.specs.Runs.{IsComplete, shown}
use Rattle.sd_invariants.proofs.Whole.{reached_whole}
use Rattle.sd_invariants.specs.Complete.{CompleteRunsReachTheLimit}

-- What the state shows of itself fits what is read.

pub same_kind : (k : Which) → same_which k k ≡ true
same_kind which.Running = refl
same_kind which.Queued = refl

pub shown_fit : (s : State) (r : Option (Which × List CpuId)) → hints_fit r (shown s r) ≡ true
shown_fit s None = refl
shown_fit s (Some r) = and_from (same_which r.0 r.0) (length (map (hint_shown s r.0) r.1) == length r.1) (same_kind r.0)
    (subst (λ m. (m == length r.1) ≡ true) (sym (length-map r.1 (hint_shown s r.0))) (same_itself (length r.1)))

-- A processor that has no entry may not tick.

refused : (a b : Bool) (e : Event) → (if (a || b) then Some e else None) ≡ None → b ≡ false
refused true b e is = cc
refused false true e is = cc
refused false false e is = refl

no_tick : (w : Work) (s : State) (c : CpuId) → c.0 < w.cpus → IsComplete w s → may_tick w s c.0 ≡ false
unfolding next
no_tick w s c inside complete =
    by (nat_lt c.0 w.cpus && hints_fit (reads w s c.0) (shown s (reads w s c.0))) (and_from (nat_lt c.0 w.cpus) _ (let less : nat_lt c.0 w.cpus ≡ true = grind (arith, nat_tests) in less) (shown_fit s (reads w s c.0)))
    (complete c (shown s (reads w s c.0)))
  where
    by : (b : Bool) → b ≡ true → (if b then allowed w s c.0 (wish w s c.0 (shown s (reads w s c.0))) else None) ≡ None → may_tick w s c.0 ≡ false
    by true fit none = refused (not (ticks (wish w s c.0 (shown s (reads w s c.0))))) (may_tick w s c.0) (wish w s c.0 (shown s (reads w s c.0))) none
    by false fit none = absurd (false≢true fit)

-- One of some processors has counted least.

all_later : (m n : ℕ) (xs : List CpuState) → m ≤ n → list_all (λ (x : CpuState). nat_le n x.count) xs ≡ true → list_all (λ (x : CpuState). nat_le m x.count) xs ≡ true
all_later m n [] le all = refl
all_later m n (x ∷ xs) le all = by (λ rest. all_later m n xs le rest) (nat_le n x.count) refl all
  where
    by : (list_all (λ (x : CpuState). nat_le n x.count) xs ≡ true → list_all (λ (x : CpuState). nat_le m x.count) xs ≡ true) → (b : Bool) → nat_le n x.count ≡ b → (b && list_all (λ (x : CpuState). nat_le n x.count) xs) ≡ true → (nat_le m x.count && list_all (λ (x : CpuState). nat_le m x.count) xs) ≡ true
    by more true is rest = and_from (nat_le m x.count) _ (let a : n ≤ x.count = grind (arith, nat_tests) in let b : m ≤ x.count = omega (arith, a, le) in let t : nat_le m x.count ≡ true = grind (arith, nat_tests) in t) (more rest)
    by more false is rest = cc

record IsLeast (xs : List CpuState) : Type 0 where
  at : ℕ
  inside : at < length xs
  least : list_all (λ (x : CpuState). nat_le (get_or xs at no_cpu).count x.count) xs ≡ true

itself : (n : ℕ) → nat_le n n ≡ true
itself n = grind (arith, nat_tests)

least_of : (x : CpuState) (xs : List CpuState) → IsLeast (x ∷ xs)
least_of x [] = record { at = 0; inside = omega arith; least = and_from (nat_le x.count x.count) true (itself x.count) refl }
least_of x (y ∷ ys) = by (least_of y ys)
  where
    by : IsLeast (y ∷ ys) → IsLeast (x ∷ y ∷ ys)
    by rest = elim (cases_lt x.count (get_or (y ∷ ys) rest.at no_cpu).count) [
      | inl less ↦ record {
        at = 0;
        inside = omega arith;
        least = and_from (nat_le x.count x.count) _ (itself x.count) (all_later x.count (get_or (y ∷ ys) rest.at no_cpu).count (y ∷ ys) (omega (arith, less)) rest.least);
      }
      | inr more ↦ record {
        at = suc rest.at;
        inside = let a = rest.inside in omega (arith, a);
        least = and_from (nat_le (get_or (y ∷ ys) rest.at no_cpu).count x.count) _ (let t : nat_le (get_or (y ∷ ys) rest.at no_cpu).count x.count ≡ true = grind (arith, nat_tests) in t) rest.least;
      }
    ]

some_least : (xs : List CpuState) → 0 < length xs → IsLeast xs
some_least [] some = absurd (omega (arith, some))
some_least (x ∷ xs) some = least_of x xs

least_at : (xs : List CpuState) (m c : ℕ) → c < length xs → list_all (λ (x : CpuState). nat_le m x.count) xs ≡ true → m ≤ (get_or xs c no_cpu).count
least_at [] m c inside all = absurd (omega (arith, inside))
least_at (x ∷ xs) m zero inside all = by (nat_le m x.count) refl all
  where
    by : (b : Bool) → nat_le m x.count ≡ b → (b && list_all (λ (x : CpuState). nat_le m x.count) xs) ≡ true → m ≤ x.count
    by true is rest = grind (arith, nat_tests)
    by false is rest = cc
least_at (x ∷ xs) m (suc c) inside all = least_at xs m c (omega (arith, inside)) (and_right (nat_le m x.count) _ all)

at_limit : (w : Work) (s : State) (c : ℕ) → may_tick w s c ≡ false → list_all (λ (x : CpuState). nat_le (cpu_of s c).count x.count) s.cpus ≡ true → w.limit ≤ (cpu_of s c).count
unfolding may_tick
at_limit w s c none least = by (nat_lt (cpu_of s c).count w.limit) refl none
  where
    by : (b : Bool) → nat_lt (cpu_of s c).count w.limit ≡ b → (b && list_all (λ (x : CpuState). nat_le (cpu_of s c).count x.count) s.cpus) ≡ false → w.limit ≤ (cpu_of s c).count
    by true is rest = absurd (false≢true (sym rest ∙ least))
    by false is rest = grind (arith, nat_tests)

pub complete_at_limit : CompleteRunsReachTheLimit
complete_at_limit w n s reached complete c inside =
    let whole = reached_whole w n s reached in
    let many : length s.cpus ≡ w.cpus = whole.ready.fits.cpus in
    let least = some_least s.cpus (omega (arith, inside, many)) in
    let at : least.at < w.cpus = let a = least.inside in omega (arith, a, many) in
    let limit : w.limit ≤ (cpu_of s least.at).count = at_limit w s least.at (no_tick w s (record { 0 = least.at }) at complete) least.least in
    let here : (cpu_of s least.at).count ≤ (cpu_of s c).count = least_at s.cpus (cpu_of s least.at).count c (omega (arith, inside, many)) least.least in
    let most : (cpu_of s c).count ≤ w.limit = whole.counts c in
    omega (arith, limit, here, most)
