-- Orders that are drawn: each is as long as the rising order, and each processor stands in it.
use Rattle.std.proofs.Common.{◌≡◌, ℕ, zero, suc, ◌+◌, ◌-◌, ◌%◌, ◌<◌, ◌≤◌, List, [], ◌∷◌, length, get_or, set, refl, sym, ap, ◌∙◌, arith, inl, inr}
use Rattle.std.specs.Prelude.{swap}
use Rattle.std.proofs.lemmas.Bool.{cases_eq}
use Rattle.std.proofs.lemmas.Nat.{mod_below}
use Rattle.std.proofs.lemmas.List.{get_or-set_same, get_or-set_other, length-set}
use Rattle.std.proofs.lemmas.List.FromFn.{length-map-range_with_len, get_or-map-range_with_len}
use Rattle.rand_pcg.specs.Lcg.{Lcg}
use Rattle.rand_pcg.specs.Pcg.{pcg32}
use Rattle.sd_types.specs.declared.numbers.CpuId.{CpuId}
use Rattle.sd_types.specs.declared.works.Work.{Work}
use Rattle.sd_types.specs.Partitions.{cpu_of_number}
use Rattle.sd_machine.specs.Runs.{rising}
use Rattle.sd_rounds.specs.declared.orders.RoundOrder.{RoundOrder}
use Rattle.sd_rounds.specs.declared.orders.RoundOrder.TheVariants.{Rising, Drawn}
use Rattle.sd_rounds.specs.Orders.{shuffled, generator, orders_of, generator_at, next_order}

-- The order of the next round, and the generator after it.

pub order_next : (w : Work) (orders : RoundOrder) (k : ℕ) → (next_order (rising w) (generator_at w orders k)).0 ≡ orders_of w orders k
order_next w Rising k = refl
order_next w (Drawn seed) k = refl

pub generator_next : (w : Work) (orders : RoundOrder) (k : ℕ) → (next_order (rising w) (generator_at w orders k)).1 ≡ generator_at w orders (suc k)
unfolding generator
generator_next w Rising k = refl
generator_next w (Drawn seed) k = refl

pub length-rising : (w : Work) → length (rising w) ≡ w.cpus
length-rising w = length-map-range_with_len cpu_of_number 0 w.cpus

-- Exchanges.

pub first : CpuId
first = record { 0 = 0 }

swap_length : (xs : List CpuId) (i j : ℕ) → length (swap xs i j) ≡ length xs
swap_length [] i j = refl
swap_length (x ∷ ys) i j = length-set (set (x ∷ ys) i (get_or (x ∷ ys) j x)) j (get_or (x ∷ ys) i x) ∙ length-set (x ∷ ys) i (get_or (x ∷ ys) j x)

shuffled_length : (i : ℕ) (g : Lcg) (xs : List CpuId) → length (shuffled i g xs).0 ≡ length xs
unfolding shuffled
shuffled_length zero g xs = refl
shuffled_length (suc i) g xs = shuffled_length i (pcg32 g).1 _ ∙ swap_length xs (suc i) ((pcg32 g).0 % suc (suc i))

-- the processor stands in the order
pub record IsIn (c : CpuId) (xs : List CpuId) : Type 0 where
  pub place : ℕ
  pub inside : place < length xs
  pub is : get_or xs place first ≡ c

default : (xs : List CpuId) (k : ℕ) (a b : CpuId) → k < length xs → get_or xs k a ≡ get_or xs k b
default [] k a b h = absurd (omega arith)
default (x ∷ xs) zero a b h = refl
default (x ∷ xs) (suc k) a b h = default xs k a b (omega arith)

swap_in : (c : CpuId) (xs : List CpuId) (i j : ℕ) → i < length xs → j < length xs → IsIn c xs → IsIn c (swap xs i j)
swap_in c [] i j hi hj at = absurd (omega arith)
swap_in c (x ∷ ys) i j hi hj at = elim (cases_eq at.place i) [
  | inl here ↦ record {
    place = j;
    inside = omega (arith, many, hj);
    is = get_or-set_same once j (get_or xs i x) first (omega (arith, once_many, hj)) ∙ default xs i x first hi ∙ ap (λ k. get_or xs k first) (sym here) ∙ at.is;
  }
  | inr other ↦ elim (cases_eq at.place j) [
    | inl there ↦ record {
      place = i;
      inside = omega (arith, many, hi);
      is = get_or-set_other once j i (get_or xs i x) first (λ same. other (there ∙ sym same))
          ∙ get_or-set_same xs i (get_or xs j x) first hi ∙ default xs j x first hj ∙ ap (λ k. get_or xs k first) (sym there) ∙ at.is;
    }
    | inr apart ↦ record {
      place = at.place;
      inside = omega (arith, many, at.inside);
      is = get_or-set_other once j at.place (get_or xs i x) first apart ∙ get_or-set_other xs i at.place (get_or xs j x) first other ∙ at.is;
    }
  ]
]
  where
    xs : List CpuId
    xs = x ∷ ys

    once : List CpuId
    once = set (x ∷ ys) i (get_or (x ∷ ys) j x)

    once_many : length once ≡ length (x ∷ ys)
    once_many = length-set (x ∷ ys) i (get_or (x ∷ ys) j x)

    many : length (swap (x ∷ ys) i j) ≡ length (x ∷ ys)
    many = swap_length (x ∷ ys) i j

shuffled_in : (c : CpuId) (i : ℕ) (g : Lcg) (xs : List CpuId) → i ≤ length xs - 1 → IsIn c xs → IsIn c (shuffled i g xs).0
unfolding shuffled
shuffled_in c zero g xs h at = at
shuffled_in c (suc i) g xs h at =
    let many = swap_length xs (suc i) ((pcg32 g).0 % suc (suc i)) in
    let below = mod_below (pcg32 g).0 (suc (suc i)) (omega arith) in
    shuffled_in c i (pcg32 g).1 (swap xs (suc i) ((pcg32 g).0 % suc (suc i))) (omega (arith, many, h))
    (swap_in c xs (suc i) ((pcg32 g).0 % suc (suc i)) (omega (arith, h)) (omega (arith, h, below)) at)

rising_in : (w : Work) (c : CpuId) → c.0 < w.cpus → IsIn c (rising w)
rising_in w c here = record {
  place = c.0;
  inside = let many = length-rising w in omega (arith, many, here);
  is = get_or-map-range_with_len cpu_of_number 0 w.cpus c.0 c.0 first here (let e : 0 + c.0 ≡ c.0 = omega arith in e);
}

-- Of every round.

pub order_length : (w : Work) (orders : RoundOrder) (k : ℕ) → length (orders_of w orders k) ≡ w.cpus
order_length w Rising k = length-rising w
order_length w (Drawn seed) k = shuffled_length (length (rising w) - 1) (generator w seed k) (rising w) ∙ length-rising w

pub order_in : (w : Work) (orders : RoundOrder) (k : ℕ) (c : CpuId) → c.0 < w.cpus → IsIn c (orders_of w orders k)
order_in w Rising k c here = rising_in w c here
order_in w (Drawn seed) k c here =
    shuffled_in c (length (rising w) - 1) (generator w seed k) (rising w) (omega arith) (rising_in w c here)

-- one exchange of a shuffle, from the number of processors that are left
shuffled_suc : (m : ℕ) (g : Lcg) (xs : List CpuId) → shuffled m (pcg32 g).1 (swap xs (suc m) ((pcg32 g).0 % suc (suc m))) ≡ shuffled (suc m) g xs
unfolding shuffled
shuffled_suc m g xs = refl

pub shuffled_on : (left : ℕ) (g g' : Lcg) (xs xs' : List CpuId) → 1 < left → g' ≡ (pcg32 g).1 → xs' ≡ swap xs (left - 1) ((pcg32 g).0 % (left - 1 + 1))
    → shuffled (left - 1 - 1) g' xs' ≡ shuffled (left - 1) g xs
shuffled_on left g g' xs xs' h next moved =
    let m : ℕ = left - 1 - 1 in
    let one : left - 1 ≡ suc (left - 1 - 1) = omega (arith, h) in
    let two : left - 1 + 1 ≡ suc (suc (left - 1 - 1)) = omega (arith, h) in
    ap (λ (x : Lcg). shuffled m x xs') next
    ∙ ap (λ (ys : List CpuId). shuffled m (pcg32 g).1 ys) (moved ∙ ap (λ k. swap xs k ((pcg32 g).0 % (left - 1 + 1))) one ∙ ap (λ k. swap xs (suc m) ((pcg32 g).0 % k)) two)
    ∙ shuffled_suc m g xs ∙ ap (λ k. shuffled k g xs) (sym one)

pub shuffled_over : (left : ℕ) (g : Lcg) (xs : List CpuId) → left ≤ 1 → shuffled (left - 1) g xs ≡ (xs, g)
unfolding shuffled
shuffled_over left g xs h = ap (λ k. shuffled k g xs) (let none : left - 1 ≡ 0 = omega (arith, h) in none)
