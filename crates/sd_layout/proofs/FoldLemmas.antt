-- The columns of a picture, and where ticks lie.
use Rattle.std.proofs.Common.{◌≡◌, ℕ, zero, suc, ◌+◌, ◌-◌, ◌<◌, ◌≤◌, Bool, true, false, List, [], ◌∷◌, ◌++◌, refl, sym, ap, subst, ◌∙◌, arith, inl, inr}
use Rattle.std.specs.Prelude.{◌||◌, ◌==◌, filter, nat_lt, if◌then◌else◌}
use Rattle.std.specs.List.{All, flat_map, range_with_len}
use Rattle.std.proofs.lemmas.Bool.{cases_Bool, cases_eq, false≢true}
use Rattle.std.proofs.lemmas.Bool.Decides.{nat_tests}
use Rattle.std.proofs.lemmas.List.{append-nil}
use Rattle.std.proofs.lemmas.List.Concat.{flat_map-append}
use Rattle.std.proofs.lemmas.List.Elements.{All-append, All-cons, All-nil, filter-append}
use Rattle.sd_basics.proofs.Truths.{or_rest}
use Rattle.sd_layout.specs.declared.folds.Column.{Column}
use Rattle.sd_layout.specs.declared.frames.Frame.{Frame}
use Rattle.sd_layout.specs.Folds.{AllFoldsAreQuiet, are_few, changes_in, columns, columns_from, columns_if, columns_of, few_of, fold_if, fold_of, folds, folds_from, folds_of, is_change, is_fold, is_gap, is_wide, one_by_one, part, single, stop_at, stops_of, ticks_of}

-- ---- ranges and columns

range_join : (a m n : ℕ) → range_with_len a m ++ range_with_len (a + m) n ≡ range_with_len a (m + n)
range_join a zero n =
    let is : a + 0 ≡ a = omega arith in
    let many : 0 + n ≡ n = omega arith in
    ap (λ b. range_with_len b n) is ∙ ap (range_with_len a) (sym many)
range_join a (suc m) n =
    let next : a + suc m ≡ a + 1 + m = omega arith in
    let many : suc m + n ≡ suc (m + n) = omega arith in
    ap (λ b. a ∷ (range_with_len (a + 1) m ++ range_with_len b n)) next ∙ ap (λ xs. a ∷ xs) (range_join (a + 1) m n) ∙ ap (range_with_len a) (sym many)

-- from a to b and from b to c
range_meet : (a b c : ℕ) → a ≤ b → b ≤ c → range_with_len a (b - a) ++ range_with_len b (c - b) ≡ range_with_len a (c - a)
range_meet a b c first second =
    let at : a + (b - a) ≡ b = omega (arith, first) in
    let many : b - a + (c - b) ≡ c - a = omega (arith, first, second) in
    ap (λ d. range_with_len a (b - a) ++ range_with_len d (c - b)) (sym at) ∙ range_join a (b - a) (c - b) ∙ ap (range_with_len a) many

one_tick : (a : ℕ) → ticks_of (single a) ≡ a ∷ []
one_tick a = let one : a + 1 - a ≡ 1 = omega arith in ap (range_with_len a) one

singles : (a n : ℕ) → flat_map ticks_of (one_by_one a n) ≡ range_with_len a n
singles a zero = refl
singles a (suc n) =
    ap (λ xs. xs ++ flat_map ticks_of (one_by_one (a + 1) n)) (one_tick a) ∙ ap (λ xs. a ∷ xs) (singles (a + 1) n)

-- with a fold
part_folded : (a b : ℕ) → a + 48 < b → flat_map ticks_of (one_by_one a 8 ++ fold_of a b ∷ one_by_one (b - 8) 8) ≡ range_with_len a (b - a)
part_folded a b wide =
    let last : b - 8 + 8 ≡ b = omega (arith, wide) in
    let eight : b - (b - 8) ≡ 8 = omega (arith, wide) in
    let first : a + 8 - a ≡ 8 = omega arith in
    flat_map-append ticks_of (one_by_one a 8) (fold_of a b ∷ one_by_one (b - 8) 8)
    ∙ ap (λ xs. xs ++ (ticks_of (fold_of a b) ++ flat_map ticks_of (one_by_one (b - 8) 8))) (singles a 8)
    ∙ ap (λ xs. range_with_len a 8 ++ (ticks_of (fold_of a b) ++ xs)) (singles (b - 8) 8 ∙ ap (range_with_len (b - 8)) (sym eight))
    ∙ ap (λ xs. range_with_len a 8 ++ xs) (range_meet (a + 8) (b - 8) b (omega (arith, wide)) (omega arith))
    ∙ ap (λ n. range_with_len a n ++ range_with_len (a + 8) (b - (a + 8))) (sym first)
    ∙ range_meet a (a + 8) b (omega arith) (omega (arith, wide))

part_by : (a b : ℕ) (g : Bool) → is_gap a b ≡ g → a ≤ b
    → flat_map ticks_of (if g then one_by_one a 8 ++ fold_of a b ∷ one_by_one (b - 8) 8 else one_by_one a (b - a)) ≡ range_with_len a (b - a)
part_by a b true gap up = part_folded a b (grind (arith, nat_tests, gap, up))
part_by a b false gap up = singles a (b - a)

part_ticks : (a b : ℕ) → a ≤ b → flat_map ticks_of (part a b) ≡ range_with_len a (b - a)
part_ticks a b up = part_by a b (is_gap a b) refl up

-- ---- stops

module _ (f : Frame) (cs : List ℕ) where
  -- the stops among so many ticks from the n-th on, and the end
  rest : ℕ → ℕ → List ℕ
  rest n m = flat_map (λ k. stop_at f cs (f.from + k)) (range_with_len n m) ++ f.to ∷ []

  is_stop : ℕ → Bool
  is_stop tick = tick == f.from || is_change cs tick

  rest_stop : (n m : ℕ) → is_stop (f.from + n) ≡ true → rest n (suc m) ≡ (f.from + n) ∷ rest (n + 1) m
  unfolding rest is_stop
  rest_stop n m h =
      ap (λ b. ((if b then (f.from + n) ∷ [] else []) ++ flat_map (λ k. stop_at f cs (f.from + k)) (range_with_len (n + 1) m)) ++ f.to ∷ []) h

  rest_none : (n m : ℕ) → is_stop (f.from + n) ≡ false → rest n (suc m) ≡ rest (n + 1) m
  unfolding rest is_stop
  rest_none n m h =
      ap (λ b. ((if b then (f.from + n) ∷ [] else []) ++ flat_map (λ k. stop_at f cs (f.from + k)) (range_with_len (n + 1) m)) ++ f.to ∷ []) h

  covered : (m n a : ℕ) → a ≤ f.from + n → f.from + n + m ≡ f.to → flat_map ticks_of (columns_from a (rest n m)) ≡ range_with_len a (f.to - a)
  unfolding rest columns_from
  covered zero n a up all = ap (flat_map ticks_of) (append-nil (part a f.to)) ∙ part_ticks a f.to (omega (arith, up, all))
  covered (suc m) n a up all = elim (cases_Bool (is_stop (f.from + n))) [
    | inl stop ↦
        let t : ℕ = f.from + n in
        ap (λ xs. flat_map ticks_of (columns_from a xs)) (rest_stop n m stop)
        ∙ flat_map-append ticks_of (part a t) (columns_from t (rest (n + 1) m))
        ∙ ap (λ xs. xs ++ flat_map ticks_of (columns_from t (rest (n + 1) m))) (part_ticks a t up)
        ∙ ap (λ xs. range_with_len a (t - a) ++ xs) (covered m (n + 1) t (omega arith) (omega (arith, all)))
        ∙ range_meet a t f.to up (omega (arith, all))
    | inr none ↦ ap (λ xs. flat_map ticks_of (columns_from a xs)) (rest_none n m none) ∙ covered m (n + 1) a (omega (arith, up)) (omega (arith, all))
  ]

  -- nothing changes behind a and before tick n
  Still : ℕ → ℕ → Type 0
  Still a n = (tick : ℕ) → a < tick → tick < f.from + n → is_change cs tick ≡ false

  Quiet : Column → Type 0
  Quiet x = (tick : ℕ) → is_change cs tick ≡ true → x.from < tick → tick < x.to → ⊥

  quiet_if : (a n : ℕ) (g : Bool) → Still a n → All Quiet (if g then fold_of a (f.from + n) ∷ [] else [])
  unfolding Still Quiet
  quiet_if a n true still =
      All-cons Quiet (fold_of a (f.from + n)) []
      (λ tick changes from to. false≢true (sym (still tick (omega (arith, from)) (omega (arith, to))) ∙ changes)) (All-nil Quiet)
  quiet_if a n false still = All-nil Quiet

  quiet_part : (a n : ℕ) → Still a n → All Quiet (fold_if a (f.from + n))
  quiet_part a n still = quiet_if a n (is_gap a (f.from + n)) still

  quiet_from : (m n a : ℕ) → f.from + n + m ≡ f.to → Still a n → All Quiet (folds_from a (rest n m))
  unfolding rest folds_from Still is_stop
  quiet_from zero n a all still =
      let at : f.from + n ≡ f.to = omega (arith, all) in
      subst (All Quiet) (sym (append-nil (fold_if a f.to))) (subst (λ b. All Quiet (fold_if a b)) at (quiet_part a n still))
  quiet_from (suc m) n a all still = elim (cases_Bool (is_stop (f.from + n))) [
    | inl stop ↦
        let t : ℕ = f.from + n in
        subst (λ xs. All Quiet (folds_from a xs)) (sym (rest_stop n m stop))
        (All-append Quiet (fold_if a t) (folds_from t (rest (n + 1) m)) (quiet_part a n still)
        (quiet_from m (n + 1) t (omega (arith, all)) (λ tick from to. absurd (omega (arith, from, to)))))
    | inr none ↦
        subst (λ xs. All Quiet (folds_from a xs)) (sym (rest_none n m none))
        (quiet_from m (n + 1) a (omega (arith, all)) (λ tick from to. elim (cases_eq tick (f.from + n)) [
          | inl same ↦ ap (is_change cs) same ∙ or_rest ((f.from + n) == f.from) (is_change cs (f.from + n)) none
          | inr other ↦ still tick from (omega (arith, to, other))
        ]))
  ]

-- ---- which columns are folds

no_folds : (a n : ℕ) → filter is_fold (one_by_one a n) ≡ []
no_folds a zero = refl
no_folds a (suc n) =
    let many : a + 1 - a ≡ 1 = omega arith in
    let one : nat_lt 1 (a + 1 - a) ≡ false = ap (nat_lt 1) many in
    ap (λ b. if b then single a ∷ filter is_fold (one_by_one (a + 1) n) else filter is_fold (one_by_one (a + 1) n)) one ∙ no_folds (a + 1) n

one_fold : (a b : ℕ) → a + 48 < b → filter is_fold (one_by_one a 8 ++ fold_of a b ∷ one_by_one (b - 8) 8) ≡ fold_of a b ∷ []
one_fold a b wide =
    let is : nat_lt 1 (b - 8 - (a + 8)) ≡ true = grind (arith, nat_tests, wide) in
    filter-append is_fold (one_by_one a 8) (fold_of a b ∷ one_by_one (b - 8) 8)
    ∙ ap (λ xs. xs ++ filter is_fold (fold_of a b ∷ one_by_one (b - 8) 8)) (no_folds a 8)
    ∙ ap (λ g. if g then fold_of a b ∷ filter is_fold (one_by_one (b - 8) 8) else filter is_fold (one_by_one (b - 8) 8)) is
    ∙ ap (λ xs. fold_of a b ∷ xs) (no_folds (b - 8) 8)

part_folds_by : (a b : ℕ) (g : Bool) → is_gap a b ≡ g
    → filter is_fold (if g then one_by_one a 8 ++ fold_of a b ∷ one_by_one (b - 8) 8 else one_by_one a (b - a)) ≡ (if g then fold_of a b ∷ [] else [])
part_folds_by a b true gap = one_fold a b (grind (arith, nat_tests, gap))
part_folds_by a b false gap = no_folds a (b - a)

columns_folds : (a : ℕ) (bs : List ℕ) → filter is_fold (columns_from a bs) ≡ folds_from a bs
unfolding columns_from folds_from
columns_folds a [] = refl
columns_folds a (b ∷ bs) =
    filter-append is_fold (part a b) (columns_from b bs)
    ∙ ap (λ xs. xs ++ filter is_fold (columns_from b bs)) (part_folds_by a b (is_gap a b) refl)
    ∙ ap (λ xs. fold_if a b ++ xs) (columns_folds b bs)

-- ---- the laws

-- what is said of columns and folds
record Sound (f : Frame) (cs : List ℕ) (all folded : List Column) : Type 0 where
  whole : flat_map ticks_of all ≡ range_with_len f.from (f.to - f.from)
  which : filter is_fold all ≡ folded
  quiet : All (Quiet f cs) folded

unfolded : (f : Frame) (cs : List ℕ) → Sound f cs (one_by_one f.from (f.to - f.from)) []
unfolded f cs = record { whole = singles f.from (f.to - f.from); which = no_folds f.from (f.to - f.from); quiet = All-nil (Quiet f cs) }

first_is : (f : Frame) (cs : List ℕ) → is_stop f cs (f.from + 0) ≡ true
unfolding is_stop
first_is f cs =
    let zero_on : f.from + 0 ≡ f.from = omega arith in
    let same : (f.from == f.from) ≡ true = grind (arith, nat_tests) in
    ap (λ t. t == f.from || is_change cs t) zero_on ∙ ap (λ b. b || is_change cs f.from) same

-- the first stop is the first tick
first_stop : (f : Frame) (cs : List ℕ) (m : ℕ) → f.to - f.from ≡ suc m → stops_of f cs ≡ f.from ∷ rest f cs 1 m
unfolding stops_of rest
first_stop f cs m many =
    let zero_on : f.from + 0 ≡ f.from = omega arith in
    ap (λ n. flat_map (λ k. stop_at f cs (f.from + k)) (range_with_len 0 n) ++ f.to ∷ []) many
    ∙ rest_stop f cs 0 m (first_is f cs) ∙ ap (λ t. t ∷ rest f cs 1 m) zero_on

nothing : (f : Frame) (cs : List ℕ) → Still f cs f.from 1
unfolding Still
nothing f cs tick from to = absurd (omega (arith, from, to))

folded_by : (f : Frame) (cs : List ℕ) (m : ℕ) → f.to - f.from ≡ suc m → Sound f cs (columns_of (stops_of f cs)) (folds_of (stops_of f cs))
unfolding folds_of
folded_by f cs m many =
    let all : f.from + 1 + m ≡ f.to = omega (arith, many) in
    subst (λ stops. Sound f cs (columns_of stops) (folds_of stops)) (sym (first_stop f cs m many)) (record {
      whole = covered f cs m 1 f.from (omega arith) all;
      which = columns_folds f.from (rest f cs 1 m);
      quiet = quiet_from f cs m 1 f.from all (nothing f cs);
    })

few_by : (f : Frame) (cs : List ℕ) (few : Bool) (all folded : List Column) → Sound f cs all folded
    → Sound f cs (if few then all else one_by_one f.from (f.to - f.from)) (if few then folded else [])
few_by f cs true all folded sound = sound
few_by f cs false all folded sound = unfolded f cs

wide_by : (f : Frame) (cs : List ℕ) (wide : Bool) → is_wide f ≡ wide
    → Sound f cs (if wide then columns_if f (stops_of f cs) else one_by_one f.from (f.to - f.from)) (if wide then few_of (folds_of (stops_of f cs)) else [])
wide_by f cs true wide =
    let m : ℕ = f.to - f.from - 1 in
    let many : f.to - f.from ≡ suc m = grind (arith, nat_tests, wide) in
    few_by f cs (are_few (folds_of (stops_of f cs))) (columns_of (stops_of f cs)) (folds_of (stops_of f cs)) (folded_by f cs m many)
wide_by f cs false wide = unfolded f cs

pub quiet_folds : AllFoldsAreQuiet
unfolding columns folds Quiet
quiet_folds f h =
    let sound = wide_by f (changes_in f h) (is_wide f) refl in
    record { whole = sound.whole; folded = sound.which; quiet = sound.quiet }
