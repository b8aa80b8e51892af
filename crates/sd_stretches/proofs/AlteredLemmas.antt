-- An event alters the sight of one thread at most, and what follows for the lists of a history.
use Rattle.std.proofs.Common.{◌≡◌, ℕ, zero, suc, ◌+◌, ◌-◌, ◌<◌, ◌≤◌, Bool, true, false, List, [], ◌∷◌, ◌++◌, Option, Some, None, length, get_or, set, map, refl, sym, ap, ◌∙◌, subst, inl, inr, arith, add-one}
use Rattle.std.specs.Prelude.{◌≢◌, ◌==◌, nat_le, min, if◌then◌else◌, cond, slice_get, option_map, unwrap_or}
use Rattle.std.specs.List.{flat_map, range_with_len}
use Rattle.std.proofs.lemmas.Bool.{cases_eq, cases_lt, eq-eqb}
use Rattle.std.proofs.lemmas.Bool.Decides.{nat_tests}
use Rattle.std.proofs.lemmas.List.{append-nil, ext_get_or, get_or-set_same, get_or-set_other, length-append, length-map, length-set, take_all}
use Rattle.std.proofs.Math.Seq.{get_or-append_seam}
use Rattle.std.proofs.lemmas.List.Sums.{count_by-le-length, sum_by-set}
use Rattle.std.proofs.lemmas.Option.{slice_get-get_or, slice_get-map, slice_get_past, unwrap_or-slice_get}
use Rattle.sd_basics.proofs.Ranges.{flat_range_more}
use Rattle.sd_types.specs.declared.events.Entry.{Entry}
use Rattle.sd_types.specs.declared.scripts.Op.{Op}
use Rattle.sd_types.specs.declared.works.Work.{Work}
use Rattle.sd_state.specs.declared.states.ThreadState.{ThreadState}
use Rattle.sd_state.specs.Opening.{opening}
use Rattle.sd_state.specs.Operations.{op_over, ran}
use Rattle.sd_state.specs.States.{no_thread}
use Rattle.sd_machine.specs.Events.{after}
use Rattle.sd_machine.specs.Runs.{final, state_at}
use Rattle.sd_machine.proofs.ShapeLemmas.{after_shape}
use Rattle.sd_frames.proofs.Altering.{after_but}
use Rattle.sd_stretches.specs.declared.changes.Load.{Load}
use Rattle.sd_stretches.specs.declared.sights.Sight.{Sight}
use Rattle.sd_stretches.specs.Altered.{AlikeBut, EventsAlterOneSight, last_count, load_by_sight, load_count, loads_by, one_moved, onsets_by, ranks_by, sight_among, sights_by, with_sight}
use Rattle.sd_stretches.specs.Changes.{load_if, onset_if, onsets_between, rank_if, ranks_between}
use Rattle.sd_stretches.specs.Histories.{loads_in, moment, over, tick_by, entry_before}
use Rattle.sd_stretches.specs.Sights.{is_runnable, runnable, same_rank, same_truth, sight_of, sights_of}
use Rattle.sd_stretches.proofs.ExactLemmas.{one_of, same_self}

-- The law.

ran_sight : (x : ThreadState) (ops : List Op) → sight_of (record x { body = ran ops x.body }) ≡ sight_of x
ran_sight x ops = elim (nat_le x.body.run_left 1) as (λ b. sight_of (record x { body = if b then op_over ops x.body else record x.body { run_left = x.body.run_left - 1 } }) ≡ sight_of x)
    [ true ↦ refl | false ↦ refl ]

read_same : {A B : Type 0} (f : A → B) (d : A) (xs ys : List A) (u : ℕ) → length ys ≡ length xs → f (get_or ys u d) ≡ f (get_or xs u d) → slice_get (map f ys) u ≡ slice_get (map f xs) u
read_same f d xs ys u many same = elim (cases_lt u (length xs)) [
  | inl here ↦
      slice_get-map f ys u ∙ ap (option_map f) (slice_get-get_or ys u d (omega (arith, many, here))) ∙ ap Some same
      ∙ sym (slice_get-map f xs u ∙ ap (option_map f) (slice_get-get_or xs u d here))
  | inr past ↦
      slice_get-map f ys u ∙ ap (option_map f) (slice_get_past ys u (omega (arith, many, past)))
      ∙ sym (slice_get-map f xs u ∙ ap (option_map f) (slice_get_past xs u past))
]

pub alter_one : EventsAlterOneSight
unfolding sights_of
alter_one w s n c e =
    let many = (after_shape w s n c e).threads in
    record {
      many = length-map (after w s n c e).threads sight_of ∙ many ∙ sym (length-map s.threads sight_of);
      others = λ u other. read_same sight_of no_thread s.threads (after w s n c e).threads u many ((after_but sight_of (λ x ops. refl) ran_sight (λ x l. refl) w s n c e).each u other);
    }

-- Functions of a range that give nothing but at one number.

all_none : {A : Type 0} (f : ℕ → List A) (a n : ℕ) → ((u : ℕ) → u < a + n → f u ≡ []) → flat_map f (range_with_len a n) ≡ []
all_none f a zero none = refl
all_none f a (suc n) none =
    ap (λ ys. ys ++ flat_map f (range_with_len (a + 1) n)) (none a (omega arith)) ∙ all_none f (a + 1) n (λ u inside. none u (omega (arith, inside)))

only_by : {A : Type 0} (f : ℕ → List A) (t n : ℕ) → ((u : ℕ) → u ≢ t → f u ≡ []) → (n ≤ t → f t ≡ []) → flat_map f (range_with_len 0 n) ≡ f t
only_by f t n none past = elim (cases_lt t n) [
  | inl here ↦ one_of f t 0 n none (omega arith) (omega (arith, here))
  | inr out ↦ all_none f 0 n (λ u inside. none u (λ is. omega (arith, is, inside, out))) ∙ sym (past out)
]

none_some : (u : ℕ) → None ≡ Some u → ⊥
none_some u is = cc

some_is : (t u : ℕ) → Some t ≡ Some u → u ≡ t
some_is t u is = cc

-- The lists, from the sights of one thread.

quiet_onset : (u first tick : ℕ) (o : Option Sight) → onset_if u first tick o o ≡ []
quiet_onset u first tick None = refl
quiet_onset u first tick (Some x) = rw (same_self x.doing) refl

same_truth_self : (b : Bool) → same_truth b b ≡ true
same_truth_self true = refl
same_truth_self false = refl

same_rank_self : (x : Sight) → same_rank x x ≡ true
same_rank_self x = let one = eq-eqb x.priority x.priority refl in let other = same_truth_self x.inherited in rw (one, other) refl

quiet_rank : (u first tick : ℕ) (o : Option Sight) → rank_if u first tick o o ≡ []
quiet_rank u first tick None = refl
quiet_rank u first tick (Some x) = rw (same_rank_self x) refl

pub onsets_one : (o : Option ℕ) (first tick : ℕ) (old new : List Sight) → AlikeBut o old new → onsets_by o first tick old (sight_among o new) ≡ onsets_between old new first tick
unfolding onsets_between
onsets_one None first tick old new a =
    sym (all_none (λ u. onset_if u first tick (slice_get old u) (slice_get new u)) 0 (length new)
    (λ u inside. ap (λ x. onset_if u first tick (slice_get old u) x) (a.others u (none_some u)) ∙ quiet_onset u first tick (slice_get old u)))
onsets_one (Some t) first tick old new a =
    sym (only_by (λ u. onset_if u first tick (slice_get old u) (slice_get new u)) t (length new)
    (λ u other. ap (λ x. onset_if u first tick (slice_get old u) x) (a.others u (λ is. other (some_is t u is))) ∙ quiet_onset u first tick (slice_get old u))
    (λ past. ap (λ x. onset_if t first tick (slice_get old t) x) (slice_get_past new t past)))

pub ranks_one : (o : Option ℕ) (first tick : ℕ) (old new : List Sight) → AlikeBut o old new → ranks_by o first tick old (sight_among o new) ≡ ranks_between old new first tick
unfolding ranks_between
ranks_one None first tick old new a =
    sym (all_none (λ u. rank_if u first tick (slice_get old u) (slice_get new u)) 0 (length new)
    (λ u inside. ap (λ x. rank_if u first tick (slice_get old u) x) (a.others u (none_some u)) ∙ quiet_rank u first tick (slice_get old u)))
ranks_one (Some t) first tick old new a =
    sym (only_by (λ u. rank_if u first tick (slice_get old u) (slice_get new u)) t (length new)
    (λ u other. ap (λ x. rank_if u first tick (slice_get old u) x) (a.others u (λ is. other (some_is t u is))) ∙ quiet_rank u first tick (slice_get old u))
    (λ past. ap (λ x. rank_if t first tick (slice_get old t) x) (slice_get_past new t past)))

-- a sight to read where no thread is
no_sight : Sight
no_sight = sight_of no_thread

read_or : (xs ys : List Sight) (i : ℕ) → slice_get xs i ≡ slice_get ys i → get_or xs i no_sight ≡ get_or ys i no_sight
read_or xs ys i same = sym (unwrap_or-slice_get xs i no_sight) ∙ ap (λ o. unwrap_or o no_sight) same ∙ unwrap_or-slice_get ys i no_sight

pub sights_one : (o : Option ℕ) (old new : List Sight) → AlikeBut o old new → sights_by o old (sight_among o new) ≡ new
sights_one None old new a = ext_get_or no_sight old new (sym a.many) (λ i inside. read_or old new i (sym (a.others i (none_some i))))
sights_one (Some t) old new a = elim (cases_lt t (length new)) [
  | inl here ↦
      let many = a.many in
      let x : Sight = get_or new t no_sight in
      let length_set : length (set old t x) ≡ length old = length-set old t x in
      ap (with_sight old t) (slice_get-get_or new t no_sight here)
      ∙ ext_get_or no_sight (set old t x) new (length_set ∙ sym many) (λ i inside. elim (cases_eq i t) [
        | inl is ↦ subst (λ j. get_or (set old t x) j no_sight ≡ get_or new j no_sight) (sym is) (get_or-set_same old t x no_sight (omega (arith, many, here)))
        | inr other ↦ get_or-set_other old t i x no_sight other ∙ read_or old new i (sym (a.others i (λ is. other (some_is t i is))))
      ])
  | inr past ↦
      let many = a.many in
      ap (with_sight old t) (slice_get_past new t past)
      ∙ ext_get_or no_sight old new (sym many) (λ i inside. read_or old new i (sym (a.others i (λ is. let same = some_is t i is in omega (arith, same, inside, past, many)))))
]

one_load : ℕ → ℕ → ℕ → List Load
one_load first tick n = record { first = first; tick = tick; runnable = n } ∷ []

-- n were runnable, and m are: one thread was (b), and is (c)
load_counted : (first tick n m : ℕ) (b c : Bool) → m + cond b 1 0 ≡ n + cond c 1 0 → m ≤ 18446744073709551615
    → (if same_truth b c then [] else one_load first tick (one_moved c n)) ≡ (if n == m then [] else one_load first tick m)
unfolding one_load
load_counted first tick n m true true many fits = let same = eq-eqb n m (omega (arith, many)) in rw same refl
load_counted first tick n m false false many fits = let same = eq-eqb n m (omega (arith, many)) in rw same refl
load_counted first tick n m true false many fits =
    let other : n == m ≡ false = grind (arith, nat_tests, many) in
    let less : n - 1 ≡ m = omega (arith, many) in
    rw (other, less) refl
load_counted first tick n m false true many fits =
    let other : n == m ≡ false = grind (arith, nat_tests, many) in
    let more : min (n + 1) 18446744073709551615 ≡ m = grind (arith, nat_tests, many, fits) in
    rw (other, more) refl

load_same : (first tick : ℕ) (old new : List Sight) → old ≡ new → load_if old new first tick ≡ []
load_same first tick old new same = let is = eq-eqb (runnable old) (runnable new) (ap runnable same) in rw is refl

pub loads_one : (o : Option ℕ) (first tick : ℕ) (old new : List Sight) → AlikeBut o old new → length new ≤ 18446744073709551615
    → loads_by (runnable old) o first tick old (sight_among o new) ≡ load_if old new first tick
unfolding one_load
loads_one None first tick old new a fits = sym (load_same first tick old new (sights_one None old new a))
loads_one (Some t) first tick old new a fits = elim (cases_lt t (length new)) [
  | inl here ↦
      let many = a.many in
      let x : Sight = get_or new t no_sight in
      let y : Sight = get_or old t no_sight in
      let now = slice_get-get_or new t no_sight here in
      let was = slice_get-get_or old t no_sight (omega (arith, many, here)) in
      let set_new : set old t x ≡ new = ap (with_sight old t) (sym now) ∙ sights_one (Some t) old new a in
      let counts : runnable (set old t x) + cond (is_runnable y) 1 0 ≡ runnable old + cond (is_runnable x) 1 0
      = sum_by-set (λ z. cond (is_runnable z) 1 0) old t x no_sight (omega (arith, many, here)) in
      let less = count_by-le-length is_runnable new in
      ap (λ p. load_by_sight (runnable old) first tick p (slice_get new t)) was
      ∙ ap (λ p. load_by_sight (runnable old) first tick (Some y) p) now
      ∙ load_counted first tick (runnable old) (runnable new) (is_runnable y) (is_runnable x)
      (subst (λ zs. runnable zs + cond (is_runnable y) 1 0 ≡ runnable old + cond (is_runnable x) 1 0) set_new counts) (omega (arith, less, fits))
  | inr past ↦
      let many = a.many in
      let now = slice_get_past new t past in
      let was = slice_get_past old t (omega (arith, many, past)) in
      ap (λ p. load_by_sight (runnable old) first tick p (slice_get new t)) was
      ∙ sym (load_same first tick old new (sym (ap (with_sight old t) now) ∙ sights_one (Some t) old new a))
]

-- The last load is how many are runnable.

pushed_count : (xs : List Load) (x : Load) → last_count (xs ++ x ∷ []) ≡ x.runnable
pushed_count xs x =
    let many = length-append xs (x ∷ []) in
    ap (λ k. load_count (slice_get (xs ++ x ∷ []) k)) (let last : length (xs ++ x ∷ []) - 1 ≡ length xs = omega (arith, many) in last)
    ∙ ap load_count (slice_get-get_or (xs ++ x ∷ []) (length xs) x (omega (arith, many)))
    ∙ ap (λ (y : Load). y.runnable) (get_or-append_seam xs x [] x)

counted_if : (xs : List Load) (old new : List Sight) (first tick : ℕ) → last_count xs ≡ runnable old → last_count (xs ++ load_if old new first tick) ≡ runnable new
counted_if xs old new first tick so = elim (cases_eq (runnable old) (runnable new)) [
  | inl same ↦
      let is = eq-eqb (runnable old) (runnable new) same in
      ap (λ b. last_count (xs ++ (if b then [] else record { first = first; tick = tick; runnable = runnable new } ∷ []))) is
      ∙ ap last_count (append-nil xs) ∙ so ∙ same
  | inr other ↦
      let not : runnable old == runnable new ≡ false = grind (arith, nat_tests, other) in
      ap (λ b. last_count (xs ++ (if b then [] else record { first = first; tick = tick; runnable = runnable new } ∷ []))) not
      ∙ pushed_count xs (record { first = first; tick = tick; runnable = runnable new })
]

count_at : (w : Work) (es : List Entry) (k : ℕ) → last_count (flat_map (λ j. loads_in (moment w es j)) (range_with_len 0 (k + 1))) ≡ runnable (sights_of (state_at w es k))
unfolding moment
count_at w es zero =
    ap last_count (flat_range_more (λ j. loads_in (moment w es j)) 0)
    ∙ counted_if [] [] (sights_of (state_at w es 0)) 0 0 refl
count_at w es (suc k) =
    ap last_count (flat_range_more (λ j. loads_in (moment w es j)) (suc k))
    ∙ counted_if (flat_map (λ j. loads_in (moment w es j)) (range_with_len 0 (suc k))) (sights_of (state_at w es k)) (sights_of (state_at w es (suc k))) (suc k) (tick_by (state_at w es (suc k)) (entry_before es (suc k)))
    (ap (λ m. last_count (flat_map (λ j. loads_in (moment w es j)) (range_with_len 0 m))) (sym (add-one k)) ∙ count_at w es k)

pub last_over : (w : Work) (es : List Entry) → last_count (over loads_in w es) ≡ runnable (sights_of (final w (opening w) es))
unfolding over
last_over w es = count_at w es (length es) ∙ ap (λ xs. runnable (sights_of (final w (opening w) xs))) (take_all (length es) es (omega arith))
