-- Where the threads of a dispatch queue stand, by their numbers, as threads come and leave.
use Rattle.std.proofs.Common.{◌≡◌, ◌≢◌, ℕ, zero, suc, ◌*◌, ◌/◌, ◌%◌, ◌<◌, ◌≤◌, ◌==◌, Bool, true, false, List, [], ◌∷◌, Option, None, Some, is_some, get_or, set, length, length-set, IfSome, refl, sym, ap, ◌∙◌, subst, arith}
use Rattle.std.proofs.lemmas.Bool.Decides.{nat_tests}
use Rattle.std.proofs.lemmas.Nat.Bits.{bit_at-lt}
use Rattle.std.proofs.lemmas.List.{get_or-set_same, get_or-set_other}
use Rattle.sd_boxq.specs.Order.{drop_id, find_id, insert_before, insert_ranked, precedes}
use Rattle.sd_dispq.specs.Bitmap.{HasBit, bit_of, IsNextSet}
use Rattle.sd_record.specs.Records.{ThreadRecord}
use Rattle.sd_machine.specs.Threads.{is_ts}
use Rattle.sd_homes.specs.declared.ready_index.Found.TheVariants.{At}
use Rattle.sd_homes.specs.Standing.{ages, earlier, id_of, key_in, least_to_age, rank_of}
use Rattle.sd_homes.specs.ReadyIndexes.{AreNoted, IsIndexOf, IsSameBut, Tells, age_bit, bit_if, priority_at}
use Rattle.sd_homes.proofs.AgeLemmas.{from_step}

-- ---- a thread with a number
other : (r : ThreadRecord) (i : ℕ) → (id_of r == i) ≡ false → id_of r ≢ i
other r i e = grind (arith, nat_tests)

own : (r : ThreadRecord) (i : ℕ) → (id_of r == i) ≡ true → id_of r ≡ i
own r i e = grind (arith, nat_tests)

apart : (r : ThreadRecord) (i : ℕ) → id_of r ≢ i → (id_of r == i) ≡ false
apart r i e = grind (arith, nat_tests)

found_past : (i : ℕ) (r : ThreadRecord) (rs : List ThreadRecord) → (id_of r == i) ≡ false → find_id id_of i (r ∷ rs) ≡ find_id id_of i rs
found_past i r rs e = rw e refl

found_here : (i : ℕ) (r : ThreadRecord) (rs : List ThreadRecord) → (id_of r == i) ≡ true → find_id id_of i (r ∷ rs) ≡ Some r
found_here i r rs e = rw e refl

not_here : (i : ℕ) (r : ThreadRecord) (rs : List ThreadRecord) → find_id id_of i (r ∷ rs) ≡ None → ((id_of r == i) ≡ false) × (find_id id_of i rs ≡ None)
not_here i r rs f = by (id_of r == i) refl
  where
    by : (b : Bool) → (id_of r == i) ≡ b → ((id_of r == i) ≡ false) × (find_id id_of i rs ≡ None)
    by true e = let k : Some r ≡ None = sym (found_here i r rs e) ∙ f in absurd cc
    by false e = (e, sym (found_past i r rs e) ∙ f)

found_own : (i : ℕ) (rs : List ThreadRecord) (r : ThreadRecord) → find_id id_of i rs ≡ Some r → id_of r ≡ i
found_own i [] r f = absurd cc
found_own i (x ∷ rs) r f = by (id_of x == i) refl (found_own i rs r)
  where
    by : (b : Bool) → (id_of x == i) ≡ b → (find_id id_of i rs ≡ Some r → id_of r ≡ i) → id_of r ≡ i
    by true e rest = let k : Some x ≡ Some r = sym (found_here i x rs e) ∙ f in let same : x ≡ r = cc in ap id_of (sym same) ∙ own x i e
    by false e rest = rest (sym (found_past i x rs e) ∙ f)

put_other : (p : ThreadRecord → Bool) (x : ThreadRecord) (j : ℕ) (rs : List ThreadRecord) → (id_of x == j) ≡ false → find_id id_of j (insert_before p x rs) ≡ find_id id_of j rs
put_other p x j [] e = rw e refl
put_other p x j (r ∷ rs) e = grind (arith, put_other p x j rs e)

pub put_own : (p : ThreadRecord → Bool) (x : ThreadRecord) (j : ℕ) (rs : List ThreadRecord) → (id_of x == j) ≡ true → is_some (find_id id_of j (insert_before p x rs)) ≡ true
put_own p x j [] e = rw e refl
put_own p x j (r ∷ rs) e = grind (arith, put_own p x j rs e)

left_none : (i j : ℕ) (rs : List ThreadRecord) → find_id id_of j rs ≡ None → find_id id_of j (drop_id id_of i rs) ≡ None
left_none i j [] f = refl
left_none i j (r ∷ rs) f = grind (arith, left_none i j rs)

left_other : (i j : ℕ) (rs : List ThreadRecord) → i ≢ j → find_id id_of j (drop_id id_of i rs) ≡ find_id id_of j rs
left_other i j [] n = refl
left_other i j (r ∷ rs) n = grind (arith, nat_tests, left_other i j rs n)

-- ---- what is noted
pub clash : (bit : ℕ) → bit ≡ 1 → bit ≡ 0 → ⊥
clash bit one none = omega arith

module _ {i : ℕ} {ps qs : List (Option ℕ)} {ws vs : List ℕ} (s : IsSameBut i ps qs ws vs) where
  beside : (rs : List ThreadRecord) → find_id id_of i rs ≡ None → AreNoted ps ws rs → AreNoted qs vs rs
  beside [] f h = tt
  beside (r ∷ rs) f h =
      let past = not_here i r rs f in
      let n = other r i past.0 in
      (s.places (id_of r) n ∙ h.0, s.bits (id_of r) n ∙ h.1, h.2, beside rs past.1 h.3)

found_noted : (ps : List (Option ℕ)) (ws : List ℕ) (i : ℕ) (rs : List ThreadRecord) (r : ThreadRecord) → AreNoted ps ws rs → find_id id_of i rs ≡ Some r
    → (priority_at ps i ≡ Some (rank_of r)) × (bit_of ws i ≡ age_bit r)
found_noted ps ws i [] r h f = absurd cc
found_noted ps ws i (x ∷ rs) r h f = by (id_of x == i) refl (found_noted ps ws i rs r h.3)
  where
    by : (b : Bool) → (id_of x == i) ≡ b → (find_id id_of i rs ≡ Some r → (priority_at ps i ≡ Some (rank_of r)) × (bit_of ws i ≡ age_bit r))
        → (priority_at ps i ≡ Some (rank_of r)) × (bit_of ws i ≡ age_bit r)
    by true e rest =
        let k : Some x ≡ Some r = sym (found_here i x rs e) ∙ f in
        let same : x ≡ r = cc in
        (ap (priority_at ps) (sym (own x i e)) ∙ h.0 ∙ ap (λ y. Some (rank_of y)) same, ap (bit_of ws) (sym (own x i e)) ∙ h.1 ∙ ap age_bit same)
    by false e rest = rest (sym (found_past i x rs e) ∙ f)

pub none_noted : (ps : List (Option ℕ)) (ws : List ℕ) (i : ℕ) (rs : List ThreadRecord) → AreNoted ps ws rs → priority_at ps i ≡ None → find_id id_of i rs ≡ None
none_noted ps ws i rs h e = by (find_id id_of i rs) refl
  where
    by : (o : Option ThreadRecord) → find_id id_of i rs ≡ o → find_id id_of i rs ≡ None
    by None f = f
    by (Some r) f = let k : None ≡ Some (rank_of r) = sym e ∙ (found_noted ps ws i rs r h f).0 in absurd cc

outside : (ps : List (Option ℕ)) (i : ℕ) → length ps ≤ i → priority_at ps i ≡ None
outside [] i h = refl
outside (p ∷ ps) zero h = absurd (omega arith)
outside (p ∷ ps) (suc i) h = outside ps i (omega arith)

-- ---- a thread comes
module _ {ps qs : List (Option ℕ)} {ws vs : List ℕ} (x : ThreadRecord) (s : IsSameBut (id_of x) ps qs ws vs) (here : priority_at qs (id_of x) ≡ Some (rank_of x)) (bit : bit_of vs (id_of x) ≡ age_bit x) where
  put_noted : (p : ThreadRecord → Bool) (rs : List ThreadRecord) → find_id id_of (id_of x) rs ≡ None → AreNoted ps ws rs → AreNoted qs vs (insert_before p x rs)
  put_noted p [] f h = (here, bit, refl, tt)
  put_noted p (r ∷ rs) f h = let past = not_here (id_of x) r rs f in by (p r) refl past.0 (put_noted p rs past.1 h.3)
    where
      by : (c : Bool) → p r ≡ c → (id_of r == id_of x) ≡ false → AreNoted qs vs (insert_before p x rs) → AreNoted qs vs (insert_before p x (r ∷ rs))
      by true e past rest = rw e ((here, bit, f, beside s (r ∷ rs) f h))
      by false e past rest =
          let n = other r (id_of x) past in
          rw e ((s.places (id_of r) n ∙ h.0, s.bits (id_of r) n ∙ h.1, put_other p x (id_of r) rs (apart x (id_of r) (λ k. n (sym k))) ∙ h.2, rest))

  -- whoever stood there with another number stands there still
  still : (p : ThreadRecord → Bool) (rs : List ThreadRecord) (i : ℕ) → (i ≢ id_of x → is_some (find_id id_of i rs) ≡ true) → is_some (find_id id_of i (insert_before p x rs)) ≡ true
  still p rs i h = by (id_of x == i) refl
    where
      by : (c : Bool) → (id_of x == i) ≡ c → is_some (find_id id_of i (insert_before p x rs)) ≡ true
      by true c = put_own p x i rs c
      by false c = ap is_some (put_other p x i rs c) ∙ h (λ k. other x i c (sym k))

  pub index_put : (rs : List ThreadRecord) → length qs ≤ 64 * length vs → priority_at ps (id_of x) ≡ None → IsIndexOf ps ws rs → IsIndexOf qs vs (insert_ranked rank_of key_in x rs)
  index_put rs fit e h = record {
    fit = fit;
    noted = put_noted (precedes rank_of key_in x) rs (none_noted ps ws (id_of x) rs h.noted e) h.noted;
    stand = λ i p e. still (precedes rank_of key_in x) rs i (λ n. h.stand i p (sym (s.places i n) ∙ e));
    age = λ i e. still (precedes rank_of key_in x) rs i (λ n. h.age i (sym (s.bits i n) ∙ e));
  }

-- ---- a thread leaves
module _ {i : ℕ} {ps qs : List (Option ℕ)} {ws vs : List ℕ} (s : IsSameBut i ps qs ws vs) where
  taken_noted : (rs : List ThreadRecord) → AreNoted ps ws rs → AreNoted qs vs (drop_id id_of i rs)
  taken_noted [] h = tt
  taken_noted (r ∷ rs) h = by (id_of r == i) refl (taken_noted rs h.3)
    where
      by : (c : Bool) → (id_of r == i) ≡ c → AreNoted qs vs (drop_id id_of i rs) → AreNoted qs vs (drop_id id_of i (r ∷ rs))
      by true e rest = rw e (beside s rs (ap (λ j. find_id id_of j rs) (sym (own r i e)) ∙ h.2) h.3)
      by false e rest = let n = other r i e in rw e ((s.places (id_of r) n ∙ h.0, s.bits (id_of r) n ∙ h.1, left_none i (id_of r) rs h.2, rest))

  remains : (rs : List ThreadRecord) (j : ℕ) → j ≢ i → is_some (find_id id_of j rs) ≡ true → is_some (find_id id_of j (drop_id id_of i rs)) ≡ true
  remains rs j n h = ap is_some (left_other i j rs (λ k. n (sym k))) ∙ h

  pub index_taken : (rs : List ThreadRecord) → length qs ≤ 64 * length vs → priority_at qs i ≡ None → bit_of vs i ≡ 0 → IsIndexOf ps ws rs → IsIndexOf qs vs (drop_id id_of i rs)
  index_taken rs fit none clear h = record {
    fit = fit;
    noted = taken_noted rs h.noted;
    stand = λ j p e. let n : j ≢ i = λ k. let no : None ≡ Some p = sym none ∙ ap (priority_at qs) (sym k) ∙ e in absurd cc in remains rs j n (h.stand j p (sym (s.places j n) ∙ e));
    age = λ j e. let n : j ≢ i = λ k. clash (bit_of vs j) e (ap (bit_of vs) k ∙ clear) in remains rs j n (h.age j (sym (s.bits j n) ∙ e));
  }

same_without : (i : ℕ) (rs : List ThreadRecord) → find_id id_of i rs ≡ None → drop_id id_of i rs ≡ rs
same_without i [] f = refl
same_without i (r ∷ rs) f = grind (arith, same_without i rs)

pub absent_same : (i : ℕ) (rs : List ThreadRecord) → find_id id_of i rs ≡ None → rs ≡ drop_id id_of i rs
absent_same i rs f = sym (same_without i rs f)

pub index_kept : (ps : List (Option ℕ)) (ws : List ℕ) (i : ℕ) (rs : List ThreadRecord) → length ps ≤ i → IsIndexOf ps ws rs → IsIndexOf ps ws (drop_id id_of i rs)
index_kept ps ws i rs b h = subst (IsIndexOf ps ws) (absent_same i rs (none_noted ps ws i rs h.noted (outside ps i b))) h

-- ---- which one ages next
-- no bit is set from u on below i
abbrev NoneAges : List ℕ → ℕ → ℕ → Type 0
NoneAges ws u i = (j : ℕ) → u ≤ j → j < i → bit_of ws j ≡ 0

aging : (u : ℕ) (r : ThreadRecord) → ages u r ≡ true → (u ≤ id_of r) × (is_ts r.body.class ≡ true)
aging u r e = grind (arith, nat_tests)

bit_set : (b : Bool) → b ≡ true → bit_if b ≡ 1
bit_set b e = rw e refl

set_bit : (b : Bool) → bit_if b ≡ 1 → b ≡ true
set_bit true e = refl
set_bit false e = absurd cc

aging_bit : (ws : List ℕ) (u : ℕ) (r : ThreadRecord) → bit_of ws (id_of r) ≡ age_bit r → ages u r ≡ true → bit_of ws (id_of r) ≡ 1
aging_bit ws u r e a = e ∙ bit_set (is_ts r.body.class) (aging u r a).1

no_sooner : (ws : List ℕ) (u i : ℕ) (r : ThreadRecord) → NoneAges ws u i → bit_of ws (id_of r) ≡ age_bit r → ages u r ≡ true → i ≤ id_of r
no_sooner ws u i r none e a =
    let no : id_of r < i → ⊥ = λ less. clash (bit_of ws (id_of r)) (aging_bit ws u r e a) (none (id_of r) (aging u r a).0 less) in
    grind (arith, no)

none_sooner : (ps : List (Option ℕ)) (ws : List ℕ) (u i : ℕ) (rs : List ThreadRecord) → NoneAges ws u i → AreNoted ps ws rs → earlier i (least_to_age u rs) ≡ i
none_sooner ps ws u i [] none h = refl
none_sooner ps ws u i (r ∷ rs) none h =
    from_step (ages u r) i (id_of r) (least_to_age u rs) (no_sooner ws u i r none h.1) (none_sooner ps ws u i rs none h.3)

none_ages : (ps : List (Option ℕ)) (ws : List ℕ) (u : ℕ) (rs : List ThreadRecord) → ((j : ℕ) → u ≤ j → bit_of ws j ≡ 0) → AreNoted ps ws rs → least_to_age u rs ≡ None
none_ages ps ws u [] none h = refl
none_ages ps ws u (r ∷ rs) none h = by (ages u r) refl (none_ages ps ws u rs none h.3)
  where
    by : (b : Bool) → ages u r ≡ b → least_to_age u rs ≡ None → least_to_age u (r ∷ rs) ≡ None
    by true e rest = absurd (clash (bit_of ws (id_of r)) (aging_bit ws u r h.1 e) (none (id_of r) (aging u r e).0))
    by false e rest = rw e rest

pub none_to_age : (ps : List (Option ℕ)) (ws : List ℕ) (u : ℕ) (rs : List ThreadRecord) → ((j : ℕ) → u ≤ j → bit_of ws j ≡ 0) → IsIndexOf ps ws rs → least_to_age u rs ≡ None
none_to_age ps ws u rs none h = none_ages ps ws u rs none h.noted

lesser : (a b : ℕ) → b ≤ a → earlier a (Some b) ≡ b
lesser a b h = omega arith

least_is : (ps : List (Option ℕ)) (ws : List ℕ) (u i : ℕ) (rs : List ThreadRecord) (r : ThreadRecord) → u ≤ i → NoneAges ws u i → AreNoted ps ws rs → find_id id_of i rs ≡ Some r
    → is_ts r.body.class ≡ true → least_to_age u rs ≡ Some i
least_is ps ws u i [] r b none h f t = absurd cc
least_is ps ws u i (x ∷ rs) r b none h f t = by (id_of x == i) refl (λ k. least_is ps ws u i rs r b none h.3 k t)
  where
    later : (c : Bool) → ages u x ≡ c → least_to_age u rs ≡ Some i → least_to_age u (x ∷ rs) ≡ Some i
    later true a e = rw a (ap (λ o. Some (earlier (id_of x) o)) e ∙ ap Some (lesser (id_of x) i (no_sooner ws u i x none h.1 a)))
    later false a e = rw a e

    by : (c : Bool) → (id_of x == i) ≡ c → (find_id id_of i rs ≡ Some r → least_to_age u rs ≡ Some i) → least_to_age u (x ∷ rs) ≡ Some i
    by true e rest =
        let k : Some x ≡ Some r = sym (found_here i x rs e) ∙ f in
        let same : x ≡ r = cc in
        let mine : id_of x ≡ i = own x i e in
        let it : is_ts x.body.class ≡ true = ap (λ (y : ThreadRecord). is_ts y.body.class) same ∙ t in
        let a : ages u x ≡ true = grind (arith, nat_tests) in
        rw a (ap (λ j. Some (earlier j (least_to_age u rs))) mine ∙ ap Some (none_sooner ps ws u i rs none h.3))
    by false e rest = later (ages u x) refl (rest (sym (found_past i x rs e) ∙ f))

pub next_ages : (ps : List (Option ℕ)) (ws : List ℕ) (u i : ℕ) (rs : List ThreadRecord) → IsNextSet ws u i → IsIndexOf ps ws rs → least_to_age u rs ≡ Some i
next_ages ps ws u i rs next h = by (find_id id_of i rs) refl
  where
    by : (o : Option ThreadRecord) → find_id id_of i rs ≡ o → least_to_age u rs ≡ Some i
    by None f = let no : false ≡ true = ap is_some (sym f) ∙ h.age i next.2 in absurd cc
    by (Some r) f = least_is ps ws u i rs r next.0 next.3 h.noted f (set_bit (is_ts r.body.class) (sym (found_noted ps ws i rs r h.noted f).1 ∙ next.2))

-- ---- what the index tells
pub tells_none : (ps : List (Option ℕ)) (ws : List ℕ) (i : ℕ) (rs : List ThreadRecord) → IsIndexOf ps ws rs → priority_at ps i ≡ None → find_id id_of i rs ≡ None
tells_none ps ws i rs h e = none_noted ps ws i rs h.noted e

pub tells_some : (ps : List (Option ℕ)) (ws : List ℕ) (i p : ℕ) (rs : List ThreadRecord) → IsIndexOf ps ws rs → priority_at ps i ≡ Some p → Tells (At p) (find_id id_of i rs)
tells_some ps ws i p rs h e = by (find_id id_of i rs) refl
  where
    by : (o : Option ThreadRecord) → find_id id_of i rs ≡ o → Tells (At p) o
    by None f = let no : false ≡ true = ap is_some (sym f) ∙ h.stand i p e in absurd cc
    by (Some r) f = let k : Some (rank_of r) ≡ Some p = sym (found_noted ps ws i rs r h.noted f).0 ∙ e in cc

pub at_rank : (p : ℕ) (o : Option ThreadRecord) → Tells (At p) o → IfSome o (λ r. rank_of r ≡ p)
at_rank p None h = tt
at_rank p (Some r) h = h

-- ---- no thread is noted
pub vacant : (ps : List (Option ℕ)) (i : ℕ) (v : Option ℕ) → v ≡ get_or ps i v → is_some v ≡ false → priority_at ps i ≡ None
vacant ps i None e n = sym e
vacant ps i (Some p) e n = absurd cc

-- whose bit is not set, where no priority is noted
no_bit : (ps : List (Option ℕ)) (ws : List ℕ) (i : ℕ) (rs : List ThreadRecord) → IsIndexOf ps ws rs → priority_at ps i ≡ None → bit_of ws i ≢ 1
no_bit ps ws i rs h e b = let no : false ≡ true = sym (ap is_some (none_noted ps ws i rs h.noted e)) ∙ h.age i b in absurd cc

-- ---- the notes are changed at one number
changed : (i : ℕ) (ps : List (Option ℕ)) (v : Option ℕ) (ws vs : List ℕ) → ((j : ℕ) → j ≢ i → bit_of vs j ≡ bit_of ws j) → IsSameBut i ps (set ps i v) ws vs
changed i ps v ws vs others = record { places = λ j n. get_or-set_other ps i j v None n; bits = others }

fits_still : (ps : List (Option ℕ)) (i : ℕ) (v : Option ℕ) (ws vs : List ℕ) → length vs ≡ length ws → length ps ≤ 64 * length ws → length (set ps i v) ≤ 64 * length vs
fits_still ps i v ws vs e h = let l = length-set ps i v in omega arith

pub forgotten : (i : ℕ) (ps : List (Option ℕ)) (ws vs : List ℕ) (rs : List ThreadRecord) → i < length ps → HasBit ws i 0 vs → length vs ≡ length ws → IsIndexOf ps ws rs
    → IsIndexOf (set ps i None) vs (drop_id id_of i rs)
forgotten i ps ws vs rs b bits size h = index_taken (changed i ps None ws vs bits.1) rs (fits_still ps i None ws vs size h.fit) (get_or-set_same ps i None None b) bits.0 h

noted_anew : (x : ThreadRecord) (ps : List (Option ℕ)) (ws vs : List ℕ) (rs : List ThreadRecord) → id_of x < length ps → priority_at ps (id_of x) ≡ None
    → ((j : ℕ) → j ≢ id_of x → bit_of vs j ≡ bit_of ws j) → bit_of vs (id_of x) ≡ age_bit x → length vs ≡ length ws → IsIndexOf ps ws rs
    → IsIndexOf (set ps (id_of x) (Some (rank_of x))) vs (insert_ranked rank_of key_in x rs)
noted_anew x ps ws vs rs b none others bit size h =
    index_put x (changed (id_of x) ps (Some (rank_of x)) ws vs others) (get_or-set_same ps (id_of x) (Some (rank_of x)) None b) bit rs (fits_still ps (id_of x) (Some (rank_of x)) ws vs size h.fit) none h

-- no bit is set under a number with no thread
pub unmarked : (b : Bool) (ps : List (Option ℕ)) (ws : List ℕ) (i : ℕ) (rs : List ThreadRecord) → IsIndexOf ps ws rs → priority_at ps i ≡ None → b ≡ false → bit_of ws i ≡ bit_if b
unmarked b ps ws i rs h none e =
    let no = no_bit ps ws i rs h none in
    let few = bit_at-lt (get_or ws (i / 64) 0) (i % 64) in
    rw e (grind (arith, no, few))

pub marked : (b : Bool) (bit : ℕ) → bit ≡ 1 → b ≡ true → bit ≡ bit_if b
marked b bit one e = one ∙ sym (bit_set b e)

-- a thread is noted as what was read of it
pub noted_as : (x : ThreadRecord) (i p : ℕ) (ps : List (Option ℕ)) (ws vs : List ℕ) (rs : List ThreadRecord) → i ≡ id_of x → p ≡ rank_of x → i < length ps → priority_at ps i ≡ None
    → ((j : ℕ) → j ≢ i → bit_of vs j ≡ bit_of ws j) → bit_of vs i ≡ age_bit x → length vs ≡ length ws → IsIndexOf ps ws rs
    → IsIndexOf (set ps i (Some p)) vs (insert_ranked rank_of key_in x rs)
noted_as x i p ps ws vs rs own rank b none others bit size h =
    subst (λ j. IsIndexOf (set ps j (Some p)) vs (insert_ranked rank_of key_in x rs)) (sym own)
    (subst (λ q. IsIndexOf (set ps (id_of x) (Some q)) vs (insert_ranked rank_of key_in x rs)) (sym rank)
    (noted_anew x ps ws vs rs (subst (λ j. j < length ps) own b) (subst (λ j. priority_at ps j ≡ None) own none) (λ j n. others j (λ k. n (k ∙ own))) (subst (λ j. bit_of vs j ≡ age_bit x) own bit) size h))
