-- A thread leaves a list, or comes to one.
use Rattle.std.proofs.Common.{◌≡◌, ◌≢◌, ℕ, ◌+◌, ℤ, pos, negsuc, ◌≤◌, Bool, true, false, ◌==◌, List, [], ◌∷◌, Option, Some, None, ◌⊎◌, inl, inr, refl, sym, ap, ◌∙◌, subst}
use Rattle.std.proofs.lemmas.Bool.{eqb-true, eqb-false, eq-eqb, false_from_ne_true, and_parts}
use Rattle.sd_basics.proofs.Numbers.{same_itself}
use Rattle.sd_types.specs.declared.numbers.CpuId.{CpuId}
use Rattle.sd_types.specs.declared.numbers.HomeId.{HomeId}
use Rattle.sd_types.specs.declared.numbers.Side.{Side}
use Rattle.sd_types.specs.declared.numbers.Side.TheVariants.{Writer, Reader}
use Rattle.sd_boxq.specs.Order.{find_id, drop_id, insert_before, precedes, precedes_keyed}
use Rattle.sd_boxq.proofs.InOrder.{IsKeyed-insert, IsKeyed-drop_first}
use Rattle.sd_record.specs.Records.{ThreadRecord}
use Rattle.sd_state.specs.declared.states.Place.{Place}
use Rattle.sd_state.specs.declared.states.Place.TheVariants.{Running, Queued, RealTime, Waiting, Asleep, Napping, Ended}
use Rattle.sd_state.specs.declared.states.ThreadState.{ThreadState}
use Rattle.sd_state.specs.States.{same_side}
use Rattle.sd_homes.specs.declared.list_id.ListId.{ListId}
use Rattle.sd_homes.specs.declared.list_id.ListId.TheVariants.{Runs, Queues, Urgent, Waits, Sleeps, Naps, Ends}
use Rattle.sd_homes.specs.Lists.{HasNoKey, IsQueue}
use Rattle.sd_homes.specs.Standing.{list_at, list_of, stands_at, stands, home_at, record_key, record_of, id_of, rank_of, key_in, ByNumber, without, with_one, listed, IsRunner, IsArranged, Lists, insert_at, IsUnusedKey, IsKeyFor, MayCome}
use Rattle.sd_homes.proofs.ListLemmas.{find-dropped, find-dropped_other, differ-dropped, find-inserted, find-inserted_other, differ-inserted, queue-dropped, queue-inserted, queue-more, back_is_new, front_is_new, no_key_from, found_apart, found_after}

same_side_self : (side : Side) → same_side side side ≡ true
same_side_self Writer = refl
same_side_self Reader = refl

same_side_true : (a b : Side) → same_side a b ≡ true → a ≡ b
same_side_true Writer Writer e = refl
same_side_true Reader Reader e = refl
same_side_true Writer Reader e = absurd cc
same_side_true Reader Writer e = absurd cc

-- a thread stands where it stands, and nowhere else
pub stands_own : (last : CpuId) (place : Place) → stands_at (list_at last place) last place ≡ true
stands_own last (Running c) = same_itself c.0
stands_own last (Queued c k) = same_itself c.0
stands_own last (RealTime p k) = same_itself p.0
stands_own last (Waiting l side k) = rw (same_itself l.0) (same_side_self side)
stands_own last (Asleep j k) = same_itself j.0
stands_own last (Napping c due) = same_itself c.0
stands_own last Ended = same_itself last.0

pub stands_only : (sp : ListId) (last : CpuId) (place : Place) → stands_at sp last place ≡ true → sp ≡ list_at last place
stands_only (Runs c) last (Running d) e = ap (λ n. Runs (record { 0 = n })) (sym (eqb-true d.0 c.0 e))
stands_only (Queues c) last (Queued d k) e = ap (λ n. Queues (record { 0 = n })) (sym (eqb-true d.0 c.0 e))
stands_only (Urgent p) last (RealTime q k) e = ap (λ n. Urgent (record { 0 = n })) (sym (eqb-true q.0 p.0 e))
stands_only (Waits l side) last (Waiting m other k) e =
    let parts = and_parts (m.0 == l.0) (same_side side other) e in
    let lock : l.0 ≡ m.0 = sym (eqb-true m.0 l.0 parts.0) in
    let one : side ≡ other = same_side_true side other parts.1 in
    (λ i. Waits (record { 0 = lock i }) (one i))
stands_only (Sleeps k) last (Asleep j key) e = ap (λ n. Sleeps (record { 0 = n })) (sym (eqb-true j.0 k.0 e))
stands_only (Naps c) last (Napping d due) e = ap (λ n. Naps (record { 0 = n })) (sym (eqb-true d.0 c.0 e))
stands_only (Ends c) last Ended e = ap (λ n. Ends (record { 0 = n })) (sym (eqb-true last.0 c.0 e))
stands_only _ _ _ e = absurd cc

pub stands_not : (sp : ListId) (x : ThreadState) → (sp ≡ list_of x → ⊥) → stands sp x ≡ false
stands_not sp x n = false_from_ne_true (stands sp x) (λ e. n (stands_only sp x.body.last x.place e))

-- in another home it stands in no list
pub stands_elsewhere : (sp : ListId) (k : HomeId) (x : ThreadState) → home_at sp ≡ k → (k ≡ home_at (list_of x) → ⊥) → stands sp x ≡ false
stands_elsewhere sp k x at n = stands_not sp x (λ e. n (sym at ∙ ap home_at e))

-- ---- what a list shows
pub shown : (n : ℕ) (sp : ListId) (rs : List ThreadRecord) (look : ByNumber) (t : ℕ) (x : ThreadState) → Lists n sp rs look → look t ≡ Some x → stands sp x ≡ true
    → find_id id_of t rs ≡ Some (record_of t x)
shown n sp rs look t x l e on = l.each t ∙ ap (listed sp t) e ∙ rw on refl

pub record Stood (sp : ListId) (look : ByNumber) (t : ℕ) (r : ThreadRecord) : Type 0 where
  pub thread : ThreadState
  pub there : look t ≡ Some thread
  pub on : stands sp thread ≡ true
  pub is : record_of t thread ≡ r

stood_by : (sp : ListId) (look : ByNumber) (t : ℕ) (r : ThreadRecord) (o : Option ThreadState) → look t ≡ o → listed sp t o ≡ Some r → Stood sp look t r
stood_by sp look t r None e f = absurd cc
stood_by sp look t r (Some x) e f = by (stands sp x) refl
  where
    by : (b : Bool) → stands sp x ≡ b → Stood sp look t r
    by true h = let is = rw h at f in record { thread = x; there = e; on = h; is = (cc) }
    by false h = let is = rw h at f in absurd cc

pub stood : (n : ℕ) (sp : ListId) (rs : List ThreadRecord) (look : ByNumber) (t : ℕ) (r : ThreadRecord) → Lists n sp rs look → find_id id_of t rs ≡ Some r → Stood sp look t r
stood n sp rs look t r l e = stood_by sp look t r (look t) refl (sym (l.each t) ∙ e)

-- ---- a thread that stands elsewhere
listed-without : (sp : ListId) (look : ByNumber) (t : ℕ) (x : ThreadState) → look t ≡ Some x → stands sp x ≡ false
    → (u : ℕ) → listed sp u (look u) ≡ listed sp u (without t look u)
listed-without sp look t x e off u = by (u == t) refl
  where
    by : (b : Bool) → (u == t) ≡ b → listed sp u (look u) ≡ listed sp u (without t look u)
    by true f = let here : look u ≡ Some x = ap look (eqb-true u t f) ∙ e in rw (f, here, off) refl
    by false f = rw f refl

pub out_beside : (n : ℕ) (sp : ListId) (rs : List ThreadRecord) (look : ByNumber) (t : ℕ) (x : ThreadState) → look t ≡ Some x → stands sp x ≡ false
    → Lists n sp rs look → Lists n sp rs (without t look)
out_beside n sp rs look t x e off l = record { each = λ u. l.each u ∙ listed-without sp look t x e off u; once = l.once; arranged = l.arranged }

listed-with : (sp : ListId) (look : ByNumber) (t : ℕ) (y : ThreadState) → look t ≡ None → stands sp y ≡ false
    → (u : ℕ) → listed sp u (look u) ≡ listed sp u (with_one t y look u)
listed-with sp look t y e off u = by (u == t) refl
  where
    by : (b : Bool) → (u == t) ≡ b → listed sp u (look u) ≡ listed sp u (with_one t y look u)
    by true f = let here : look u ≡ None = ap look (eqb-true u t f) ∙ e in rw (f, here, off) refl
    by false f = rw f refl

arranged-more : (n m : ℕ) (sp : ListId) (rs : List ThreadRecord) → n ≤ m → IsArranged n sp rs → IsArranged m sp rs
arranged-more n m (Runs c) rs h a = a
arranged-more n m (Ends c) rs h a = tt
arranged-more n m (Naps c) rs h a = a
arranged-more n m (Queues c) rs h a = queue-more rank_of key_in n m rs h a
arranged-more n m (Urgent p) rs h a = queue-more rank_of key_in n m rs h a
arranged-more n m (Waits l side) rs h a = queue-more rank_of key_in n m rs h a
arranged-more n m (Sleeps k) rs h a = queue-more rank_of key_in n m rs h a

pub lists-more : (n m : ℕ) (sp : ListId) (rs : List ThreadRecord) (look : ByNumber) → n ≤ m → Lists n sp rs look → Lists m sp rs look
lists-more n m sp rs look h l = record { each = l.each; once = l.once; arranged = arranged-more n m sp rs h l.arranged }

pub into_beside : (n m : ℕ) (sp : ListId) (rs : List ThreadRecord) (look : ByNumber) (t : ℕ) (y : ThreadState) → n ≤ m → look t ≡ None → stands sp y ≡ false
    → Lists n sp rs look → Lists m sp rs (with_one t y look)
into_beside n m sp rs look t y h e off l =
    record { each = λ u. l.each u ∙ listed-with sp look t y e off u; once = l.once; arranged = arranged-more n m sp rs h l.arranged }

-- ---- it leaves
runner-out : (t : ℕ) (c : CpuId) (rs : List ThreadRecord) → IsRunner c rs → IsRunner c (drop_id id_of t rs)
runner-out t c [] a = tt
runner-out t c (r ∷ []) a = by (id_of r == t) refl
  where
    by : (b : Bool) → (id_of r == t) ≡ b → IsRunner c (drop_id id_of t (r ∷ []))
    by true e = rw e tt
    by false e = rw e a
runner-out t c (r ∷ (q ∷ rs)) a = absurd a

arranged-out : (n : ℕ) (sp : ListId) (t : ℕ) (rs : List ThreadRecord) → IsArranged n sp rs → IsArranged n sp (drop_id id_of t rs)
arranged-out n (Runs c) t rs a = runner-out t c rs a
arranged-out n (Ends c) t rs a = tt
arranged-out n (Naps c) t rs a = IsKeyed-drop_first key_in id_of (λ r. id_of r == t) rs a
arranged-out n (Queues c) t rs a = queue-dropped rank_of key_in n (λ r. id_of r == t) rs a
arranged-out n (Urgent p) t rs a = queue-dropped rank_of key_in n (λ r. id_of r == t) rs a
arranged-out n (Waits l side) t rs a = queue-dropped rank_of key_in n (λ r. id_of r == t) rs a
arranged-out n (Sleeps k) t rs a = queue-dropped rank_of key_in n (λ r. id_of r == t) rs a

pub out : (n : ℕ) (sp : ListId) (rs : List ThreadRecord) (look : ByNumber) (t : ℕ) → Lists n sp rs look → Lists n sp (drop_id id_of t rs) (without t look)
out n sp rs look t l = record {
  each = λ u. by u (u == t) refl;
  once = differ-dropped id_of t rs l.once;
  arranged = arranged-out n sp t rs l.arranged;
}
  where
    by : (u : ℕ) (b : Bool) → (u == t) ≡ b → find_id id_of u (drop_id id_of t rs) ≡ listed sp u (without t look u)
    by u true f = let same = eqb-true u t f in rw f (ap (λ k. find_id id_of k (drop_id id_of t rs)) same ∙ find-dropped id_of t rs l.once)
    by u false f = rw f (find-dropped_other id_of u t (eqb-false u t f) rs ∙ l.each u)

-- ---- it comes
no_key : (n m : ℕ) (sp : ListId) (rs : List ThreadRecord) (look : ByNumber) (k : ℤ) → Lists n sp rs look → IsQueue rank_of key_in n rs
    → (k ≡ pos (4096 + n)) ⊎ ((k ≡ negsuc n) ⊎ IsUnusedKey look sp k) → HasNoKey key_in k rs
no_key n m sp rs look k l q (inl e) = rw e (back_is_new key_in n rs q.after)
no_key n m sp rs look k l q (inr (inl e)) = rw e (front_is_new key_in n rs q.after)
no_key n m sp rs look k l q (inr (inr free)) =
    no_key_from id_of key_in k rs l.once (λ t r e. let s = stood n sp rs look t r l e in λ f. free t s.thread s.there s.on (ap key_in s.is ∙ f))

queue-into : (n m : ℕ) (sp : ListId) (r : ThreadRecord) (rs : List ThreadRecord) (look : ByNumber) → n ≤ m → Lists n sp rs look → IsKeyFor n m look sp r.key
    → IsQueue rank_of key_in n rs → IsQueue rank_of key_in m (insert_before (precedes rank_of key_in r) r rs)
queue-into n m sp r rs look h l k q = queue-inserted rank_of key_in n m r rs h k.after (no_key n m sp rs look r.key l q k.free) q

-- how a list that is linked by a test comes to have one more
into_by : (n m : ℕ) (sp : ListId) (p : ThreadRecord → Bool) (rs : List ThreadRecord) (look : ByNumber) (t : ℕ) (y : ThreadState) → look t ≡ None → stands sp y ≡ true
    → Lists n sp rs look → IsArranged m sp (insert_before p (record_of t y) rs) → Lists m sp (insert_before p (record_of t y) rs) (with_one t y look)
into_by n m sp p rs look t y e on l a = record {
  each = λ u. by u (u == t) refl;
  once = differ-inserted id_of p (record_of t y) rs none l.once;
  arranged = a;
}
  where
    none : find_id id_of t rs ≡ None
    none = l.each t ∙ ap (listed sp t) e

    by : (u : ℕ) (b : Bool) → (u == t) ≡ b → find_id id_of u (insert_before p (record_of t y) rs) ≡ listed sp u (with_one t y look u)
    by u true f =
        let same = eqb-true u t f in
        rw (f, on) (ap (λ k. find_id id_of k (insert_before p (record_of t y) rs)) same ∙ find-inserted id_of p (record_of t y) rs none ∙ ap (λ k. Some (record_of k y)) (sym same))
    by u false f = rw f (find-inserted_other id_of p u (record_of t y) (λ g. eqb-false u t f (sym g)) rs ∙ l.each u)

empty : (n : ℕ) (sp : ListId) (rs : List ThreadRecord) (look : ByNumber) → Lists n sp rs look → ((u : ℕ) (y : ThreadState) → look u ≡ Some y → stands sp y ≡ false) → rs ≡ []
empty n sp [] look l none = refl
empty n sp (r ∷ rs) look l none =
    let s = stood n sp (r ∷ rs) look (id_of r) r l (rw (same_itself (id_of r)) refl) in
    let off = none (id_of r) s.thread s.there in
    let on = s.on in
    absurd cc

pub into : (n m : ℕ) (sp : ListId) (rs : List ThreadRecord) (look : ByNumber) (t : ℕ) (y : ThreadState) → n ≤ m → look t ≡ None → stands sp y ≡ true
    → MayCome n m look sp y → Lists n sp rs look → Lists m sp (insert_at sp (record_of t y) rs) (with_one t y look)
into n m (Queues c) rs look t y h e on k l = into_by n m (Queues c) (precedes rank_of key_in (record_of t y)) rs look t y e on l (queue-into n m (Queues c) (record_of t y) rs look h l k l.arranged)
into n m (Urgent p) rs look t y h e on k l = into_by n m (Urgent p) (precedes rank_of key_in (record_of t y)) rs look t y e on l (queue-into n m (Urgent p) (record_of t y) rs look h l k l.arranged)
into n m (Waits q side) rs look t y h e on k l = into_by n m (Waits q side) (precedes rank_of key_in (record_of t y)) rs look t y e on l (queue-into n m (Waits q side) (record_of t y) rs look h l k l.arranged)
into n m (Sleeps j) rs look t y h e on k l = into_by n m (Sleeps j) (precedes rank_of key_in (record_of t y)) rs look t y e on l (queue-into n m (Sleeps j) (record_of t y) rs look h l k l.arranged)
into n m (Naps c) rs look t y h e on k l =
    into_by n m (Naps c) (precedes_keyed key_in id_of (record_of t y)) rs look t y e on l (IsKeyed-insert key_in id_of (record_of t y) rs l.arranged)
into n m (Ends c) [] look t y h e on k l = into_by n m (Ends c) (λ r. true) [] look t y e on l tt
into n m (Ends c) (r ∷ rs) look t y h e on k l = into_by n m (Ends c) (λ r. true) (r ∷ rs) look t y e on l tt
into n m (Runs c) rs look t y h e on k l =
    let none : rs ≡ [] = empty n (Runs c) rs look l k.1 in
    into_by n m (Runs c) (λ r. true) [] look t y e on (subst (λ xs. Lists n (Runs c) xs look) none l) k.0

-- the key that a thread had when it left a queue is free there
pub left_free : (n : ℕ) (sp : ListId) (rs : List ThreadRecord) (look : ByNumber) (t : ℕ) (x : ThreadState) → Lists n sp rs look → IsQueue rank_of key_in n rs
    → look t ≡ Some x → stands sp x ≡ true → IsUnusedKey (without t look) sp (record_key x.place)
left_free n sp rs look t x l q e on u y f g = by (u == t) refl
  where
    by : (b : Bool) → (u == t) ≡ b → record_key y.place ≢ record_key x.place
    by true h = let none = rw h at f in absurd cc
    by false h =
        let other : look u ≡ Some y = rw h at f in
        found_apart id_of key_in u t (record_of u y) (record_of t x) rs q.apart (shown n sp rs look u y l other g) (shown n sp rs look t x l e on) (eqb-false u t h)

-- who runs, runs alone
alone : (n : ℕ) (c : CpuId) (rs : List ThreadRecord) (look : ByNumber) (t : ℕ) (x : ThreadState) → IsRunner c rs → Lists n (Runs c) rs look → look t ≡ Some x → stands (Runs c) x ≡ true
    → (u : ℕ) (y : ThreadState) → without t look u ≡ Some y → stands (Runs c) y ≡ false
alone n c rs look t x short l e on u y f = by (u == t) refl
  where
    one : (qs : List ThreadRecord) → IsRunner c qs → (r q : ThreadRecord) → find_id id_of t qs ≡ Some r → find_id id_of u qs ≡ Some q → t ≡ u
    one [] a r q g h = absurd cc
    one (p ∷ []) a r q g h = by_id (id_of p == t) (id_of p == u) refl refl
      where
        by_id : (b c : Bool) → (id_of p == t) ≡ b → (id_of p == u) ≡ c → t ≡ u
        by_id true true i j = sym (eqb-true (id_of p) t i) ∙ eqb-true (id_of p) u j
        by_id false c i j = let no = rw i at g in absurd cc
        by_id true false i j = let no = rw j at h in absurd cc
    one (p ∷ (q ∷ qs)) a r z g h = absurd a

    by : (b : Bool) → (u == t) ≡ b → stands (Runs c) y ≡ false
    by true h = let none = rw h at f in absurd cc
    by false h =
        let other : look u ≡ Some y = rw h at f in
        false_from_ne_true (stands (Runs c) y) (λ on'.
        eqb-false u t h (sym (one rs short (record_of t x) (record_of u y) (shown n (Runs c) rs look t x l e on) (shown n (Runs c) rs look u y l other on'))))

again : (n : ℕ) (sp : ListId) (rs : List ThreadRecord) (look : ByNumber) (t : ℕ) (x : ThreadState) → Lists n sp rs look → IsQueue rank_of key_in n rs → look t ≡ Some x → stands sp x ≡ true
    → IsKeyFor n n (without t look) sp (record_key x.place)
again n sp rs look t x l q e on = record {
  after = found_after id_of key_in n t (record_of t x) rs q.after (shown n sp rs look t x l e on);
  free = inr (inr (left_free n sp rs look t x l q e on));
}

-- who runs there ran there last
ran_last : (c : CpuId) (rs : List ThreadRecord) (t : ℕ) (r : ThreadRecord) → IsRunner c rs → find_id id_of t rs ≡ Some r → r.body.last ≡ c
ran_last c [] t r a e = absurd cc
ran_last c (q ∷ []) t r a e = by (id_of q == t) refl
  where
    by : (b : Bool) → (id_of q == t) ≡ b → r.body.last ≡ c
    by true f = let is = rw f at e in let same : q ≡ r = cc in ap (λ z. z.body.last) (sym same) ∙ a
    by false f = let no = rw f at e in absurd cc
ran_last c (q ∷ (z ∷ rs)) t r a e = absurd a

pub runs_where_last : (n : ℕ) (c : CpuId) (rs : List ThreadRecord) (look : ByNumber) (t : ℕ) (x : ThreadState) → Lists n (Runs c) rs look → look t ≡ Some x → stands (Runs c) x ≡ true
    → x.body.last ≡ c
runs_where_last n c rs look t x l e on = ran_last c rs t (record_of t x) l.arranged (shown n (Runs c) rs look t x l e on)

-- a thread may come back to where it stood, also with another body that ran there last
pub may_again : (n : ℕ) (sp : ListId) (rs : List ThreadRecord) (look : ByNumber) (t : ℕ) (x y : ThreadState) → Lists n sp rs look → look t ≡ Some x → stands sp x ≡ true
    → y.place ≡ x.place → y.body.last ≡ x.body.last → MayCome n n (without t look) sp y
may_again n (Queues c) rs look t x y l e on p b = subst (λ z. IsKeyFor n n (without t look) (Queues c) (record_key z)) (sym p) (again n (Queues c) rs look t x l l.arranged e on)
may_again n (Urgent q) rs look t x y l e on p b = subst (λ z. IsKeyFor n n (without t look) (Urgent q) (record_key z)) (sym p) (again n (Urgent q) rs look t x l l.arranged e on)
may_again n (Waits q side) rs look t x y l e on p b = subst (λ z. IsKeyFor n n (without t look) (Waits q side) (record_key z)) (sym p) (again n (Waits q side) rs look t x l l.arranged e on)
may_again n (Sleeps k) rs look t x y l e on p b = subst (λ z. IsKeyFor n n (without t look) (Sleeps k) (record_key z)) (sym p) (again n (Sleeps k) rs look t x l l.arranged e on)
may_again n (Runs c) rs look t x y l e on p b = (b ∙ runs_where_last n c rs look t x l e on, alone n c rs look t x l.arranged l e on)
may_again n (Naps c) rs look t x y l e on p b = tt
may_again n (Ends c) rs look t x y l e on p b = tt

-- ---- out and in again
pub with_without : (t : ℕ) (y : ThreadState) (look : ByNumber) → with_one t y (without t look) ≡ with_one t y look
with_without t y look i u = by (u == t) refl i
  where
    by : (b : Bool) → (u == t) ≡ b → with_one t y (without t look) u ≡ with_one t y look u
    by true f = rw f refl
    by false f = rw f refl
