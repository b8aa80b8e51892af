-- The ticks over which a thread runs and spins, of lists alone: its onsets, and the ticks that it spends spinning, state after state.
use Rattle.std.proofs.Common.{◌≡◌, ℕ, zero, suc, ◌+◌, ◌-◌, ◌<◌, ◌≤◌, ◌⊎◌, Bool, true, false, cond, inl, inr, List, [], ◌∷◌, ◌++◌, length, take, drop, Some, None, append_assoc, refl, sym, ap, subst, ◌∙◌, arith, add-one}
use Rattle.std.specs.Prelude.{⊤, sum_by, nat_lt, take_while, if◌then◌else◌}
use Rattle.std.specs.List.{flat_map, range_with_len}
use Rattle.std.proofs.lemmas.Bool.{false≢true, cases_Bool}
use Rattle.std.proofs.lemmas.Bool.Decides.{nat_tests}
use Rattle.std.proofs.lemmas.List.{append-nil}
use Rattle.std.proofs.lemmas.List.Sums.{sum_by-append, sum_by-cons, take_while-cons}
use Rattle.std.proofs.Math.Seq.{take-append_seam, drop-append_seam}
use Rattle.sd_basics.proofs.Truths.{either}
use Rattle.sd_types.specs.declared.numbers.CpuId.{CpuId}
use Rattle.sd_stretches.specs.declared.changes.Onset.{Onset}
use Rattle.sd_stretches.specs.declared.rows.Stretch.{Stretch}
use Rattle.sd_stretches.specs.declared.sights.Doing.{Doing}
use Rattle.sd_stretches.specs.declared.sights.Doing.TheVariants as does
use Rattle.sd_stretches.specs.declared.sights.Sight.{Sight}
use Rattle.sd_stretches.specs.declared.spin_pieces.Spell.{Spell}
use Rattle.sd_stretches.specs.Sights.{same_doing}
use Rattle.sd_stretches.specs.Changes.{onset_from, onset_if}
use Rattle.sd_stretches.specs.Rows.{stretch_from, stretches_of}
use Rattle.sd_stretches.specs.SpinPieces.{before, cut, cut_all, extended, goes_on, pieces_by, pieces_of, rest_after, spells_from, spells_of, spells_within, spun}
use Rattle.sd_stretches.proofs.ExactLemmas.{same_is}
use Rattle.sd_statistics.specs.declared.activities.Activity.TheVariants.{Running, Spinning}
use Rattle.sd_statistics.specs.Activities.{is_of, spans_of}
use Rattle.sd_statistics.specs.Laws.{ticks_in}
use Rattle.sd_statistics.proofs.TickLemmas.{ticks_cons}

-- ---- what a stretch adds

abbrev pub is_on : Doing → Bool
is_on (does.Running c) = true
is_on (does.Spinning c l) = true
is_on _ = false

abbrev pub run_share : Stretch → ℕ
run_share x = if is_on x.doing then x.to - x.from else 0

both_shares : (d : Doing) (n : ℕ) → (if is_of Running d then n else 0) + (if is_of Spinning d then n else 0) ≡ (if is_on d then n else 0)
both_shares (does.Running c) n = omega arith
both_shares d n = omega arith

pub shares : (xs : List Stretch) → ticks_in Running xs + ticks_in Spinning xs ≡ sum_by run_share xs
unfolding spans_of
shares [] = refl
shares (x ∷ xs) =
    omega (arith, ticks_cons Running x xs, ticks_cons Spinning x xs, both_shares x.doing (x.to - x.from), shares xs, sum_by-cons run_share x xs)

-- ---- spells in order

abbrev pub Ordered : ℕ → ℕ → List Spell → Type 0
Ordered lo hi [] = lo ≤ hi
Ordered lo hi (s ∷ ss) = (lo ≤ s.from) × (s.from ≤ s.to) × Ordered s.to hi ss

ordered_up : (lo hi : ℕ) (ss : List Spell) → Ordered lo hi ss → lo ≤ hi
ordered_up lo hi [] h = h
ordered_up lo hi (s ∷ ss) (a, b, rest) = let up = ordered_up s.to hi ss rest in omega (arith, a, b, up)

ordered_more : (lo hi later : ℕ) (ss : List Spell) → hi ≤ later → Ordered lo hi ss → Ordered lo later ss
ordered_more lo hi later [] more h = omega (arith, more, h)
ordered_more lo hi later (s ∷ ss) more (a, b, rest) = (a, b, ordered_more s.to hi later ss more rest)

ordered_push : (lo hi : ℕ) (ss : List Spell) (s : Spell) → hi ≤ s.from → s.from ≤ s.to → Ordered lo hi ss → Ordered lo s.to (ss ++ s ∷ [])
ordered_push lo hi [] s at up h = (omega (arith, at, h), up, omega arith)
ordered_push lo hi (x ∷ xs) s at up (a, b, rest) = (a, b, ordered_push x.to hi xs s at up rest)

ordered_joined : (lo hi : ℕ) (x : Spell) (ss : List Spell) → Ordered lo hi (x ∷ ss) → Ordered lo hi (spells_from x ss)
unfolding spells_from
ordered_joined lo hi x [] h = h
ordered_joined lo hi x (y ∷ ys) (a, b, (c, d, rest)) =
    either (Ordered lo hi) (goes_on x y) (spells_from (extended x y) ys) (x ∷ spells_from y ys)
    (ordered_joined lo hi (extended x y) ys (a, omega (arith, b, c, d), rest)) (a, b, ordered_joined x.to hi y ys (c, d, rest))

ordered_all : (lo hi : ℕ) (ss : List Spell) → Ordered lo hi ss → Ordered lo hi (spells_of ss)
unfolding spells_of
ordered_all lo hi [] h = h
ordered_all lo hi (x ∷ xs) h = ordered_joined lo hi x xs h

-- ---- a stretch that is cut

before_by : (c : CpuId) (x : Stretch) (s : Spell) (b : Bool) → nat_lt x.from s.from ≡ b → x.doing ≡ does.Running c
    → sum_by run_share (if b then record x { last = s.first - 1; to = s.from } ∷ [] else []) ≡ s.from - x.from
before_by c x s true less on =
    let y : Stretch = record x { last = s.first - 1; to = s.from } in
    let own : run_share y ≡ s.from - x.from = ap (λ d. if is_on d then s.from - x.from else 0) on in
    omega (arith, sum_by-cons run_share y [], own)
before_by c x s false less on = grind (arith, nat_tests, less)

tail_by : (x : Stretch) (s : Spell) (ys : List Stretch) (b : Bool) → nat_lt s.to x.to ≡ b → sum_by run_share ys ≡ x.to - s.to
    → sum_by run_share (if b then ys else []) ≡ x.to - s.to
tail_by x s ys true less sum = sum
tail_by x s ys false less sum = grind (arith, nat_tests, less)

cut_shares : (c : CpuId) (ss : List Spell) (x : Stretch) → x.doing ≡ does.Running c → Ordered x.from x.to ss → sum_by run_share (cut c x ss) ≡ x.to - x.from
unfolding cut
cut_shares c [] x on h =
    let own : run_share x ≡ x.to - x.from = ap (λ d. if is_on d then x.to - x.from else 0) on in
    omega (arith, sum_by-cons run_share x [], own)
cut_shares c (s ∷ ss) x on (a, b, rest) =
    let tail : List Stretch = if nat_lt s.to x.to then cut c (rest_after x s) ss else [] in
    let up : s.to ≤ x.to = ordered_up s.to x.to ss rest in
    let first : sum_by run_share (before x s) ≡ s.from - x.from = before_by c x s (nat_lt x.from s.from) refl on in
    let last : sum_by run_share tail ≡ x.to - s.to = tail_by x s (cut c (rest_after x s) ss) (nat_lt s.to x.to) refl (cut_shares c ss (rest_after x s) on rest) in
    let middle : run_share (spun c x s) ≡ s.to - s.from = omega (arith, a, b, up) in
    omega (
      arith,
      sum_by-append run_share (before x s) (spun c x s ∷ tail),
      sum_by-cons run_share (spun c x s) tail,
      first,
      middle,
      last,
      a,
      b,
      up,
    )

whole : (d : Doing) (x : Stretch) (ss : List Spell) → is_on d ≡ false → pieces_by d x ss ≡ x ∷ []
whole (does.Running c) x ss off = absurd (false≢true (sym off))
whole d x ss off = refl

-- ---- which spells belong to a stretch

abbrev pub Below : ℕ → List Spell → Type 0
Below a [] = ⊤
Below a (s ∷ ss) = (s.first < a) × Below a ss

abbrev pub HeadFrom : ℕ → List Spell → Type 0
HeadFrom a [] = ⊤
HeadFrom a (s ∷ ss) = a ≤ s.first

below_more : (a b : ℕ) (ss : List Spell) → a ≤ b → Below a ss → Below b ss
below_more a b [] up h = tt
below_more a b (s ∷ ss) up (first, rest) = (omega (arith, up, first), below_more a b ss up rest)

below_push : (a : ℕ) (ss : List Spell) (s : Spell) → s.first < a → Below a ss → Below a (ss ++ s ∷ [])
below_push a [] s last h = (last, tt)
below_push a (x ∷ xs) s last (first, rest) = (first, below_push a xs s last rest)

head_more : (a b : ℕ) (ss : List Spell) → a ≤ b → HeadFrom b ss → HeadFrom a ss
head_more a b [] up h = tt
head_more a b (s ∷ ss) up h = omega (arith, up, h)

abbrev begins_below : ℕ → Spell → Bool
begins_below a s = nat_lt s.first a

none_within : (a : ℕ) (tail : List Spell) → HeadFrom a tail → spells_within tail a ≡ 0
none_within a [] h = refl
none_within a (s ∷ ss) h =
    let not : nat_lt s.first a ≡ false = grind (arith, nat_tests, h) in
    ap length (take_while-cons (begins_below a) s ss) ∙ ap (λ b. length (cond b (s ∷ take_while (begins_below a) ss) [])) not

within : (a : ℕ) (ss tail : List Spell) → Below a ss → HeadFrom a tail → spells_within (ss ++ tail) a ≡ length ss
within a [] tail h head = none_within a tail head
within a (s ∷ ss) tail (first, rest) head =
    let less : nat_lt s.first a ≡ true = grind (arith, nat_tests, first) in
    ap length (take_while-cons (begins_below a) s (ss ++ tail))
    ∙ ap (λ b. length (cond b (s ∷ take_while (begins_below a) (ss ++ tail)) [])) less ∙ ap suc (within a ss tail rest head)

taken : (a : ℕ) (ss tail : List Spell) → Below a ss → HeadFrom a tail → take (spells_within (ss ++ tail) a) (ss ++ tail) ≡ ss
taken a ss tail h head = ap (λ k. take k (ss ++ tail)) (within a ss tail h head) ∙ take-append_seam ss tail

dropped : (a : ℕ) (ss tail : List Spell) → Below a ss → HeadFrom a tail → drop (spells_within (ss ++ tail) a) (ss ++ tail) ≡ tail
dropped a ss tail h head = ap (λ k. drop k (ss ++ tail)) (within a ss tail h head) ∙ drop-append_seam ss tail

-- ---- state after state

-- one cpu runs the thread
same_cpu : (c d : CpuId) → does.Running c ≡ does.Running d → c ≡ d
same_cpu c d h = cc

module _ (n end t : ℕ) (g : ℕ → Sight) (ticks : ℕ → ℕ) (count : CpuId → ℕ → ℕ) (spin : ℕ → List Spell) (d : ℕ → ℕ) where
  unfoldable pub onset_at : ℕ → List Onset
  onset_at zero = onset_if t 0 (ticks 0) None (Some (g 0))
  onset_at (suc k) = onset_if t (suc k) (ticks (suc k)) (Some (g k)) (Some (g (suc k)))

  abbrev pub stays_at : ℕ → Bool
  stays_at k = same_doing (g k).doing (g (suc k)).doing

  -- the entry behind state k spends a tick spinning
  pub record Spins (k : ℕ) : Type 0 where
    pub spell : Spell
    pub cpu : CpuId
    pub is : spin (suc k) ≡ spell ∷ []
    pub on : (g k).doing ≡ does.Running cpu
    pub stays : stays_at k ≡ true
    pub first : spell.first ≡ k
    pub from : spell.from ≡ count cpu k
    pub to : spell.to ≡ count cpu (suc k)

  -- what the entry behind state k makes of the thread
  pub record Made (k : ℕ) : Type 0 where
    pub running : (c : CpuId) → (g k).doing ≡ does.Running c → count c (suc k) ≡ count c k + d (suc k)
    pub resting : is_on (g k).doing ≡ false → d (suc k) ≡ 0
    pub begins : (c : CpuId) → (g (suc k)).doing ≡ does.Running c → stays_at k ≡ false → ticks (suc k) ≡ count c (suc k)
    pub ends : (c : CpuId) → (g k).doing ≡ does.Running c → stays_at k ≡ false → ticks (suc k) ≡ count c (suc k)
    pub spins : (spin (suc k) ≡ []) ⊎ Spins k

  -- the thread runs on a processor, or does not
  abbrev pub Stands : ℕ → Type 0
  Stands k = ((c : CpuId) × ((g k).doing ≡ does.Running c)) ⊎ (is_on (g k).doing ≡ false)

  onsets : ℕ → ℕ → List Onset
  onsets m a = flat_map onset_at (range_with_len (suc a) m)

  spells : ℕ → ℕ → List Spell
  spells m a = flat_map spin (range_with_len (suc a) m)

  sums : ℕ → ℕ → ℕ
  sums m a = sum_by d (range_with_len (suc a) m)

  -- The stretch that is open in state a: it began with onset x, these spells lie in it so far, and so many ticks.
  record Open (a : ℕ) (x : Onset) (held : List Spell) (v : ℕ) : Type 0 where
    doing : x.doing ≡ (g a).doing
    below : Below a held
    on : (c : CpuId) → (g a).doing ≡ does.Running c → Ordered x.tick (count c a) held × (count c a ≡ x.tick + v)
    off : is_on (g a).doing ≡ false → (held ≡ []) × (v ≡ 0)

  -- what a stretch adds that ends in state a, at this tick
  closes : (a to : ℕ) (x : Onset) (held tail : List Spell) (v e : ℕ) → Stands a → Open a x held v → HeadFrom a tail
      → ((c : CpuId) → (g a).doing ≡ does.Running c → count c a + e ≡ to) → (is_on (g a).doing ≡ false → e ≡ 0)
      → sum_by run_share (pieces_of (stretch_from x a to) (take (spells_within (held ++ tail) a) (held ++ tail))) ≡ v + e
  closes a to x held tail v e (inl (c, on)) o head at rests =
      let X : Stretch = stretch_from x a to in
      let is : x.doing ≡ does.Running c = o.doing ∙ on in
      let runs = o.on c on in
      let ends : count c a + e ≡ to = at c on in
      let spells = ordered_all x.tick to held (ordered_more x.tick (count c a) to held (omega (arith, ends)) runs.0) in
      let own : sum_by run_share (cut c X (spells_of held)) ≡ to - x.tick = cut_shares c (spells_of held) X is spells in
      let value : count c a ≡ x.tick + v = runs.1 in
      let last : to - x.tick ≡ v + e = omega (arith, value, ends) in
      ap (λ ss. sum_by run_share (pieces_of X ss)) (taken a held tail o.below head) ∙ ap (λ y. sum_by run_share (pieces_by y X held)) is ∙ own ∙ last
  closes a to x held tail v e (inr off) o head at rests =
      let X : Stretch = stretch_from x a to in
      let not : is_on x.doing ≡ false = ap is_on o.doing ∙ off in
      let none : v ≡ 0 = (o.off off).1 in
      let more : e ≡ 0 = rests off in
      let own : run_share X ≡ 0 = ap (λ b. if b then to - x.tick else 0) not in
      let one = sum_by-cons run_share X [] in
      let all : sum_by run_share (X ∷ []) ≡ v + e = omega (arith, one, own, none, more) in
      ap (λ ss. sum_by run_share (pieces_of X ss)) (taken a held tail o.below head) ∙ ap (sum_by run_share) (whole x.doing X held not) ∙ all

  kept_below : (a : ℕ) (x : Onset) (held : List Spell) (v : ℕ) → Open a x held v → (spin (suc a) ≡ []) ⊎ Spins a → Below (suc a) (held ++ spin (suc a))
  kept_below a x held v o (inl none) =
      subst (λ ss. Below (suc a) (held ++ ss)) (sym none) (subst (Below (suc a)) (sym (append-nil held)) (below_more a (suc a) held (omega arith) o.below))
  kept_below a x held v o (inr s) =
      let first = s.first in
      subst (λ ss. Below (suc a) (held ++ ss)) (sym s.is) (below_push (suc a) held s.spell (omega (arith, first)) (below_more a (suc a) held (omega arith) o.below))

  kept_order : (a : ℕ) (x : Onset) (held : List Spell) (v : ℕ) (c : CpuId) → Open a x held v → (g a).doing ≡ does.Running c → count c (suc a) ≡ count c a + d (suc a)
      → (spin (suc a) ≡ []) ⊎ Spins a → Ordered x.tick (count c (suc a)) (held ++ spin (suc a))
  kept_order a x held v c o on more (inl none) =
      subst (λ ss. Ordered x.tick (count c (suc a)) (held ++ ss)) (sym none) (subst (Ordered x.tick (count c (suc a))) (sym (append-nil held))
      (ordered_more x.tick (count c a) (count c (suc a)) held (omega (arith, more)) (o.on c on).0))
  kept_order a x held v c o on more (inr s) =
      let same : s.cpu ≡ c = same_cpu s.cpu c (sym s.on ∙ on) in
      let from : s.spell.from ≡ count c a = s.from ∙ ap (λ b. count b a) same in
      let to : s.spell.to ≡ count c (suc a) = s.to ∙ ap (λ b. count b (suc a)) same in
      subst (λ ss. Ordered x.tick (count c (suc a)) (held ++ ss)) (sym s.is) (subst (λ hi. Ordered x.tick hi (held ++ s.spell ∷ [])) to
      (ordered_push x.tick (count c a) held s.spell (omega (arith, from)) (omega (arith, from, to, more)) (o.on c on).0))

  kept_none : (a : ℕ) → is_on (g a).doing ≡ false → (spin (suc a) ≡ []) ⊎ Spins a → spin (suc a) ≡ []
  kept_none a off (inl none) = none
  kept_none a off (inr s) = absurd (false≢true (sym off ∙ ap is_on s.on))

  -- the thread does the same in the next state
  goes_further : (a : ℕ) (x : Onset) (held : List Spell) (v : ℕ) → Made a → stays_at a ≡ true → Open a x held v → Open (suc a) x (held ++ spin (suc a)) (v + d (suc a))
  goes_further a x held v made stays o =
      let same : (g a).doing ≡ (g (suc a)).doing = same_is (g a).doing (g (suc a)).doing stays in
      record {
        doing = o.doing ∙ same;
        below = kept_below a x held v o made.spins;
        on = λ c next.
            let on = same ∙ next in
            let more = made.running c on in
            let value = (o.on c on).1 in
            (kept_order a x held v c o on more made.spins, omega (arith, more, value));
        off = λ next.
            let off : is_on (g a).doing ≡ false = ap is_on same ∙ next in
            let were = o.off off in
            let rests = made.resting off in
            let value = were.1 in
            (ap (λ ss. ss ++ spin (suc a)) were.0 ∙ kept_none a off made.spins, omega (arith, rests, value));
      }

  abbrev begun : ℕ → Onset
  begun k = onset_from t k (ticks k) (g k)

  -- the thread does another thing in the next state
  begins_anew : (a : ℕ) → Made a → stays_at a ≡ false → Open (suc a) (begun (suc a)) [] 0
  begins_anew a made changes = record {
    doing = refl;
    below = tt;
    on = λ c next. let at = made.begins c next changes in (omega (arith, at), omega (arith, at));
    off = λ off. (refl, refl);
  }

  no_spin : (a : ℕ) → stays_at a ≡ false → (spin (suc a) ≡ []) ⊎ Spins a → spin (suc a) ≡ []
  no_spin a changes (inl none) = none
  no_spin a changes (inr s) = absurd (false≢true (sym changes ∙ s.stays))

  later : (m a : ℕ) → spells (suc m) a ≡ spin (suc a) ++ spells m (suc a)
  unfolding spells
  later m a = ap (λ b. spin (suc a) ++ flat_map spin (range_with_len b m)) (add-one (suc a))

  later_onsets : (m a : ℕ) → onsets (suc m) a ≡ onset_at (suc a) ++ onsets m (suc a)
  unfolding onsets
  later_onsets m a = ap (λ b. onset_at (suc a) ++ flat_map onset_at (range_with_len b m)) (add-one (suc a))

  later_sums : (m a : ℕ) → sums (suc m) a ≡ d (suc a) + sums m (suc a)
  unfolding sums
  later_sums m a = sum_by-cons d (suc a) (range_with_len (suc a + 1) m) ∙ ap (λ b. d (suc a) + sum_by d (range_with_len b m)) (add-one (suc a))

  head_by : (a : ℕ) (tail : List Spell) → (spin (suc a) ≡ []) ⊎ Spins a → HeadFrom (suc a) tail → HeadFrom a (spin (suc a) ++ tail)
  head_by a tail (inl none) head = subst (λ ss. HeadFrom a (ss ++ tail)) (sym none) (head_more a (suc a) tail (omega arith) head)
  head_by a tail (inr s) head = let first = s.first in subst (λ ss. HeadFrom a (ss ++ tail)) (sym s.is) (omega (arith, first))

  module _ (made : (k : ℕ) → k < n → Made k) (stands : (k : ℕ) → Stands k) (last : (c : CpuId) → (g n).doing ≡ does.Running c → count c n ≡ end) where
    heads : (m a : ℕ) → a + m ≡ n → HeadFrom a (spells m a)
    unfolding spells
    heads zero a all = tt
    heads (suc m) a all =
        subst (HeadFrom a) (sym (later m a)) (head_by a (spells m (suc a)) (made a (omega (arith, all))).spins (heads m (suc a) (omega (arith, all))))

    run_from : ℕ → ℕ → Onset → List Spell → ℕ
    run_from m a x held = sum_by run_share (cut_all (stretches_of n end (x ∷ onsets m a)) (held ++ spells m a))

    at_end : (a : ℕ) (x : Onset) (held : List Spell) (v : ℕ) → a ≡ n → Open a x held v
        → sum_by run_share (pieces_of (stretch_from x a end) (take (spells_within (held ++ []) a) (held ++ [])) ++ []) ≡ v + 0
    at_end a x held v is o =
        ap (sum_by run_share) (append-nil (pieces_of (stretch_from x a end) (take (spells_within (held ++ []) a) (held ++ []))))
        ∙ closes a end x held [] v 0 (stands a) o tt
        (λ c on. let full = last c (ap (λ k. (g k).doing) (sym is) ∙ on) in let here : count c a ≡ count c n = ap (count c) is in omega (arith, full, here)) (λ off. refl)

    -- the thread does the same in the next state, or another thing
    further : (m a : ℕ) (x : Onset) (held : List Spell) (v : ℕ) → stays_at a ≡ true
        → run_from m (suc a) x (held ++ spin (suc a)) ≡ v + d (suc a) + sums m (suc a) → run_from (suc m) a x held ≡ v + sums (suc m) a
    unfolding run_from onset_at
    further m a x held v stays rest =
        let none : onset_at (suc a) ≡ [] = ap (λ b. if b then [] else (begun (suc a) ∷ [])) stays in
        let same : onsets (suc m) a ≡ onsets m (suc a) = later_onsets m a ∙ ap (λ ts. ts ++ onsets m (suc a)) none in
        let moved : held ++ spells (suc m) a ≡ (held ++ spin (suc a)) ++ spells m (suc a)
        = ap (λ ss. held ++ ss) (later m a) ∙ sym (append_assoc held (spin (suc a)) (spells m (suc a))) in
        let sum = later_sums m a in
        let last : v + d (suc a) + sums m (suc a) ≡ v + sums (suc m) a = omega (arith, sum) in
        ap (λ ts. sum_by run_share (cut_all (stretches_of n end (x ∷ ts)) (held ++ spells (suc m) a))) same
        ∙ ap (λ ss. sum_by run_share (cut_all (stretches_of n end (x ∷ onsets m (suc a))) ss)) moved
        ∙ rest ∙ last

    anew : (m a : ℕ) (x : Onset) (held : List Spell) (v : ℕ) → suc a + m ≡ n → Made a → stays_at a ≡ false → Open a x held v
        → run_from m (suc a) (begun (suc a)) [] ≡ 0 + sums m (suc a) → run_from (suc m) a x held ≡ v + sums (suc m) a
    unfolding run_from onset_at stretches_of cut_all
    anew m a x held v next here changes o rest =
        let y : Onset = begun (suc a) in
        let one : onset_at (suc a) ≡ y ∷ [] = ap (λ b. if b then [] else (y ∷ [])) changes in
        let more : onsets (suc m) a ≡ y ∷ onsets m (suc a) = later_onsets m a ∙ ap (λ ts. ts ++ onsets m (suc a)) one in
        let none : spin (suc a) ≡ [] = no_spin a changes here.spins in
        let tail : spells (suc m) a ≡ spells m (suc a) = later m a ∙ ap (λ ss. ss ++ spells m (suc a)) none in
        let head : HeadFrom a (spells m (suc a)) = head_more a (suc a) (spells m (suc a)) (omega arith) (heads m (suc a) next) in
        let back : suc a - 1 ≡ a = omega arith in
        let ss : List Spell = held ++ spells m (suc a) in
        let first : Stretch = stretch_from x a (ticks (suc a)) in
        let ys : List Stretch = stretches_of n end (y ∷ onsets m (suc a)) in
        let closed : sum_by run_share (pieces_of first (take (spells_within ss a) ss)) ≡ v + d (suc a)
        = closes a (ticks (suc a)) x held (spells m (suc a)) v (d (suc a)) (stands a) o head
        (λ c on. let at = here.ends c on changes in let rise = here.running c on in omega (arith, at, rise)) here.resting in
        let left : drop (spells_within ss a) ss ≡ spells m (suc a) = dropped a held (spells m (suc a)) o.below head in
        let sum = later_sums m a in
        let last : v + d (suc a) + (0 + sums m (suc a)) ≡ v + sums (suc m) a = omega (arith, sum) in
        ap (λ ts. sum_by run_share (cut_all (stretches_of n end (x ∷ ts)) (held ++ spells (suc m) a))) more
        ∙ ap (λ zs. sum_by run_share (cut_all (stretch_from x (suc a - 1) (ticks (suc a)) ∷ ys) (held ++ zs))) tail
        ∙ ap (λ k. sum_by run_share (pieces_of (stretch_from x k (ticks (suc a))) (take (spells_within ss k) ss) ++ cut_all ys (drop (spells_within ss k) ss))) back
        ∙ sum_by-append run_share (pieces_of first (take (spells_within ss a) ss)) (cut_all ys (drop (spells_within ss a) ss))
        ∙ ap (λ k. k + sum_by run_share (cut_all ys (drop (spells_within ss a) ss))) closed
        ∙ ap (λ zs. v + d (suc a) + sum_by run_share (cut_all ys zs)) left
        ∙ ap (λ k. v + d (suc a) + k) rest
        ∙ last

    all_from : (m a : ℕ) (x : Onset) (held : List Spell) (v : ℕ) → a + m ≡ n → Open a x held v → run_from m a x held ≡ v + sums m a
    unfolding run_from onsets spells sums stretches_of cut_all
    all_from zero a x held v all o =
        let is : a ≡ n = omega (arith, all) in
        ap (λ k. sum_by run_share (pieces_of (stretch_from x k end) (take (spells_within (held ++ []) k) (held ++ [])) ++ [])) (sym is) ∙ at_end a x held v is o
    all_from (suc m) a x held v all o =
        let here : Made a = made a (omega (arith, all)) in
        let next : suc a + m ≡ n = omega (arith, all) in
        elim (cases_Bool (stays_at a)) [
          | inl stays ↦ further m a x held v stays (all_from m (suc a) x (held ++ spin (suc a)) (v + d (suc a)) next (goes_further a x held v here stays o))
          | inr changes ↦ anew m a x held v next here changes o (all_from m (suc a) (begun (suc a)) [] 0 next (begins_anew a here changes))
        ]

    -- from the first state on, in which the thread does not run
    pub all_run : is_on (g 0).doing ≡ false → spin 0 ≡ []
        → sum_by run_share (cut_all (stretches_of n end (flat_map onset_at (range_with_len 0 (n + 1)))) (flat_map spin (range_with_len 0 (n + 1)))) ≡ sum_by d (range_with_len 1 n)
    unfolding run_from onsets spells sums onset_at
    all_run still none =
        let start : Open 0 (begun 0) [] 0 = record {
          doing = refl;
          below = tt;
          on = λ c on. absurd (false≢true (sym still ∙ ap is_on on));
          off = λ off. (refl, refl);
        } in
        let whole_sum = all_from n 0 (begun 0) [] 0 (omega arith) start in
        let last : 0 + sums n 0 ≡ sum_by d (range_with_len 1 n) = omega arith in
        ap (λ k. sum_by run_share (cut_all (stretches_of n end (flat_map onset_at (range_with_len 0 k))) (flat_map spin (range_with_len 0 k)))) (add-one n)
        ∙ ap (λ ss. sum_by run_share (cut_all (stretches_of n end (begun 0 ∷ onsets n 0)) (ss ++ spells n 0))) none
        ∙ whole_sum ∙ last
