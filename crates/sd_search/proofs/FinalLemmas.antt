-- The states in which runs end, and what an answer rests on.
use Rattle.std.proofs.Common.{◌≡◌, ℕ, zero, suc, ◌+◌, ◌<◌, ◌≤◌, Bool, true, false, List, [], ◌∷◌, ◌++◌, length, Some, Result, Ok, Err, get_or, refl, sym, ap, ◌∙◌, subst, arith, inl, inr, ◌⊎◌, add-one}
use Rattle.std.specs.Prelude.{◌↔◌, if◌then◌else◌, slice_get, IfOk, IsTrue, Vec, nat_le}
use Rattle.std.specs.declared.alloc.Global.{Global}
use Rattle.std.proofs.lemmas.Bool.{cases_lt}
use Rattle.std.proofs.lemmas.List.{append-nil}
use Rattle.std.proofs.lemmas.Option.{get_or_from_slice_get, slice_get-get_or, slice_get_within}
use Rattle.std.proofs.lemmas.Bool.Decides.{nat_tests}
use Rattle.sd_basics.proofs.Lists.{get_more, get_last, get_cases}
use Rattle.sd_types.specs.declared.numbers.CpuId.{CpuId}
use Rattle.sd_types.specs.declared.events.Entry.{Entry}
use Rattle.sd_types.specs.declared.works.Work.{Work}
use Rattle.sd_state.specs.declared.states.State.{State}
use Rattle.sd_state.specs.Opening.{opening}
use Rattle.sd_machine.specs.Events.{next}
use Rattle.sd_machine.specs.Runs.{IsReached, final, round, serial_hints}
use Rattle.sd_encoding.specs.Order.{KeysFit}
use Rattle.sd_search.specs.Closed.{IsClosed}
use Rattle.sd_search.specs.Spelled.{IsSpelled}
use Rattle.sd_search.proofs.RunLemmas.{alike, every_run}
use Rattle.sd_encoding.proofs.OrderRankLemmas.{ranked_same}
use Rattle.sd_encoding.specs.Encoding.{encoded}
use Rattle.sd_search.specs.declared.graph.Step.{Step}
use Rattle.sd_search.specs.declared.questions.Question.{Question}
use Rattle.sd_search.specs.Finals.{AreFinals, Ends}
use Rattle.sd_search.specs.Graphs.{AreApart, HasEveryRun, IsAmong, IsAt, IsGathered, packed}
use Rattle.sd_search.specs.Questions.{HasNoWitness, HasPart, IsWitness, Meets}
use Rattle.sd_search.proofs.BackLemmas.{turned}
use Rattle.sd_search.proofs.KeyLemmas.{keys_reached}
use Rattle.sd_search.proofs.QuestionLemmas.{meets_same}
use Rattle.sd_search.proofs.TellLemmas.{at_same, inside_at}
use Rattle.sd_search.specs.declared.graph.Graph.{Graph}

-- no run ends in a state from which another was reached
pub never_ends : (w : Work) (bs : List (List ℕ)) (steps : List Step) (done : ℕ) → IsGathered w bs steps done → (i to : ℕ) (step : Step) → 0 < to → slice_get steps to ≡ Some step → step.before ≡ i → Ends w bs i → ⊥
never_ends w bs steps done g i zero step lt at is ends = absurd (omega arith)
never_ends w bs steps done g i (suc k) step lt at is ends =
    let r = g.reached k step at in
    let here : IsAt bs i r.from = subst (λ n. IsAt bs n r.from) is r.from_at in
    let same : r.from ≡ ends.state = at_same bs i r.from ends.state here ends.at in
    let some : next w ends.state step.cpu (serial_hints w ends.state step.cpu) ≡ Some r.turn.event = subst (λ z. next w z step.cpu (serial_hints w z step.cpu) ≡ Some r.turn.event) same r.turn.makes in
    let none = ends.complete step.cpu (serial_hints w ends.state step.cpu) in
    cc

module _ (w : Work) (bs : List (List ℕ)) where
  -- one more, where a run ends there
  pub one_more : (i : ℕ) (ends : Bool) (v v' : List ℕ) → (IsTrue ends ↔ Ends w bs i) → AreFinals w bs i v → v' ≡ v ++ (if ends then i ∷ [] else []) → AreFinals w bs (i + 1) v'
  one_more i true v v' tells are is = subst (λ k. AreFinals w bs k v') (sym (add-one i)) (inl (tells.0 refl, (v, is, are)))
  one_more i false v v' tells are is =
      subst (λ k. AreFinals w bs k v') (sym (add-one i)) (inr ((λ e. let told = tells.1 e in cc), subst (λ (us : List ℕ). AreFinals w bs i us) (sym (is ∙ append-nil v)) are))

  -- in each of the states a run ends
  pub ends_at : (k : ℕ) (finals : List ℕ) (p j : ℕ) → AreFinals w bs k finals → slice_get finals p ≡ Some j → Ends w bs j
  ends_at zero finals p j none at = absurd (let few = slice_get_within finals p j at in let many = ap length none in omega (arith, few, many))
  ends_at (suc k) finals p j (inl (e, (before, is, are))) at =
      elim (get_cases before k j p (subst (λ (us : List ℕ). slice_get us p ≡ Some j) is at)) [
        | inl front ↦ ends_at k before p j are front
        | inr last ↦ subst (λ z. Ends w bs z) last.1 e
      ]
  ends_at (suc k) finals p j (inr (none, are)) at = ends_at k finals p j are at

  -- each state in which a run ends is one of them
  pub stands_at : (k : ℕ) (finals : List ℕ) (i : ℕ) → AreFinals w bs k finals → i < k → Ends w bs i → (p : ℕ) × (slice_get finals p ≡ Some i)
  stands_at zero finals i none few ends = absurd (omega arith)
  stands_at (suc k) finals i (inl (e, (before, is, are))) few ends = by (cases_lt i k) (λ less. stands_at k before i are less ends)
    where
      by : (i < k) ⊎ (k ≤ i) → (i < k → (p : ℕ) × (slice_get before p ≡ Some i)) → (p : ℕ) × (slice_get finals p ≡ Some i)
      by (inl less) rest = let r = rest less in (r.0, subst (λ (us : List ℕ). slice_get us r.0 ≡ Some i) (sym is) (get_more before (k ∷ []) r.0 i r.1))
      by (inr more) rest =
          let same : k ≡ i = omega (arith, few, more) in
          (length before, subst (λ (us : List ℕ). slice_get us (length before) ≡ Some i) (sym is) (get_last before k ∙ ap (λ n. Some n) same))
  stands_at (suc k) finals i (inr (none, are)) few ends = by (cases_lt i k) (λ less. stands_at k finals i are less ends)
    where
      by : (i < k) ⊎ (k ≤ i) → (i < k → (p : ℕ) × (slice_get finals p ≡ Some i)) → (p : ℕ) × (slice_get finals p ≡ Some i)
      by (inl less) rest = rest less
      by (inr more) rest = absurd (none (let same : i ≡ k = omega (arith, few, more) in subst (λ z. Ends w bs z) same ends))

  -- they rise
  below : (k : ℕ) (finals : List ℕ) (p i : ℕ) → AreFinals w bs k finals → slice_get finals p ≡ Some i → i < k
  below zero finals p i none at = absurd (let few = slice_get_within finals p i at in let many = ap length none in omega (arith, few, many))
  below (suc k) finals p i (inl (e, (before, is, are))) at =
      elim (get_cases before k i p (subst (λ (us : List ℕ). slice_get us p ≡ Some i) is at)) [
        | inl front ↦ let less = below k before p i are front in omega (arith, less)
        | inr last ↦ let same = last.1 in omega (arith, same)
      ]
  below (suc k) finals p i (inr (none, are)) at = let less = below k finals p i are at in omega (arith, less)

  rising : (k : ℕ) (finals : List ℕ) (p r i j : ℕ) → AreFinals w bs k finals → p ≤ r → slice_get finals p ≡ Some i → slice_get finals r ≡ Some j → i ≤ j
  rising zero finals p r i j none le at there = absurd (let few = slice_get_within finals p i at in let many = ap length none in omega (arith, few, many))
  rising (suc k) finals p r i j (inl (e, (before, is, are))) le at there =
      by (λ a b. rising k before p r i j are le a b) (get_cases before k i p (subst (λ (us : List ℕ). slice_get us p ≡ Some i) is at)) (get_cases before k j r (subst (λ (us : List ℕ). slice_get us r ≡ Some j) is there))
    where
      by : (slice_get before p ≡ Some i → slice_get before r ≡ Some j → i ≤ j) → (slice_get before p ≡ Some i) ⊎ ((p ≡ length before) × (k ≡ i)) → (slice_get before r ≡ Some j) ⊎ ((r ≡ length before) × (k ≡ j)) → i ≤ j
      by rest (inl a) (inl b) = rest a b
      by rest (inl a) (inr b) = let less = below k before p i are a in let same = b.1 in omega (arith, less, same)
      by rest (inr a) (inl b) = absurd (let within = slice_get_within before r j b in let place = a.0 in omega (arith, within, place, le))
      by rest (inr a) (inr b) = let one = a.1 in let other = b.1 in omega (arith, one, other)
  rising (suc k) finals p r i j (inr (none, are)) le at there = rising k finals p r i j are le at there

  module _ (finals : List ℕ) (are : AreFinals w bs (length bs) finals) where
    pub ends_there : (p : ℕ) → p < length finals → Ends w bs (get_or finals p 0)
    ends_there p inside = ends_at (length bs) finals p (get_or finals p 0) are (slice_get-get_or finals p 0 inside)

    pub inside_there : (p : ℕ) → p < length finals → get_or finals p 0 < length bs
    inside_there p inside = let e = ends_there p inside in inside_at bs (get_or finals p 0) e.state e.at

    -- none before the next one either
    pub none_more : (q : Question) (p : ℕ) (found : Bool) → found ≡ false → p < length finals
        → ((x : State) → IsAt bs (get_or finals p 0) x → IsTrue found ↔ HasPart w q x)
        → ((k j : ℕ) → k < p → slice_get finals k ≡ Some j → (x : State) → IsAt bs j x → HasPart w q x → ⊥)
        → (k j : ℕ) → k < p + 1 → slice_get finals k ≡ Some j → (x : State) → IsAt bs j x → HasPart w q x → ⊥
    none_more q p found not_found inside tells before k j few at x here part = by (cases_lt k p)
      where
        by : (k < p) ⊎ (p ≤ k) → ⊥
        by (inl less) = before k j less at x here part
        by (inr more) =
            let same : k ≡ p = omega (arith, few, more) in
            let is : get_or finals p 0 ≡ j = get_or_from_slice_get finals p j 0 (subst (λ n. slice_get finals n ≡ Some j) same at) in
            let asked = (tells x (subst (λ n. IsAt bs n x) (sym is) here)).1 part in
            cc

    -- none with a smaller number than the first that was found
    pub none_before : (q : Question) (p : ℕ) → p < length finals → ((k j : ℕ) → k < p → slice_get finals k ≡ Some j → (x : State) → IsAt bs j x → HasPart w q x → ⊥)
        → (j : ℕ) (y : State) → j < get_or finals p 0 → IsAt bs j y → Meets w q y → ⊥
    none_before q p inside none j y less at meets = by (stands_at (length bs) finals j are (inside_at bs j y at) (record { state = y; at = at; complete = meets.complete }))
      where
        by_place : (r : ℕ) → slice_get finals r ≡ Some j → (r < p) ⊎ (p ≤ r) → ⊥
        by_place r there (inl before) = none r j before there y at meets.part
        by_place r there (inr later) = let le = rising (length bs) finals p r (get_or finals p 0) j are later (slice_get-get_or finals p 0 inside) there in omega (arith, le, less)

        by : (r : ℕ) × (slice_get finals r ≡ Some j) → ⊥
        by s = by_place s.0 s.1 (cases_lt s.0 p)

    -- none of all states
    pub none_meets : (q : Question) (p : ℕ) → length finals ≤ p → ((k j : ℕ) → k < p → slice_get finals k ≡ Some j → (x : State) → IsAt bs j x → HasPart w q x → ⊥)
        → (i : ℕ) (x : State) → IsAt bs i x → Meets w q x → ⊥
    none_meets q p all none i x at meets =
        let s = stands_at (length bs) finals i are (inside_at bs i x at) (record { state = x; at = at; complete = meets.complete }) in
        let within = slice_get_within finals s.0 i s.1 in
        none s.0 i (omega (arith, within, all)) s.1 x at meets.part

  module _ (steps : List Step) (done : ℕ) (g : IsGathered w bs steps done) where
    closed : length bs ≤ done → IsClosed w (IsAmong bs)
    closed all = record {
      start = record { state = g.start; among = record { index = 0; at = g.start_at }; same = g.opens };
      fits = λ x has. g.fits has.index x has.at;
      turns = λ x has c e makes. let inside = inside_at bs has.index x has.at in g.expanded has.index (omega (arith, inside, all)) x has.at c e makes;
    }

    -- where all were expanded, each run that can be searched ends in a state that was gathered
    pub gathers_all : length bs ≤ done → HasEveryRun w bs
    gathers_all all es run fresh = every_run w (IsAmong bs) (closed all) es run fresh

    pub never : (q : Question) → length bs ≤ done → ((i : ℕ) (x : State) → IsAt bs i x → Meets w q x → ⊥) → HasNoWitness w q
    never q all none es witness =
        let has = gathers_all all es witness.run witness.fresh in
        let s = final w (opening w) es in
        let reached : IsReached w (length es) s = record { entries = es; run = witness.run; many = refl; ends = refl } in
        let back = alike (length es) 0 s has.state (turned has.state s has.same) (keys_reached w (length es) s reached) (g.fits has.among.index has.state has.among.at) in
        none has.among.index has.state has.among.at (meets_same (length es) 0 s has.state back w q witness.ends)

    -- each stands there once
    pub apart : AreApart bs
    apart i j x y a c same = g.differ i j (encoded x) a.bytes (c.bytes ∙ ap (λ (z : List ℕ). Some z) (ap encoded (sym is)))
      where
        is : x ≡ y
        is = sym (g.ranks i x a) ∙ ranked_same x y same ∙ g.ranks j y c

-- a state that was found, and the run that leads to it
pub found_witness : (w : Work) (q : Question) (cs : List CpuId) (es : List Entry) (x : State) → KeysFit 0 x → Meets w q x → IsSpelled w cs x → es ≡ round w (opening w) 0 cs → IsWitness w q es
found_witness w q cs es x fits meets spelled is =
    subst (λ (fs : List Entry). IsWitness w q fs) (sym is)
    (record { run = spelled.run; fresh = spelled.fresh; ends = meets_same 0 (length fs) x s (alike 0 (length fs) x s spelled.ends fits (keys_reached w (length fs) s reached)) w q meets })
  where
    fs : List Entry
    fs = round w (opening w) 0 cs

    s : State
    s = final w (opening w) fs

    reached : IsReached w (length fs) s
    reached = record { entries = fs; run = spelled.run; many = refl; ends = refl }

-- the entries that the way to a state spells
pub spelled_entries : {E : Type 0} (w : Work) (bs : List (List ℕ)) (i : ℕ) (cs ds : List CpuId) (r : Result (Vec Entry Global) E) → ((x : State) → IsAt bs i x → IsSpelled w cs x) → ds ≡ cs
    → IfOk r (λ v. v.items ≡ round w (opening w) 0 ds)
    → IfOk r (λ v. (x : State) → IsAt bs i x → (es : List CpuId) × IsSpelled w es x × (v.items ≡ round w (opening w) 0 es))
spelled_entries w bs i cs ds (Ok v) spelled same is = λ x at. (cs, spelled x at, is ∙ ap (round w (opening w) 0) same)
spelled_entries w bs i cs ds (Err e) spelled same is = tt

-- all states of a graph are done where none is behind those that are
pub all_done : (g : Graph) (b : Bool) → b ≡ nat_le (length (packed g)) g.done → b ≡ true → length (packed g) ≤ g.done
all_done g b is e = let test : nat_le (length (packed g)) g.done ≡ true = sym is ∙ e in grind (arith, nat_tests, test)
