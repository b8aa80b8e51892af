-- The words of a table, as they are made one after another.
use Rattle.std.proofs.Common.{◌≡◌, ℕ, false, ◌+◌, ◌*◌, ◌^◌, ◌<◌, List, [], ◌∷◌, ◌++◌, length, map, replicate, refl, sym, ap, ◌∙◌, arith, length-append, append-nil, append_assoc}
use Rattle.std.specs.List.{All, range_with_len}
use Rattle.std.proofs.lemmas.List.{replicate_more}
use Rattle.std.proofs.lemmas.List.Elements.{All-nil, All-push}
use Rattle.std.proofs.lemmas.List.FromFn.{map-range_with_len_more}
use Rattle.sd_types.specs.declared.works.Work.{Work}
use Rattle.sd_state.specs.declared.states.State.{State}
use Rattle.std.proofs.lemmas.Bool.{false≢true}
use Rattle.sd_invariants.proofs.Whole.{fit_reached}
use Rattle.sd_homes.specs.Standing.{home_at}
use Rattle.sd_homes.specs.declared.list_id.ListId.{ListId}
use Rattle.sd_hand.specs.Hands.{StandsIn, has_thread}
use Rattle.sd_hand.proofs.MoveLemmas.{stands_at, stands_held}
use Rattle.sd_world.specs.Homes.{IsNumber, index_of}
use Rattle.sd_world.specs.Plain.{Stands as StandsAsRun, told}
use Rattle.sd_world.specs.declared.plain.PlainWorld.{PlainWorld}
use Rattle.sd_world.proofs.PlainLemmas.{has_stander, reached as run_reached, stood}
use Rattle.sd_shared_rule.specs.Places.{place_home, sizes}
use Rattle.sd_shared_rule.proofs.Bridge.{is_number}

-- so many words of threads
abbrev pub Placing : Work → State → List ℕ → ℕ → List ℕ → Type 0
Placing w s first t now = now ≡ first ++ map (place_home w s) (range_with_len 0 t)

pub places_next : (w : Work) (s : State) (first now new : List ℕ) (t x : ℕ) → Placing w s first t now → x ≡ place_home w s t → new ≡ now ++ x ∷ [] → Placing w s first (t + 1) new
places_next w s first now new t x p is e =
    e ∙ (ap (λ l. l ++ x ∷ []) p ∙ (append_assoc first (map (place_home w s) (range_with_len 0 t)) (x ∷ []) ∙ ap (λ l. first ++ l) (ap (λ y. map (place_home w s) (range_with_len 0 t) ++ y ∷ []) is ∙ sym (map-range_with_len_more (place_home w s) 0 t t (omega arith)))))

-- the hints of so many processors
pub record Hinting (first : List ℕ) (c : ℕ) (now : List ℕ) : Type 0 where
  pub hints : List ℕ
  pub many : length hints ≡ 2 * c
  pub small : All (λ n. n < 2 ^ 8) hints
  pub is : now ≡ first ++ hints

pub hints_first : (first : List ℕ) → Hinting first 0 first
hints_first first = record { hints = []; many = refl; small = All-nil (λ n. n < 2 ^ 8); is = sym (append-nil first) }

pub hints_next : (first now one two : List ℕ) (c a b : ℕ) → Hinting first c now → a < 2 ^ 8 → b < 2 ^ 8 → one ≡ now ++ a ∷ [] → two ≡ one ++ b ∷ [] → Hinting first (c + 1) two
hints_next first now one two c a b h fa fb ea eb = record {
  hints = (h.hints ++ a ∷ []) ++ b ∷ [];
  many = (let m = h.many in let x = length-append h.hints (a ∷ []) in let y = length-append (h.hints ++ a ∷ []) (b ∷ []) in omega (arith, m, x, y));
  small = All-push (λ n. n < 2 ^ 8) (h.hints ++ a ∷ []) b (All-push (λ n. n < 2 ^ 8) h.hints a h.small fa) fb;
  is = eb ∙ (ap (λ l. l ++ b ∷ []) (ea ∙ (ap (λ l. l ++ a ∷ []) h.is ∙ append_assoc first h.hints (a ∷ []))) ∙ append_assoc first (h.hints ++ a ∷ []) (b ∷ []));
}

-- words that are 0
pub zeros_next : (first now new : List ℕ) (n z : ℕ) → now ≡ first ++ replicate n z → new ≡ now ++ z ∷ [] → new ≡ first ++ replicate (n + 1) z
zeros_next first now new n z p e = e ∙ (ap (λ l. l ++ z ∷ []) p ∙ (append_assoc first (replicate n z) (z ∷ []) ∙ ap (λ l. first ++ l) (replicate_more n z)))

-- where a thread of a run stands
module _ (w : Work) (x : PlainWorld) (st : StandsAsRun w x) (t : ℕ) where
  pub listed_number : (at : ListId) → StandsIn t x.acting.hand.slots at → IsNumber (sizes w) (home_at at)
  listed_number at is = is_number w x.entries.items st.run (home_at at) (st.all.only (home_at at) (stands_held t at x.acting.hand.slots st.all.apart is))

  pub listed_place : (at : ListId) → StandsIn t x.acting.hand.slots at → index_of (sizes w) (home_at at) ≡ place_home w (told w x) t
  unfolding place_home
  listed_place at is = ap (λ l. index_of (sizes w) (home_at l)) (sym (stands_at (length x.entries.items) (told w x) t at x.acting.hand.slots st.all.apart st.all.shown is).list)

  pub listed_there : t < length w.threads → has_thread t x.acting.hand.slots ≡ false → ⊥
  listed_there inside none =
      let many = (fit_reached w (length x.entries.items) (told w x) (run_reached w x st)).fits.threads in
      let there = has_stander w x st t (omega (arith, inside, many)) (stood w x st t).home in
      false≢true (sym none ∙ there)
