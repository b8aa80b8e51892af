-- The victim of a search, processor by processor, and the turn of one who has found it.
use Rattle.std.proofs.Common.{◌≡◌, ◌⊎◌, ℕ, zero, suc, ◌+◌, ◌<◌, ◌≤◌, ◌==◌, true, false, max, min, List, [], ◌∷◌, ◌++◌, length, map, Option, Some, None, refl, sym, ap, ◌∙◌, inl, inr, arith, if◌then◌else◌}
use Rattle.std.proofs.lemmas.Bool.{cases_Bool, cases_eq, eq-eqb, false≢true, ne_eqb}
use Rattle.std.proofs.lemmas.Bool.Decides.{nat_tests}
use Rattle.std.proofs.lemmas.List.{append-nil}
use Rattle.sd_types.specs.declared.events.Event.{Event}
use Rattle.sd_types.specs.declared.events.Hints.{Hints}
use Rattle.sd_types.specs.declared.events.Which.TheVariants.{Queued}
use Rattle.sd_types.specs.declared.numbers.CpuId.{CpuId}
use Rattle.sd_types.specs.declared.works.Work.{Work}
use Rattle.sd_types.proofs.SameLemmas.{same_cpu}
use Rattle.sd_rules.specs.ChoiceFunctions.{greatest_hint, least_number, victim_of, with_hint}
use Rattle.sd_rules.specs.Orders.{is_busier}
use Rattle.sd_rules.proofs.PartitionLemmas.{names-from_Contains}
use Rattle.sd_state.specs.declared.states.State.{State}
use Rattle.sd_machine.specs.declared.plans.Plan.TheVariants.{Search}
use Rattle.sd_machine.specs.Choosing.{neighbours, numbers_read, victim_for}
use Rattle.sd_machine.specs.Dispatching.{search_event}
use Rattle.sd_machine.specs.Events.{allowed, next}
use Rattle.sd_machine.specs.Hints.{hint_shown, read_of}
use Rattle.sd_machine.specs.Plans.{plan}
use Rattle.sd_machine.specs.Runs.{IsReached, shown}
use Rattle.sd_machine.specs.Threads.{open_of}
use Rattle.sd_invariants.proofs.Places.{inside_reached}
use Rattle.sd_world.specs.Plain.{AreCpus}
use Rattle.sd_rounds.proofs.AloneLemmas.{next_of, serial_of}

greatest_more : (ns : List ℕ) (n : ℕ) → greatest_hint (ns ++ n ∷ []) ≡ max (greatest_hint ns) n
greatest_more [] n = omega arith
greatest_more (m ∷ ns) n = let rest = greatest_more ns n in omega arith

-- the processors with a number are those before, and the last where it has it
with_more : (g n : ℕ) (cs : List CpuId) (ns : List ℕ) (d : CpuId) → length cs ≡ length ns → with_hint g (cs ++ d ∷ []) (ns ++ n ∷ []) ≡ with_hint g cs ns ++ with_hint g (d ∷ []) (n ∷ [])
with_more g n [] [] d e = refl
with_more g n [] (m ∷ ns) d e = absurd (omega (arith, e))
with_more g n (c ∷ cs) [] d e = absurd (omega (arith, e))
with_more g n (c ∷ cs) (m ∷ ns) d e =
    let rest = with_more g n cs ns d (omega (arith, e)) in
    elim (cases_Bool (m == g)) [
      | inl here ↦ rw here (ap (λ l. c ∷ l) rest)
      | inr later ↦ rw later rest
    ]

-- nobody has more than the greatest
none_above : (g : ℕ) (cs : List CpuId) (ns : List ℕ) → greatest_hint ns < g → with_hint g cs ns ≡ []
none_above g [] ns above = refl
none_above g (c ∷ cs) [] above = refl
none_above g (c ∷ cs) (m ∷ ns) above =
    let other : (m == g) ≡ false = ne_eqb m g (λ e. omega (arith, above, e)) in
    rw other (none_above g cs ns (omega (arith, above)))

-- somebody has the greatest
some_with : (g : ℕ) (cs : List CpuId) (ns : List ℕ) → length cs ≡ length ns → 0 < g → greatest_hint ns ≡ g → 0 < length (with_hint g cs ns)
some_with g [] [] e some is = absurd (omega (arith, some, is))
some_with g [] (m ∷ ns) e some is = absurd (omega (arith, e))
some_with g (c ∷ cs) [] e some is = absurd (omega (arith, e))
some_with g (c ∷ cs) (m ∷ ns) e some is = elim (cases_Bool (m == g)) [
  | inl here ↦ rw here (omega arith)
  | inr later ↦
      let apart : m ≡ g → ⊥ = λ same. false≢true (sym later ∙ eq-eqb m g same) in
      rw later (some_with g cs ns (omega (arith, e)) some (omega (arith, is, apart)))
]

-- the least number of a list with one more
least_more : (cs : List CpuId) (d : CpuId) → 0 < length cs → (least_number (cs ++ d ∷ [])).0 ≡ min (least_number cs).0 d.0
least_more [] d some = absurd (omega (arith, some))
least_more (c ∷ []) d some = refl
least_more (c ∷ e ∷ es) d some = let rest = least_more (e ∷ es) d (omega arith) in omega arith

-- the one with the least number of those with a number, where it is not 0
by_number : ℕ → List CpuId → List ℕ → Option CpuId
by_number g cs ns = if g == 0 then None else Some (least_number (with_hint g cs ns))

by_some : (g : ℕ) (cs : List CpuId) (ns : List ℕ) → 0 < g → by_number g cs ns ≡ Some (least_number (with_hint g cs ns))
unfolding by_number
by_some g cs ns some = rw (ne_eqb g 0 (λ e. omega (arith, some, e))) refl

by_greatest : (g : ℕ) (cs : List CpuId) (ns : List ℕ) → greatest_hint ns ≡ g → victim_of cs ns ≡ by_number g cs ns
unfolding by_number
by_greatest g cs ns e = ap (λ h. if h == 0 then None else Some (least_number (with_hint h cs ns))) e

module _ (cs : List CpuId) (ns : List ℕ) (d : CpuId) (n : ℕ) (long : length cs ≡ length ns) where
  -- one with a lesser number, or with 0, is not it
  other_kept : (g : ℕ) → (0 < g → (n == g) ≡ false) → by_number g (cs ++ d ∷ []) (ns ++ n ∷ []) ≡ by_number g cs ns
  unfolding by_number
  other_kept zero other = refl
  other_kept (suc k) other =
      let some : 0 < suc k = omega arith in
      let none : with_hint (suc k) (d ∷ []) (n ∷ []) ≡ [] = rw (other some) refl in
      by_some (suc k) (cs ++ d ∷ []) (ns ++ n ∷ []) some
      ∙ ap (λ (l : List CpuId). Some (least_number l)) (with_more (suc k) n cs ns d long ∙ ap (λ l. with_hint (suc k) cs ns ++ l) none ∙ append-nil (with_hint (suc k) cs ns))
      ∙ sym (by_some (suc k) cs ns some)

  pub no_more : (g : ℕ) → greatest_hint ns ≡ g → (n ≡ 0) ⊎ (n < g) → (victim_of cs ns ≡ victim_of (cs ++ d ∷ []) (ns ++ n ∷ [])) × (g ≡ greatest_hint (ns ++ n ∷ []))
  no_more g is less =
      let most : greatest_hint (ns ++ n ∷ []) ≡ g = greatest_more ns n ∙ within less in
      (by_greatest g cs ns is ∙ sym (by_greatest g (cs ++ d ∷ []) (ns ++ n ∷ []) most ∙ other_kept g (λ some. ne_eqb n g (apart less some))), sym most)
    where
      within : (n ≡ 0) ⊎ (n < g) → max (greatest_hint ns) n ≡ g
      within (inl e) = omega (arith, is, e)
      within (inr e) = omega (arith, is, e)

      apart : (n ≡ 0) ⊎ (n < g) → 0 < g → n ≡ g → ⊥
      apart (inl e) some same = omega (arith, e, some, same)
      apart (inr e) some same = omega (arith, e, some, same)

  -- one with a greater number is it
  pub one_more : greatest_hint ns < n → (Some d ≡ victim_of (cs ++ d ∷ []) (ns ++ n ∷ [])) × (n ≡ greatest_hint (ns ++ n ∷ []))
  one_more more =
      let most : greatest_hint (ns ++ n ∷ []) ≡ n = greatest_more ns n ∙ omega (arith, more) in
      let its : with_hint n (d ∷ []) (n ∷ []) ≡ d ∷ [] = rw (eq-eqb n n refl) refl in
      let found : with_hint n (cs ++ d ∷ []) (ns ++ n ∷ []) ≡ d ∷ [] = with_more n n cs ns d long ∙ ap (λ l. l ++ with_hint n (d ∷ []) (n ∷ [])) (none_above n cs ns more) ∙ its in
      (sym (by_greatest n (cs ++ d ∷ []) (ns ++ n ∷ []) most ∙ by_some n (cs ++ d ∷ []) (ns ++ n ∷ []) (omega (arith, more)) ∙ ap (λ (l : List CpuId). Some (least_number l)) found), sym most)

  -- of several with the greatest it is the one with the least number
  pub as_many : (x : CpuId) → n ≡ greatest_hint ns → 0 < n → ((c : CpuId) → victim_of cs ns ≡ Some c → x.0 ≡ min c.0 d.0) → (Some x ≡ victim_of (cs ++ d ∷ []) (ns ++ n ∷ [])) × (n ≡ greatest_hint (ns ++ n ∷ []))
  as_many x same some least =
      let most : greatest_hint (ns ++ n ∷ []) ≡ n = greatest_more ns n ∙ omega (arith, same) in
      let its : with_hint n (d ∷ []) (n ∷ []) ≡ d ∷ [] = rw (eq-eqb n n refl) refl in
      let was : victim_of cs ns ≡ Some (least_number (with_hint n cs ns)) = by_greatest n cs ns (sym same) ∙ by_some n cs ns some in
      let smaller = least_more (with_hint n cs ns) d (some_with n cs ns long some (sym same)) in
      let is : least_number (with_hint n cs ns ++ d ∷ []) ≡ x = same_cpu (least_number (with_hint n cs ns ++ d ∷ [])) x (smaller ∙ sym (least (least_number (with_hint n cs ns)) was)) in
      let found : with_hint n (cs ++ d ∷ []) (ns ++ n ∷ []) ≡ with_hint n cs ns ++ d ∷ [] = with_more n n cs ns d long ∙ ap (λ l. with_hint n cs ns ++ l) its in
      (sym (by_greatest n (cs ++ d ∷ []) (ns ++ n ∷ []) most ∙ by_some n (cs ++ d ∷ []) (ns ++ n ∷ []) some ∙ ap (λ (l : List CpuId). Some (least_number l)) found ∙ ap Some is), sym most)

  -- the one that was first stays so before one that is not busier
  pub busier_kept : (c : CpuId) (g : ℕ) → victim_of cs ns ≡ Some c → greatest_hint ns ≡ g → 0 < n → is_busier d n c g ≡ false → (Some c ≡ victim_of (cs ++ d ∷ []) (ns ++ n ∷ [])) × (g ≡ greatest_hint (ns ++ n ∷ []))
  busier_kept c g was is some other = elim (cases_eq n g) [
    | inl same ↦
        let least : (e : CpuId) → victim_of cs ns ≡ Some e → c.0 ≡ min e.0 d.0 = λ e its.
        let one : Some c ≡ Some e = sym was ∙ its in
        let here : c ≡ e = cc in
        let number : c.0 ≡ e.0 = ap (λ (x : CpuId). x.0) here in
        let behind : c.0 ≤ d.0 = grind (arith, nat_tests) in
        omega (arith, number, behind) in
        let first = as_many c (same ∙ sym is) some least in
        (first.0, sym same ∙ first.1)
    | inr apart ↦
        let less : n < g = grind (arith, nat_tests) in
        let kept = no_more g is (inr less) in
        (sym was ∙ kept.0, kept.1)
  ]

  -- one that is busier than the first is the first
  pub busier_comes : (c : CpuId) (g : ℕ) → victim_of cs ns ≡ Some c → greatest_hint ns ≡ g → 0 < n → is_busier d n c g ≡ true → (Some d ≡ victim_of (cs ++ d ∷ []) (ns ++ n ∷ [])) × (n ≡ greatest_hint (ns ++ n ∷ []))
  busier_comes c g was is some before = elim (cases_eq n g) [
    | inl same ↦
        let least : (e : CpuId) → victim_of cs ns ≡ Some e → d.0 ≡ min e.0 d.0 = λ e its.
        let one : Some c ≡ Some e = sym was ∙ its in
        let here : c ≡ e = cc in
        let number : c.0 ≡ e.0 = ap (λ (x : CpuId). x.0) here in
        let ahead : d.0 < c.0 = grind (arith, nat_tests) in
        omega (arith, number, ahead) in
        as_many d (same ∙ sym is) some least
    | inr apart ↦
        let more : g < n = grind (arith, nat_tests) in
        one_more (omega (arith, is, more))
  ]

-- where there is no victim, all numbers are 0
pub nobody_first : (cs : List CpuId) (ns : List ℕ) → victim_of cs ns ≡ None → greatest_hint ns ≡ 0
nobody_first cs ns none = elim (cases_eq (greatest_hint ns) 0) [
  | inl nothing ↦ nothing
  | inr some ↦ absurd (let found : victim_of cs ns ≡ Some (least_number (with_hint (greatest_hint ns) cs ns)) = rw (ne_eqb (greatest_hint ns) 0 some) refl in cc)
]

-- the processors of a set's open list are there
pub open_there : (w : Work) (n : ℕ) (s : State) (p : ℕ) → IsReached w n s → AreCpus w (open_of s p)
open_there w n s p reached = λ d has. ((inside_reached w n s reached).opened.member p d.0 (names-from_Contains d (open_of s p) has)).0

-- what is read of processors as an entry records it
pub none_read : (s : State) (cpus : List CpuId) (ns : List ℕ) → ns ≡ map (hint_shown s Queued) cpus → length ns ≡ 0 → None ≡ shown s (read_of cpus)
none_read s [] ns e none = refl
none_read s (d ∷ ds) ns e none = absurd (let long = ap length e in omega (arith, long, none))

pub some_read : (s : State) (cpus : List CpuId) (ns : List ℕ) → ns ≡ map (hint_shown s Queued) cpus → 0 < length ns
    → (let h : Hints = record { which = Queued; numbers = record { items = ns } } in Some h) ≡ shown s (read_of cpus)
some_read s [] ns e some = absurd (let long = ap length e in omega (arith, long, some))
some_read s (d ∷ ds) ns e some = ap (λ (l : List ℕ). let h : Hints = record { which = Queued; numbers = record { items = l } } in Some h) e

victim_shown : (s : State) (cpus : List CpuId) → victim_of cpus (numbers_read cpus (shown s (read_of cpus))) ≡ victim_of cpus (map (hint_shown s Queued) cpus)
victim_shown s [] = refl
victim_shown s (d ∷ ds) = refl

-- the event to which a search comes that has this victim
pub will_search : (w : Work) (s : State) (c : CpuId) (hints : Option Hints) (victim : Option CpuId) (e : Event) → c.0 < w.cpus → Search ≡ plan w s c.0
    → hints ≡ shown s (read_of (neighbours s c.0)) → victim ≡ victim_of (neighbours s c.0) (map (hint_shown s Queued) (neighbours s c.0)) → e ≡ search_event s victim
    → next w s c hints ≡ allowed w s c.0 e
unfolding victim_for
will_search w s c hints victim e inside is read its comes =
    ap (next w s c) (read ∙ sym (serial_of w s c Search is)) ∙ next_of w s c Search inside is
    ∙ ap (λ v. allowed w s c.0 (search_event s v)) (victim_shown s (neighbours s c.0) ∙ sym its) ∙ ap (allowed w s c.0) (sym comes)
