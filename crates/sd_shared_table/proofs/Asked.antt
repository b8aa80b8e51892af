-- The steps, as the functions ask for them.
use Rattle.std.proofs.Common.{◌≡◌, ℕ, suc, ◌+◌, ◌%◌, ◌^◌, ◌<◌, true, false, eqb, List, [], ◌∷◌, length, Option, Some, sym, ap, ◌∙◌, subst}
use mathlib.Core.Option as M
use prog.Atomic.{either}
use Rattle.atomic_table.specs.Table.{Allows, Me, rest, step}
use Rattle.sd_types.specs.declared.events.Event.{Event}
use Rattle.sd_types.specs.declared.events.Hints.{Hints}
use Rattle.sd_types.specs.declared.events.Which.{Which}
use Rattle.sd_types.specs.declared.events.Entry.{Entry}
use Rattle.sd_types.specs.declared.works.Work.{Work}
use Rattle.sd_state.specs.States.{cpu_of}
use Rattle.sd_homes.specs.declared.home.Home.{Home}
use Rattle.sd_shared_rule.specs.declared.views.View.{View}
use Rattle.sd_shared_rule.specs.declared.views.View.TheVariants.{Works}
use Rattle.sd_types.specs.Limits.{most_entries}
use Rattle.sd_shared_rule.specs.Ledgers.{by}
use Rattle.sd_shared_rule.specs.Places.{Stands, holds, home_count, now, place_home}
use Rattle.sd_shared_rule.specs.Plays.{Committed, Counted, Gave, Hinted, Looked, MayCommit, Published, Sees, Slot, Took, Wrote, desk_of}
use Rattle.sd_shared_rule.specs.Rule.{Kept}
use Rattle.sd_shared_rule.specs.Words.{hint_word, thread_count, thread_word, tick_word}
use Rattle.sd_shared_rule.proofs.Commits.{commits}
use Rattle.sd_shared_rule.proofs.Steps.{counts, gives_home, hints, looks_up, publishes_word, takes_home, writes_hint, writes_tick}
use Rattle.sd_shared_table.specs.Intents.{IsDesk, within}

module _ (w : Work) (o : Option Work) (about : o ≡ Some w) (slots id : ℕ) (me : Me Slot View) (desk : IsDesk me) where
  whole : me ≡ (Works (desk_of me.0), me.1)
  whole = λ i. (desk i, me.1)

  pub grab : (k c1 : ℕ) → k < home_count w → c1 ≡ suc (desk_of me.0).cpu → holds k (desk_of me.0).held ≡ false
      → Allows (Kept w) slots id me k (λ n. either (eqb n 0) c1 n) (λ n m. within o (λ v. Took v (step slots k 0 c1 M.none) me n m))
  grab k c1 i mine fresh =
      subst (λ q. Allows (Kept w) slots id me k (λ n. either (eqb n 0) c1 n) (λ n m. within q (λ v. Took v (step slots k 0 c1 M.none) me n m))) (sym about)
      (takes_home w slots id me (desk_of me.0) me.1 k c1 whole i mine fresh)

  pub lay : (k : ℕ) (x : Home) → me.1 ≡ (k, Some x) ∷ rest me.1 → holds k (desk_of me.0).held ≡ true → (desk_of me.0).stray ≡ [] → Stands w k (desk_of me.0).seen x
      → Allows (Kept w) slots id me k (λ _. 0) (λ _ m. within o (λ v. Gave v (step slots k 0 0 M.none) me 0 m))
  lay k x front h settled stands =
      subst (λ q. Allows (Kept w) slots id me k (λ _. 0) (λ _ m. within q (λ v. Gave v (step slots k 0 0 M.none) me 0 m))) (sym about)
      (gives_home w slots id me (desk_of me.0) (rest me.1) k x (λ i. (desk i, front i)) h settled stands 0)

  pub look : (i t z : ℕ) → z ≡ t → i ≡ thread_word w t → t < thread_count w → Allows (Kept w) slots id me i (λ n. n) (λ n m. within o (λ v. Looked v z (step slots i 0 0 M.none) me n m))
  look i t z zt is r =
      subst (λ y. Allows (Kept w) slots id me i (λ n. n) (λ n m. within o (λ v. Looked v y (step slots i 0 0 M.none) me n m))) (sym zt)
      (subst (λ j. Allows (Kept w) slots id me j (λ n. n) (λ n m. within o (λ v. Looked v t (step slots j 0 0 M.none) me n m))) (sym is)
      (subst (λ q. Allows (Kept w) slots id me (thread_word w t) (λ n. n) (λ n m. within q (λ v. Looked v t (step slots (thread_word w t) 0 0 M.none) me n m))) (sym about) (looks_up w slots id me (desk_of me.0) me.1 t whole r)))

  pub name : (i t z k : ℕ) → z ≡ t → i ≡ thread_word w t → t < thread_count w → ((h : List Entry) → Sees w (desk_of me.0) h → (place_home w (now w h) t ≡ k) × (holds k (desk_of me.0).held ≡ true))
      → Allows (Kept w) slots id me i (λ _. k) (λ _ m. within o (λ v. Published v z (step slots i k 0 M.none) me k m))
  name i t z k zt is r here =
      subst (λ y. Allows (Kept w) slots id me i (λ _. k) (λ _ m. within o (λ v. Published v y (step slots i k 0 M.none) me k m))) (sym zt)
      (subst (λ j. Allows (Kept w) slots id me j (λ _. k) (λ _ m. within o (λ v. Published v t (step slots j k 0 M.none) me k m))) (sym is)
      (subst (λ q. Allows (Kept w) slots id me (thread_word w t) (λ _. k) (λ _ m. within q (λ v. Published v t (step slots (thread_word w t) k 0 M.none) me k m))) (sym about)
      (publishes_word w slots id me (desk_of me.0) me.1 t k whole r here k)))

  pub read_count : (i c z : ℕ) → z ≡ c → i ≡ tick_word w c → Allows (Kept w) slots id me i (λ n. n) (λ n m. within o (λ v. Counted v z (step slots i 0 0 M.none) me n m))
  read_count i c z zc is =
      subst (λ y. Allows (Kept w) slots id me i (λ n. n) (λ n m. within o (λ v. Counted v y (step slots i 0 0 M.none) me n m))) (sym zc)
      (subst (λ j. Allows (Kept w) slots id me j (λ n. n) (λ n m. within o (λ v. Counted v c (step slots j 0 0 M.none) me n m))) (sym is)
      (subst (λ q. Allows (Kept w) slots id me (tick_word w c) (λ n. n) (λ n m. within q (λ v. Counted v c (step slots (tick_word w c) 0 0 M.none) me n m))) (sym about) (counts w slots id me (desk_of me.0) me.1 c whole)))

  pub read_hint : (i c z : ℕ) (which k : Which) → z ≡ c → k ≡ which → i ≡ hint_word w c which → c < w.cpus
      → Allows (Kept w) slots id me i (λ n. n) (λ n m. within o (λ v. Hinted v z k (step slots i 0 0 M.none) me n m))
  read_hint i c z which k zc kw is inside =
      subst (λ y. Allows (Kept w) slots id me i (λ n. n) (λ n m. within o (λ v. Hinted v y k (step slots i 0 0 M.none) me n m))) (sym zc)
      (subst (λ y. Allows (Kept w) slots id me i (λ n. n) (λ n m. within o (λ v. Hinted v c y (step slots i 0 0 M.none) me n m))) (sym kw)
      (subst (λ j. Allows (Kept w) slots id me j (λ n. n) (λ n m. within o (λ v. Hinted v c which (step slots j 0 0 M.none) me n m))) (sym is)
      (subst (λ q. Allows (Kept w) slots id me (hint_word w c which) (λ n. n) (λ n m. within q (λ v. Hinted v c which (step slots (hint_word w c which) 0 0 M.none) me n m))) (sym about)
      (hints w slots id me (desk_of me.0) me.1 c which whole inside))))

  pub write_count : (i c x : ℕ) → i ≡ tick_word w c → c < w.cpus → c ≡ (desk_of me.0).cpu → x ≡ (cpu_of (now w (desk_of me.0).seen) c).count
      → Allows (Kept w) slots id me i (λ _. x) (λ _ m. within o (λ v. Wrote v (step slots i x 0 M.none) me x m))
  write_count i c x is r mine own =
      subst (λ j. Allows (Kept w) slots id me j (λ _. x) (λ _ m. within o (λ v. Wrote v (step slots j x 0 M.none) me x m))) (sym (is ∙ ap (tick_word w) mine))
      (subst (λ q. Allows (Kept w) slots id me (tick_word w (desk_of me.0).cpu) (λ _. x) (λ _ m. within q (λ v. Wrote v (step slots (tick_word w (desk_of me.0).cpu) x 0 M.none) me x m))) (sym about)
      (writes_tick w slots id me (desk_of me.0) me.1 x whole (subst (λ y. y < w.cpus) mine r) (own ∙ ap (λ y. (cpu_of (now w (desk_of me.0).seen) y).count) mine) x))

  pub write_hint : (i c x : ℕ) (which : Which) → i ≡ hint_word w c which → c < w.cpus → x < 2 ^ 8
      → Allows (Kept w) slots id me i (λ _. x) (λ _ m. within o (λ v. Wrote v (step slots i x 0 M.none) me x m))
  write_hint i c x which is inside fits =
      subst (λ j. Allows (Kept w) slots id me j (λ _. x) (λ _ m. within o (λ v. Wrote v (step slots j x 0 M.none) me x m))) (sym is)
      (subst (λ q. Allows (Kept w) slots id me (hint_word w c which) (λ _. x) (λ _ m. within q (λ v. Wrote v (step slots (hint_word w c which) x 0 M.none) me x m))) (sym about)
      (writes_hint w slots id me (desk_of me.0) me.1 c which x whole inside fits x))

  pub draw : (i : ℕ) (ev e : Event) (hs hints : Option Hints) → i ≡ home_count w → ev ≡ e → hs ≡ hints → ((h : List Entry) → Sees w (desk_of me.0) h → MayCommit w (desk_of me.0) e hints h)
      → length (by (desk_of me.0).cpu (desk_of me.0).seen) < most_entries
      → Allows (Kept w) slots id me i (λ n. (n + 1) % 2 ^ 64) (λ n m. within o (λ v. Committed v ev hs (step slots i 1 0 M.none) me n m))
  draw i ev e hs hints is same_event same_hints may room =
      subst (λ j. Allows (Kept w) slots id me j (λ n. (n + 1) % 2 ^ 64) (λ n m. within o (λ v. Committed v ev hs (step slots j 1 0 M.none) me n m))) (sym is)
      (subst (λ x. Allows (Kept w) slots id me (home_count w) (λ n. (n + 1) % 2 ^ 64) (λ n m. within o (λ v. Committed v x hs (step slots (home_count w) 1 0 M.none) me n m))) (sym same_event)
      (subst (λ x. Allows (Kept w) slots id me (home_count w) (λ n. (n + 1) % 2 ^ 64) (λ n m. within o (λ v. Committed v e x (step slots (home_count w) 1 0 M.none) me n m))) (sym same_hints)
      (subst (λ q. Allows (Kept w) slots id me (home_count w) (λ n. (n + 1) % 2 ^ 64) (λ n m. within q (λ v. Committed v e hints (step slots (home_count w) 1 0 M.none) me n m))) (sym about)
      (commits w slots id me (desk_of me.0) me.1 e hints whole may room))))
