-- The other seats, when one of them steps.
use Rattle.std.proofs.Common.{◌≡◌, ◌≢◌, ℕ, suc, ◌<◌, true, false, eqb, List, [], ◌∷◌, ◌++◌, set, refl, sym, ap, ◌∙◌, subst, ⊎_elim, arith}
use Rattle.std.specs.Prelude.{slice_index_or}
use Rattle.std.proofs.lemmas.Bool.{cases_eq, false≢true}
use Rattle.std.proofs.lemmas.Bool.Decides.{nat_tests}
use mathlib.Core.Option as M
use lib.ListN.{get_elem?}
use Rattle.atomic_table.proofs.Lists.{at_set}
use Rattle.sd_types.specs.declared.events.Entry.{Entry}
use Rattle.sd_types.specs.declared.works.Work.{Work}
use Rattle.sd_machine.specs.Runs.{IsRun}
use Rattle.sd_shared_rule.specs.declared.views.Desk.{Desk}
use Rattle.sd_shared_rule.specs.declared.views.View.{View}
use Rattle.sd_shared_rule.specs.declared.views.View.TheVariants.{Maker, Works, Gathers, Spent}
use Rattle.sd_shared_rule.specs.Places.{Touches, home_count, now}
use Rattle.sd_shared_rule.specs.Words.{put}
use Rattle.sd_shared_rule.specs.Rule.{Ledger, Desked, Knows}
use Rattle.sd_shared_rule.proofs.Bridge.{rises}
use Rattle.sd_shared_rule.proofs.Lists.{put_here, put_else, holds-nil}
use Rattle.sd_shared_rule.proofs.Since.{since_other}

-- the stepping seat has the new view, each other one its old
pub seats : (K : ℕ → View → Type 0) (vs : List View) (id : ℕ) (v : View) → K id v → ((j : ℕ) (u : View) → j ≢ id → get_elem? vs j ≡ M.some u → K j u)
    → (j : ℕ) (u : View) → get_elem? (set vs id v) j ≡ M.some u → K j u
seats K vs id v mine others j u at =
    ⊎_elim (λ (t : (j ≡ id) × (v ≡ u)). subst (λ (p : ℕ × View). K p.0 p.1) (λ i. (sym t.0 i, t.1 i)) mine)
    (λ (t : (j ≢ id) × (get_elem? vs j ≡ M.some u)). others j u t.0 t.1)
    (at_set vs id j v u at)

module _ (w : Work) where
  -- two seats have two processors
  pub apart_cpus : (l : Ledger) (lock : ℕ → ℕ) (j id : ℕ) (u d : Desk) → j ≢ id → Desked w l lock j u → Desked w l lock id d → u.cpu ≢ d.cpu
  apart_cpus l lock j id u d n a b e = n (sym a.seat ∙ (ap l.seat e ∙ b.seat))

  -- a lock word of one processor changes
  pub lock_else : (l : Ledger) (lock : ℕ → ℕ) (k m : ℕ) (j : ℕ) (v : View) → ((u : Desk) → v ≡ Works u → (lock k ≢ suc u.cpu) × (m ≢ suc u.cpu)) → Knows w l lock j v → Knows w l (put lock k m) j v
  lock_else l lock k m j (Maker n) apart x = x
  lock_else l lock k m j (Gathers seens) apart x = x
  lock_else l lock k m j Spent apart x = x
  lock_else l lock k m j (Works u) apart x =
      let a = apart u refl in
      record {
        made = x.made;
        seat = x.seat;
        here = x.here;
        since = x.since;
        held = λ i r. x.held i r ∙ ⊎_elim
            (λ (e : i ≡ k). ap (λ q. eqb (lock q) (suc u.cpu)) e ∙ ((let q = a.0 in let z : eqb (lock k) (suc u.cpu) ≡ false = grind (arith, nat_tests) in z) ∙ (sym (let q = a.1 in let z : eqb m (suc u.cpu) ≡ false = grind (arith, nat_tests) in z) ∙ ap (λ y. eqb y (suc u.cpu)) (sym (ap (put lock k m) e ∙ put_here lock k m)))))
            (λ (n : i ≢ k). ap (λ y. eqb y (suc u.cpu)) (sym (put_else lock k m i n)))
            (cases_eq i k);
        inside = x.inside;
        apart = x.apart;
        stray = x.stray;
        counts = x.counts;
      }

  -- the strays of one processor change
  abbrev pub with_stray : Ledger → ℕ → List ℕ → Ledger
  with_stray l c ts = record { history = l.history; made = l.made; seat = l.seat; gone = l.gone; stray = put l.stray c ts }

  pub stray_else : (l : Ledger) (lock : ℕ → ℕ) (c : ℕ) (ts : List ℕ) (j : ℕ) (v : View) → ((u : Desk) → v ≡ Works u → u.cpu ≢ c) → Knows w l lock j v → Knows w (with_stray l c ts) lock j v
  stray_else l lock c ts j (Maker n) apart x = x
  stray_else l lock c ts j (Gathers seens) apart x = x
  stray_else l lock c ts j Spent apart x = x
  stray_else l lock c ts j (Works u) apart x = record {
    made = x.made;
    seat = x.seat;
    here = x.here;
    since = x.since;
    held = x.held;
    inside = x.inside;
    apart = x.apart;
    stray = put_else l.stray c ts u.cpu (apart u refl) ∙ x.stray;
    counts = x.counts;
  }

  -- another processor's entry
  abbrev pub with_entry : Ledger → Entry → List ℕ → Ledger
  with_entry l e ts = record { history = l.history ++ e ∷ []; made = l.made; seat = l.seat; gone = l.gone; stray = put l.stray e.cpu.0 ts }

  pub entry_else : (l : Ledger) (lock : ℕ → ℕ) (e : Entry) (ts : List ℕ) → IsRun w (l.history ++ e ∷ []) → l.gone e.cpu.0 ≡ false
      → ((k : ℕ) → Touches w (now w l.history) e.cpu e.event k → (k < home_count w) × (lock k ≡ suc e.cpu.0))
      → (j : ℕ) (v : View) → ((u : Desk) → v ≡ Works u → u.cpu ≢ e.cpu.0) → Knows w l lock j v → Knows w (with_entry l e ts) lock j v
  entry_else l lock e ts run here mine j (Maker n) apart x = x
  entry_else l lock e ts run here mine j Spent apart x = x
  entry_else l lock e ts run here mine j (Gathers seens) apart x = λ c i.
      let was = x c i in
      let ne : c ≢ e.cpu.0 = λ q. false≢true (sym here ∙ (ap l.gone (sym q) ∙ was.0)) in
      (was.0, since_other w c [] (slice_index_or seens c []) l.history e run ne (λ k h. absurd (false≢true (sym (holds-nil k) ∙ h))) was.1)
  entry_else l lock e ts run here mine j (Works u) apart x =
      let ne = apart u refl in
      record {
        made = x.made;
        seat = x.seat;
        here = x.here;
        since = since_other w u.cpu u.held u.seen l.history e run ne
            (λ k h q. (let m = mine k q in let f = x.held k m.0 in let t : eqb (lock k) (suc u.cpu) ≡ true = sym f ∙ h in let z : lock k ≡ suc u.cpu = grind (arith, nat_tests) in ne (let y : suc u.cpu ≡ suc e.cpu.0 = sym z ∙ m.1 in omega arith)))
            x.since;
        held = x.held;
        inside = x.inside;
        apart = x.apart;
        stray = put_else l.stray e.cpu.0 ts u.cpu ne ∙ x.stray;
        counts = λ n y at. (let r = rises w l.history e run y.cpu in let o = x.counts n y at in omega arith);
      }
