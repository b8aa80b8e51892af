-- What a processor knows, when the history grows.
use Rattle.std.proofs.Common.{◌≡◌, ◌≢◌, ℕ, ◌≤◌, true, List, [], ◌∷◌, ◌++◌, refl, sym, ◌∙◌, subst, arith, append_assoc, append-nil}
use Rattle.sd_types.specs.declared.events.Entry.{Entry}
use Rattle.sd_types.specs.declared.works.Work.{Work}
use Rattle.sd_state.specs.Opening.{opening}
use Rattle.sd_machine.specs.Runs.{IsRun}
use Rattle.sd_machine.proofs.RunLemmas.{IsRun-from, IsRunFrom-front, from-IsRun}
use Rattle.sd_state.specs.States.{cpu_of}
use Rattle.sd_world.specs.Worlds.{Begins}
use Rattle.sd_shared_rule.specs.Ledgers.{Since}
use Rattle.sd_shared_rule.specs.Places.{Touches, holds, now}
use Rattle.sd_shared_rule.proofs.Bridge.{frame, others, rises}
use Rattle.sd_shared_rule.proofs.Lists.{by_else}
use Rattle.sd_world.proofs.WorldLemmas.{begins_same, begins_then}

module _ (w : Work) where
  pub since_same : (c : ℕ) (held : List ℕ) (h : List Entry) → Since w c held h h
  since_same c held h = record { begins = begins_same h; keeps = λ k x i s. s; count = refl; duty = refl; mine = refl }

  pub since_then : (c : ℕ) (held : List ℕ) (a b d : List Entry) → Since w c held a b → Since w c held b d → Since w c held a d
  since_then c held a b d x y = record {
    begins = begins_then a b d x.begins y.begins;
    keeps = λ k v i s. y.keeps k v i (x.keeps k v i s);
    count = x.count ∙ y.count;
    duty = x.duty ∙ y.duty;
    mine = x.mine ∙ y.mine;
  }

  -- for a seat with other homes of which each is among these
  pub since_fewer : (c : ℕ) (held fewer : List ℕ) (a b : List Entry) → ((k : ℕ) → holds k fewer ≡ true → holds k held ≡ true) → Since w c held a b → Since w c fewer a b
  since_fewer c held fewer a b sub x = record { begins = x.begins; keeps = λ k v i s. x.keeps k v (sub k i) s; count = x.count; duty = x.duty; mine = x.mine }

  -- an entry of another processor that names none of the homes
  pub since_other : (c : ℕ) (held : List ℕ) (a h : List Entry) (e : Entry) → IsRun w (h ++ e ∷ []) → c ≢ e.cpu.0
      → ((k : ℕ) → holds k held ≡ true → Touches w (now w h) e.cpu e.event k → ⊥) → Since w c held a h → Since w c held a (h ++ e ∷ [])
  since_other c held a h e run ne none x = record {
    begins = begins_then a h (h ++ e ∷ []) x.begins (e ∷ [], refl);
    keeps = λ k v i s. frame w h e run k v (none k i) (x.keeps k v i s);
    count = x.count ∙ (others w h e run c ne).0;
    duty = x.duty ∙ (others w h e run c ne).1;
    mine = x.mine ∙ sym (by_else c h e (λ q. ne (sym q)));
  }

  run_front : (h rest : List Entry) → IsRun w (h ++ rest) → IsRun w h
  run_front h rest run = from-IsRun w h (IsRunFrom-front w (opening w) 0 h rest (IsRun-from w (h ++ rest) run))

  grows : (a rest : List Entry) → IsRun w (a ++ rest) → (d : ℕ) → (cpu_of (now w a) d).count ≤ (cpu_of (now w (a ++ rest)) d).count
  grows a [] run d = subst (λ h. (cpu_of (now w a) d).count ≤ (cpu_of (now w h) d).count) (sym (append-nil a)) (omega arith)
  grows a (e ∷ es) run d =
      let split : (a ++ e ∷ []) ++ es ≡ a ++ e ∷ es = append_assoc a (e ∷ []) es in
      let whole : IsRun w ((a ++ e ∷ []) ++ es) = subst (IsRun w) (sym split) run in
      let first = rises w a e (run_front (a ++ e ∷ []) es whole) d in
      let later = grows (a ++ e ∷ []) es whole d in
      subst (λ h. (cpu_of (now w a) d).count ≤ (cpu_of (now w h) d).count) split (omega (arith, first, later))

  -- what a count has reached it has reached after more entries
  pub reached_still : (a b : List Entry) → Begins a b → IsRun w b → (d n : ℕ) → n ≤ (cpu_of (now w a) d).count → n ≤ (cpu_of (now w b) d).count
  reached_still a b (rest, is) run d n least =
      let more = grows a rest (subst (IsRun w) is run) d in
      subst (λ h. n ≤ (cpu_of (now w h) d).count) (sym is) (omega (arith, least, more))
