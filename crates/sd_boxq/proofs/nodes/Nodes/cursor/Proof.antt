-- A cursor has what a `&` to the nodes lends. Assumes `Logic`.
use mathlib.Core.Path.{◌≡◌, refl, sym, subst, ◌∙◌}
use Prim.Native.Nat.{ℕ, ◌+◌}
use mathlib.Core.List.{List, [], ◌∷◌, ◌++◌}
use seplogic.Ra.Ura.{Ura}
use mir.Syntax.{Fn, named, ty_ptr}
use mir.MapTy.{inst_fn}
use mir.Val.{Val, vptr, has_ty}
use base.Logic.{SProp, ent, emp, via, fst∗}
use base.Fml.{Lft, Share, ftrue, flft}
use prog.Wp.{Calls, Loops, WpFn, Tables}
use types.Logic.{Logic}
use contract.Monad.{fact}
use contract.Running.{tables, tables_of}
use sound.WpLaws.{WpFn-mono}
use types.Kit.{Item, ⋆, ‵, ◌⊛◌, ◌$◌, ◌∵◌, !, qed, by, move, keep, split, join, fsplit, fjoin, feq_l, suffices, done}
use types.Run.{look, stop, fld, load, of_opd, and_then, no_more, returns, enter}
use types.ByLocal.{alloc_all, pass_all, free_all, look_at, get, through, sets}
use denote.Exit.{yes}
use denote.RattleType.{owns}
use denote.Memory.{hidden_shr}
use denote.Ref.{Bor, ShrRef}
use denote.Builtin.{RefOf}
use denote.Signature.{plain, named_lft}
use denote.Steps.{nothing}
use denote.Triple.Carry.{spared}
use denote.Triple.Clauses.{Clauses, Ended, closing}
use denote.Triple.Entry.{on_entry}
use denote.Triple.Spec.{Meets, triple_of}
use denote.Triple.Table.{entered, run_framed}
use denote.Triple.Walked.{says, Stays, stay_dropped, walk_of, ends_at, Goes-dropped, walk_Meets}
use Rattle.std_alloc.proofs.BoxSteps.Form.{Bx, args, X, R}
use Rattle.sd_boxq.specs.Links.{links_of}
use Rattle.sd_boxq.proofs.Memory.Steps.{D, Nr}
use Rattle.sd_boxq.proofs.Memory.Seen.{nodes_Seen, pointer_in, pointer_out}
use Rattle.sd_boxq.proofs.Memory.Cursors.{cursor_val, cursor_made}
use Rattle.sd_boxq.proofs.Memory.Chained.{IsChained-had, leads_on}
use Rattle.sd_boxq.specs.contracts.nodes.cursor.Cursor as C-type
use Rattle.sd_boxq.specs.declared.nodes.cursor.Cursor.{Cursor}
use Rattle.std_alloc.proofs.RcSteps.{Ptr-Good}
use Rattle.std_alloc.proofs.ResultValues.{and_tt}
use types.Part.{agg}
use lib.ListN.{length, length-map}
use denote.RawPtr.{ptr_val}
use Rattle.sd_boxq.specs.contracts.nodes.Nodes.cursor.Key.{name as #self}
use Rattle.sd_boxq.proofs.nodes.Nodes.cursor.Statement as stated
use Rattle.sd_boxq.proofs.nodes.Nodes.cursor.Code as code

module _ (E : Bx) where
  abbrev function : Fn
  function = inst_fn (args E) code.function

  abbrev ended : Ended
  ended = record { signature = record { lifetimes = 1; outlives = []; params = RefOf (0 ∷ []) tt (plain (λ _. Nr E)) (λ _. tt) ∷ []; result = plain (λ κs. C-type.the_row (named_lft 1 0 tt κs) (R E)) }; kept = (yes, tt) }

  abbrev stayed : Stays ended.signature.params ended.kept
  stayed = (stay_dropped (RefOf (0 ∷ []) tt (plain (λ _. Nr E)) (λ _. tt)) yes, tt)

  abbrev spec : {M : Type 1} {𝓤 : Ura M} (𝓛 : Logic 𝓤) → Clauses 𝓤 ended
  spec {𝓤 = 𝓤} 𝓛 κs a = record { ghost = Unit {0}; requires = λ _. emp 𝓤; ensures = λ _ r _. fact 𝓤 ((r.index ≡ 0) × (r.rest ≡ a.0.now.items) × (r.links ≡ links_of a.0.now.blocks) × (length r.rest ≡ length r.links)) }

module _ (E : Bx) {M : Type 1} {𝓤 : Ura M} (𝓛 : Logic 𝓤) (C : Calls 𝓤 𝓛.H) (Λ : Loops 𝓤 𝓛.H) (κ : Lft) (q : Share) (b o : ℕ) (d : D E) (ps : List Val) where
  open 𝓛 use {H}

  abbrev self : Bor (D E)
  self = record { ref_ptr = (b, o); now = d }

  abbrev bound : (walk_of 𝓛 (ended E) (stayed E) (spec E 𝓛)).Ghost
  bound = (((κ, tt), (q, tt), tt, (self, tt), (ps, tt)), tt)

  abbrev Post : Val → SProp 𝓤
  Post = (walk_of 𝓛 (ended E) (stayed E) (spec E 𝓛)).post bound

  abbrev Had : List (Item 𝓤)
  Had = ‵ (hidden_shr (Nr E) κ d b o) ∷ ‵ (flft κ q) ∷ []

  walk : ent 𝓤 (⋆ 𝓛 Had) (WpFn 𝓤 H C Λ (function E) (vptr b o ∷ []) Post)
  walk =
      let ls = links_of d.blocks in
      let cur : Cursor (X E) = record { at = d.head; mark = record {}; index = 0; rest = d.items; links = ls; ok = d.ok.1 ∙ sym (length-map d.blocks (λ n. n.0)); leads = ∣ leads_on d.head d.tail ls (IsChained-had _ _ _ d.chained) ∣₁ } in
      qed 𝓛 Had ∵ enter ! C Λ (function E) (vptr b o ∷ []) _ $ alloc_all ! (λ l. pass_all ! refl ((tt, tt), tt) $ nodes_Seen ! E d b o $
      move ! (0 ∷ 4 ∷ []) $ pointer_in ! tt d.head b (o + 0) (λ s.
      sets ! (of_opd ! (load ! (through ! refl (fld ! refl (stop !))) (look ! 0 refl))) refl (Ptr-Good d.head) $ sets ! (of_opd ! (get ! refl)) refl (Ptr-Good d.head) $ sets ! (agg ! (no_more !)) refl (tt, tt) $
      sets ! (agg ! (and_then ! (get ! refl) (and_then ! (get ! refl) (no_more !)))) refl (and_tt (has_ty ty_ptr (ptr_val d.head)) (Ptr-Good d.head).0, ((Ptr-Good d.head).1, (tt, tt))) $ pointer_out ! tt d.head b (o + 0) $
      returns ! (look_at ! 0 refl) $ free_all ! refl $ keep ! (0 ∷ 3 ∷ []) $
      suffices ! _ (ends_at 𝓛 (ended E) (stayed E) (spec E 𝓛) bound (cursor_val d.head) cur (tt, tt) (tt, tt)) $ says ! (refl, refl, refl, cur.ok) $
      move ! (1 ∷ 0 ∷ []) $ cursor_made (named_lft 1 0 tt (κ, tt)) (R E) ! cur $ nothing ! $ nothing ! $ fjoin ! $ join ! $ nothing ! $ move ! (2 ∷ 0 ∷ []) $ join ! $ join ! $ done !))

  entry : ent 𝓤 (on_entry 𝓛 (ended E).signature (κ, tt) (q, tt) (self, tt) (ps, tt)) (WpFn 𝓤 H C Λ (function E) (ps ++ []) Post)
  entry =
      qed 𝓛 ((‵ (flft κ q) ⊛ ‵ ftrue) ∷ ‵ (owns (ShrRef (named 0) κ (Nr E) ∷ []) (self, tt) (ps, tt)) ∷ []) ∵ split ! $ move ! (2 ∷ []) $ fsplit ! $ fsplit ! $ feq_l ! (λ e. keep ! (0 ∷ 2 ∷ []) $
      by ! (subst (λ (ws : List Val). ent 𝓤 (⋆ 𝓛 Had) (WpFn 𝓤 H C Λ (function E) (ws ++ []) Post)) (sym e) walk))

meets : (E : Bx) {M : Type 1} {𝓤 : Ura M} (𝓛 : Logic 𝓤) (𝓣 : Tables 𝓤 𝓛.H)
    → Meets 𝓛 (ended E).signature (WpFn 𝓤 𝓛.H 𝓣.C 𝓣.Λ (function E)) (closing 𝓛 (ended E) (spec E 𝓛))
meets E {𝓤 = 𝓤} 𝓛 𝓣 =
    walk_Meets 𝓛 (ended E) (stayed E) (Goes-dropped 𝓛 1 (RefOf (0 ∷ []) tt (plain (λ _. Nr E)) (λ _. tt)) yes (λ κs x f. refl), tt) (spec E 𝓛) (WpFn 𝓤 𝓛.H 𝓣.C 𝓣.Λ (function E)) (WpFn-mono 𝓤 𝓛.H 𝓛.laws 𝓣 (function E))
    (λ z. via 𝓤 _ (fst∗ 𝓤 _ (emp 𝓤)) (entry E 𝓛 𝓣.C 𝓣.Λ z.0.0.0 z.0.1.0 z.0.3.0.ref_ptr.0 z.0.3.0.ref_ptr.1 z.0.3.0.now z.0.4.0))

pub cursor_spec : {M : Type 1} → stated.statement M
unfolding tables_of
cursor_spec 𝓤 𝓛 𝓜 𝓡 wired Y Z L LZ g d dd met md y =
    let E : Bx = record { row = Y; laws = L; al = record { row = Z; laws = LZ; g = g; d = d; drops = dd } } in
    let A = 𝓛.A in
    let 𝓣 : Tables 𝓤 𝓛.H = tables_of 𝓤 𝓛.H 𝓜 (tables 𝓤 𝓛.H 𝓜 𝓡 𝓡.env) in
    spared 𝓛 (ended E).signature (𝓡.run (𝓡.env (#self (args E)))) (run_framed 𝓤 𝓛.H 𝓜 𝓡 (𝓡.env (#self (args E)))) 2 (Y.lives, (Z.lives, tt)) (closing 𝓛 (ended E) (spec E 𝓛))
    (entered 𝓤 𝓛.H (triple_of 𝓛 (ended E).signature (closing 𝓛 (ended E) (spec E 𝓛))) 𝓣.C 𝓣.Λ (#self (args E)) (function E) (code.unfolded 𝓤 𝓛.H 𝓜 𝓡 wired (Y, (Z, tt)) d dd) (meets E 𝓛 𝓣))
    ((y.0.0, y.0.1, tt, y.0.3, y.0.4), y.1)
