-- `exchange` moves the element of the node at the spot out, and another one in. Assumes `Logic`.
use mathlib.Core.Path.{◌≡◌, refl, sym, ap, subst, ◌∙◌}
use Prim.Native.Nat.{ℕ, ◌+◌, ◌<◌}
use Rattle.std.specs.Prelude.{slice_get, slice_set, Some}
use native.Mathlib.Omega.{arith}
use mathlib.Core.List.{List, [], ◌∷◌, ◌++◌}
use lib.ListN.{length, length-append}
use seplogic.Ra.Ura.{Ura}
use mir.Syntax.{Fn, named, ty_ptr}
use mir.MapTy.{inst_fn}
use mir.Val.{Val, vptr, has_ty}
use base.Logic.{SProp, ent, sep}
use base.Fml.{Lft, GName, Share, ftrue, fat, flft, fobs, fbor}
use base.Fraction.{full_share}
use prog.Wp.{Env, Calls, Loops, WpFn, Tables}
use types.Logic.{Logic, sem}
use contract.Monad.{fact}
use contract.Running.{tables, tables_of}
use sound.WpLaws.{WpFn-mono}
use types.Kit.{Item, ⋆, ‵, ◌⊛◌, some, given, pick, learn, at_ret, ◌$◌, ◌∵◌, !, qed, by, move, keep, use1, use2, use3, split, split3, join, rewrite, fsplit, fsplit3, fjoin, fjoin3, feq_i, feq_l, suffices, frame, done}
use types.Part.{whole, sub}
use types.Run.{look, store, stop, fld, load, of_opd, addr, assigns, first, blocks, exec, returns, enter}
use types.ByLocal.{alloc_all, pass_all, free_all, look_at, get, get_in, through, sets, sets_last, is, env}
use types.SemTy.{Body as Borrowed}
use denote.Exit.{yes, no}
use denote.RattleType.{RattleType, owns}
use denote.Memory.{part_at, mem}
use denote.RawPtr.{Ptr, block_ptr, ptr_val}
use denote.Ref.{MutBor, MutRef}
use denote.Builtin.{RefMutOf}
use denote.Signature.{plain}
use denote.Steps.{nothing}
use denote.Triple.Carry.{spared}
use denote.Triple.Clauses.{Clauses, Ended, closing}
use denote.Triple.Entry.{on_entry}
use denote.Triple.Spec.{Meets, triple_of}
use denote.Triple.Table.{entered, run_framed}
use denote.Triple.Walked.{says, needs, Stays, stay_dropped, stay_ref, walk_of, ends_at, Goes-dropped, Goes-ref, walk_Meets}
use Rattle.std_alloc.proofs.VecSteps.Shapes.{after}
use Rattle.std_alloc.proofs.RcSteps.{Good, Ptr-Good}
use Rattle.std_alloc.proofs.BoxSteps.Form.{Bx, args, X, τ, own, R}
use Rattle.std_alloc.proofs.BoxSteps.Steps.{el_tells, el_in, el_out}
use Rattle.std_alloc.proofs.ResultValues.{and_tt}
use Rattle.sd_boxq.specs.contracts.nodes.cursor.Spot as Spot-type
use Rattle.sd_boxq.specs.declared.nodes.cursor.Spot.{Spot}
use Rattle.sd_boxq.specs.Links.{Link, links_of, IsChained}
use Rattle.sd_boxq.specs.Boxes.{LiesAt}
use Rattle.sd_boxq.proofs.Memory.Amid.{amid, any_still, links_amid}
use Rattle.sd_boxq.proofs.Memory.Cursors.{spot_val, spot_had}
use Rattle.sd_boxq.proofs.Memory.Chained.{IsChained-same}
use Rattle.sd_boxq.proofs.Memory.Seams.{lies_within, first_seam, set_seam}
use Rattle.sd_boxq.proofs.Memory.Steps.{eo, Hd, D, Nr, Held, One, middle_out, middle_in, nodes_opens, nodes_closes, one_opens, one_closes}
use Rattle.sd_boxq.specs.contracts.nodes.Nodes.exchange.Key.{name as #self}
use Rattle.sd_boxq.proofs.nodes.Nodes.exchange.Statement as stated
use Rattle.sd_boxq.proofs.nodes.Nodes.exchange.Code as code

module _ (E : Bx) where
  abbrev function : Fn
  function = inst_fn (args E) code.function

  abbrev Sp : RattleType
  Sp = Spot-type.the_row (R E)

  abbrev ended : Ended
  ended = record { signature = record { lifetimes = 1; outlives = []; params = RefMutOf (0 ∷ []) tt (plain (λ _. Nr E)) (λ _. tt) ∷ plain (λ _. Sp) ∷ plain (λ _. R E) ∷ []; result = plain (λ _. R E) }; kept = (yes, (no, (no, tt))) }

  abbrev stayed : Stays ended.signature.params ended.kept
  stayed = (stay_ref (0 ∷ []) tt (plain (λ _. Nr E)), (stay_dropped (plain (λ _. Sp)) no, (stay_dropped (plain (λ _. R E)) no, tt)))

  abbrev Asks : D E → Spot (X E) → Type 0
  Asks d s = LiesAt (links_of d.blocks) s.index s.at

  abbrev Gives : D E → Spot (X E) → X E → X E → D E → Type 0
  Gives d s y x e = (slice_get d.items s.index ≡ Some x) × (e.items ≡ slice_set d.items s.index y)

  abbrev spec : {M : Type 1} {𝓤 : Ura M} (𝓛 : Logic 𝓤) → Clauses 𝓤 ended
  spec {𝓤 = 𝓤} 𝓛 κs a = record { ghost = Unit {0}; requires = λ _. fact 𝓤 (Asks a.0.now a.1.0); ensures = λ _ r w. fact 𝓤 (Gives a.0.now a.1.0 a.1.1.0 r w.0.now) }

module _ (E : Bx) {M : Type 1} {𝓤 : Ura M} (𝓛 : Logic 𝓤) (C : Calls 𝓤 𝓛.H) (Λ : Loops 𝓤 𝓛.H) (κ : Lft) (q : Share) (rb ro : ℕ) (γ : GName) (d : D E) (s : Spot (X E)) (y : X E) (ps ss us : List Val) where
  open 𝓛 use {H, A}

  abbrev self : MutBor (D E)
  self = record { ref_ptr = (rb, ro); ghost_name = γ; now = d }

  abbrev bound : (walk_of 𝓛 (ended E) (stayed E) (spec E 𝓛)).Ghost
  bound = (((κ, tt), (q, tt), tt, (self, (s, (y, tt))), (ps, (ss, (us, tt)))), tt)

  abbrev Post : Val → SProp 𝓤
  Post = (walk_of 𝓛 (ended E) (stayed E) (spec E 𝓛)).post bound

  exits : ps ≡ vptr rb ro ∷ [] → (r : X E) (v : Val) (new : D E) → Gives E d s y r new
      → ent 𝓤 (sep 𝓤 (A.obs γ ((Nr E).coded.code new)) (sep 𝓤 (A.bor κ (Borrowed (mem (Nr E)) rb ro γ)) (sep 𝓤 (A.lft κ q) (sem 𝓛 (own E r (v ∷ [])))))) (Post v)
  exits passed r v new e =
      qed 𝓛 (‵ (fobs γ ((Nr E).coded.code new)) ∷ ‵ (fbor κ (Borrowed (mem (Nr E)) rb ro γ)) ∷ ‵ (flft κ q) ∷ ‵ (own E r (v ∷ [])) ∷ []) ∵
      suffices ! _ (ends_at 𝓛 (ended E) (stayed E) (spec E 𝓛) bound v r (new, (tt, (tt, tt))) (tt, (tt, (tt, tt)))) $ says ! e $
      nothing ! $ move ! (3 ∷ 0 ∷ []) $ join ! $ frame ! $ feq_i ! (List Val) ps (vptr rb ro ∷ []) passed $ fjoin3 ! $ nothing ! $ nothing ! $ fjoin ! $ nothing ! $ fjoin ! $ move ! (1 ∷ 0 ∷ []) $ fjoin ! $ done !

  abbrev Had : Val → List (Item 𝓤)
  Had w = ‵ (fobs γ ((Nr E).coded.code d)) ∷ ‵ (fbor κ (Borrowed (mem (Nr E)) rb ro γ)) ∷ ‵ (flft κ q) ∷ ‵ (own E y (w ∷ [])) ∷ []

  walk : ps ≡ vptr rb ro ∷ [] → Asks E d s → s.index < length d.items → (w : Val) → Good (τ E) w → ent 𝓤 (⋆ 𝓛 (Had w)) (WpFn 𝓤 H C Λ (function E) (vptr rb ro ∷ spot_val s.at ∷ w ∷ []) Post)
  walk passed asked within w good_w =
      let pointed = Ptr-Good s.at in
      let am = amid E d s asked within in
      let m = am.node in
      let x = am.item in
      let alike = am.alike in
      let rest_alike = am.rest_alike in
      qed 𝓛 (Had w) ∵ enter ! C Λ (function E) (vptr rb ro ∷ spot_val s.at ∷ w ∷ []) _ $
      alloc_all ! (λ l. pass_all ! refl ((tt, tt), ((and_tt (has_ty ty_ptr (ptr_val s.at)) pointed.0, (pointed.1, tt)), (good_w, tt))) $
      let En : Env 𝓤 H = env (function E).locals l in
      nodes_opens E ! tt d rb ro $
      rewrite ! 0 (λ (ks : List (Link × Hd E)). ‵ (Held E ks d.items)) am.blocks_are refl $ rewrite ! 0 (λ (zs : List (X E)). ‵ (Held E (am.front ++ m ∷ am.behind) zs)) am.items_are refl $
      use1 𝓛 (‵ (One E m x) ⊛ ‵ (Held E am.front am.items) ⊛ ‵ (Held E am.behind am.later)) (middle_out E 𝓛 am.front am.behind m am.items am.later x alike) $ split3 ! $
      one_opens E ! m.0 m.1 x (λ b o e.
      use1 𝓛 (some (λ (v : Val). given (Good (τ E) v) (‵ (fat full_share (τ E) b (o + eo E) v) ⊛ ‵ (own E x (v ∷ []))))) (el_out E 𝓛 x b (o + eo E)) $ pick ! (λ v. learn ! (λ good. split ! $
      let a : Ptr = block_ptr b o in
      let was : Link × Hd E = ((a, m.0.1, m.0.2), m.1) in
      let new : D E = record {
        head = d.head;
        tail = d.tail;
        any = d.any;
        items = am.items ++ y ∷ am.later;
        blocks = am.front ++ was ∷ am.behind;
        ok = (any_still E d s am y am.later, omega (arith, length-append am.items (y ∷ am.later), length-append am.front (was ∷ am.behind)));
        chained = ∣ subst (IsChained d.head d.tail) (links_amid am.front was am.behind) (IsChained-same d.head d.tail a (links_of am.front) m.0 (links_of am.behind) e am.linked) ∣₁;
      } in
      -- [the element's cell; the element; `next`; `more`; what frees the node; those before; those behind; the words; the open borrow; obs; auth; the new element]
      sets ! (is ! (of_opd ! (get_in ! (fld ! refl (stop !)) (sub ! 0 refl (whole !)))) (ap ptr_val (am.there ∙ e))) refl (tt, tt) $ sets ! (of_opd ! (get ! refl)) refl (tt, tt) $
      first ! $ blocks ! $
      sets ! (addr ! (through ! refl (fld ! refl (stop !)))) refl (tt, tt) $ sets ! (of_opd ! (load ! (through ! refl (stop !)) (look ! 0 refl))) refl good $
      sets ! (of_opd ! (get ! refl)) refl good_w $
      assigns ! (of_opd ! (get ! refl)) (through ! refl (stop !)) (store ! 0 refl good_w) $
      sets_last ! (of_opd ! (get ! refl)) refl good $ exec ! C Λ En (after 3 (function E).body) (at_ret En Post) $ sets ! (of_opd ! (get ! refl)) refl good $
      move ! (0 ∷ 11 ∷ []) $ use2 𝓛 (‵ (part_at (R E) full_share y b (o + eo E))) (el_in E 𝓛 y b (o + eo E) w) $
      move ! (0 ∷ 2 ∷ 3 ∷ 4 ∷ []) $ one_closes E ! b o m.0.1 m.0.2 m.1 y $ move ! (0 ∷ 2 ∷ 3 ∷ []) $
      use3 𝓛 (‵ (Held E new.blocks new.items)) (middle_in E 𝓛 am.front am.behind was am.items am.later y alike) $
      move ! (0 ∷ 2 ∷ 3 ∷ 4 ∷ 5 ∷ []) $ nodes_closes E ! tt new rb ro $
      returns ! (look_at ! 0 refl) $ free_all ! refl $ keep ! (0 ∷ 1 ∷ 2 ∷ 3 ∷ []) $ by ! (exits passed x v new (
        ap (λ zs. slice_get zs s.index) am.items_are ∙ first_seam am.items x am.later s.index am.counted,
        set_seam am.items x y am.later s.index am.counted ∙ ap (λ zs. slice_set zs s.index y) (sym am.items_are),
      ))))))

  entry : Asks E d s → ent 𝓤 (on_entry 𝓛 (ended E).signature (κ, tt) (q, tt) (self, (s, (y, tt))) (ps, (ss, (us, tt)))) (WpFn 𝓤 H C Λ (function E) (ps ++ (ss ++ (us ++ []))) Post)
  entry asked =
      qed 𝓛 ((‵ (flft κ q) ⊛ ‵ ftrue) ∷ ‵ (owns (MutRef (named 0) κ (Nr E) ∷ Sp E ∷ R E ∷ []) (self, (s, (y, tt))) (ps, (ss, (us, tt)))) ∷ []) ∵ split ! $ move ! (2 ∷ []) $ fsplit3 ! $ fsplit3 ! $ feq_l ! (λ e.
      move ! (2 ∷ []) $ spot_had (R E) ! s ss (λ es. move ! (2 ∷ []) $ fsplit ! $ el_tells E ! y us (λ w g good. keep ! (2 ∷ 3 ∷ 4 ∷ 0 ∷ []) $
      by ! (subst (λ (ws : List Val × List Val × List Val). ent 𝓤 (⋆ 𝓛 (Had w)) (WpFn 𝓤 H C Λ (function E) (ws.0 ++ (ws.1 ++ (ws.2 ++ []))) Post)) (λ j. (sym e j, sym es j, sym g j)) (walk e asked (lies_within d.blocks d.items s.index s.at d.ok.1 asked) w good)))))

meets : (E : Bx) {M : Type 1} {𝓤 : Ura M} (𝓛 : Logic 𝓤) (𝓣 : Tables 𝓤 𝓛.H)
    → Meets 𝓛 (ended E).signature (WpFn 𝓤 𝓛.H 𝓣.C 𝓣.Λ (function E)) (closing 𝓛 (ended E) (spec E 𝓛))
meets E {𝓤 = 𝓤} 𝓛 𝓣 =
    walk_Meets 𝓛 (ended E) (stayed E) (Goes-ref 𝓛 1 0 tt (plain (λ _. Nr E)), (Goes-dropped 𝓛 1 (plain (λ _. Sp E)) no (λ κs x f. refl), (Goes-dropped 𝓛 1 (plain (λ _. R E)) no (λ κs x f. refl), tt))) (spec E 𝓛) (WpFn 𝓤 𝓛.H 𝓣.C 𝓣.Λ (function E)) (WpFn-mono 𝓤 𝓛.H 𝓛.laws 𝓣 (function E))
    (λ z. let a = z.0.3.0 in let s = z.0.3.1.0 in let y = z.0.3.1.1.0 in let vss = z.0.4 in needs 𝓤 (Asks E a.now s) _ (entry E 𝓛 𝓣.C 𝓣.Λ z.0.0.0 z.0.1.0 a.ref_ptr.0 a.ref_ptr.1 a.ghost_name a.now s y vss.0 vss.1.0 vss.1.1.0))

pub exchange_spec : {M : Type 1} → stated.statement M
unfolding tables_of
exchange_spec 𝓤 𝓛 𝓜 𝓡 wired Y Z L LZ g d dd met md y =
    let E : Bx = record { row = Y; laws = L; al = record { row = Z; laws = LZ; g = g; d = d; drops = dd } } in
    let A = 𝓛.A in
    let 𝓣 : Tables 𝓤 𝓛.H = tables_of 𝓤 𝓛.H 𝓜 (tables 𝓤 𝓛.H 𝓜 𝓡 𝓡.env) in
    spared 𝓛 (ended E).signature (𝓡.run (𝓡.env (#self (args E)))) (run_framed 𝓤 𝓛.H 𝓜 𝓡 (𝓡.env (#self (args E)))) 2 (Y.lives, (Z.lives, tt)) (closing 𝓛 (ended E) (spec E 𝓛))
    (entered 𝓤 𝓛.H (triple_of 𝓛 (ended E).signature (closing 𝓛 (ended E) (spec E 𝓛))) 𝓣.C 𝓣.Λ (#self (args E)) (function E) (code.unfolded 𝓤 𝓛.H 𝓜 𝓡 wired (Y, (Z, tt)) d dd) (meets E 𝓛 𝓣))
    ((y.0.0, y.0.1, tt, y.0.3, y.0.4), y.1)
