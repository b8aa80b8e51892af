-- `unlink_behind` moves the element and the handle out of the node behind the spot. Assumes `Logic`.
use mathlib.Core.Path.{◌≡◌, refl, sym, ap, subst, ◌∙◌}
use Prim.Native.Nat.{ℕ, suc, ◌<◌}
use Rattle.std.specs.Prelude.{true, slice_get, Some}
use native.Mathlib.Omega.{arith}
use mathlib.Core.List.{List, [], ◌∷◌, ◌++◌}
use lib.ListN.{length, length-append}
use seplogic.Ra.Ura.{Ura}
use mir.Syntax.{Fn, named, ty_ptr}
use mir.MapTy.{inst_fn}
use mir.Val.{Val, vptr, has_ty}
use base.Logic.{SProp, ent, sep}
use base.Fml.{Lft, GName, Share, ftrue, flft, fobs, fbor}
use prog.Wp.{Env, Calls, Loops, WpFn, Tables}
use types.Logic.{Logic, sem}
use contract.Monad.{fact}
use contract.Running.{tables, tables_of}
use sound.WpLaws.{WpFn-mono}
use types.Kit.{Item, ⋆, ‵, ◌⊛◌, at_ret, ◌$◌, ◌∵◌, !, qed, by, move, keep, use1, use2, use3, split, split3, join, rewrite, fsplit3, fjoin, fjoin3, feq_i, feq_l, suffices, frame, done}
use types.Part.{whole, sub, agg}
use types.Run.{look, store, stop, fld, load, of_opd, addr, and_then, no_more, assigns, first, blocks, exec, returns, enter}
use types.ByLocal.{alloc_all, pass_all, free_all, look_at, get, get_in, through, sets, sets_last, is, env}
use types.SemTy.{Body as Borrowed}
use denote.Exit.{yes, no}
use denote.RattleType.{RattleType, owns}
use denote.Memory.{mem}
use denote.RawPtr.{Ptr, block_ptr, ptr_val}
use denote.Ref.{MutBor, MutRef}
use denote.Builtin.{RefMutOf}
use denote.Signature.{plain}
use denote.Steps.{nothing}
use denote.Triple.Carry.{spared}
use denote.Triple.Clauses.{Clauses, Ended, closing}
use denote.Triple.Entry.{on_entry}
use denote.Triple.Spec.{Meets, triple_of}
use denote.Triple.Table.{entered, run_framed}
use denote.Triple.Walked.{says, needs, Stays, stay_dropped, stay_ref, walk_of, ends_at, Goes-dropped, Goes-ref, walk_Meets}
use Rattle.std_alloc.proofs.VecSteps.Shapes.{after}
use Rattle.std_alloc.proofs.RcSteps.{Ptr-Good}
use Rattle.std_alloc.proofs.BoxSteps.Form.{Bx, args, X, τ, R, P}
use Rattle.std_alloc.proofs.OfVacant.{Vacant, vacant_val, vacant_ty, vacant_typed, Vacant-made}
use Rattle.std_alloc.proofs.Pairs.{pair_val, pair_Typed, pair_of}
use denote.Struct.Tuple.{Tuple}
use Rattle.sd_boxq.specs.contracts.nodes.Cell as Block
use Rattle.std.specs.List.{remove}
use Rattle.std_alloc.proofs.ResultValues.{and_tt}
use Rattle.sd_boxq.specs.contracts.nodes.cursor.Spot as Spot-type
use Rattle.sd_boxq.specs.declared.nodes.cursor.Spot.{Spot}
use Rattle.sd_boxq.specs.Links.{Link, links_of, has_some, IsChained}
use Rattle.sd_boxq.specs.Boxes.{LiesAt}
use Rattle.sd_boxq.proofs.Memory.Amid.{amid, any_still, links_amid}
use Rattle.sd_boxq.proofs.Memory.Cursors.{spot_val, spot_had}
use Rattle.sd_boxq.proofs.Memory.Chained.{IsChained-unlink, IsChained-next, some_links, some_more}
use Rattle.sd_boxq.proofs.Memory.Seams.{second_seam, remove_seam}
use Rattle.sd_boxq.proofs.Memory.Steps.{uncons, Hd, D, Nr, Held, One, cons_out, middle_out, middle_in, nodes_opens, nodes_closes, one_opens, one_closes, node_unmade, block_back}
use Rattle.sd_boxq.specs.contracts.nodes.Nodes.unlink_behind.Key.{name as #self}
use Rattle.sd_boxq.proofs.nodes.Nodes.unlink_behind.Statement as stated
use Rattle.sd_boxq.proofs.nodes.Nodes.unlink_behind.Code as code

module _ (E : Bx) where
  abbrev function : Fn
  function = inst_fn (args E) code.function

  abbrev Node : RattleType
  Node = Block.the_row (R E) (P E)

  abbrev Room : RattleType
  Room = Vacant E.al Node

  abbrev Out : RattleType
  Out = Tuple (R E ∷ Room ∷ [])

  abbrev Sp : RattleType
  Sp = Spot-type.the_row (R E)

  abbrev ended : Ended
  ended = record { signature = record { lifetimes = 1; outlives = []; params = RefMutOf (0 ∷ []) tt (plain (λ _. Nr E)) (λ _. tt) ∷ plain (λ _. Sp) ∷ []; result = plain (λ _. Out) }; kept = (yes, (no, tt)) }

  abbrev stayed : Stays ended.signature.params ended.kept
  stayed = (stay_ref (0 ∷ []) tt (plain (λ _. Nr E)), (stay_dropped (plain (λ _. Sp)) no, tt))

  abbrev Asks : D E → Spot (X E) → Type 0
  Asks d s = (LiesAt (links_of d.blocks) s.index s.at) × (suc (suc s.index) < length d.items)

  abbrev Gives : D E → Spot (X E) → X E → D E → Type 0
  Gives d s x e = (slice_get d.items (suc s.index) ≡ Some x) × (e.items ≡ remove d.items (suc s.index))

  abbrev spec : {M : Type 1} {𝓤 : Ura M} (𝓛 : Logic 𝓤) → Clauses 𝓤 ended
  spec {𝓤 = 𝓤} 𝓛 κs a = record { ghost = Unit {0}; requires = λ _. fact 𝓤 (Asks a.0.now a.1.0); ensures = λ _ r w. fact 𝓤 (Gives a.0.now a.1.0 r.0 w.0.now) }

module _ (E : Bx) {M : Type 1} {𝓤 : Ura M} (𝓛 : Logic 𝓤) (C : Calls 𝓤 𝓛.H) (Λ : Loops 𝓤 𝓛.H) (κ : Lft) (q : Share) (rb ro : ℕ) (γ : GName) (d : D E) (s : Spot (X E)) (ps ss : List Val) where
  open 𝓛 use {H, A}

  abbrev self : MutBor (D E)
  self = record { ref_ptr = (rb, ro); ghost_name = γ; now = d }

  abbrev bound : (walk_of 𝓛 (ended E) (stayed E) (spec E 𝓛)).Ghost
  bound = (((κ, tt), (q, tt), tt, (self, (s, tt)), (ps, (ss, tt))), tt)

  abbrev Post : Val → SProp 𝓤
  Post = (walk_of 𝓛 (ended E) (stayed E) (spec E 𝓛)).post bound

  exits : ps ≡ vptr rb ro ∷ [] → (r : (Out E).Denot) (v : Val) (new : D E) → Gives E d s r.0 new
      → ent 𝓤 (sep 𝓤 (A.obs γ ((Nr E).coded.code new)) (sep 𝓤 (A.bor κ (Borrowed (mem (Nr E)) rb ro γ)) (sep 𝓤 (A.lft κ q) (sem 𝓛 ((Out E).own_val r (v ∷ [])))))) (Post v)
  exits passed r v new e =
      qed 𝓛 (‵ (fobs γ ((Nr E).coded.code new)) ∷ ‵ (fbor κ (Borrowed (mem (Nr E)) rb ro γ)) ∷ ‵ (flft κ q) ∷ ‵ ((Out E).own_val r (v ∷ [])) ∷ []) ∵
      suffices ! _ (ends_at 𝓛 (ended E) (stayed E) (spec E 𝓛) bound v r (new, (tt, tt)) (tt, (tt, tt))) $ says ! e $
      nothing ! $ move ! (3 ∷ 0 ∷ []) $ join ! $ frame ! $ feq_i ! (List Val) ps (vptr rb ro ∷ []) passed $ fjoin3 ! $ nothing ! $ nothing ! $ fjoin ! $ move ! (1 ∷ 0 ∷ []) $ fjoin ! $ done !

  abbrev Had : List (Item 𝓤)
  Had = ‵ (fobs γ ((Nr E).coded.code d)) ∷ ‵ (fbor κ (Borrowed (mem (Nr E)) rb ro γ)) ∷ ‵ (flft κ q) ∷ []

  walk : ps ≡ vptr rb ro ∷ [] → Asks E d s → ent 𝓤 (⋆ 𝓛 Had) (WpFn 𝓤 H C Λ (function E) (vptr rb ro ∷ spot_val s.at ∷ []) Post)
  walk passed asked =
      let pointed = Ptr-Good s.at in
      let within = asked.1 in
      let am = amid E d s asked.0 (omega arith) in
      let many = ap length am.items_are ∙ length-append am.items (am.item ∷ am.later) in
      let counted = am.counted in
      let rest_alike = am.rest_alike in
      let us = uncons am.behind (omega arith) in
      let ys = uncons am.later (omega arith) in
      let m = am.node in
      let x = am.item in
      let k = us.0 in
      let y = ys.0 in
      let left = ap length us.2 in
      let least = ap length ys.2 in
      let alike = am.alike in
      let behind_alike : length ys.1 ≡ length us.1 = omega arith in
      let followed : has_some (links_of us.1) ≡ true = some_links us.1 ∙ some_more us.1 (omega arith) in
      let linked : IsChained d.head d.tail (links_of am.front ++ m.0 ∷ k.0 ∷ links_of us.1) = subst (λ ns. IsChained d.head d.tail (links_of am.front ++ m.0 ∷ links_of ns)) us.2 am.linked in
      let items_are = am.items_are ∙ ap (λ zs. am.items ++ x ∷ zs) ys.2 in
      let next = IsChained-next d.head d.tail (links_of am.front) m.0 k.0 (links_of us.1) linked in
      qed 𝓛 Had ∵ enter ! C Λ (function E) (vptr rb ro ∷ spot_val s.at ∷ []) _ $
      alloc_all ! (λ l. pass_all ! refl ((tt, tt), ((and_tt (has_ty ty_ptr (ptr_val s.at)) pointed.0, (pointed.1, tt)), tt)) $
      let En : Env 𝓤 H = env (function E).locals l in
      nodes_opens E ! tt d rb ro $
      rewrite ! 0 (λ (ks : List (Link × Hd E)). ‵ (Held E ks d.items)) am.blocks_are refl $ rewrite ! 0 (λ (zs : List (X E)). ‵ (Held E (am.front ++ m ∷ am.behind) zs)) am.items_are refl $
      use1 𝓛 (‵ (One E m x) ⊛ ‵ (Held E am.front am.items) ⊛ ‵ (Held E am.behind am.later)) (middle_out E 𝓛 am.front am.behind m am.items am.later x alike) $ split3 ! $
      one_opens E ! m.0 m.1 x (λ hb ho e. move ! (5 ∷ []) $
      rewrite ! 0 (λ (ks : List (Link × Hd E)). ‵ (Held E ks am.later)) us.2 refl $ rewrite ! 0 (λ (zs : List (X E)). ‵ (Held E (k ∷ us.1) zs)) ys.2 refl $
      use1 𝓛 (‵ (One E k y) ⊛ ‵ (Held E us.1 ys.1)) (cons_out E 𝓛 k us.1 y ys.1) $ split ! $
      one_opens E ! k.0 k.1 y (λ b o f. node_unmade E ! b o k.0.1 k.0.2 k.1 y (λ v hv good fa.
      let a : Ptr = block_ptr hb ho in
      let room = vacant_typed E.al (Node E) hv b o fa in
      let both = pair_Typed (τ E) (vacant_ty E.al (Node E)) v (vacant_val hv b o) good room in
      let made : (Room E).Denot = record { ptr = block_ptr b o; alloc = k.1 } in
      let was : Link × Hd E = ((a, k.0.1, m.0.2), m.1) in
      let new : D E = record {
        head = d.head;
        tail = d.tail;
        any = d.any;
        items = am.items ++ x ∷ ys.1;
        blocks = am.front ++ was ∷ us.1;
        ok = (any_still E d s am x ys.1, omega (arith, length-append am.items (x ∷ ys.1), length-append am.front (was ∷ us.1)));
        chained = ∣ subst (IsChained d.head d.tail) (links_amid am.front was us.1) (IsChained-unlink d.head d.tail a (links_of am.front) m.0 k.0 (links_of us.1) e followed linked) ∣₁;
      } in
      -- [the node, in eight; those behind; the node at the spot, in four; those before; the words; the open borrow; obs; auth]
      sets ! (is ! (of_opd ! (get_in ! (fld ! refl (stop !)) (sub ! 0 refl (whole !)))) (ap ptr_val (am.there ∙ e))) refl (tt, tt) $ sets ! (of_opd ! (get ! refl)) refl (tt, tt) $
      first ! $ blocks ! $
      sets ! (is ! (of_opd ! (load ! (through ! refl (fld ! refl (stop !))) (look ! 10 refl))) (ap ptr_val (next ∙ f))) refl (tt, tt) $ sets ! (of_opd ! (get ! refl)) refl (tt, tt) $
      sets ! (of_opd ! (load ! (through ! refl (fld ! refl (stop !))) (look ! 0 refl))) refl (Ptr-Good k.0.1) $
      assigns ! (of_opd ! (get ! refl)) (through ! refl (fld ! refl (stop !))) (store ! 10 refl (Ptr-Good k.0.1)) $
      sets ! (addr ! (through ! refl (fld ! refl (stop !)))) refl (tt, tt) $ sets ! (of_opd ! (load ! (through ! refl (stop !)) (look ! 2 refl))) refl good $
      sets ! (addr ! (through ! refl (fld ! refl (stop !)))) refl (tt, tt) $ sets ! (of_opd ! (load ! (through ! refl (stop !)) (look ! 3 refl))) refl fa $
      sets ! (of_opd ! (get ! refl)) refl good $ sets ! (of_opd ! (get ! refl)) refl fa $ sets ! (agg ! (and_then ! (get ! refl) (and_then ! (get ! refl) (no_more !)))) refl room $
      sets_last ! (agg ! (and_then ! (get ! refl) (and_then ! (get ! refl) (no_more !)))) refl both $ exec ! C Λ En (after 3 (function E).body) (at_ret En Post) $ sets ! (of_opd ! (get ! refl)) refl both $
      block_back E ! b o k.0.1 k.0.2 v hv $ Vacant-made E.al (Node E) ! k.1 b o $ move ! (1 ∷ 0 ∷ []) $
      use2 𝓛 (‵ ((Out E).own_val (y, made) (pair_val v (vacant_val hv b o) ∷ []))) (pair_of 𝓛 (R E) (Room E) y made v (vacant_val hv b o)) $
      move ! (2 ∷ 3 ∷ 4 ∷ 5 ∷ []) $ one_closes E ! hb ho k.0.1 m.0.2 m.1 x $ move ! (0 ∷ 3 ∷ 2 ∷ []) $
      use3 𝓛 (‵ (Held E new.blocks new.items)) (middle_in E 𝓛 am.front us.1 was am.items ys.1 x alike) $
      move ! (0 ∷ 2 ∷ 3 ∷ 4 ∷ 5 ∷ []) $ nodes_closes E ! tt new rb ro $
      returns ! (look_at ! 0 refl) $ free_all ! refl $ keep ! (0 ∷ 1 ∷ 2 ∷ 3 ∷ []) $ by ! (exits passed (y, made) (pair_val v (vacant_val hv b o)) new (
        ap (λ zs. slice_get zs (suc s.index)) items_are ∙ second_seam am.items x y ys.1 s.index am.counted,
        remove_seam am.items x y ys.1 s.index am.counted ∙ ap (λ zs. remove zs (suc s.index)) (sym items_are),
      ))))))

  entry : Asks E d s → ent 𝓤 (on_entry 𝓛 (ended E).signature (κ, tt) (q, tt) (self, (s, tt)) (ps, (ss, tt))) (WpFn 𝓤 H C Λ (function E) (ps ++ (ss ++ [])) Post)
  entry asked =
      qed 𝓛 ((‵ (flft κ q) ⊛ ‵ ftrue) ∷ ‵ (owns (MutRef (named 0) κ (Nr E) ∷ Sp E ∷ []) (self, (s, tt)) (ps, (ss, tt))) ∷ []) ∵ split ! $ move ! (2 ∷ []) $ fsplit3 ! $ fsplit3 ! $ feq_l ! (λ e.
      move ! (2 ∷ []) $ spot_had (R E) ! s ss (λ es. keep ! (0 ∷ 1 ∷ 3 ∷ []) $
      by ! (subst (λ (ws : List Val × List Val). ent 𝓤 (⋆ 𝓛 Had) (WpFn 𝓤 H C Λ (function E) (ws.0 ++ (ws.1 ++ [])) Post)) (λ j. (sym e j, sym es j)) (walk e asked))))

meets : (E : Bx) {M : Type 1} {𝓤 : Ura M} (𝓛 : Logic 𝓤) (𝓣 : Tables 𝓤 𝓛.H)
    → Meets 𝓛 (ended E).signature (WpFn 𝓤 𝓛.H 𝓣.C 𝓣.Λ (function E)) (closing 𝓛 (ended E) (spec E 𝓛))
meets E {𝓤 = 𝓤} 𝓛 𝓣 =
    walk_Meets 𝓛 (ended E) (stayed E) (Goes-ref 𝓛 1 0 tt (plain (λ _. Nr E)), (Goes-dropped 𝓛 1 (plain (λ _. Sp E)) no (λ κs x f. refl), tt)) (spec E 𝓛) (WpFn 𝓤 𝓛.H 𝓣.C 𝓣.Λ (function E)) (WpFn-mono 𝓤 𝓛.H 𝓛.laws 𝓣 (function E))
    (λ z. let a = z.0.3.0 in let s = z.0.3.1.0 in needs 𝓤 (Asks E a.now s) _ (entry E 𝓛 𝓣.C 𝓣.Λ z.0.0.0 z.0.1.0 a.ref_ptr.0 a.ref_ptr.1 a.ghost_name a.now s z.0.4.0 z.0.4.1.0))

pub unlink_behind_spec : {M : Type 1} → stated.statement M
unfolding tables_of
unlink_behind_spec 𝓤 𝓛 𝓜 𝓡 wired Y Z L LZ g d dd met md y =
    let E : Bx = record { row = Y; laws = L; al = record { row = Z; laws = LZ; g = g; d = d; drops = dd } } in
    let A = 𝓛.A in
    let 𝓣 : Tables 𝓤 𝓛.H = tables_of 𝓤 𝓛.H 𝓜 (tables 𝓤 𝓛.H 𝓜 𝓡 𝓡.env) in
    spared 𝓛 (ended E).signature (𝓡.run (𝓡.env (#self (args E)))) (run_framed 𝓤 𝓛.H 𝓜 𝓡 (𝓡.env (#self (args E)))) 2 (Y.lives, (Z.lives, tt)) (closing 𝓛 (ended E) (spec E 𝓛))
    (entered 𝓤 𝓛.H (triple_of 𝓛 (ended E).signature (closing 𝓛 (ended E) (spec E 𝓛))) 𝓣.C 𝓣.Λ (#self (args E)) (function E) (code.unfolded 𝓤 𝓛.H 𝓜 𝓡 wired (Y, (Z, tt)) d dd) (meets E 𝓛 𝓣))
    ((y.0.0, y.0.1, tt, y.0.3, y.0.4), y.1)
