-- `step` shows the first box and its item, and goes on with the boxes behind it. Assumes `Logic`.
use mathlib.Core.Path.{◌≡◌, refl, sym, ap, subst, ◌∙◌}
use Prim.Native.Nat.{ℕ, suc, ◌+◌}
use native.Mathlib.Omega.{arith}
use mathlib.Core.List.{List, [], ◌∷◌, ◌++◌}
use lib.ListN.{length}
use seplogic.Ra.Ura.{Ura}
use mir.Syntax.{Args, Fn, a_type, ty_ptr}
use mir.MapTy.{inst_fn}
use mir.Val.{Val, vbool, vcons, vnil, vptr, vstruct, has_ty}
use base.Logic.{SProp, ent, never, via, fst∗}
use base.Fml.{Lft, Share, fsep, ftrue, flft}
use prog.Wp.{Env, Calls, Loops, WpFn, Tables}
use types.Logic.{Logic, sem}
use contract.Monad.{fact}
use contract.Running.{tables, tables_of}
use sound.WpLaws.{WpFn-mono}
use types.Kit.{Item, ⋆, ‵, ◌⊛◌, at_ret, ◌$◌, ◌∵◌, !, qed, by, move, keep, drop, split, join, rewrite, fsplit, fjoin, fpack, feq_i, suffices, done}
use types.Part.{whole, sub, agg}
use types.Run.{look, stop, fld, load, of_opd, addr, and_then, no_more, first, blocks, exec, returns, enter}
use types.ByLocal.{alloc_all, pass_all, free_all, look_at, get, get_in, through, sets, sets_last, is, env}
use Rattle.std.specs.Prelude.{true}
use denote.Exit.{no}
use denote.RattleType.{RattleType, Valss, owns}
use denote.Memory.{shared_of}
use denote.Opens.{hide}
use denote.Param.{param, layouts}
use denote.RawPtr.{RawPtr, block_ptr, in_a_block, null_ptr, ptr_val, ◌+ₚ◌}
use denote.Builtin.{RefOf, bool}
use denote.Signature.{plain, named_lft, type_at}
use denote.Steps.{nothing}
use denote.Struct.Declared.{shape}
use denote.Struct.Lending.{lent_at}
use denote.Struct.Struct.{within}
use denote.Struct.Tuple.{Tuple, tuple_type}
use denote.Triple.Carry.{spared}
use denote.Triple.Clauses.{Clauses, Ended, closing}
use denote.Triple.Entry.{on_entry}
use denote.Triple.Spec.{Meets, triple_of}
use denote.Triple.Table.{entered, run_framed}
use denote.Triple.Walked.{says, needs, Stays, stay_dropped, walk_of, ends_at, Goes-dropped, walk_Meets}
use Rattle.std_alloc.proofs.VecSteps.Shapes.{after}
use Rattle.std_alloc.proofs.RcSteps.{Ptr-Good}
use Rattle.std_alloc.proofs.ResultValues.{and_tt}
use Rattle.sd_boxq.specs.Links.{Link, has_some, LeadsOn}
use Rattle.sd_boxq.specs.Owned.{item_offset, nodes_lent}
use Rattle.sd_boxq.specs.Boxes.{boxes_from}
use Rattle.sd_boxq.specs.declared.nodes.cursor.Cursor.{Cursor}
use Rattle.sd_boxq.specs.declared.nodes.cursor.Spot.{Spot}
use Rattle.sd_boxq.specs.contracts.nodes.cursor.Cursor as C-type
use Rattle.sd_boxq.specs.contracts.nodes.cursor.Spot as S-type
use Rattle.sd_boxq.proofs.Memory.Chained.{LeadsOn-had, some_alike, some_length}
use Rattle.sd_boxq.proofs.Memory.Cursors.{cursor_val, cursor_made, cursor_had, spot_val, spot_made}
use Rattle.sd_boxq.proofs.Memory.Seen.{pointer_in, pointer_out, bool_in, bool_out}
use Rattle.sd_boxq.proofs.Memory.Steps.{uncons}
use Rattle.sd_boxq.specs.contracts.nodes.cursor.Cursor.step.Key.{name as #self}
use Rattle.sd_boxq.proofs.nodes.cursor.Cursor.step.Statement as stated
use Rattle.sd_boxq.proofs.nodes.cursor.Cursor.step.Code as code

module _ (Y : RattleType) where
  abbrev args : Args
  args = layouts (a_type ∷ []) (Y, tt)

  abbrev R : RattleType
  R = param 0 Y

  abbrev function : Fn
  function = inst_fn args code.function

  abbrev ended : Ended
  ended = record {
    signature = record {
      lifetimes = 1;
      outlives = [];
      params = plain (λ κs. C-type.the_row (named_lft 1 0 tt κs) R) ∷ [];
      result = plain (λ κs. Tuple (S-type.the_row R ∷ type_at {n = 1} (RefOf (0 ∷ []) tt (plain (λ _. R)) (λ _. tt)) κs ∷ bool ∷ C-type.the_row (named_lft 1 0 tt κs) R ∷ []));
    };
    kept = (no, tt);
  }

  abbrev stayed : Stays ended.signature.params ended.kept
  stayed = (stay_dropped (plain (λ κs. C-type.the_row (named_lft 1 0 tt κs) R)) no, tt)

  abbrev Asks : Cursor Y.Denot → Type 0
  Asks c = has_some c.rest ≡ true

  abbrev spec : {M : Type 1} (𝓤 : Ura M) → Clauses 𝓤 ended
  spec 𝓤 κs a = record { ghost = Unit {0}; requires = λ _. fact 𝓤 (Asks a.0); ensures = λ _ r _. fact 𝓤 ((boxes_from a.0.index a.0.links a.0.rest ≡ (r.0.at, r.0.index, r.1.now) ∷ boxes_from r.3.index r.3.links r.3.rest) × (a.0.rest ≡ r.1.now ∷ r.3.rest) × (r.2 ≡ has_some r.3.rest)) }

module _ (Y : RattleType) {M : Type 1} {𝓤 : Ura M} (𝓛 : Logic 𝓤) (C : Calls 𝓤 𝓛.H) (Λ : Loops 𝓤 𝓛.H) (κ : Lft) (q : Share) (c : Cursor Y.Denot) (ps : List Val) where
  open 𝓛 use {H}

  abbrev Cr : RattleType
  Cr = C-type.the_row (named_lft 1 0 tt (κ, tt)) (R Y)

  abbrev Sp : RattleType
  Sp = S-type.the_row (R Y)

  abbrev It : RattleType
  It = type_at {n = 1} (RefOf (0 ∷ []) tt (plain (λ _. R Y)) (λ _. tt)) (κ, tt)

  abbrev bound : (walk_of 𝓛 (ended Y) (stayed Y) (spec Y 𝓤)).Ghost
  bound = (((κ, tt), (q, tt), tt, (c, tt), (ps, tt)), tt)

  abbrev Post : Val → SProp 𝓤
  Post = (walk_of 𝓛 (ended Y) (stayed Y) (spec Y 𝓤)).post bound

  abbrev Had : List (Item 𝓤)
  Had = ‵ (nodes_lent (R Y) c.links c.rest κ) ∷ ‵ (flft κ q) ∷ []

  walk : Asks Y c → ent 𝓤 (⋆ 𝓛 Had) (WpFn 𝓤 H C Λ (function Y) (cursor_val c.at ∷ []) Post)
  walk asked =
      let count = c.ok in
      let within' = some_length c.rest asked in
      let ns = uncons c.links (omega arith) in
      let xs = uncons c.rest within' in
      let m = ns.0 in
      let x = xs.0 in
      let k : ℕ = item_offset (R Y) in
      let long = ap length ns.2 in
      let many = ap length xs.2 in
      let alike : length xs.1 ≡ length ns.1 = omega arith in
      let lead : LeadsOn c.at (m ∷ ns.1) = subst (LeadsOn c.at) ns.2 (LeadsOn-had c.at c.links c.leads) in
      let on : Cursor Y.Denot = record { at = m.1; mark = c.mark; index = suc c.index; rest = xs.1; links = ns.1; ok = alike; leads = ∣ lead.2 ∣₁ } in
      let pointed = Ptr-Good m.1 in
      qed 𝓛 Had ∵ enter ! C Λ (function Y) (cursor_val c.at ∷ []) _ $
      alloc_all ! (λ l. pass_all ! refl ((and_tt (has_ty ty_ptr (ptr_val c.at)) (Ptr-Good c.at).0, ((Ptr-Good c.at).1, (tt, tt))), tt) $
      let En : Env 𝓤 H = env (function Y).locals l in
      rewrite ! 0 (λ (ls : List Link). ‵ (nodes_lent (R Y) ls c.rest κ)) ns.2 refl $ rewrite ! 0 (λ (ys : List Y.Denot). ‵ (nodes_lent (R Y) (m ∷ ns.1) ys κ)) xs.2 refl $
      fsplit ! $ fsplit ! $ move ! (2 ∷ []) $ fsplit ! $ move ! (3 ∷ 1 ∷ []) $ fjoin ! $ move ! (2 ∷ 1 ∷ []) $ fjoin ! $
      in_a_block ! m.0 (λ p. fsep (lent_at (R Y) (p +ₚ k) x κ) (fsep (lent_at RawPtr (p +ₚ 0) m.1 κ) (lent_at bool (p +ₚ 8) m.2 κ)))
      (via 𝓤 _ (fst∗ 𝓤 _ (sem 𝓛 (fsep (lent_at RawPtr (null_ptr +ₚ 0) m.1 κ) (lent_at bool (null_ptr +ₚ 8) m.2 κ)))) (fst∗ 𝓤 (never 𝓤) (sem 𝓛 (shared_of (R Y) x 0 0 κ)))) (λ b o e.
      let r : Val = vptr b (o + k) in
      let here : Spot Y.Denot = record { at = block_ptr b o; index = c.index } in
      let out : Val = vstruct (vcons (spot_val (block_ptr b o)) (vcons r (vcons (vbool m.2) (vcons (cursor_val m.1) vnil)))) in
      let shown : boxes_from c.index c.links c.rest ≡ (block_ptr b o, c.index, x) ∷ boxes_from (suc c.index) ns.1 xs.1 = (λ i. boxes_from c.index (ns.2 i) (xs.2 i)) ∙ (λ i. (e i, c.index, x) ∷ boxes_from (suc c.index) ns.1 xs.1) in
      -- [the item; the links; the others; the token]
      fsplit ! $ fsplit ! $ drop ! $ hide ! $ move ! (1 ∷ []) $ fsplit ! $ fsplit ! $ drop ! $ hide ! $ move ! (1 ∷ []) $ fsplit ! $ drop ! $ hide ! $
      -- [`more`; `next`; the item; the others; the token]
      move ! (1 ∷ 4 ∷ []) $
      sets ! (is ! (of_opd ! (get_in ! (fld ! refl (stop !)) (sub ! 0 refl (whole !)))) (ap ptr_val (lead.0 ∙ e))) refl (tt, tt) $
      sets ! (of_opd ! (get_in ! (fld ! refl (stop !)) (sub ! 1 refl (whole !)))) refl (tt, tt) $ first ! $ blocks ! $
      pointer_in ! tt m.1 b (o + 0) (λ s. sets ! (of_opd ! (load ! (through ! refl (fld ! refl (stop !))) (look ! 0 refl))) refl pointed $ pointer_out ! tt m.1 b (o + 0) $
      move ! (1 ∷ 0 ∷ []) $ bool_in ! tt m.2 b (o + 8) (λ s'. sets ! (of_opd ! (load ! (through ! refl (fld ! refl (stop !))) (look ! 0 refl))) refl (tt, tt) $ bool_out ! tt m.2 b (o + 8) $
      sets ! (agg ! (and_then ! (get ! refl) (no_more !))) refl (tt, (tt, tt)) $
      sets ! (addr ! (through ! refl (fld ! refl (stop !)))) refl (tt, tt) $
      sets ! (agg ! (and_then ! (get ! refl) (and_then ! (get ! refl) (no_more !)))) refl (and_tt (has_ty ty_ptr (ptr_val m.1)) pointed.0, (pointed.1, (tt, tt))) $
      sets_last ! (agg ! (and_then ! (get ! refl) (and_then ! (get ! refl) (and_then ! (get ! refl) (and_then ! (get ! refl) (no_more !)))))) refl (and_tt _ (and_tt (has_ty ty_ptr (ptr_val m.1)) pointed.0), ((tt, tt), (tt, (tt, ((pointed.1, (tt, tt)), tt))))) $
      exec ! C Λ En (after 3 (function Y).body) (at_ret En Post) $
      sets ! (of_opd ! (get ! refl)) refl (and_tt _ (and_tt (has_ty ty_ptr (ptr_val m.1)) pointed.0), ((tt, tt), (tt, (tt, ((pointed.1, (tt, tt)), tt))))) $
      returns ! (look_at ! 0 refl) $ free_all ! refl $ keep ! (0 ∷ 1 ∷ 2 ∷ []) $
      suffices ! _ (ends_at 𝓛 (ended Y) (stayed Y) (spec Y 𝓤) bound out (here, record { ref_ptr = (b, o + k); now = x }, m.2, on) (tt, tt) (tt, tt)) $ says ! (shown, xs.2, lead.1 ∙ sym (some_alike xs.1 ns.1 alike)) $
      move ! (1 ∷ []) $ feq_i ! (List Val) (r ∷ []) (r ∷ []) refl $ fjoin ! $ move ! (2 ∷ []) $ cursor_made (named_lft 1 0 tt (κ, tt)) (R Y) ! on $
      feq_i ! (List Val) (vbool m.2 ∷ []) (vbool m.2 ∷ []) refl $ nothing ! $ move ! (2 ∷ 0 ∷ []) $ fjoin ! $ move ! (1 ∷ 0 ∷ []) $ fjoin ! $ move ! (1 ∷ 0 ∷ []) $ fjoin ! $ spot_made (R Y) ! here $ fjoin ! $
      feq_i ! (List Val) (out ∷ []) (out ∷ []) refl $ fjoin ! $
      fpack ! (Valss (Sp ∷ It ∷ bool ∷ Cr ∷ [])) (within (shape (tuple_type (Sp ∷ It ∷ bool ∷ Cr ∷ []))) (here, (record { ref_ptr = (b, o + k); now = x }, (m.2, (on, tt)))) (out ∷ [])) (spot_val (block_ptr b o) ∷ [], (r ∷ [], (vbool m.2 ∷ [], (cursor_val m.1 ∷ [], tt)))) $
      nothing ! $ nothing ! $ fjoin ! $ join ! $ nothing ! $ move ! (2 ∷ 0 ∷ []) $ join ! $ join ! $ done !))))

  entry : Asks Y c → ent 𝓤 (on_entry 𝓛 (ended Y).signature (κ, tt) (q, tt) (c, tt) (ps, tt)) (WpFn 𝓤 H C Λ (function Y) (ps ++ []) Post)
  entry asked =
      qed 𝓛 ((‵ (flft κ q) ⊛ ‵ ftrue) ∷ ‵ (owns (Cr ∷ []) (c, tt) (ps, tt)) ∷ []) ∵ split ! $ move ! (2 ∷ []) $ fsplit ! $ cursor_had (named_lft 1 0 tt (κ, tt)) (R Y) ! c ps (λ e. keep ! (0 ∷ 2 ∷ []) $
      by ! (subst (λ (ws : List Val). ent 𝓤 (⋆ 𝓛 Had) (WpFn 𝓤 H C Λ (function Y) (ws ++ []) Post)) (sym e) (walk asked)))

meets : (Y : RattleType) {M : Type 1} {𝓤 : Ura M} (𝓛 : Logic 𝓤) (𝓣 : Tables 𝓤 𝓛.H)
    → Meets 𝓛 (ended Y).signature (WpFn 𝓤 𝓛.H 𝓣.C 𝓣.Λ (function Y)) (closing 𝓛 (ended Y) (spec Y 𝓤))
meets Y {𝓤 = 𝓤} 𝓛 𝓣 =
    walk_Meets 𝓛 (ended Y) (stayed Y) (Goes-dropped 𝓛 1 (plain (λ κs. C-type.the_row (named_lft 1 0 tt κs) (R Y))) no (λ κs x f. refl), tt) (spec Y 𝓤) (WpFn 𝓤 𝓛.H 𝓣.C 𝓣.Λ (function Y)) (WpFn-mono 𝓤 𝓛.H 𝓛.laws 𝓣 (function Y))
    (λ z. needs 𝓤 (Asks Y z.0.3.0) _ (entry Y 𝓛 𝓣.C 𝓣.Λ z.0.0.0 z.0.1.0 z.0.3.0 z.0.4.0))

pub step_spec : {M : Type 1} → stated.statement M
unfolding tables_of
step_spec 𝓤 𝓛 𝓜 𝓡 wired Y L y =
    let 𝓣 : Tables 𝓤 𝓛.H = tables_of 𝓤 𝓛.H 𝓜 (tables 𝓤 𝓛.H 𝓜 𝓡 𝓡.env) in
    let k = #self (args Y) in
    spared 𝓛 (ended Y).signature (𝓡.run (𝓡.env k)) (run_framed 𝓤 𝓛.H 𝓜 𝓡 (𝓡.env k)) 1 (Y.lives, tt) (closing 𝓛 (ended Y) (spec Y 𝓤))
    (entered 𝓤 𝓛.H (triple_of 𝓛 (ended Y).signature (closing 𝓛 (ended Y) (spec Y 𝓤))) 𝓣.C 𝓣.Λ k (function Y) (code.unfolded 𝓤 𝓛.H 𝓜 𝓡 wired (Y, tt)) (meets Y 𝓛 𝓣))
    ((y.0.0, y.0.1, tt, y.0.3, y.0.4), y.1)
