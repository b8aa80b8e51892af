-- The block is given back as it is. Assumes `Logic`.
use mathlib.Core.Path.{◌≡◌, refl, sym, subst}
use mathlib.Core.List.{List, [], ◌∷◌, ◌++◌}
use Prim.Native.Nat.{ℕ}
use seplogic.Ra.Ura.{Ura}
use mir.Syntax.{Fn}
use mir.MapTy.{inst_fn}
use mir.Val.{Val, vcons, vnil, vstruct, of_list}
use base.Logic.{SProp, ent, emp, via, fst∗}
use base.Fml.{ftrue, froom}
use prog.Wp.{Calls, Loops, WpFn, Tables}
use types.Logic.{Logic}
use contract.Monad.{fact}
use contract.Running.{tables, tables_of}
use sound.WpLaws.{WpFn-mono}
use types.Kit.{Item, ⋆, ‵, ◌$◌, ◌∵◌, !, qed, by, move, keep, join, fsplit, fjoin, fpick, feq_l, suffices, done}
use types.Part.{whole, sub}
use types.Run.{stop, fld, of_opd, returns, enter}
use types.ByLocal.{alloc_all, pass_all, free_all, look_at, get, get_in, sets}
use denote.Exit.{no}
use denote.RattleType.{RattleType, owns}
use denote.RawPtr.{block_ptr}
use denote.Signature.{plain}
use denote.Steps.{nothing}
use denote.Triple.Carry.{spared}
use denote.Triple.Clauses.{Clauses, Ended, closing}
use denote.Triple.Entry.{on_entry}
use denote.Triple.Spec.{Meets, triple_of}
use denote.Triple.Table.{entered, run_framed}
use denote.Triple.Walked.{says, Stays, stay_dropped, walk_of, ends_at, walk_Meets}
use Rattle.std.proofs.alloc.Calls.{token, Fits, Goes-blank}
use Rattle.std_alloc.proofs.BoxSteps.Form.{Bx, args, R, P}
use Rattle.std_alloc.proofs.OfVacant.{Vacant, vacant_val, vacant_typed, Vacant-had, Vacant-made}
use Rattle.std_alloc.proofs.ResultValues.{and_tt}
use Rattle.sd_boxq.specs.contracts.node.Room as Holder
use Rattle.sd_boxq.specs.contracts.nodes.Cell as Block
use Rattle.sd_boxq.proofs.Memory.Steps.{block_ty}
use Rattle.sd_boxq.specs.contracts.node.Room.into_block.Key.{name as #self}
use Rattle.sd_boxq.proofs.node.Room.into_block.Statement as stated
use Rattle.sd_boxq.proofs.node.Room.into_block.Code as code

module _ (E : Bx) where
  abbrev function : Fn
  function = inst_fn (args E) code.function

  abbrev Node : RattleType
  Node = Block.the_row (R E) (P E)

  abbrev Open : RattleType
  Open = Vacant E.al Node

  abbrev Held : RattleType
  Held = Holder.the_row (R E) (P E) E.al.g

  abbrev ended : Ended
  ended = record { signature = record { lifetimes = 0; outlives = []; params = plain (λ _. Held) ∷ []; result = plain (λ _. Open) }; kept = (no, tt) }

  abbrev stayed : Stays ended.signature.params ended.kept
  stayed = (stay_dropped (plain (λ _. Held)) no, tt)

  abbrev spec : {M : Type 1} {𝓤 : Ura M} (𝓛 : Logic 𝓤) → Clauses 𝓤 ended
  spec {𝓤 = 𝓤} 𝓛 κs a = record { ghost = Unit {0}; requires = λ _. emp 𝓤; ensures = λ _ r _. fact 𝓤 (r ≡ a.0.block) }

module _ (E : Bx) {M : Type 1} {𝓤 : Ura M} (𝓛 : Logic 𝓤) (C : Calls 𝓤 𝓛.H) (Λ : Loops 𝓤 𝓛.H) (d : (Held E).Denot) (ps : List Val) where
  open 𝓛 use {H}

  abbrev bound : (walk_of 𝓛 (ended E) (stayed E) (spec E 𝓛)).Ghost
  bound = ((tt, tt, tt, (d, tt), (ps, tt)), tt)

  abbrev Post : Val → SProp 𝓤
  Post = (walk_of 𝓛 (ended E) (stayed E) (spec E 𝓛)).post bound

  abbrev Had : ℕ → ℕ → Val → List (Item 𝓤)
  Had b o hv = ‵ (froom (block_ty E) b o) ∷ ‵ (token E.al d.block.alloc (block_ty E) (block_ptr b o)) ∷ ‵ (E.al.row.own_val d.block.alloc (hv ∷ [])) ∷ []

  walk : (b o : ℕ) (hv : Val) → d.block.ptr ≡ block_ptr b o → Fits E.al hv → ent 𝓤 (⋆ 𝓛 (Had b o hv)) (WpFn 𝓤 H C Λ (function E) (vstruct (vcons (vacant_val hv b o) vnil) ∷ []) Post)
  walk b o hv at fa =
      let v = vacant_val hv b o in
      let good = vacant_typed E.al (Node E) hv b o fa in
      let made : (Open E).Denot = record { ptr = block_ptr b o; alloc = d.block.alloc } in
      qed 𝓛 (Had b o hv) ∵ enter ! C Λ (function E) (vstruct (vcons v vnil) ∷ []) _ $ alloc_all ! (λ l. pass_all ! refl ((and_tt _ good.0, (good.1, tt)), tt) $
      sets ! (of_opd ! (get_in ! (fld ! refl (stop !)) (sub ! 0 refl (whole !)))) refl good $ sets ! (of_opd ! (get ! refl)) refl good $
      returns ! (look_at ! 0 refl) $ free_all ! refl $ keep ! (0 ∷ 1 ∷ 2 ∷ []) $
      suffices ! _ (ends_at 𝓛 (ended E) (stayed E) (spec E 𝓛) bound v made (((tt, (tt, tt)), tt), tt) (tt, tt)) $ says ! (λ i. record { ptr = sym at i; alloc = d.block.alloc }) $
      Vacant-made E.al (Node E) ! d.block.alloc b o $ nothing ! $ nothing ! $ fjoin ! $ join ! $ nothing ! $ join ! $ done !)

  entry : ent 𝓤 (on_entry 𝓛 (ended E).signature tt tt (d, tt) (ps, tt)) (WpFn 𝓤 H C Λ (function E) (ps ++ []) Post)
  entry =
      qed 𝓛 (‵ ftrue ∷ ‵ (owns (Held E ∷ []) (d, tt) (ps, tt)) ∷ []) ∵ move ! (1 ∷ []) $ fsplit ! $ fsplit ! $ fpick ! (λ vss. fsplit ! $ feq_l ! (λ ev. fsplit ! $
      Vacant-had E.al (Node E) ! d.block vss.0 (λ b o hv at f fa. keep ! (0 ∷ 1 ∷ 2 ∷ []) $
      by ! (subst (λ (ws : List Val). ent 𝓤 (⋆ 𝓛 (Had b o hv)) (WpFn 𝓤 H C Λ (function E) (ws ++ []) Post))
      (sym (subst (λ (us : List Val). ps ≡ vstruct (of_list (us ++ [])) ∷ []) f ev)) (walk b o hv at fa)))))

meets : (E : Bx) {M : Type 1} {𝓤 : Ura M} (𝓛 : Logic 𝓤) (𝓣 : Tables 𝓤 𝓛.H)
    → Meets 𝓛 (ended E).signature (WpFn 𝓤 𝓛.H 𝓣.C 𝓣.Λ (function E)) (closing 𝓛 (ended E) (spec E 𝓛))
meets E {𝓤 = 𝓤} 𝓛 𝓣 =
    walk_Meets 𝓛 (ended E) (stayed E) (Goes-blank 𝓛 0 (plain (λ _. Held E)) no (λ κs x f. tt), tt) (spec E 𝓛) (WpFn 𝓤 𝓛.H 𝓣.C 𝓣.Λ (function E)) (WpFn-mono 𝓤 𝓛.H 𝓛.laws 𝓣 (function E))
    (λ z. via 𝓤 _ (fst∗ 𝓤 _ (emp 𝓤)) (entry E 𝓛 𝓣.C 𝓣.Λ z.0.3.0 z.0.4.0))

pub into_block_spec : {M : Type 1} → stated.statement M
unfolding tables_of
into_block_spec 𝓤 𝓛 𝓜 𝓡 wired Y Z L LZ g d dd met md y =
    let E : Bx = record { row = Y; laws = L; al = record { row = Z; laws = LZ; g = g; d = d; drops = dd } } in
    let A = 𝓛.A in
    let 𝓣 : Tables 𝓤 𝓛.H = tables_of 𝓤 𝓛.H 𝓜 (tables 𝓤 𝓛.H 𝓜 𝓡 𝓡.env) in
    spared 𝓛 (ended E).signature (𝓡.run (𝓡.env (#self (args E)))) (run_framed 𝓤 𝓛.H 𝓜 𝓡 (𝓡.env (#self (args E)))) 2 (Y.lives, (Z.lives, tt)) (closing 𝓛 (ended E) (spec E 𝓛))
    (entered 𝓤 𝓛.H (triple_of 𝓛 (ended E).signature (closing 𝓛 (ended E) (spec E 𝓛))) 𝓣.C 𝓣.Λ (#self (args E)) (function E) (code.unfolded 𝓤 𝓛.H 𝓜 𝓡 wired (Y, (Z, tt)) d dd) (meets E 𝓛 𝓣))
    ((y.0.0, y.0.1, tt, y.0.3, y.0.4), y.1)
