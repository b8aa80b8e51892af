-- A cursor by value is what it lends, and a spot owns nothing. Assumes `Logic`.
use mathlib.Core.Path.{◌≡◌, refl, subst}
use mathlib.Core.List.{List, [], ◌∷◌, ◌++◌}
use seplogic.Ra.Ura.{Ura}
use mir.Val.{Val, vstruct, vcons, vnil, of_list}
use base.Logic.{ent, emp}
use types.Logic.{Logic, sem}
use types.Kit.{Item, Goal, Seq, Step, step, ‵, ◌$◌, drop, use0, fsplit, fjoin, fpick, feq_l}
use denote.RattleType.{RattleType}
use denote.RawPtr.{Ptr, ptr_val}
use denote.Ref.{NamedLft}
use denote.Shadow.{makes_shadow}
use denote.Struct.Struct.{Struct}
use denote.Struct.Owning.{shape}
use Rattle.sd_boxq.specs.contracts.nodes.cursor.Cursor as C
use Rattle.sd_boxq.specs.contracts.nodes.cursor.Spot as S
use Rattle.sd_boxq.specs.declared.nodes.cursor.Cursor.{Cursor}
use Rattle.sd_boxq.specs.declared.nodes.cursor.Spot.{Spot}
use denote.Steps.{nothing}
use Rattle.sd_boxq.specs.Owned.{nodes_lent}

abbrev pub cursor_val : Ptr → Val
cursor_val p = vstruct (vcons (ptr_val p) (vcons (vstruct vnil) vnil))

module _ (a : NamedLft) (R : RattleType) where
  fields_made : {M : Type 1} {𝓤 : Ura M} (𝓛 : Logic 𝓤) (p : Ptr) → ent 𝓤 (emp 𝓤) (sem 𝓛 ((Struct (shape (C.the_type a R))).own_val (p, (tt, tt)) (cursor_val p ∷ [])))
  fields_made 𝓛 p =
      makes_shadow 𝓛 ((Struct (shape (C.the_type a R))).own_val (p, (tt, tt)) (cursor_val p ∷ [])) (λ vss. (tt, (tt, ((λ uss. (tt, tt)), tt))))
      ((ptr_val p ∷ [], (vstruct vnil ∷ [], tt)), (refl, (refl, ((tt, (refl, tt)), tt))))

  module _ {M : Type 1} {𝓤 : Ura M} {𝓛 : Logic 𝓤} {K : Type 0} {Γ : List (Item 𝓤)} {G : Goal 𝓤 𝓛.H} where
    pub cursor_made : K → (c : Cursor R.Denot) → Step K 𝓛 (‵ ((C.the_row a R).own_val c (cursor_val c.at ∷ [])) ∷ Γ) G (‵ (nodes_lent R c.links c.rest a.lft) ∷ Γ) G
    cursor_made t c = step (λ s. use0 𝓛 (‵ ((Struct (shape (C.the_type a R))).own_val (c.at, (tt, tt)) (cursor_val c.at ∷ []))) (fields_made 𝓛 c.at) $ fjoin t $ s)

    pub cursor_had : K → (c : Cursor R.Denot) (vs : List Val) → (vs ≡ cursor_val c.at ∷ [] → Seq K 𝓛 (‵ (nodes_lent R c.links c.rest a.lft) ∷ Γ) G) → Seq K 𝓛 (‵ ((C.the_row a R).own_val c vs) ∷ Γ) G
    cursor_had t c vs k =
        fsplit t $ fpick t (λ vss. fsplit t $ feq_l t (λ ev. fsplit t $ feq_l t (λ ep. fsplit t $ fpick t (λ uss. fsplit t $ feq_l t (λ em. drop t $ drop t $
        k (subst (λ (p : List Val). vs ≡ vstruct (of_list (p ++ (vstruct vnil ∷ []))) ∷ []) ep (subst (λ (m : List Val). vs ≡ vstruct (of_list (vss.0 ++ (m ++ []))) ∷ []) em ev)))))))

abbrev pub spot_val : Ptr → Val
spot_val p = vstruct (vcons (ptr_val p) vnil)

module _ (R : RattleType) where
  spot_fields : {M : Type 1} {𝓤 : Ura M} (𝓛 : Logic 𝓤) (p : Ptr) → ent 𝓤 (emp 𝓤) (sem 𝓛 ((Struct (shape (S.the_type R))).own_val (p, tt) (spot_val p ∷ [])))
  spot_fields 𝓛 p =
      makes_shadow 𝓛 ((Struct (shape (S.the_type R))).own_val (p, tt) (spot_val p ∷ [])) (λ vss. (tt, (tt, tt))) ((ptr_val p ∷ [], tt), (refl, (refl, tt)))

  module _ {M : Type 1} {𝓤 : Ura M} {𝓛 : Logic 𝓤} {K : Type 0} {Γ : List (Item 𝓤)} {G : Goal 𝓤 𝓛.H} where
    pub spot_made : K → (s : Spot R.Denot) → Step K 𝓛 (‵ ((S.the_row R).own_val s (spot_val s.at ∷ [])) ∷ Γ) G Γ G
    spot_made t s = step (λ k. nothing t $ use0 𝓛 (‵ ((Struct (shape (S.the_type R))).own_val (s.at, tt) (spot_val s.at ∷ []))) (spot_fields 𝓛 s.at) $ fjoin t $ k)

    pub spot_had : K → (s : Spot R.Denot) (vs : List Val) → (vs ≡ spot_val s.at ∷ [] → Seq K 𝓛 Γ G) → Seq K 𝓛 (‵ ((S.the_row R).own_val s vs) ∷ Γ) G
    spot_had t s vs k =
        fsplit t $ fpick t (λ vss. fsplit t $ feq_l t (λ ev. fsplit t $ feq_l t (λ ep. drop t $ drop t $
        k (subst (λ (p : List Val). vs ≡ vstruct (of_list (p ++ [])) ∷ []) ep ev))))
