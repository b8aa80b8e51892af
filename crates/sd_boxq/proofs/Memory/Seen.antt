-- What a `&` to the nodes shows. Assumes `Logic`.
--     nodes_Seen                  [`head`; `tail`; `any`; what is lent of the nodes]
--     pointer_in, pointer_out, bool_in, bool_out      a pointer or a flag is opened, and shut
use mathlib.Core.Path.{refl}
use Prim.Native.Nat.{ℕ, ◌+◌}
use mathlib.Core.List.{List, [], ◌∷◌}
use seplogic.Ra.Ura.{Ura}
use mir.Syntax.{ty_bool, ty_ptr}
use mir.Val.{Val, vbool}
use base.Fml.{Lft, Share, fat, flft}
use types.Logic.{Logic}
use types.Kit.{Item, Goal, Seq, Step, Soaks, step, ‵, ◌$◌, move, drop, rewrite, fsplit, fsplit3, feq_l, feq_i}
use Rattle.std.specs.Prelude.{Bool}
use denote.Builtin.{bool}
use Rattle.std_alloc.proofs.BoxSteps.Form.{Bx, R}
use Rattle.sd_boxq.proofs.Memory.Steps.{D, Nr}
use denote.Memory.{cell_at, part_at, hidden_shr}
use denote.Copied.{plain_Copied, bool_Copied}
use denote.RawPtr.{Ptr, RawPtr, coded_ptr, ptr_own, rawptr_pure, ptr_val}
use denote.Struct.Laws.{RawPtr-laws}
use denote.Opens.{Shut, unhide, hide}
use denote.Steps.{looks, shuts}
use Rattle.sd_boxq.specs.Links.{links_of}
use Rattle.sd_boxq.specs.Owned.{nodes_lent}

module _ {M : Type 1} {𝓤 : Ura M} {𝓛 : Logic 𝓤} {K : Type 0} {Γ : List (Item 𝓤)} {G : Goal 𝓤 𝓛.H} where
  pub nodes_Seen : K → (E : Bx) {κ : Lft} (d : D E) (b o : ℕ)
      → Step K 𝓛 (‵ (hidden_shr RawPtr κ d.head b (o + 0)) ∷ ‵ (hidden_shr RawPtr κ d.tail b (o + 8)) ∷ ‵ (hidden_shr bool κ d.any b (o + 16))
      ∷ ‵ (nodes_lent (R E) (links_of d.blocks) d.items κ) ∷ Γ) G (‵ (hidden_shr (Nr E) κ d b o) ∷ Γ) G
  nodes_Seen t E d b o = step (λ s.
      unhide t $ fsplit t $ move t (1 ∷ []) $ move t (1 ∷ []) $ fsplit t $ move t (1 ∷ []) $ drop t $ fsplit3 t $ move t (2 ∷ []) $ fsplit t $ move t (1 ∷ []) $ drop t $
      hide t $ move t (2 ∷ []) $ hide t $ move t (2 ∷ []) $ hide t $ s)

  pub pointer_in : K → Soaks G → {κ : Lft} {q : Share} (p : Ptr) (b at : ℕ)
      → ((part : Share) → Seq K 𝓛 (‵ (fat part ty_ptr b at (ptr_val p)) ∷ Shut 𝓛 κ q (part_at RawPtr part p b at) ∷ Γ) G) → Seq K 𝓛 (‵ (hidden_shr RawPtr κ p b at) ∷ ‵ (flft κ q) ∷ Γ) G
  pointer_in t z p b at k =
      looks t z RawPtr (plain_Copied 𝓛 Ptr coded_ptr (ty_ptr ∷ []) ptr_own rawptr_pure ptr_val RawPtr-laws.tells).opens p b at (λ part vs. move t (1 ∷ []) $ feq_l t (λ e.
      rewrite t 0 (λ (us : List Val). ‵ (cell_at part RawPtr.mir us b at)) e refl $ move t (2 ∷ []) $ drop t $ k part))

  pub pointer_out : K → Soaks G → {κ : Lft} {q part : Share} (p : Ptr) (b at : ℕ)
      → Step K 𝓛 (‵ (flft κ q) ∷ Γ) G (‵ (fat part ty_ptr b at (ptr_val p)) ∷ Shut 𝓛 κ q (part_at RawPtr part p b at) ∷ Γ) G
  pointer_out t z {part = part} p b at = step (λ s.
      feq_i t (List Val) (ptr_val p ∷ []) (ptr_val p ∷ []) refl $ move t (1 ∷ 0 ∷ []) $ shuts t z RawPtr part p (ptr_val p ∷ []) b at $ s)

  pub bool_in : K → Soaks G → {κ : Lft} {q : Share} (m : Bool) (b at : ℕ)
      → ((part : Share) → Seq K 𝓛 (‵ (fat part ty_bool b at (vbool m)) ∷ Shut 𝓛 κ q (part_at bool part m b at) ∷ Γ) G) → Seq K 𝓛 (‵ (hidden_shr bool κ m b at) ∷ ‵ (flft κ q) ∷ Γ) G
  bool_in t z m b at k =
      looks t z bool (bool_Copied 𝓛).opens m b at (λ part vs. move t (1 ∷ []) $ feq_l t (λ e.
      rewrite t 0 (λ (us : List Val). ‵ (cell_at part bool.mir us b at)) e refl $ move t (2 ∷ []) $ drop t $ k part))

  pub bool_out : K → Soaks G → {κ : Lft} {q part : Share} (m : Bool) (b at : ℕ)
      → Step K 𝓛 (‵ (flft κ q) ∷ Γ) G (‵ (fat part ty_bool b at (vbool m)) ∷ Shut 𝓛 κ q (part_at bool part m b at) ∷ Γ) G
  bool_out t z {part = part} m b at = step (λ s.
      feq_i t (List Val) (vbool m ∷ []) (vbool m ∷ []) refl $ move t (1 ∷ 0 ∷ []) $ shuts t z bool part m (vbool m ∷ []) b at $ s)
