-- The nodes of a list may cross threads as its elements and its allocator may.
use Rattle.std.specs.Prelude.{List, [], ◌∷◌}
use mir.Syntax.{Ty}
use base.Fraction.{full_share}
use base.Fml.{ftrue}
use base.Shift.{Keyless}
use denote.Exit.{Exit, unchanged, leaves, hidden, under}
use denote.RattleType.{RattleType}
use denote.RawPtr.{Ptr, block_ptr, null_ptr, block_of, count_of, lies_at, room_for, in_block}
use denote.Builtin.{RawPtr, bool}
use denote.Struct.Struct.{exits_of}
use denote.Struct.Owning.{shape, fields, to}
use denote.Struct.Lending.{lent_at}
use denote.Param.Send.{IsSend, IsSync, Quiet, Common, AllSend, part_keyless, owning_send, struct_send, struct_sync, sendable}
use Rattle.std.specs.declared.alloc.Allocator.{Ghosts}
use Rattle.std_alloc.proofs.SendSync.{FreesAnywhere}
use Rattle.sd_boxq.specs.Links.{Link, links_of}
use Rattle.sd_boxq.specs.Owned.{spread, item_places, frames, links_lent, spread_lent}
use Rattle.sd_boxq.specs.contracts.nodes.Nodes as Nodes
use Rattle.sd_boxq.specs.contracts.nodes.Cell as Cell
use Rattle.sd_boxq.specs.contracts.node.Room as Room
use Rattle.std_alloc.specs.contracts.room.vacant.Vacant as Vacant

quiet : {D X : Type 0} (f : D → X) (e : Exit X) → Quiet e → Quiet (hidden (under f e))
quiet f unchanged q = λ x w. tt
quiet f (leaves L l S s r₀) q = λ d. q (f d)

lies : (R : RattleType) → IsSend R → (p : Ptr) (x : R.Denot) → Keyless (lies_at R full_share p x)
lies R s (block_ptr b o) x = part_keyless R s full_share x b o
lies R s null_ptr x = tt

room : (τ : Ty) (p : Ptr) → Keyless (room_for τ p)
room τ (block_ptr b o) = tt
room τ null_ptr = tt

inside : (p : Ptr) → Keyless (in_block p ftrue)
inside (block_ptr b o) = tt
inside null_ptr = tt

seen : (R : RattleType) → IsSync R → (p : Ptr) (x : R.Denot) → Common (lent_at R p x)
seen R s p x κ = (inside p, s.shared x (block_of p) (count_of p) κ)

pointer_send : IsSend RawPtr
pointer_send = search sendable

pointer_sync : IsSync RawPtr
pointer_sync = search sendable

flag_send : IsSend bool
flag_send = search sendable

flag_sync : IsSync bool
flag_sync = search sendable

spread-Keyless : (R : RattleType) → IsSend R → (ps : List Ptr) (xs : List R.Denot) → Keyless (spread R ps xs)
spread-Keyless R s [] [] = tt
spread-Keyless R s [] (x ∷ xs) = tt
spread-Keyless R s (p ∷ ps) [] = tt
spread-Keyless R s (p ∷ ps) (x ∷ xs) = (lies R s p x, spread-Keyless R s ps xs)

links_lent-Common : (ls : List Link) → Common (links_lent ls)
links_lent-Common [] κ = tt
links_lent-Common (l ∷ ls) κ = ((seen RawPtr pointer_sync _ l.1 κ, seen bool flag_sync _ l.2 κ), links_lent-Common ls κ)

spread_lent-Common : (R : RattleType) → IsSync R → (ps : List Ptr) (xs : List R.Denot) → Common (spread_lent R ps xs)
spread_lent-Common R y [] xs κ = tt
spread_lent-Common R y (p ∷ ps) [] κ = tt
spread_lent-Common R y (p ∷ ps) (x ∷ xs) κ = (seen R y p x κ, spread_lent-Common R y ps xs κ)

module _ (R B : RattleType) (g : Ghosts B.Denot) where
  pub Nodes-sync : IsSync R → IsSync (Nodes.the_row R B g)
  Nodes-sync y = let O = Nodes.the_type R B g in record {
    shared = λ d b o κ. (
      (struct_sync (shape O) (pointer_sync, (pointer_sync, (flag_sync, tt)))).shared (to O d) b o κ,
      (spread_lent-Common R y (item_places R (links_of d.blocks)) d.items κ, links_lent-Common (links_of d.blocks) κ),
    );
  }

  module _ (sr : IsSend R) (sb : IsSend B) (f : FreesAnywhere B.Denot g) where
    frames-Keyless : (ns : List (Link × B.Denot)) → Keyless (frames R B g.dealloc_token ns)
    frames-Keyless [] = tt
    frames-Keyless (n ∷ ns) = (
      ((lies RawPtr pointer_send _ n.0.1, lies bool flag_send _ n.0.2), (lies B sb _ n.1, (f.frees n.1 _ n.0.0, ((room _ _, (room _ _, (room _ _, room _ _))), room _ n.0.0)))),
      frames-Keyless ns,
    )

    pub Nodes-send : IsSend (Nodes.the_row R B g)
    Nodes-send =
        let O = Nodes.the_type R B g in
        let all : AllSend (fields O) = (pointer_send, (pointer_send, (flag_send, tt))) in
        owning_send O all (λ d. (spread-Keyless R sr _ d.items, frames-Keyless d.blocks)) (λ k. quiet (to O) (exits_of k (fields O)) ((struct_send (shape O) all).leaving k))

-- ---- a block with nothing in it
module _ (Y B : RattleType) (g : Ghosts B.Denot) (sb : IsSend B) (f : FreesAnywhere B.Denot g) where
  Vacant-send : IsSend (Vacant.the_row Y B g)
  Vacant-send =
      let O = Vacant.the_type Y B g in
      let all : AllSend (fields O) = (pointer_send, (sb, tt)) in
      owning_send O all (λ d. (room _ d.ptr, f.frees d.alloc _ d.ptr)) (λ k. quiet (to O) (exits_of k (fields O)) ((struct_send (shape O) all).leaving k))

pub Room-send : (T A : RattleType) (g : Ghosts A.Denot) → IsSend A → FreesAnywhere A.Denot g → IsSend (Room.the_row T A g)
Room-send T A g sa f =
    let O = Room.the_type T A g in
    let all : AllSend (fields O) = (Vacant-send (Cell.the_row T A) A g sa f, tt) in
    owning_send O all (λ d. tt) (λ k. quiet (to O) (exits_of k (fields O)) ((struct_send (shape O) all).leaving k))
