-- The node at a spot amid the others.
use mathlib.Core.Path.{◌≡◌, sym, ap, subst, ◌∙◌}
use Prim.Native.Nat.{◌<◌}
use native.Mathlib.Omega.{arith}
use mathlib.Core.List.{List, ◌∷◌, ◌++◌, map-append}
use lib.ListN.{length, length-append, length-map}
use Rattle.std_alloc.proofs.BoxSteps.Form.{Bx, X}
use Rattle.sd_boxq.specs.declared.nodes.cursor.Spot.{Spot}
use Rattle.sd_boxq.specs.Links.{Link, links_of, has_some, IsChained}
use Rattle.sd_boxq.specs.Boxes.{LiesAt}
use Rattle.sd_boxq.proofs.Memory.Chained.{IsChained-had}
use Rattle.sd_boxq.proofs.Memory.Seams.{some_seam, parted, lies_there}
use Rattle.sd_boxq.proofs.Memory.Steps.{Hd, D}

-- the nodes before it and their items, itself and its item, and those behind it
pub record Amid (E : Bx) (d : D E) (s : Spot (X E)) : Type 0 where
  pub front : List (Link × Hd E)
  pub node : Link × Hd E
  pub behind : List (Link × Hd E)
  pub items : List (X E)
  pub item : X E
  pub later : List (X E)
  pub blocks_are : d.blocks ≡ front ++ node ∷ behind
  pub items_are : d.items ≡ items ++ item ∷ later
  pub alike : length front ≡ length items
  pub rest_alike : length later ≡ length behind
  pub counted : length items ≡ s.index
  pub linked : IsChained d.head d.tail (links_of front ++ node.0 ∷ links_of behind)
  pub there : s.at ≡ node.0.0

pub amid : (E : Bx) (d : D E) (s : Spot (X E)) → LiesAt (links_of d.blocks) s.index s.at → s.index < length d.items → Amid E d s
amid E d s lies within =
    let count = d.ok.1 in
    let ns = parted s.index d.blocks (omega arith) in
    let xs = parted s.index d.items within in
    let long = ap length ns.3 ∙ length-append ns.0 (ns.1 ∷ ns.2) in
    let many = ap length xs.3 ∙ length-append xs.0 (xs.1 ∷ xs.2) in
    let before = ns.4 in
    let earlier = xs.4 in
    let links = ap links_of ns.3 ∙ map-append (λ n. n.0) ns.0 (ns.1 ∷ ns.2) in
    record {
      front = ns.0;
      node = ns.1;
      behind = ns.2;
      items = xs.0;
      item = xs.1;
      later = xs.2;
      blocks_are = ns.3;
      items_are = xs.3;
      alike = omega arith;
      rest_alike = omega arith;
      counted = xs.4;
      linked = subst (IsChained d.head d.tail) links (IsChained-had _ _ _ d.chained);
      there = lies_there (links_of ns.0) ns.1.0 (links_of ns.2) s.index s.at (length-map ns.0 (λ n. n.0) ∙ ns.4) (subst (λ ks. LiesAt ks s.index s.at) links lies);
    }

-- there is an item still
pub any_still : (E : Bx) (d : D E) (s : Spot (X E)) (am : Amid E d s) (x : X E) (xs : List (X E)) → d.any ≡ has_some (am.items ++ x ∷ xs)
any_still E d s am x xs = d.ok.0 ∙ ap has_some am.items_are ∙ some_seam am.items am.item am.later ∙ sym (some_seam am.items x xs)

pub links_amid : {Z : Type 0} (ns : List (Link × Z)) (n : Link × Z) (ms : List (Link × Z)) → links_of ns ++ n.0 ∷ links_of ms ≡ links_of (ns ++ n ∷ ms)
links_amid ns n ms = sym (map-append (λ k. k.0) ns (n ∷ ms))
