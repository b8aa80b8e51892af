-- What stays linked where a box comes or goes.
use mathlib.Core.Path.{◌≡◌, refl, sym, subst, ◌∙◌}
use mathlib.Core.Logic.{∥∥₁_elim}
use mathlib.Core.List.{List, [], ◌∷◌, ◌++◌}
use Prim.Native.Nat.{◌<◌}
use lib.ListN.{length}
use native.Mathlib.Omega.{arith}
use Rattle.std.specs.Prelude.{Bool, true, false}
use base.Stored.{Coded-set, coded_bool}
use denote.RawPtr.{Ptr, coded_ptr}
use Rattle.sd_boxq.specs.Links.{Link, links_of, has_some, IsChained, LeadsOn}

IsChained-prop : (h t : Ptr) (ls : List Link) → IsProp (IsChained h t ls)
IsChained-prop h t [] = λ p q. refl
IsChained-prop h t (l ∷ []) = λ p q i. (Coded-set coded_ptr h l.0 p.0 q.0 i, Coded-set coded_ptr t l.0 p.1 q.1 i, Coded-set coded_bool l.2 false p.2 q.2 i)
IsChained-prop h t (l ∷ m ∷ ls) = λ p q i. (Coded-set coded_ptr h l.0 p.0 q.0 i, Coded-set coded_bool l.2 true p.1 q.1 i, IsChained-prop l.1 t (m ∷ ls) p.2 q.2 i)

pub IsChained-had : (h t : Ptr) (ls : List Link) → ∥ IsChained h t ls ∥₁ → IsChained h t ls
IsChained-had h t ls c = ∥∥₁_elim c (IsChained-prop h t ls) (λ p. p)

-- ---- at the front
pub IsChained-head : (h t : Ptr) (l : Link) (ls : List Link) → IsChained h t (l ∷ ls) → h ≡ l.0
IsChained-head h t l [] c = c.0
IsChained-head h t l (m ∷ ls) c = c.0

pub IsChained-tail : (h t : Ptr) (l : Link) (ls : List Link) → IsChained h t (l ∷ ls) → IsChained l.1 t ls
IsChained-tail h t l [] c = tt
IsChained-tail h t l (m ∷ ls) c = c.2

pub IsChained-more : (h t : Ptr) (l : Link) (ls : List Link) → IsChained h t (l ∷ ls) → l.2 ≡ has_some ls
IsChained-more h t l [] c = c.2
IsChained-more h t l (m ∷ ls) c = c.1

-- ---- at the back
pub IsChained-last : (h t : Ptr) (ls : List Link) (l : Link) → IsChained h t (ls ++ l ∷ []) → t ≡ l.0
IsChained-last h t [] l c = c.1
IsChained-last h t (k ∷ []) l c = c.2.1
IsChained-last h t (k ∷ m ∷ ls) l c = IsChained-last k.1 t (m ∷ ls) l c.2

-- the last box gets a `next`, which is the last one from now on
pub IsChained-snoc : (h t p n : Ptr) (ls : List Link) (l : Link) → IsChained h t (ls ++ l ∷ [])
    → IsChained h p ((ls ++ (l.0, p, true) ∷ []) ++ (p, n, false) ∷ [])
IsChained-snoc h t p n [] l c = (c.0, refl, (refl, refl, refl))
IsChained-snoc h t p n (k ∷ []) l c = (c.0, c.1, (c.2.0, refl, (refl, refl, refl)))
IsChained-snoc h t p n (k ∷ m ∷ ls) l c = (c.0, c.1, IsChained-snoc k.1 t p n (m ∷ ls) l c.2)

-- as many links as items
pub some_alike : {X Y : Type 0} (xs : List X) (ys : List Y) → length xs ≡ length ys → has_some xs ≡ has_some ys
some_alike [] [] e = refl
some_alike [] (y ∷ ys) e = absurd (omega arith)
some_alike (x ∷ xs) [] e = absurd (omega arith)
some_alike (x ∷ xs) (y ∷ ys) e = refl

pub some_links : {Z : Type 0} (ns : List (Link × Z)) → has_some (links_of ns) ≡ has_some ns
some_links [] = refl
some_links (n ∷ ns) = refl

pub some_length : {X : Type 0} (xs : List X) → has_some xs ≡ true → 0 < length xs
some_length [] e = absurd cc
some_length (x ∷ xs) e = omega arith

pub some_none : {X : Type 0} (xs : List X) → has_some xs ≡ false → xs ≡ []
some_none [] e = refl
some_none (x ∷ xs) e = absurd cc

pub some_snoc : {X : Type 0} (xs : List X) (x : X) → has_some (xs ++ x ∷ []) ≡ true
some_snoc [] x = refl
some_snoc (y ∷ xs) x = refl

pub some_more : {X : Type 0} (xs : List X) → 0 < length xs → has_some xs ≡ true
some_more [] p = absurd (omega arith)
some_more (x ∷ xs) p = refl

-- a box in front of others
pub IsChained-before : (h t p : Ptr) (ls : List Link) → has_some ls ≡ true → IsChained h t ls → IsChained p t ((p, h, true) ∷ ls)
IsChained-before h t p [] e c = absurd cc
IsChained-before h t p (l ∷ ls) e c = (refl, refl, c)

-- ---- as a reader sees them
LeadsOn-prop : (h : Ptr) (ls : List Link) → IsProp (LeadsOn h ls)
LeadsOn-prop h [] = λ p q. refl
LeadsOn-prop h (l ∷ ls) = λ p q i. (Coded-set coded_ptr h l.0 p.0 q.0 i, Coded-set coded_bool l.2 (has_some ls) p.1 q.1 i, LeadsOn-prop l.1 ls p.2 q.2 i)

pub LeadsOn-had : (h : Ptr) (ls : List Link) → ∥ LeadsOn h ls ∥₁ → LeadsOn h ls
LeadsOn-had h ls c = ∥∥₁_elim c (LeadsOn-prop h ls) (λ p. p)

pub leads_on : (h t : Ptr) (ls : List Link) → IsChained h t ls → LeadsOn h ls
leads_on h t [] c = tt
leads_on h t (l ∷ []) c = (c.0, c.2, tt)
leads_on h t (l ∷ m ∷ ls) c = (c.0, c.1, leads_on l.1 t (m ∷ ls) c.2)

-- ---- in the middle
pub IsChained-at : (h t : Ptr) (front : List Link) (l : Link) (ls : List Link) → IsChained h t (front ++ l ∷ ls) → IsChained l.0 t (l ∷ ls)
IsChained-at h t [] l [] c = (refl, c.1, c.2)
IsChained-at h t [] l (m ∷ ls) c = (refl, c.1, c.2)
IsChained-at h t (k ∷ []) l ls c = IsChained-at k.1 t [] l ls c.2
IsChained-at h t (k ∷ m ∷ front) l ls c = IsChained-at k.1 t (m ∷ front) l ls c.2

head_moved : (h a t : Ptr) (ls : List Link) → h ≡ a → IsChained a t ls → IsChained h t ls
head_moved h a t ls e c = subst (λ p. IsChained p t ls) (sym e) c

-- from one box on, others stand in the list, and that box stays
pub IsChained-swap : (h t u : Ptr) (front : List Link) (l m : Link) (ls ms : List Link) → m.0 ≡ l.0 → IsChained h t (front ++ l ∷ ls) → IsChained m.0 u (m ∷ ms) → IsChained h u (front ++ m ∷ ms)
IsChained-swap h t u [] l m ls ms e c d = head_moved h m.0 u (m ∷ ms) (IsChained-head h t l ls c ∙ sym e) d
IsChained-swap h t u (k ∷ []) l m ls ms e c d = (c.0, c.1, IsChained-swap k.1 t u [] l m ls ms e c.2 d)
IsChained-swap h t u (k ∷ j ∷ front) l m ls ms e c d = (c.0, c.1, IsChained-swap k.1 t u (j ∷ front) l m ls ms e c.2 d)

-- a box that others follow, and those
IsChained-on : (t : Ptr) (l : Link) (ls : List Link) → has_some ls ≡ true → IsChained l.0 t (l ∷ ls) → (l.2 ≡ true) × IsChained l.1 t ls
IsChained-on t l [] e c = absurd cc
IsChained-on t l (m ∷ ls) e c = (c.1, c.2)

IsChained-to : (a n t : Ptr) (m : Bool) (ls : List Link) → has_some ls ≡ true → m ≡ true → IsChained n t ls → IsChained a t ((a, n, m) ∷ ls)
IsChained-to a n t m [] e f c = absurd cc
IsChained-to a n t m (l ∷ ls) e f c = (refl, f, c)

-- a box at p comes behind that at a
pub IsChained-link : (h t a p : Ptr) (front : List Link) (l : Link) (ls : List Link) → l.0 ≡ a → has_some ls ≡ true
    → IsChained h t (front ++ l ∷ ls) → IsChained h t (front ++ (a, p, l.2) ∷ (p, l.1, true) ∷ ls)
IsChained-link h t a p front l ls e f c =
    let on = IsChained-on t l ls f (IsChained-at h t front l ls c) in
    IsChained-swap h t t front l (a, p, l.2) ls ((p, l.1, true) ∷ ls) (sym e) c (refl, on.0, IsChained-to p l.1 t true ls f refl on.1)

-- the box at k, which others follow, leaves
pub IsChained-unlink : (h t a : Ptr) (front : List Link) (l k : Link) (ls : List Link) → l.0 ≡ a → has_some ls ≡ true
    → IsChained h t (front ++ l ∷ k ∷ ls) → IsChained h t (front ++ (a, k.1, l.2) ∷ ls)
IsChained-unlink h t a front l k ls e f c =
    let at = IsChained-at h t front l (k ∷ ls) c in
    IsChained-swap h t t front l (a, k.1, l.2) (k ∷ ls) ls (sym e) c (IsChained-to a k.1 t l.2 ls f at.1 (IsChained-tail l.1 t k ls at.2))

-- the last box leaves
pub IsChained-cut : (h t a : Ptr) (front : List Link) (l k : Link) → l.0 ≡ a → IsChained h t (front ++ l ∷ k ∷ []) → IsChained h a (front ++ (a, l.1, false) ∷ [])
IsChained-cut h t a front l k e c = IsChained-swap h t a front l (a, l.1, false) (k ∷ []) [] (sym e) c (refl, refl, refl)

-- where the next box lies
pub IsChained-next : (h t : Ptr) (front : List Link) (l k : Link) (ls : List Link) → IsChained h t (front ++ l ∷ k ∷ ls) → l.1 ≡ k.0
IsChained-next h t front l k ls c = IsChained-head l.1 t k ls (IsChained-at h t front l (k ∷ ls) c).2

-- no box comes or leaves
pub IsChained-same : (h t a : Ptr) (front : List Link) (l : Link) (ls : List Link) → l.0 ≡ a → IsChained h t (front ++ l ∷ ls) → IsChained h t (front ++ (a, l.1, l.2) ∷ ls)
IsChained-same h t a front l ls e c = subst (λ p. IsChained h t (front ++ (p, l.1, l.2) ∷ ls)) e c
