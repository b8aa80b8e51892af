-- A read from memory, as one that consumes a prefix of what is left.
use Rattle.std.proofs.Common.{◌≡◌, ℕ, ◌+◌, ◌-◌, ◌<◌, ◌≤◌, min, List, [], ◌++◌, length, take, drop, sym, ap, ◌∙◌, arith, length-append, length-take, length-drop, length-take-le, take-append-drop, drop-drop}
use Rattle.std.proofs.lemmas.List.{take_rest, take_at, drop_all}

gives-prefix : (left before after : List ℕ) (n chunk : ℕ) → 1 ≤ chunk → n ≡ min (min chunk (length before)) (length left)
    → after ≡ take n left ++ drop n before
    → (left ≡ take n after ++ drop n left) × (n ≡ 0 → 0 < length after → drop n left ≡ [])
gives-prefix left before after n chunk some is put =
    let front : take n after ≡ take n left = ap (take n) put ∙ take_at (take n left) (drop n before) n (length-take-le n left (omega arith)) in
    let long : length after ≡ min n (length left) + (length before - n) = ap length put ∙ length-append (take n left) (drop n before) ∙ simp (length-take, length-drop) in
    (sym (ap (λ l. l ++ drop n left) front ∙ take-append-drop n left), λ none room. drop_all n left (omega arith))

-- The bytes that are left begin at an index of all bytes.
pub chunk-read : (all items left before after : List ℕ) (at n chunk : ℕ) → all ≡ items → drop at items ≡ left → 1 ≤ chunk
    → n ≡ min (min chunk (length before)) (length (take (length all - at) (drop at all)))
    → after ≡ take n (take (length all - at) (drop at all)) ++ drop n before
    → (left ≡ take n after ++ drop (at + n) items) × (n ≡ 0 → 0 < length after → drop (at + n) items ≡ [])
chunk-read all items left before after at n chunk same begin some is put =
    let e : take (length all - at) (drop at all) ≡ left = take_rest all at ∙ ap (drop at) same ∙ begin in
    let rest : drop (at + n) items ≡ drop n left = sym (drop-drop n at items) ∙ ap (drop n) begin in
    rw rest (gives-prefix left before after n chunk some (rw e at is) (rw e at put))
