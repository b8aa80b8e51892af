-- The pieces in which the program writes threads and scripts.
use Rattle.std.proofs.Common.{◌≡◌, ℕ, ◌<◌, false, List, [], ◌∷◌, ◌++◌, length, refl, sym, ap, ◌∙◌, append_assoc, arith}
use Rattle.std.specs.Prelude.{codes}
use Rattle.std.specs.Fmt.{decimal}
use Rattle.std.specs.List.{flat_map}
use Rattle.std.proofs.lemmas.Grind.{flat_map-append}
use Rattle.sd_basics.proofs.Lists.{joined}
use Rattle.sd_types.specs.declared.scripts.Op.{Op}
use Rattle.sd_types.specs.declared.works.ThreadDecl.{ThreadDecl}
use Rattle.sd_types.specs.declared.works.Work.{Work}
use Rattle.sd_lines.specs.Words.{Line}
use Rattle.sd_canonical.specs.Blocks.{tables_text}
use Rattle.sd_canonical.specs.Lines.{class_words, priv_words, in_words, option_words, operation_lines, script_lines}
use Rattle.sd_canonical.specs.Canonical.{spaced, line_text, lines_text, settings_text, set_text, lock_text, chan_text, thread_text, script_text, canonical}

spaced-append : (a b : Line) → spaced (a ++ b) ≡ spaced a ++ spaced b
spaced-append a b = flat_map-append (λ word. 32 ∷ word) a b

pub options_parts : (w : Work) (t : ThreadDecl)
    → spaced (option_words w t) ≡ spaced (codes "uid" ∷ decimal t.uid ∷ []) ++ (spaced (priv_words t.privileged) ++ spaced (in_words w t.set))
unfolding option_words
options_parts w t =
    let uid = codes "uid" ∷ decimal t.uid ∷ [] in
    spaced-append uid (priv_words t.privileged ++ in_words w t.set) ∙ ap (λ l. spaced uid ++ l) (spaced-append (priv_words t.privileged) (in_words w t.set))

nested : (a n c o z : List ℕ) → (a ++ (n ++ (c ++ o))) ++ z ≡ a ++ (n ++ (c ++ (o ++ z)))
nested a n c o z = simp append_assoc

pub thread_text_parts : (w : Work) (t : ThreadDecl) → thread_text w t
    ≡ codes "thread" ++ ((32 ∷ t.name.text.items) ++ (spaced (class_words t.class t.cpupri) ++ (spaced (option_words w t) ++ 10 ∷ [])))
unfolding thread_text
thread_text_parts w t =
    ap (λ l. (codes "thread" ++ ((32 ∷ t.name.text.items) ++ l)) ++ 10 ∷ []) (spaced-append (class_words t.class t.cpupri) (option_words w t))
    ∙ nested (codes "thread") (32 ∷ t.name.text.items) (spaced (class_words t.class t.cpupri)) (spaced (option_words w t)) (10 ∷ [])

pub script_text_none : (w : Work) (t : ThreadDecl) → length t.script.ops ≡ 0 → script_text w t ≡ []
unfolding script_text
script_text_none w t none = none_at t.script.ops none
  where
    none_at : (ops : List Op) → length ops ≡ 0 → lines_text (script_lines w t.name.text.items ops) ≡ []
    none_at [] h = refl
    none_at (op ∷ ops) h = absurd (omega arith)

pub script_text_parts : (w : Work) (t : ThreadDecl) → 0 < length t.script.ops → script_text w t
    ≡ line_text (codes "script" ∷ t.name.text.items ∷ []) ++ (lines_text (operation_lines w false t.script.ops) ++ line_text (codes "end" ∷ []))
unfolding script_text
script_text_parts w t some = some_at t.script.ops some
  where
    some_at : (ops : List Op) → 0 < length ops → lines_text (script_lines w t.name.text.items ops)
        ≡ line_text (codes "script" ∷ t.name.text.items ∷ []) ++ (lines_text (operation_lines w false ops) ++ line_text (codes "end" ∷ []))
    some_at [] h = absurd (omega arith)
    some_at (op ∷ ops) h =
        ap (λ l. line_text (codes "script" ∷ t.name.text.items ∷ []) ++ l)
        (flat_map-append line_text (operation_lines w false (op ∷ ops)) ((codes "end" ∷ []) ∷ []))

-- ---- texts that are appended piece by piece

pub three : (was a b now x y z text : List ℕ) → a ≡ was ++ x → b ≡ a ++ y → now ≡ b ++ z → text ≡ x ++ (y ++ z) → now ≡ was ++ text
three was a b now x y z text p q r whole =
    r ∙ ap (λ l. l ++ z) (q ∙ ap (λ l. l ++ y) p) ∙ append_assoc (was ++ x) y z ∙ append_assoc was x (y ++ z) ∙ ap (λ l. was ++ l) (sym whole)

pub five : (was a b c d now u v x y z text : List ℕ) → a ≡ was ++ u → b ≡ a ++ v → c ≡ b ++ x → d ≡ c ++ y → now ≡ d ++ z → text ≡ u ++ (v ++ (x ++ (y ++ z))) → now ≡ was ++ text
five was a b c d now u v x y z text p q r s t whole =
    three b c d now x y z (x ++ (y ++ z)) r s t refl ∙ ap (λ l. l ++ (x ++ (y ++ z))) (q ∙ ap (λ l. l ++ v) p)
    ∙ append_assoc (was ++ u) v (x ++ (y ++ z)) ∙ append_assoc was u (v ++ (x ++ (y ++ z))) ∙ ap (λ l. was ++ l) (sym whole)

pub canonical_parts : (w : Work) (was a b c d e f now : List ℕ) → a ≡ was ++ settings_text w → b ≡ a ++ flat_map set_text w.sets → c ≡ b ++ tables_text w
    → d ≡ c ++ flat_map lock_text w.locks → e ≡ d ++ flat_map chan_text w.chans → f ≡ e ++ flat_map (thread_text w) w.threads
    → now ≡ f ++ flat_map (script_text w) w.threads → now ≡ was ++ canonical w
unfolding canonical
canonical_parts w was a b c d e f now p q r s t u v =
    let scripts = flat_map (script_text w) w.threads in
    let threads = flat_map (thread_text w) w.threads ++ scripts in
    let chans = flat_map chan_text w.chans ++ threads in
    let locks = flat_map lock_text w.locks ++ chans in
    let tables = tables_text w ++ locks in
    joined was (settings_text w) a (flat_map set_text w.sets ++ tables) now p (joined a (flat_map set_text w.sets) b tables now q (joined b (tables_text w) c locks now r
    (joined c (flat_map lock_text w.locks) d chans now s (joined d (flat_map chan_text w.chans) e threads now t (joined e (flat_map (thread_text w) w.threads) f scripts now u v)))))
