-- The lines of settings, locks and channels are taken in.
use Rattle.std.proofs.Common.{◌≡◌, ℕ, ◌<◌, ◌≤◌, ◌^◌, true, false, not, ◌&&◌, ◌||◌, eqb, leb, List, [], ◌∷◌, ◌++◌, length, map, Some, refl, sym, ap, ◌∙◌, subst, arith, append-nil, append_assoc, length-append}
use Rattle.std.proofs.lemmas.Bool.{and_parts}
use Rattle.std.specs.Prelude.{codes}
use Rattle.std.specs.Fmt.{decimal}
use Rattle.std.specs.List.{list_all, flat_map}
use Rattle.std.proofs.lemmas.Bool.Decides.{nat_tests}
use Rattle.std.proofs.lemmas.List.Folds.{flat_map-map}
use Rattle.sd_types.specs.declared.names.Name.{Name}
use Rattle.sd_types.specs.declared.works.LockKind.{LockKind}
use Rattle.sd_types.specs.declared.works.LockKind.TheVariants.{Mutex, Rwlock}
use Rattle.sd_types.specs.declared.works.ChanKind.{ChanKind}
use Rattle.sd_types.specs.declared.works.ChanKind.TheVariants as kind
use Rattle.sd_types.specs.NameWords.{is_name}
use Rattle.sd_types.specs.Works.{same_bytes, has_small_count}
use Rattle.sd_lines.specs.Words.{Word}
use Rattle.sd_lines.specs.Statements.{Cpus, Hz, Limit, Lock, Chan, Sema}
use Rattle.sd_declare.specs.Declarations.{Declarations, nothing, lock_number, chan_number}
use Rattle.sd_declare.specs.Kept.{lock_kept, chan_kept}
use Rattle.sd_declare.specs.Statements.{statement_causes, chan_causes, with_chan, with_lock}
use Rattle.sd_workload.specs.Sound.{AreNamed}
use Rattle.sd_workload.specs.Texts.{Outside}
use Rattle.sd_workload.proofs.ClearLemmas.{IsClear}
use Rattle.sd_canonical.specs.Lines.{setting_line, lock_word, chan_words}
use Rattle.sd_canonical.specs.Canonical.{line_text, lock_text, chan_text}
use Rattle.sd_canonical.proofs.TextLemmas.{is_plain, are_plain, name-plain, number-plain}
use Rattle.sd_canonical.proofs.TakesLemmas.{Takes, takes-nothing, takes-both, takes-line}
use Rattle.sd_canonical.proofs.FormLemmas.{cpus-form, hz-form, limit-form, lock-form, chan-form, sema-form}
use Rattle.sd_canonical.proofs.ListLemmas.{under, not-under, named-fresh, none-before}

-- ---- settings

-- above the sets: the three settings and nothing more
abbrev pub settled : ℕ → ℕ → ℕ → Declarations
settled cpus hz limit = record nothing { cpus = Some cpus; hz = Some hz; limit = Some limit }

within : (a n b : ℕ) → a ≤ n → n ≤ b → not (leb a n && leb n b) ≡ false
within a n b p q = grind (arith, nat_tests)

setting-plain : (word : Word) (n : ℕ) → is_plain word ≡ true → n < 2 ^ 64 → are_plain (setting_line word n) ≡ true
setting-plain word n h small = rw (h, number-plain n small) refl

hz-small : (hz : ℕ) → (eqb hz 100 || eqb hz 1000) ≡ true → hz ≤ 1000
hz-small hz h = grind (arith, nat_tests)

pub takes-settings : (cpus hz limit : ℕ) → 1 ≤ cpus → cpus ≤ 64 → (eqb hz 100 || eqb hz 1000) ≡ true → 1 ≤ limit → limit ≤ 100000
    → Takes (line_text (setting_line (codes "cpus") cpus) ++ (line_text (setting_line (codes "hz") hz) ++ line_text (setting_line (codes "limit") limit)))
    nothing Outside (settled cpus hz limit) Outside
takes-settings cpus hz limit some most known least longest =
    let d : Declarations = record nothing { cpus = Some cpus } in
    let e : Declarations = record d { hz = Some hz } in
    let small = hz-small hz known in
    takes-both _ _ nothing d (settled cpus hz limit) Outside Outside Outside
    (takes-line (codes "cpus") (decimal cpus ∷ []) (Cpus cpus) nothing (setting-plain (codes "cpus") cpus refl (omega arith)) (cpus-form cpus (omega arith))
    (record { syntax = refl; unknown = refl; twice = refl; range = within 1 cpus 64 some most; sets = refl; limits = refl }))
    (takes-both _ _ d e (settled cpus hz limit) Outside Outside Outside
    (takes-line (codes "hz") (decimal hz ∷ []) (Hz hz) d (setting-plain (codes "hz") hz refl (omega arith)) (hz-form hz (omega arith))
    (record { syntax = refl; unknown = refl; twice = refl; range = ap not known; sets = refl; limits = refl }))
    (takes-line (codes "limit") (decimal limit ∷ []) (Limit limit) e (setting-plain (codes "limit") limit refl (omega arith)) (limit-form limit (omega arith))
    (record { syntax = refl; unknown = refl; twice = refl; range = within 1 limit 100000 least longest; sets = refl; limits = refl })))

-- ---- locks

pub record IsNamed {X : Type 0} (all : List (Word × X)) : Type 0 where
  pub names : AreNamed all
  pub few : length all ≤ 256

lock-clear : (d : Declarations) (kind : LockKind) (name : Word) (rest : List (Word × LockKind)) → IsNamed (d.locks ++ (name, kind) ∷ rest)
    → IsClear (statement_causes d (Lock kind name))
unfolding lock_number
lock-clear d kind name rest s =
    let few = s.few in
    let long = length-append d.locks ((name, kind) ∷ rest) in
    record {
      syntax = refl;
      unknown = refl;
      twice = not-under _ _ (none-before (λ (x : Word × LockKind). same_bytes x.0 name) d.locks (named-fresh (λ (x : Word × LockKind). x.0) d.locks rest (name, kind) s.names));
      range = refl;
      sets = refl;
      limits = under (length d.locks) 256 (omega arith);
    }

word-plain : (kind : LockKind) → is_plain (lock_word kind) ≡ true
word-plain Mutex = refl
word-plain Rwlock = refl

lock-plain : (kind : LockKind) (name : Word) → is_name name ≡ true → are_plain (lock_word kind ∷ name ∷ []) ≡ true
lock-plain kind name h = rw (word-plain kind, name-plain name h) refl

-- the line of a lock
abbrev pub kind_text : Word × LockKind → List ℕ
kind_text l = line_text (lock_word l.1 ∷ l.0 ∷ [])

pub takes-lock_lines : (locks : List (Word × LockKind)) (d : Declarations) (all : List (Word × LockKind)) → list_all (λ l. is_name l.0) locks ≡ true → d.locks ++ locks ≡ all → IsNamed all
    → Takes (flat_map kind_text locks) d Outside (record d { locks = all }) Outside
takes-lock_lines [] d all named e s =
    subst (λ (x : List (Word × LockKind)). Takes [] d Outside (record d { locks = x }) Outside) (sym (append-nil d.locks) ∙ e) (takes-nothing d Outside)
takes-lock_lines (x ∷ xs) d all named e s =
    let h = and_parts (is_name x.0) (list_all (λ (l : Word × LockKind). is_name l.0) xs) named in
    let next : Declarations = with_lock d x.1 x.0 in
    takes-both (kind_text x) (flat_map kind_text xs) d next (record d { locks = all }) Outside Outside Outside
    (takes-line (lock_word x.1) (x.0 ∷ []) (Lock x.1 x.0) d (lock-plain x.1 x.0 h.0) (lock-form x.1 x.0 h.0) (lock-clear d x.1 x.0 xs (subst IsNamed (sym e) s)))
    (takes-lock_lines xs next all h.1 (append_assoc d.locks (x ∷ []) xs ∙ e) s)

are-names : (locks : List (Name × LockKind)) → list_all (λ l. is_name l.0) (map lock_kept locks) ≡ true
are-names [] = refl
are-names (x ∷ xs) = rw (x.0.is_name) (are-names xs)

pub takes-locks : (locks : List (Name × LockKind)) (d : Declarations) (all : List (Word × LockKind)) → d.locks ++ map lock_kept locks ≡ all → IsNamed all
    → Takes (flat_map lock_text locks) d Outside (record d { locks = all }) Outside
takes-locks locks d all e s =
    subst (λ (text : List ℕ). Takes text d Outside (record d { locks = all }) Outside) (flat_map-map kind_text lock_kept locks)
    (takes-lock_lines (map lock_kept locks) d all (are-names locks) e s)

-- ---- channels

new-chan : (d : Declarations) (kind : ChanKind) (name : Word) (rest : List (Word × ChanKind)) → IsNamed (d.chans ++ (name, kind) ∷ rest) → IsClear (chan_causes d name)
unfolding chan_number
new-chan d kind name rest s =
    let few = s.few in
    let long = length-append d.chans ((name, kind) ∷ rest) in
    record {
      syntax = refl;
      unknown = refl;
      twice = not-under _ _ (none-before (λ (x : Word × ChanKind). same_bytes x.0 name) d.chans (named-fresh (λ (x : Word × ChanKind). x.0) d.chans rest (name, kind) s.names));
      range = refl;
      sets = refl;
      limits = under (length d.chans) 256 (omega arith);
    }

takes-chan : (kind : ChanKind) (name : Word) (rest : List (Word × ChanKind)) (d : Declarations) → is_name name ≡ true → has_small_count kind ≡ true → IsNamed (d.chans ++ (name, kind) ∷ rest)
    → Takes (line_text (chan_words name kind)) d Outside (with_chan d kind name) Outside
takes-chan kind.Chan name rest d named fits s =
    let plain : are_plain (codes "chan" ∷ name ∷ []) ≡ true = rw (name-plain name named) refl in
    takes-line (codes "chan") (name ∷ []) (Chan name) d plain (chan-form name named) (new-chan d kind.Chan name rest s)
takes-chan (kind.Sema n) name rest d named fits s =
    let small : n ≤ 65535 = grind (arith, nat_tests, fits) in
    let plain : are_plain (codes "sema" ∷ name ∷ decimal n ∷ []) ≡ true = rw (name-plain name named, number-plain n (omega arith)) refl in
    let c = new-chan d (kind.Sema n) name rest s in
    takes-line (codes "sema") (name ∷ decimal n ∷ []) (Sema name n) d plain (sema-form name n named (omega arith))
    (record { syntax = c.syntax; unknown = c.unknown; twice = c.twice; range = ap not fits; sets = c.sets; limits = c.limits })

pub takes-chans : (chans : List (Name × ChanKind)) (d : Declarations) (all : List (Word × ChanKind)) → d.chans ++ map chan_kept chans ≡ all → list_all (λ k. has_small_count k.1) chans ≡ true → IsNamed all
    → Takes (flat_map chan_text chans) d Outside (record d { chans = all }) Outside
takes-chans [] d all e fits s =
    subst (λ (x : List (Word × ChanKind)). Takes [] d Outside (record d { chans = x }) Outside) (sym (append-nil d.chans) ∙ e) (takes-nothing d Outside)
takes-chans (x ∷ xs) d all e fits s =
    let p = and_parts (has_small_count x.1) (list_all (λ (k : Name × ChanKind). has_small_count k.1) xs) fits in
    let next : Declarations = with_chan d x.1 x.0.text.items in
    takes-both (chan_text x) (flat_map chan_text xs) d next (record d { chans = all }) Outside Outside Outside
    (takes-chan x.1 x.0.text.items (map chan_kept xs) d x.0.is_name p.0 (subst IsNamed (sym e) s))
    (takes-chans xs next all (append_assoc d.chans (chan_kept x ∷ []) (map chan_kept xs) ∙ e) p.1 s)
