use Rattle.std.proofs.Common.{◌≡◌, ◌<◌, ◌+◌, length, slice_get, Some, sym, ap, subst, ◌∙◌, arith, zero-add}
use Rattle.std.specs.Prelude.{vec_len}
use Rattle.sd_log.specs.declared.short.ShortEntry.{ShortEntry}
use Rattle.sd_log.specs.Logged.{Logged}
use Rattle.sd_log.specs.Short.{IsWithin, entry_at}
use Rattle.sd_log.proofs.LogLemmas.{entries-at, entries-length}
use Rattle.sd_log.proofs.entry_log.EntryLog.parts.Goals as goal

pub index-requires : goal.index-requires
index-requires c =
    let xs = c.self.inside.short in
    let many : vec_len xs ≡ length xs.items = grind arith in
    let same = entries-length c.self.inside.bytes.items 0 xs.items in
    let view = ap (λ (v : Logged). length v.items) c.self.view_is in
    let inside = c.requires in
    omega (arith, many, same, view, inside)

pub parts_at-requires : goal.parts_at-requires
parts_at-requires c =
    let bytes = c.self.inside.bytes.items in
    let xs = c.self.inside.short.items in
    let same = entries-length bytes 0 xs in
    let view = ap (λ (v : Logged). length v.items) c.self.view_is in
    let asked = c.requires in
    let inside : c.args.number < length xs = omega (arith, same, view, asked) in
    subst (λ bs. IsWithin (length bs) c.index.result.now) (sym c.deref.ensures.value)
    (subst (IsWithin (length bytes)) (sym c.index.ensures) (c.self.invariant.0 c.args.number c.index.result.now inside))

pub returns-clause-whole : goal.returns-clause-whole
returns-clause-whole c =
    let bytes = c.self.inside.bytes.items in
    let xs = c.self.inside.short.items in
    let i = c.args.number in
    let x = c.index.result.now in
    let same = entries-length bytes 0 xs in
    let view = ap (λ (v : Logged). length v.items) c.self.view_is in
    let asked = c.requires in
    let inside : i < length xs = omega (arith, same, view, asked) in
    ap (λ (v : Logged). slice_get v.items i) (sym c.self.view_is)
    ∙ entries-at bytes 0 xs i x inside
    ∙ ap (λ (y : ShortEntry). Some (entry_at bytes (0 + i) y)) (sym c.index.ensures)
    ∙ ap (λ k. Some (entry_at bytes k x)) (zero-add i)
    ∙ ap (λ bs. Some (entry_at bs i x)) (sym c.deref.ensures.value)
    ∙ ap Some (sym c.parts_at.ensures.whole)
