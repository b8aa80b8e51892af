-- A text is accepted as at most one workload.
use Rattle.std.proofs.Common.{◌≡◌, ℕ, List, length, Option, Some, None, sym, ap, ◌∙◌, subst}
use Rattle.std.proofs.lemmas.Option.{same_Some}
use Rattle.sd_types.specs.declared.tables.TsTable.{TsTable}
use Rattle.sd_types.specs.declared.tables.FixedTable.{FixedTable}
use Rattle.sd_types.specs.declared.works.Work.{Work}
use Rattle.sd_dispadmin.specs.TableText.{Format, word_lines, ts_format, fx_format, rt_format, AreClean, has_rows, rows_in, res_in, SpellsTs, SpellsFixed}
use Rattle.sd_dispadmin.proofs.LawLemmas.{one_ts, one_fixed}
use Rattle.sd_lines.specs.Words.{Line}
use Rattle.sd_declare.specs.Declarations.{Declarations}
use Rattle.sd_workload.specs.Accepted.{SpellsFixedLines, IsTs, IsFx, IsRt, IsWork, Accepted, HaveSameParts}
use Rattle.sd_workload.proofs.FirstLemmas.{same-accepted}
use Rattle.sd_workload.proofs.PartsLemmas.{one_work}

ts-along : (text other : List ℕ) (hz : ℕ) (t : TsTable) → word_lines text ≡ word_lines other → SpellsTs text hz t → SpellsTs other hz t
ts-along text other hz t e s = record {
  table = record {
    clean = subst (λ (ls : List Line). AreClean ts_format.columns ls (length ls)) e s.table.clean;
    rows = ap (has_rows ts_format) (sym e) ∙ s.table.rows;
  };
  rows = ap rows_in (sym e) ∙ s.rows;
  res = s.res ∙ ap res_in e;
  ticks = s.ticks;
}

fixed-along : (format : Format) (text other : List ℕ) (hz : ℕ) (t : FixedTable) → word_lines text ≡ word_lines other → SpellsFixed format text hz t → SpellsFixed format other hz t
fixed-along format text other hz t e s = record {
  table = record {
    clean = subst (λ (ls : List Line). AreClean format.columns ls (length ls)) e s.table.clean;
    rows = ap (has_rows format) (sym e) ∙ s.table.rows;
  };
  rows = ap rows_in (sym e) ∙ s.rows;
  res = s.res ∙ ap res_in e;
  ticks = s.ticks;
}

fixed-same : (format : Format) (lines : List Line) (hz : ℕ) (a b : FixedTable) → SpellsFixedLines format lines hz a → SpellsFixedLines format lines hz b
    → (a.res ≡ b.res) × (a.rows ≡ b.rows)
fixed-same format lines hz a b s t =
    one_fixed format t.text hz a b (fixed-along format s.text t.text hz a (s.text_lines ∙ sym t.text_lines) s.spells) t.spells

ts-same : (o : Option (List Line)) (hz : ℕ) (a b : TsTable) → IsTs o hz a → IsTs o hz b → (a.res ≡ b.res) × (a.rows ≡ b.rows)
ts-same None hz a b s t = (s.res ∙ sym t.res, s.rows ∙ sym t.rows)
ts-same (Some lines) hz a b s t = one_ts t.text hz a b (ts-along s.text t.text hz a (s.text_lines ∙ sym t.text_lines) s.spells) t.spells

fx-same : (o : Option (List Line)) (hz : ℕ) (a b : FixedTable) → IsFx o hz a → IsFx o hz b → (a.res ≡ b.res) × (a.rows ≡ b.rows)
fx-same None hz a b s t = (s.res ∙ sym t.res, s.rows ∙ sym t.rows)
fx-same (Some lines) hz a b s t = fixed-same fx_format lines hz a b s t

rt-same : (o : Option (List Line)) (hz : ℕ) (a b : FixedTable) → IsRt o hz a → IsRt o hz b → (a.res ≡ b.res) × (a.rows ≡ b.rows)
rt-same None hz a b s t = (s.res ∙ sym t.res, s.rows ∙ sym t.rows)
rt-same (Some lines) hz a b s t = fixed-same rt_format lines hz a b s t

work-same : (d e : Declarations) (w v : Work) → d ≡ e → IsWork d w → IsWork e v → HaveSameParts w v
work-same d e w v same p r =
    let q : IsWork d v = subst (λ (x : Declarations). IsWork x v) (sym same) r in
    let hz = p.hz ∙ sym q.hz in
    record {
      cpus = p.cpus ∙ sym q.cpus;
      hz = hz;
      limit = same_Some w.limit v.limit (sym p.limit ∙ q.limit);
      sets = p.sets ∙ sym q.sets;
      locks = p.locks ∙ sym q.locks;
      chans = p.chans ∙ sym q.chans;
      threads = p.threads ∙ sym q.threads;
      ts = ts-same d.ts v.hz w.ts v.ts (subst (λ (n : ℕ). IsTs d.ts n w.ts) hz p.ts) q.ts;
      fx = fx-same d.fx v.hz w.fx v.fx (subst (λ (n : ℕ). IsFx d.fx n w.fx) hz p.fx) q.fx;
      rt = rt-same d.rt v.hz w.rt v.rt (subst (λ (n : ℕ). IsRt d.rt n w.rt) hz p.rt) q.rt;
    }

pub one-work : (text : List ℕ) (w v : Work) → Accepted text w → Accepted text v → w ≡ v
one-work text w v a b = one_work w v (work-same a.declares b.declares w v (same-accepted a.declares b.declares (sym a.accepted ∙ b.accepted)) a.work b.work)
