-- The line of a row, from what its numbers and its kind are told to be.
use Prim.Native.Nat.{ℕ}
use mathlib.Core.List.{List, [], ◌∷◌}
use mathlib.Core.Path.{◌≡◌, ap, sym, ◌∙◌}
use lib.ListN.{get_or, take}
use Rattle.semantic.specs.Rows.{Blank, put_row}
use Rattle.semantic.specs.Kinds.{row_kind, is_call_site, is_tail_row}
use Rattle.semantic.specs.Leaves.{Tells}
use Rattle.semantic.specs.declared.RowKind.{RowKind}
use Rattle.printing.specs.Text.{line, number, calls=, tail=, percent=, row_text, count, percent, summary_text}
use Rattle.printing.specs.declared.summary.Calls.{Calls}
use Rattle.printing.specs.Puts.{Line}
use Rattle.printing.specs.Counts.{Counted, Summed}
use Rattle.printing.specs.Numbers.{text_of}
use Rattle.printing.specs.Laws.Numbers.{row_text_lem}

pub row_told : {F : List ℕ} {at : ℕ} {row : List ℕ} {k j : RowKind} {d : List ℕ} {r : ℕ} → Tells put_row Blank put_row F at row
    → Tells put_row Blank row_kind F at k → k ≡ j → Line (text_of at j row) d r → Tells put_row Blank (row_text at) F at (take r d)
row_told {at = at} {row} {k} {j} w v q p = record {
  is = λ l e h.
      let r = get_or l at Blank in
      p.text
      ∙ ap (λ (i : RowKind). text_of at i row) (sym q ∙ v.is l e h)
      ∙ ap (text_of at (row_kind r)) (w.is l e h)
      ∙ row_text_lem at r;
}

-- The summary, from the counts

pub summed : (F : List ℕ) (c : Calls) {d : List ℕ} {r p : ℕ} → Counted F c → p ≡ percent c.all c.tail
    → Line (line (number calls= c.all ∷ number tail= c.tail ∷ number percent= p ∷ [])) d r → Summed F d r
unfolding summary_text
summed F c {d} {r} {p} k q v = record {
  is = λ l e.
      let s : p ≡ percent (count is_call_site l) (count is_tail_row l) =
      q ∙ ap (λ (n : ℕ). percent n c.tail) (k.all l e) ∙ ap (percent (count is_call_site l)) (k.tail l e) in
      let t =
      ap (λ (n : ℕ). line (number calls= n ∷ number tail= c.tail ∷ number percent= p ∷ [])) (k.all l e)
      ∙ ap (λ (n : ℕ). line (number calls= (count is_call_site l) ∷ number tail= n ∷ number percent= p ∷ [])) (k.tail l e)
      ∙ ap (λ (n : ℕ). line (number calls= (count is_call_site l) ∷ number tail= (count is_tail_row l) ∷ number percent= n ∷ [])) s in
      v.text ∙ t;
  short = v.short;
}
