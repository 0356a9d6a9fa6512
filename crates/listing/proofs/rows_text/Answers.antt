-- `rows_text`: after i rows the buffer starts with their text.
use Prim.Native.Nat.{ℕ, ◌≤◌}
use mathlib.Core.List.{List, ◌++◌}
use mathlib.Core.Path.{◌≡◌, refl, ap, sym, ◌∙◌}
use native.Mathlib.Omega.{arith}
use lib.ListN.{length, get_or, take}
use Rattle.semantic.specs.Rows.{Blank}
use Rattle.printing.specs.Text.{row_text, rows_text}
use Rattle.listing.proofs.Rows.{rows_more, rows_in}
use Rattle.listing.proofs.rows_text.Goals as goal

pub loop-i-init : goal.loop-i-init
unfolding rows_text
loop-i-init c = record { short = omega arith; long = refl; text = λ l e. refl }

pub loop-i-preserved : goal.loop-i-preserved
loop-i-preserved c =
    let v = c.loop-i in
    let w = c.row_after-end in
    record {
      short = omega (arith, w.ensures.short);
      long = w.auto.out ∙ v.invariant.long;
      text = λ l e.
          let g : c.args.rows ≤ length l = rows_in c.args.facts.now l c.args.rows e c.requires.0 in
          w.ensures.is l e (omega arith)
          ∙ ap (λ (t : List ℕ). t ++ row_text v.i (get_or l v.i Blank)) (v.invariant.text l e)
          ∙ sym (rows_more l v.i (omega arith));
    }

pub returns : goal.returns
returns c =
    let v = c.loop-i in
    let k : v.i ≡ c.args.rows = omega arith in
    record { is = λ l e. v.invariant.text l e ∙ ap (λ (n : ℕ). rows_text 0 (take n l)) k; short = omega arith }
