-- Checks 3 to 7 and 16 in one pass: none of them applies so far.
use Prim.Native.Nat.{ℕ, ◌+◌, ◌-◌, ◌*◌, ◌%◌, ◌≤◌, ◌<◌}
use mathlib.Core.List.{List}
use mathlib.Core.Bool.{not, cond}
use mathlib.Core.Path.{◌≡◌, ap, sym}
use native.Mathlib.Omega.{arith}
use native.Mathlib.Decide.{dec_lt}
use borrow.Author.Tests.{not-false}
use lib.Dec.{eqb}
use lib.ListN.{length, set, replicate}
use Rattle.tree.specs.Record.{Record, records, nth}
use Rattle.tree.specs.Form.{names_of, children_of}
use Rattle.tree.proofs.Laws.Acceptance.Walk.{empty_call}
use Rattle.checks.specs.declared.sweep.Innermost.{Innermost}
use Rattle.checks.specs.Private.Held.{Steps}
use Rattle.tree.specs.Check.{check3, check7, check16, untested}
use Rattle.scans.specs.Sound.{Sound}
use Rattle.checks.specs.Private.Clear.{Clear}
use Rattle.tree.proofs.Laws.Form.{fit-names}
use Rattle.scans.proofs.Search.{outside, At, begin, next, fails, end}
use Rattle.scans.proofs.Naming.{Naming, no_children, naming_begin, naming-next, none-due, none_misnamed}
use Rattle.checks.proofs.Standing.{Standing, stand_begin, stand_next, stand_near, stand_shallow, stand_none, stand_whole}

-- a name that is due has no names, so no more are due than a record brings
few_after : (N : ℕ) (r : Record) (due : ℕ) → Sound N r due → due ≤ 255 → Dec (0 < due) → due - 1 + names_of r.form r.count ≤ 255
few_after N r due u h (yes z) = omega (arith, no_children r (u.named z))
few_after N r due u h (no z) = omega (arith, fit-names N r u.fit)

-- the loop has come to record i
pub record Sweeping (N : ℕ) (rs tops kept : List ℕ) (inner : Innermost) (due top i : ℕ) : Type 0 where
  pub fields : At (outside N) rs i
  pub calls : At empty_call rs i
  pub tests : At untested rs i
  pub names : Naming rs i due
  pub few : due ≤ 255
  pub places : Standing rs tops kept inner top i

pub sweep_begin : (N : ℕ) (rs tops : List ℕ) → length (records rs) ≤ 4096 → length (records rs) < length tops → {n : ℕ} → n ≡ length (records rs) → Sweeping N rs tops (replicate 65 0) (record { word = 128 * (n + 1); under = 0 }) 0 0 0
sweep_begin N rs tops h g e =
    record { fields = begin (outside N) rs; calls = begin empty_call rs; tests = begin untested rs; names = naming_begin rs; few = omega arith; places = stand_begin rs tops h g e }

module _ {N : ℕ} {rs tops kept : List ℕ} {b : Innermost} {due top i : ℕ} (a : Sweeping N rs tops kept b due top i) where
  module _ (h : i < length (records rs)) (u : Sound N (nth rs i) due) {due' : ℕ} (ed : due' ≡ due - 1 + names_of (nth rs i).form (nth rs i).count) where
    pub sweep_next : {children : ℕ} {kept' : List ℕ} {d : Innermost} → b.word % 128 < 64 → Steps kept b children kept' d → children ≡ children_of (nth rs i).form (nth rs i).count
        → Sweeping N rs (set tops top i) kept' d due' (top + cond (eqb (b.word % 128) 0) 1 0) (i + 1)
    sweep_next small t ec = record {
      fields = next (outside N) rs a.fields h (ap not u.fit);
      calls = next empty_call rs a.calls h u.called;
      tests = next untested rs a.tests h u.tested;
      names = naming-next a.names h due' u.named ed;
      few = omega (arith, ed, few_after N (nth rs i) due u a.few (dec_lt 0 due));
      places = stand_next a.places h small t ec;
    }

  pub sweep_end : length (records rs) ≤ i → b.word % 128 ≡ 0 → Clear N rs
  unfolding check3 check7 check16
  sweep_end h z = record {
    fields = sym (end (outside N) rs a.fields h);
    children = stand_whole a.places h N z;
    nesting = stand_shallow a.places h N;
    names = sym (none_misnamed a.names h N);
    calls = sym (end empty_call rs a.calls h);
    tests = sym (end untested rs a.tests h);
  }

  -- where none of them applies at all, the loop goes on to the end, and none is open there
  module _ (k : Clear N rs) where
    pub clear_sound : i < length (records rs) → Sound N (nth rs i) due
    unfolding check3 check7 check16
    clear_sound h = record {
      fit = not-false _ (fails (outside N) rs a.fields h k.fields);
      called = fails empty_call rs a.calls h k.calls;
      tested = fails untested rs a.tests h k.tests;
      named = λ z. none-due a.names h z N k.names;
    }

    pub clear_near : i < length (records rs) → b.word % 128 < 64
    clear_near h = stand_near a.places h N k.nesting

    pub clear_none : length (records rs) ≤ i → b.word % 128 ≡ 0
    clear_none h = stand_none a.places h N k.children
