-- What is known of the identifiers of a state, and the bounds that follow. No place of the code stands here.
use Rattle.std.specs.Prelude.{Option, None, Some}
use Prim.Native.Nat.{ℕ, ◌+◌, ◌*◌, ◌≤◌, ◌<◌}
use mathlib.Core.List.{List, [], ◌∷◌}
use mathlib.Core.Bool.{Bool, true, false, cond}
use mathlib.Core.Path.{◌≡◌, refl, ap, sym, subst}
use native.Mathlib.Omega.{arith}
use lib.ListN.{length}
use lib.Dec.{eqb}
use Rattle.std.proofs.lemmas.Option.{none-some}
use Rattle.tree.specs.Tree.{Ident}
use Rattle.tree.specs.Accepted.{All}
use Rattle.scope_map.specs.ScopeMap.{Live, get_in}
use Rattle.semantic.specs.Rows.{Row, Variable, row_width}
use Rattle.semantic.specs.Leaves.{UsesFit}
use Rattle.semantic.specs.Laws.Leaves.{row_inside, uses-fit}
use Rattle.semantic.specs.declared.SemanticInformation.{SemanticInformation}
use Rattle.pass.specs.State.{State, row_at, newest}
use Rattle.pass.specs.Run.{rows_most}
use Rattle.pass_laws.specs.Sound.{uses_in}
use Rattle.work.specs.Coded.{record_in}
use Rattle.work.specs.Entries.{used_more}
use Rattle.work.specs.Works.{Works, work_long}
use Rattle.work.specs.Laws.Scope.{newest-known}
use Rattle.work.specs.Leaves.{Tells, LoadsEntry}
use Rattle.work.specs.Tied.{raw, Tied, Good, row_count}
use Rattle.pass_laws.specs.Visitable.{uses_most}
use Rattle.work.specs.declared.Pass.{Pass}
use Rattle.work.specs.declared.entries.Entry.{Entry as Coded}
use Rattle.names.specs.Steps.{Bound}
use Rattle.names.specs.Laws.Idents.{known_few}

-- What holds of every live name holds of one that is found

pub found_has : {A : Type 0} (P : Live A → Type 0) (l : List (Live A)) (x : ℕ) {e : Live A} → All P l → get_in l x ≡ Some e → P e
unfolding get_in
found_has P [] x h q = absurd (none-some _ q)
found_has P (d ∷ l) x {e} h q = pick (eqb d.name x) (λ r. found_has P l x h.1 r) q
  where
    pick : (b : Bool) → (get_in l x ≡ Some e → P e) → cond b (Some d) (get_in l x) ≡ Some e → P e
    pick true f r = let g : d ≡ e = cc in subst P g h.0
    pick false f r = f r

pub found_none : (o : Option Ident) → None ≡ record_in o → o ≡ None
found_none None e = refl
found_none (Some y) e = absurd (none-some _ e)

-- Bounds

-- what the code asks of the record b: its row and its entry lie in their tables, and one use more can be counted
pub record Bounds (F w : List ℕ) (b : ℕ) : Type 0 where
  pub long : length w ≡ work_long
  pub few : b < rows_most
  pub row : row_width * b + row_width ≤ length F
  pub fits : UsesFit F b

module _ {rs : List ℕ} {s : State} (g : Good rs s) where
  row-uses : (b : ℕ) (v : SemanticInformation) → row_at s b ≡ Variable v → v.usage_count ≤ uses_most
  row-uses b v e = subst (λ (r : Row). uses_in r ≤ uses_most) e (g.counted.row_uses b)

  pub bounds : {p : Pass} {F C A w : List ℕ} {b : ℕ} → Tied (raw p F C A w) s → b < rows_most → Bounds F w b
  bounds {b = b} t h =
      let i : b < row_count s = omega (arith, g.rows) in
      record {
        long = t.works.long;
        few = h;
        row = row_inside s.facts.rows t.facts i;
        fits = uses-fit s.facts.rows t.facts i (λ v e. omega (arith, row-uses b v e));
      }

  pub entry-uses : {p : Pass} {w : List ℕ} {b : ℕ} {e : Coded} → Works p w s → LoadsEntry w b e → e.uses ≤ uses_most
  entry-uses {p} {b = b} k l = subst (λ (n : ℕ). n ≤ uses_most) (sym (ap (λ (u : Coded). u.uses) (l.is p s k))) (g.counted.entry_uses b)

  -- the record of a name's newest binder
  module _ (name : ℕ) {p : Pass} {w : List ℕ} {b : ℕ} where
    pub newest_few : Works p w s → Tells p w (λ s. record_in (newest s name)) (Some b) → b < rows_most
    newest_few k o = let z = newest-known rs s name b g.sound.binders (o.is s k) in known_few z.known z.at

    pub newest_bounds : {F C A : List ℕ} → Tied (raw p F C A w) s → Tells p w (λ s. record_in (newest s name)) (Some b) → Bounds F w b
    newest_bounds t o = bounds t (newest_few t.works o)

-- of the binder at b, and of the record at hand
module _ {rs : List ℕ} {at b : ℕ} {F w : List ℕ} (k : Bound rs at b F w) where
  pub binder_bounds : Bounds F w b
  binder_bounds = bounds k.here.good k.here.tied (known_few k.known k.bound)

  pub here_bounds : Bounds F w at
  here_bounds = bounds k.here.good k.here.tied (known_few k.here.known k.here.place)

  pub binder_uses : {e : Coded} → LoadsEntry w b e → e.uses ≤ uses_most
  binder_uses l = entry-uses k.here.good k.here.tied.works l

-- its row lies in a table as long
pub row_still : {F w : List ℕ} {b n : ℕ} → Bounds F w b → n ≡ length F → row_width * b + row_width ≤ n
row_still k e = omega (arith, k.row, e)

-- the uses of an entry that is another, and of one that is used once more
pub uses_are : {e f : Coded} → f ≡ e → f.uses ≡ e.uses
uses_are q = ap (λ (c : Coded). c.uses) q

pub used-fits : {e f : Coded} → f ≡ used_more e → e.uses ≤ uses_most → f.uses < 536870912
used-fits q h = omega (arith, uses_are q)

-- what a lookup tells, by the answer that it gave
module _ {p : Pass} {w : List ℕ} {f : State → Option ℕ} {r : Option ℕ} (t : Tells p w f r) where
  pub told_at : {b : ℕ} → r ≡ Some b → Tells p w f (Some b)
  told_at e = subst (Tells p w f) e t

  pub told_none : r ≡ None → Tells p w f None
  told_none e = subst (Tells p w f) e t
