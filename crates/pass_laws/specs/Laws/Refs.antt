-- From what the rows say, event by event, to the static meaning of references.
use Rattle.std.specs.Prelude.{ℕ, suc, ◌+◌, Bool, true, false, cond, ◌&&◌, ◌||◌, ◌≡◌, refl, get_or, eqb, Option, None, Some}
use mathlib.Core.List.{List, [], ◌∷◌, reverse_aux}
use Rattle.std.proofs.Common.{ap, sym, ◌∙◌, arith}
use Rattle.tree.specs.Tree.{Ident}
use Rattle.semantic.specs.Rows.{Row, Blank, Variable}
use Rattle.semantic.specs.declared.IdentifierStatus.{IdentifierStatus}
use Rattle.semantic.specs.declared.IdentifierStatus.TheVariants.{Global, Local, Captured, Free, HeapAllocated}
use Rattle.semantic.specs.declared.SemanticInformation.{SemanticInformation}
use Rattle.r7rs.specs.Binding.{Binder, Place, Mention, Use, binders, entering, is_inner}
use Rattle.r7rs.specs.Binding as r7rs
use Rattle.pass.specs.Read.{is_prelude}
use Rattle.pass_laws.specs.Static.{Bound, Ctx, lookup, enter_all, is_cell, is_own, Presumption, Refers, Noted, noted-nil, noted-cons, Ref, ref-cell, ref-own, ref_outer, Aim, aim_cell, aim_own, aim_outer}
use Rattle.pass_laws.specs.Laws.Says.{Tells, kind_of, SaysCell, SaysOf, Says, Presumed, used_inside, is_set_in}
use Rattle.pass_laws.specs.Laws.Finds.{Around, Of, of_none, of_some}
use Rattle.pass_laws.specs.Laws.Reads.{read_at}
use Rattle.pass_laws.specs.Laws.Sets.{set_at}

-- The scope of the static meaning is R7RS's

abbrev pub bound_of : Binder → Bound
bound_of b = record { binder = b.ident; depth = b.home.layer; slot = b.home.slot }

abbrev pub ctx_of : List Binder → Ctx
ctx_of [] = []
ctx_of (b ∷ sc) = bound_of b ∷ ctx_of sc

abbrev pub bound_in : Option Binder → Option Bound
bound_in None = None
bound_in (Some b) = Some (bound_of b)

pub find_ctx : (sc : List Binder) (x : ℕ) → bound_in (r7rs.find sc x) ≡ lookup (ctx_of sc) x
find_ctx [] x = refl
find_ctx (b ∷ sc) x = go (eqb b.ident.name x) (find_ctx sc x)
  where
    go : (q : Bool) → bound_in (r7rs.find sc x) ≡ lookup (ctx_of sc) x → bound_in (cond q (Some b) (r7rs.find sc x)) ≡ cond q (Some (bound_of b)) (lookup (ctx_of sc) x)
    go true e = refl
    go false e = e

-- names that enter from the slot s on
pub enter_ctx : (is_let : Bool) (base : ℕ) (p : Place) (j : ℕ) (xs : List Ident) (s : ℕ) → s ≡ base + j → (sc : List Binder)
    → ctx_of (reverse_aux (binders is_let base p j xs) sc) ≡ enter_all xs p.site.layer s (ctx_of sc)
unfolding binders
enter_ctx is_let base p j [] s e sc = refl
enter_ctx is_let base p j (x ∷ xs) s e sc =
    enter_ctx is_let base p (suc j) xs (suc s) (omega arith) _ ∙ ap (λ (k : ℕ). enter_all xs p.site.layer (suc s) (record { binder = x; depth = p.site.layer; slot = k } ∷ ctx_of sc)) (sym e)

-- References

-- a row that says this is a fact with that meaning
pub record Fact (T : List Row) (i : ℕ) (R : SemanticInformation → Type 0) : Type 0 where
  pub fact : SemanticInformation
  pub is : get_or T i Blank ≡ Variable fact
  pub means : R fact

cell_kind : (q : Bool) → is_cell (cond q Global Free) ≡ true
cell_kind true = refl
cell_kind false = refl

own_kind : (before : List Use) (m : Mention) (b : Binder) → is_inner m b ≡ false → is_own (kind_of before m b) ≡ true
own_kind before m b i = rw i (go (used_inside b.ident.at before && (m.is_set || is_set_in b.ident.at before)))
  where
    go : (q : Bool) → is_own (cond q HeapAllocated Local) ≡ true
    go true = refl
    go false = refl

outer_kind : (before : List Use) (m : Mention) (b : Binder) → is_inner m b ≡ true → kind_of before m b ≡ Captured
outer_kind before m b i = rw i

refers : {T : List Row} {i d : ℕ} {k : IdentifierStatus} (b : Binder) (t : Tells T i k b.ident.id d b.home.slot) → Refers d t.fact (bound_of b)
refers b t = record { depth = t.depth; refers = t.refers; slot = t.slot }

module _ (classes : List ℕ) (T : List Row) (cell : Ident → Option Ident) where
  cell_fact : (x : Ident) (layer : ℕ) (o : Option Ident) → SaysCell classes T cell x layer o → Fact T x.at (λ v. is_cell v.kind ≡ true)
  cell_fact x layer None t = record { fact = t.fact; is = t.is; means = ap is_cell t.kind ∙ cell_kind (is_prelude classes x.name) }
  cell_fact x layer (Some d) t = record { fact = t.fact; is = t.is; means = ap is_cell t.kind }

  module _ (P : Presumption) (before : List Use) (x : Ident) (p : Place) where
    ref-bound : (b : Binder) → SaysOf classes T cell before (read_at x p) (Some b) → Around p.site.layer p.around b → Presumed P (read_at x p) (Some b)
        → Fact T x.at (λ v. Ref T P p.site.layer v (Some (bound_of b)))
    ref-bound b t a u = record { fact = t.fact; is = t.is; means = go (is_inner (read_at x p) b) refl }
      where
        go : (i : Bool) → is_inner (read_at x p) b ≡ i → Ref T P p.site.layer t.fact (Some (bound_of b))
        go true i = ref_outer (t.kind ∙ outer_kind before (read_at x p) b i) (refers b t) a.above (a.outer i) (u.ReadInside refl i)
        go false i = ref-own (ap is_own t.kind ∙ own_kind before (read_at x p) b i) (refers b t) (a.own i)

    pub ref_of : {o : Option Binder} → SaysOf classes T cell before (read_at x p) o → Of (Around p.site.layer p.around) o → Presumed P (read_at x p) o
        → Fact T x.at (λ v. Ref T P p.site.layer v (bound_in o))
    ref_of t of_none u =
        let c = cell_fact x p.site.layer (cell x) t in
        record { fact = c.fact; is = c.is; means = ref-cell c.means }
    ref_of t (of_some {b} a) u = ref-bound b t a u

    aim_bound : (b : Binder) → SaysOf classes T cell before (set_at x p) (Some b) → Around p.site.layer p.around b → Presumed P (set_at x p) (Some b)
        → Fact T x.at (λ v. Aim T P p.site.layer v (Some (bound_of b)))
    aim_bound b t a u = record { fact = t.fact; is = t.is; means = go (is_inner (set_at x p) b) refl }
      where
        go : (i : Bool) → is_inner (set_at x p) b ≡ i → Aim T P p.site.layer t.fact (Some (bound_of b))
        go true i = aim_outer (t.kind ∙ outer_kind before (set_at x p) b i) (refers b t) a.above (a.outer i) (u.SetInside refl i)
        go false i = aim_own (ap is_own t.kind ∙ own_kind before (set_at x p) b i) (refers b t) (a.own i) (u.SetOwn refl i)

    pub aim_of : {o : Option Binder} → SaysOf classes T cell before (set_at x p) o → Of (Around p.site.layer p.around) o → Presumed P (set_at x p) o
        → Fact T x.at (λ v. Aim T P p.site.layer v (bound_in o))
    aim_of t of_none u =
        let c = cell_fact x p.site.layer (cell x) t in
        record { fact = c.fact; is = c.is; means = aim_cell c.means }
    aim_of t (of_some {b} a) u = aim_bound b t a u

-- the rows of names tell their depth
pub noted_of : (classes : List ℕ) (T : List Row) (cell : Ident → Option Ident) (before : List Use) (is_let : Bool) (base : ℕ) (p : Place) (j : ℕ) (xs : List Ident) (sc : List Binder)
    → Says classes T cell before (entering (binders is_let base p j xs) sc) → Noted T p.site.layer xs
unfolding binders entering
noted_of classes T cell before is_let base p j [] sc t = noted-nil
noted_of classes T cell before is_let base p j (x ∷ xs) sc t =
    noted-cons (record { fact = t.0.fact; is = t.0.is; depth = t.0.depth }) (noted_of classes T cell before is_let base p (suc j) xs _ t.1)
