-- What the facts of a fresh run say of a tree without inner define, place by place, in R7RS's terms: the bridge between the pass and all that
-- is read off its facts. `Rec Γ d h t e`: the rows T are those of the expression e in the scope Γ, at depth d and height h, in tail
-- position of a lambda if t.
use Rattle.std.specs.Prelude.{ℕ, suc, ◌+◌, ◌≤◌, ◌<◌, ◌≡◌, List, [], ◌∷◌, Bool, true, false, cond, length, get_or, eqb, Option, None, Some}
use Rattle.tree.specs.Tree.{Ident, Node, Tree, Trees, ident, const, if, letin, define, lambda, sequence, call, set!, nil, cons, many, begins, ands, whens}
use Rattle.tree.specs.Site.{let_layer}
use Rattle.semantic.specs.Kinds.{is_tail_row}
use Rattle.semantic.specs.Rows.{Row, Blank, Variable, Function}
use Rattle.semantic.specs.declared.IdentifierStatus.{IdentifierStatus}
use Rattle.semantic.specs.declared.IdentifierStatus.TheVariants.{Global, Local, LocallyDefinedFunction, LetVar, Captured, Free, HeapAllocated}
use Rattle.semantic.specs.declared.SemanticInformation.{SemanticInformation}

-- The scope: the parameters and let names in scope, newest first, with the depth of their layer and their slot

pub record Bound : Type 0 where
  pub binder : Ident
  pub depth : ℕ
  pub slot : ℕ

abbrev pub Ctx : Type 0
Ctx = List Bound

abbrev pub lookup : Ctx → ℕ → Option Bound
lookup [] x = None
lookup (e ∷ Γ) x = cond (eqb e.binder.name x) (Some e) (lookup Γ x)

-- names in order, the first at the slot s
abbrev pub enter_all : List Ident → ℕ → ℕ → Ctx → Ctx
enter_all [] d s Γ = Γ
enter_all (x ∷ xs) d s Γ = enter_all xs d (suc s) (record { binder = x; depth = d; slot = s } ∷ Γ)

-- Kinds: a cell; a name of the body itself; a name of a body around it

abbrev pub is_cell : IdentifierStatus → Bool
is_cell Global = true
is_cell Local = false
is_cell LocallyDefinedFunction = false
is_cell LetVar = false
is_cell Captured = false
is_cell Free = true
is_cell HeapAllocated = false

abbrev pub is_own : IdentifierStatus → Bool
is_own Global = false
is_own Local = true
is_own LocallyDefinedFunction = false
is_own LetVar = false
is_own Captured = false
is_own Free = false
is_own HeapAllocated = true

-- What is presumed of a binder where a lambda inside reads it, where its own body sets it, and where a lambda inside sets it
pub record Presumption : Type 1 where
  pub ReadInside : Ident → Type 0
  pub SetOwn : Ident → Type 0
  pub SetInside : Ident → Type 0

-- a fact made at depth d that refers to a bound name, with its slot
pub record Refers (d : ℕ) (v : SemanticInformation) (e : Bound) : Type 0 where
  pub depth : v.depth ≡ d
  pub refers : v.refers_to ≡ e.binder.id
  pub slot : v.stack_offset ≡ e.slot

module _ (T : List Row) where
  abbrev pub row : ℕ → Row
  row i = get_or T i Blank

  -- the binder's row tells its depth
  pub record DepthAt (x : Ident) (d : ℕ) : Type 0 where
    pub fact : SemanticInformation
    pub is : row x.at ≡ Variable fact
    pub depth : fact.depth ≡ d

  pub data Noted (d : ℕ) : List Ident → Type 0 where
    noted-nil : Noted d []
    noted-cons : {x : Ident} {xs : List Ident} → DepthAt x d → Noted d xs → Noted d (x ∷ xs)

  module _ (P : Presumption) where
    -- the fact of an identifier that is read at depth d, by what its name finds in the scope
    pub data Ref (d : ℕ) (v : SemanticInformation) : Option Bound → Type 0 where
      ref-cell : is_cell v.kind ≡ true → Ref d v None
      ref-own : {e : Bound} → is_own v.kind ≡ true → Refers d v e → e.depth ≡ d → Ref d v (Some e)
      ref_outer : {e : Bound} → v.kind ≡ Captured → Refers d v e → 2 ≤ e.depth → e.depth < d → P.ReadInside e.binder → Ref d v (Some e)

    -- of a set! target
    pub data Aim (d : ℕ) (v : SemanticInformation) : Option Bound → Type 0 where
      aim_cell : is_cell v.kind ≡ true → Aim d v None
      aim_own : {e : Bound} → is_own v.kind ≡ true → Refers d v e → e.depth ≡ d → P.SetOwn e.binder → Aim d v (Some e)
      aim_outer : {e : Bound} → v.kind ≡ Captured → Refers d v e → 2 ≤ e.depth → e.depth < d → P.SetInside e.binder → Aim d v (Some e)

    mutual
      pub data Rec : Ctx → ℕ → ℕ → Bool → Tree → Type 0 where
        r_ident : {Γ : Ctx} {d h : ℕ} {t : Bool} {x : Ident} {v : SemanticInformation}
            → row x.at ≡ Variable v → Ref d v (lookup Γ x.name) → Rec Γ d h t (ident x)
        r_const : {Γ : Ctx} {d h : ℕ} {t : Bool} {n : Node} {q : Bool} → Rec Γ d h t (const n q)
        r_if : {Γ : Ctx} {d h : ℕ} {t : Bool} {n : Node} {a b c : Tree}
            → Rec Γ d h false a → Rec Γ d h t b → Rec Γ d h t c → Rec Γ d h t (if n a b c)
        r_let : {Γ : Ctx} {d h : ℕ} {t : Bool} {n : Node} {xs : List Ident} {es : Trees} {b : Tree}
            → Args Γ d h es → many es ≡ length xs → Noted (let_layer d) xs
            → Rec (enter_all xs (let_layer d) h Γ) (let_layer d) (h + length xs) t b → Rec Γ d h t (letin n xs es b)
        r_define : {Γ : Ctx} {d h : ℕ} {t : Bool} {n : Node} {x : Ident} {b : Tree} → Rec Γ d h false b → Rec Γ d h t (define n x b)
        r_lambda : {Γ : Ctx} {d h : ℕ} {t : Bool} {n : Node} {xs : List Ident} {b : Tree} {v : _}
            → row n.at ≡ Function v → v.depth ≡ d → Noted (suc d) xs
            → Rec (enter_all xs (suc d) 0 Γ) (suc d) (length xs) true b → Rec Γ d h t (lambda n xs b)
        r_begin : {Γ : Ctx} {d h : ℕ} {t : Bool} {n : Node} {es : Trees} → Seq Γ d h t es → Rec Γ d h t (sequence (begins n) es)
        r_and : {Γ : Ctx} {d h : ℕ} {t : Bool} {n : Node} {es : Trees} → Seq Γ d h t es → Rec Γ d h t (sequence (ands n) es)
        r_no_test : {Γ : Ctx} {d h : ℕ} {t q : Bool} {n : Node} → Rec Γ d h t (sequence (whens q n) nil)
        r_when : {Γ : Ctx} {d h : ℕ} {t q : Bool} {n : Node} {e : Tree} {es : Trees}
            → Rec Γ d h false e → Seq Γ d h t es → Rec Γ d h t (sequence (whens q n) (cons e es))
        r_call : {Γ : Ctx} {d h : ℕ} {t : Bool} {n : Node} {f : Tree} {es : Trees}
            → Args Γ d h es → Rec Γ d (h + many es) false f → (is_tail_row (row n.at) ≡ true → t ≡ true) → Rec Γ d h t (call n f es)
        r_set : {Γ : Ctx} {d h : ℕ} {t : Bool} {n : Node} {x : Ident} {e : Tree} {v : SemanticInformation}
            → Rec Γ d h false e → row x.at ≡ Variable v → Aim d v (lookup Γ x.name) → Rec Γ d h t (set! n x e)

      -- arguments or initial expressions, the first at height h
      pub data Args : Ctx → ℕ → ℕ → Trees → Type 0 where
        a_nil : {Γ : Ctx} {d h : ℕ} → Args Γ d h nil
        a_cons : {Γ : Ctx} {d h : ℕ} {e : Tree} {es : Trees} → Rec Γ d h false e → Args Γ d (suc h) es → Args Γ d h (cons e es)

      -- a begin's children
      pub data Seq : Ctx → ℕ → ℕ → Bool → Trees → Type 0 where
        s_nil : {Γ : Ctx} {d h : ℕ} {t : Bool} → Seq Γ d h t nil
        s_one : {Γ : Ctx} {d h : ℕ} {t : Bool} {e : Tree} → Rec Γ d h t e → Seq Γ d h t (cons e nil)
        s_more : {Γ : Ctx} {d h : ℕ} {t : Bool} {e u : Tree} {us : Trees} → Rec Γ d h false e → Seq Γ d h t (cons u us) → Seq Γ d h t (cons e (cons u us))

    -- the top-level expressions
    pub data Top : Trees → Type 0 where
      top-nil : Top nil
      top-cons : {e : Tree} {es : Trees} → Rec [] 1 0 false e → Top es → Top (cons e es)
