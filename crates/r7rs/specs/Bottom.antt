-- Which define a name refers to that no parameter or let name binds: its entry in the bottom layer, where no define is inner.
-- Document 01, "Rules of the pass": top-level lambda defines enter before anything is visited, other top-level defines before their body.
use Rattle.std.specs.Prelude.{ℕ, List, [], ◌∷◌, ◌++◌, Bool, cond, not, ◌&&◌, eqb, ltb, Option, None, Some}
use Rattle.tree.specs.Tree.{Ident, Tree, Trees, ident, const, if, letin, define, lambda, sequence, call, set!, nil, cons}
use Rattle.tree.specs.Core.{is_lambda}
use Rattle.tree.specs.Define.{top_level}

-- a define at top level: its record, its name, and whether its body is a lambda
pub record Define : Type 0 where
  pub at : ℕ
  pub name : Ident
  pub is_lambda : Bool

abbrev pub define_of : Tree → List Define
define_of (ident x) = []
define_of (const n q) = []
define_of (if n a b c) = []
define_of (letin n xs es b) = []
define_of (define n x b) = record { at = n.at; name = x; is_lambda = is_lambda b } ∷ []
define_of (lambda n xs b) = []
define_of (sequence n es) = []
define_of (call n h es) = []
define_of (set! n x e) = []

unfoldable pub defines_of : Trees → List Define
defines_of nil = []
defines_of (cons t ts) = define_of t ++ defines_of ts

-- the name of the last define that passes a test, else the one given
unfoldable pub last_or : Option Ident → (Define → Bool) → List Define → Option Ident
last_or o p [] = o
last_or o p (d ∷ l) = last_or (cond (p d) (Some d.name) o) p l

-- a lambda define of the name x
abbrev pub is_lambda_of : ℕ → Define → Bool
is_lambda_of x d = d.is_lambda && eqb d.name.name x

-- a value define of the name x that stands before the record i; it stands before its own body
abbrev pub is_value_of : ℕ → ℕ → Define → Bool
is_value_of x i d = not d.is_lambda && (eqb d.name.name x && ltb d.at i)

-- the bottom entry of the name x at the record i: the last value define of x before i, else the last lambda define of x in the script
unfoldable pub bottom_entry : Trees → ℕ → ℕ → Option Ident
bottom_entry ts x i =
    let ds = defines_of (top_level ts) in
    last_or (last_or None (is_lambda_of x) ds) (is_value_of x i) ds
