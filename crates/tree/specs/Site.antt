-- Where document 01 puts expressions and names: layers, heights and slots ("Rules of the pass"). R7RS has none of them.
use Rattle.std.specs.Prelude.{ℕ, suc, ◌+◌, List, [], ◌∷◌, ◌++◌, cond, eqb}
use Rattle.tree.specs.Tree.{Tree, Trees, ident, const, if, letin, define, lambda, sequence, call, set!, nil, cons}

-- of an expression
pub record Site : Type 0 where
  pub layer : ℕ  -- 1 at top level, 2 in the body of a let outside every lambda, and one more for each lambda
  pub height : ℕ  -- how many values its body has in the frame: parameters, let names, arguments and initial values

-- "The height starts at 0 for each top-level expression and at the parameter count for a lambda body. It grows by one per argument or initial
-- expression done and is rolled back."
abbrev pub top_site : Site
top_site = record { layer = 1; height = 0 }

abbrev pub raised_site : ℕ → Site → Site
raised_site k s = record { layer = s.layer; height = s.height + k }

-- "A lambda opens a layer. A let opens one only at depth 1": the layer of the body of a let at the layer d
abbrev pub let_layer : ℕ → ℕ
let_layer d = cond (eqb d 1) 2 d

-- the body of a lambda with k parameters, and of a let with k names
abbrev pub lambda_site : ℕ → Site → Site
lambda_site k s = record { layer = suc s.layer; height = k }

abbrev pub let_site : ℕ → Site → Site
let_site k s = record { layer = let_layer s.layer; height = s.height + k }

-- of a parameter or let name
pub record Home : Type 0 where
  pub slot : ℕ  -- a parameter's place; a let name's is the height before that let, plus its place
  pub layer : ℕ  -- the layer of the body that it is bound in

-- of a name with the slot i, bound in a body at the site s
abbrev pub home_at : Site → ℕ → Home
home_at s i = record { slot = i; layer = s.layer }

-- The lambdas of an expression that stands at the layer d: the record of each, and the layer that it is made at
unfoldable mutual
  pub lambdas : Tree → ℕ → List (ℕ × ℕ)
  lambdas (ident x) d = []
  lambdas (const n q) d = []
  lambdas (if n a b c) d = lambdas a d ++ (lambdas b d ++ lambdas c d)
  lambdas (letin n xs es b) d = lambdas_in es d ++ lambdas b (let_layer d)
  lambdas (define n x b) d = lambdas b d
  lambdas (lambda n xs b) d = (n.at, d) ∷ lambdas b (suc d)
  lambdas (sequence n es) d = lambdas_in es d
  lambdas (call n h es) d = lambdas h d ++ lambdas_in es d
  lambdas (set! n x e) d = lambdas e d

  pub lambdas_in : Trees → ℕ → List (ℕ × ℕ)
  lambdas_in nil d = []
  lambdas_in (cons e es) d = lambdas e d ++ lambdas_in es d
