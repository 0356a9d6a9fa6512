-- Which parameter or let name each identifier means, by structure alone. R7RS 4.1.4 and 4.2.2. What places and names have by document 01
-- (tree/specs/Site.antt) is carried along and decides nothing here.
use Rattle.std.specs.Prelude.{ℕ, suc, ◌+◌, Bool, true, false, cond, ◌≡◌, length, eqb, ltb, Option, None, Some}
use mathlib.Core.List.{List, [], ◌∷◌, ◌++◌, reverse_aux}
use mathlib.Core.List.{Memᴰ as Member}
use Rattle.tree.specs.Tree.{Node, Ident, Tree, Trees, ident, const, if, letin, define, lambda, sequence, call, set!, nil, cons, many}
use Rattle.tree.specs.Site.{Site, Home, top_site, raised_site, lambda_site, let_site, home_at}

-- a parameter or let name
pub record Binder : Type 0 where
  pub ident : Ident
  pub is_let : Bool
  pub place : ℕ  -- among the names of its lambda or let, from 0
  pub around : List ℕ  -- the lambdas around the body it is bound in, innermost first: the first is the one that binds it, none is a top-level expression
  pub home : Home

-- where an expression stands
pub record Place : Type 0 where
  pub scope : List Binder  -- the names in scope, innermost first
  pub around : List ℕ  -- the records of the lambdas around it, innermost first
  pub site : Site

-- an identifier that is read or set
pub record Mention : Type 0 where
  pub ident : Ident
  pub is_set : Bool
  pub place : Place

abbrev pub top : Place
top = record { scope = []; around = []; site = top_site }

-- after k arguments or initial expressions
abbrev pub raised : ℕ → Place → Place
raised k p = record { scope = p.scope; around = p.around; site = raised_site k p.site }

-- the body of a lambda with k parameters, and of a let with k names, without its names
abbrev pub lambda_body : Node → ℕ → Place → Place
lambda_body n k p = record { scope = p.scope; around = n.at ∷ p.around; site = lambda_site k p.site }

abbrev pub let_body : ℕ → Place → Place
let_body k p = record { scope = p.scope; around = p.around; site = let_site k p.site }

-- the names that a body at p binds, from the place j on; s is the slot of the first
unfoldable pub binders : Bool → ℕ → Place → ℕ → List Ident → List Binder
binders l s p j [] = []
binders l s p j (x ∷ xs) =
    record { ident = x; is_let = l; place = j; around = p.around; home = home_at p.site (s + j) } ∷ binders l s p (suc j) xs

abbrev pub parameters : Node → List Ident → Place → List Binder
parameters n xs p = binders false 0 (lambda_body n (length xs) p) 0 xs

abbrev pub let_names : List Ident → Place → List Binder
let_names xs p = binders true p.site.height (let_body (length xs) p) 0 xs

-- they are in scope
abbrev pub within : List Binder → Place → Place
within bs p = record { scope = reverse_aux bs p.scope; around = p.around; site = p.site }

-- What a walk over the tree meets
pub data Event : Type 0 where
  enters : Binder → List Binder → Event  -- a name enters; the names in scope before it
  mentions : Mention → Event
  ends : ℕ → List Ident → List Binder → Event  -- a lambda ends: its record, its parameters, the names in scope around it

unfoldable pub entering : List Binder → List Binder → List Event
entering [] sc = []
entering (b ∷ bs) sc = enters b sc ∷ entering bs (b ∷ sc)

-- The walk goes in the order of the pass: a call's arguments, then its head; a let's initial expressions, then its names, then its body; a set!'s
-- expression, then its target. The scope of a parameter is the lambda's body; of a let name the let's body. A define and a set! bind nothing here.
unfoldable mutual
  pub walk : Tree → Place → List Event
  walk (ident x) p = mentions (record { ident = x; is_set = false; place = p }) ∷ []
  walk (const n q) p = []
  walk (if n a b c) p = walk a p ++ (walk b p ++ walk c p)
  walk (letin n xs es b) p =
      let bs = let_names xs p in
      walk_arguments es p ++ (entering bs p.scope ++ walk b (within bs (let_body (length xs) p)))
  walk (define n x b) p = walk b p
  walk (lambda n xs b) p =
      let bs = parameters n xs p in
      entering bs p.scope ++ (walk b (within bs (lambda_body n (length xs) p)) ++ (ends n.at xs p.scope ∷ []))
  walk (sequence n es) p = walk_all es p
  walk (call n h es) p = walk_arguments es p ++ walk h (raised (many es) p)
  walk (set! n x e) p = walk e p ++ (mentions (record { ident = x; is_set = true; place = p }) ∷ [])

  -- each argument or initial expression leaves a value
  pub walk_arguments : Trees → Place → List Event
  walk_arguments nil p = []
  walk_arguments (cons e es) p = walk e p ++ walk_arguments es (raised 1 p)

  pub walk_all : Trees → Place → List Event
  walk_all nil p = []
  walk_all (cons e es) p = walk e p ++ walk_all es p

unfoldable pub events : Trees → List Event
events ts = walk_all ts top

abbrev pub mentions_in : List Event → List Mention
mentions_in [] = []
mentions_in (enters b sc ∷ l) = mentions_in l
mentions_in (mentions m ∷ l) = m ∷ mentions_in l
mentions_in (ends i xs sc ∷ l) = mentions_in l

abbrev pub binders_in : List Event → List Binder
binders_in [] = []
binders_in (enters b sc ∷ l) = b ∷ binders_in l
binders_in (mentions m ∷ l) = binders_in l
binders_in (ends i xs sc ∷ l) = binders_in l

-- An identifier means the innermost parameter or let name in scope that has its name
abbrev pub find : List Binder → ℕ → Option Binder
find [] x = None
find (b ∷ sc) x = cond (eqb b.ident.name x) (Some b) (find sc x)

abbrev pub meant : Mention → Option Binder
meant m = find m.place.scope m.ident.name

-- the mention stands in a lambda inside the body that binds b
abbrev pub is_inner : Mention → Binder → Bool
is_inner m b = ltb (length b.around) (length m.place.around)

-- What each identifier means, in the walk's order: its record, the parameter's or let name's record, whether an inner lambda makes the mention, and
-- whether it is a set!
pub record Use : Type 0 where
  pub at : ℕ
  pub binder : ℕ
  pub is_inner : Bool
  pub is_set : Bool

abbrev pub use_of : Mention → Option Binder → List Use
use_of m None = []
use_of m (Some b) = record { at = m.ident.at; binder = b.ident.at; is_inner = is_inner m b; is_set = m.is_set } ∷ []

abbrev pub uses_of : List Mention → List Use
uses_of [] = []
uses_of (m ∷ l) = use_of m (meant m) ++ uses_of l

unfoldable pub uses : Trees → List Use
uses ts = uses_of (mentions_in (events ts))

-- the identifier at the record i means the parameter or let name at the record b
pub record Means (ts : Trees) (i b : ℕ) : Type 0 where
  pub by : Use
  pub is_one : Member by (uses ts)
  pub from : by.at ≡ i
  pub to : by.binder ≡ b
