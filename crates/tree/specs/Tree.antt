-- Trees: every node holds its record's number, and what the facts take from the record. Document 01, "The tree".
use Rattle.std.specs.Prelude.{ℕ, suc, ◌+◌, max, ◌<◌, List, [], ◌∷◌, ◌++◌, map, Bool, true, false, ◌≡◌, length}
use Rattle.tree.specs.Record.{Record}

pub record Node : Type 0 where
  pub at : ℕ  -- the record's number
  pub id : ℕ
  pub from : ℕ
  pub to : ℕ

-- an identifier: read, or in a name's place
pub record Ident : Type 0 where
  pub at : ℕ
  pub id : ℕ
  pub name : ℕ
  pub from : ℕ
  pub to : ℕ

-- a node whose children stand in a row: a begin; an and; a when or an unless, whose first child is the test
pub data Sequence : Type 0 where
  begins : Node → Sequence
  ands : Node → Sequence
  whens : Bool → Node → Sequence  -- what the test must be for what follows to run: true for when, false for unless

abbrev pub node_in : Sequence → Node
node_in (begins n) = n
node_in (ands n) = n
node_in (whens b n) = n

mutual
  pub data Tree : Type 0 where
    ident : Ident → Tree
    const : Node → Bool → Tree  -- is it #f
    if : Node → Tree → Tree → Tree → Tree  -- test, then, else
    letin : Node → List Ident → Trees → Tree → Tree  -- names, initial expressions, body
    define : Node → Ident → Tree → Tree  -- name, body
    lambda : Node → List Ident → Tree → Tree  -- parameters, body
    sequence : Sequence → Trees → Tree
    call : Node → Tree → Trees → Tree  -- head, arguments: no call is empty
    set! : Node → Ident → Tree → Tree  -- target, expression

  pub data Trees : Type 0 where
    nil : Trees
    cons : Tree → Trees → Trees

-- how many trees
abbrev pub many : Trees → ℕ
many nil = 0
many (cons t ts) = suc (many ts)

-- The records in preorder

abbrev pub head : ℕ → Node → ℕ → ℕ → Record
head f n x c = record { form = f; id = n.id; name = x; count = c; from = n.from; to = n.to }

abbrev pub named : Ident → Record
named x = record { form = 1; id = x.id; name = x.name; count = 0; from = x.from; to = x.to }

abbrev pub bit : Bool → ℕ
bit true = 1
bit false = 0

abbrev pub form_in : Sequence → ℕ
form_in (begins n) = 7
form_in (ands n) = 10
form_in (whens true n) = 11
form_in (whens false n) = 12

unfoldable mutual
  pub flat : Tree → List Record
  flat (ident x) = named x ∷ []
  flat (const n q) = head 2 n (bit q) 0 ∷ []
  flat (if n a b c) = head 3 n 0 0 ∷ (flat a ++ (flat b ++ flat c))
  flat (letin n xs es b) = head 4 n 0 (length xs) ∷ (map named xs ++ (flats es ++ flat b))
  flat (define n x b) = head 5 n 0 0 ∷ named x ∷ flat b
  flat (lambda n xs b) = head 6 n 0 (length xs) ∷ (map named xs ++ flat b)
  flat (sequence n es) = head (form_in n) (node_in n) 0 (many es) ∷ flats es
  flat (call n h es) = head 8 n 0 (suc (many es)) ∷ (flat h ++ flats es)
  flat (set! n x e) = head 9 n 0 0 ∷ named x ∷ flat e

  pub flats : Trees → List Record
  flats nil = []
  flats (cons t ts) = flat t ++ flats ts

-- how many records
unfoldable mutual
  pub size : Tree → ℕ
  size (ident x) = 1
  size (const n q) = 1
  size (if n a b c) = 1 + (size a + (size b + size c))
  size (letin n xs es b) = 1 + (length xs + (sizes es + size b))
  size (define n x b) = 2 + size b
  size (lambda n xs b) = 1 + (length xs + size b)
  size (sequence n es) = 1 + sizes es
  size (call n h es) = 1 + (size h + sizes es)
  size (set! n x e) = 2 + size e

  pub sizes : Trees → ℕ
  sizes nil = 0
  sizes (cons t ts) = size t + sizes ts

-- how deep records nest, a tree's own counting 1. A name nests no deeper than the body or expression after it.
unfoldable mutual
  pub nesting : Tree → ℕ
  nesting (ident x) = 1
  nesting (const n q) = 1
  nesting (if n a b c) = 1 + max (nesting a) (max (nesting b) (nesting c))
  nesting (letin n xs es b) = 1 + max (nestings es) (nesting b)
  nesting (define n x b) = 1 + nesting b
  nesting (lambda n xs b) = 1 + nesting b
  nesting (sequence n es) = 1 + nestings es
  nesting (call n h es) = 1 + max (nesting h) (nestings es)
  nesting (set! n x e) = 1 + nesting e

  pub nestings : Trees → ℕ
  nestings nil = 0
  nestings (cons t ts) = max (nesting t) (nestings ts)

-- Nodes are numbered in preorder, the first i; and a let has an initial expression for each name, a when or an unless a test

unfoldable pub NumNames : ℕ → List Ident → Type 0
NumNames i [] = Unit {0}
NumNames i (x ∷ xs) = (x.at ≡ i) × NumNames (i + 1) xs

abbrev pub Tested : Sequence → ℕ → Type 0
Tested (begins n) c = Unit {0}
Tested (ands n) c = Unit {0}
Tested (whens b n) c = 0 < c

unfoldable mutual
  pub Num : ℕ → Tree → Type 0
  Num i (ident x) = x.at ≡ i
  Num i (const n q) = n.at ≡ i
  Num i (if n a b c) = (n.at ≡ i) × Num (i + 1) a × Num (i + 1 + size a) b × Num (i + 1 + size a + size b) c
  Num i (letin n xs es b) =
      (n.at ≡ i)
      × (many es ≡ length xs)
      × NumNames (i + 1) xs
      × Nums (i + 1 + length xs) es
      × Num (i + 1 + length xs + sizes es) b
  Num i (define n x b) = (n.at ≡ i) × (x.at ≡ i + 1) × Num (i + 2) b
  Num i (lambda n xs b) = (n.at ≡ i) × NumNames (i + 1) xs × Num (i + 1 + length xs) b
  Num i (sequence n es) = ((node_in n).at ≡ i) × Nums (i + 1) es × Tested n (many es)
  Num i (call n h es) = (n.at ≡ i) × Num (i + 1) h × Nums (i + 1 + size h) es
  Num i (set! n x e) = (n.at ≡ i) × (x.at ≡ i + 1) × Num (i + 2) e

  pub Nums : ℕ → Trees → Type 0
  Nums i nil = Unit {0}
  Nums i (cons t ts) = Num i t × Nums (i + size t) ts
