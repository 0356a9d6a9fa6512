-- Every identifier of a tree that stands in its place, read, set or bound, stands at its own record; and its name is one of the N.
use Rattle.std.specs.Prelude.{ℕ, ◌<◌, List}
use Rattle.tree.specs.Tree.{Ident, Tree, Trees, ident, const, if, letin, define, lambda, sequence, call, set!, nil, cons, flat, Num}
use Rattle.tree.specs.Accepted.{All}
use Rattle.tree.specs.Stands.{Stands, StandAll, NamesStand}
use Rattle.tree.proofs.Laws.Stands.{IdentAt, ident_name, name_at, names_at, first_tree, later_trees}
use Rattle.tree.proofs.Laws.Stands.Parts.{if_parts, let_parts, define_parts, set_parts, lambda_parts, begin_parts, call_parts}
use Rattle.pass_laws.specs.Sound.{Holds, HoldsAll}
use Rattle.pass_laws.specs.Laws.All.{all_map}

module _ {N : ℕ} {rs : List ℕ} (P : Ident → Type 0) (p : (x : Ident) → IdentAt N rs x → P x) where
  pub names_hold : {i : ℕ} (xs : List Ident) → NamesStand N rs i xs → All P xs
  names_hold xs s = all_map (λ x. IdentAt N rs x) P p xs (names_at xs s)

  mutual
    unfolding Holds flat Num

    pub tree_holds : {i : ℕ} (t : Tree) → Stands N rs i t → Holds P t
    tree_holds (ident x) s = p x (name_at s.num s.within)
    tree_holds (const n q) s = tt
    tree_holds (if n a b c) s = let v = if_parts s in (tree_holds a v.test, tree_holds b v.then, tree_holds c v.otherwise)
    tree_holds (letin n xs es b) s = let v = let_parts s in (names_hold xs v.names, trees_hold es v.inits, tree_holds b v.body)
    tree_holds (define n x b) s = let v = define_parts s in (p x v.name, tree_holds b v.body)
    tree_holds (lambda n xs b) s = let v = lambda_parts s in (names_hold xs v.names, tree_holds b v.body)
    tree_holds (sequence n es) s = trees_hold es (begin_parts s).children
    tree_holds (call n h es) s = let v = call_parts s in (tree_holds h v.operator, trees_hold es v.operands)
    tree_holds (set! n x e) s = let v = set_parts s in (p x v.name, tree_holds e v.body)

    pub trees_hold : {i : ℕ} (ts : Trees) → StandAll N rs i ts → HoldsAll P ts
    trees_hold nil s = tt
    trees_hold (cons t ts) s = (tree_holds t (first_tree s), trees_hold ts (later_trees s))

-- The names

abbrev pub NameBelow : ℕ → Ident → Type 0
NameBelow N x = x.name < N

pub tree_names : {N : ℕ} {rs : List ℕ} {i : ℕ} (t : Tree) → Stands N rs i t → Holds (NameBelow N) t
tree_names {N} t s = tree_holds (NameBelow N) (λ x a. ident_name x a) t s

pub trees_names : {N : ℕ} {rs : List ℕ} {i : ℕ} (ts : Trees) → StandAll N rs i ts → HoldsAll (NameBelow N) ts
trees_names {N} ts s = trees_hold (NameBelow N) (λ x a. ident_name x a) ts s
