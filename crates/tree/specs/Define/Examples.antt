-- At top level an and of one child is seen through, and nothing else: a define in a when or in an and of two is an inner one. Document 02, order 7.
use Rattle.std.specs.Prelude.{Bool, ◌≡◌, refl}
use Rattle.tree.specs.Tree.{Node, Tree, Trees, sequence, nil, cons, begins, ands, whens}
use Rattle.tree.specs.Core.{core}
use Rattle.tree.specs.Define.{◌⊕◌, top_of, top_level}

one_child : (n : Node) (t : Tree) (ts : Trees) → top_level (cons (sequence (ands n) (cons t nil)) ts) ≡ top_level (cons t ts)
unfolding top_level
one_child n t ts = refl

two_children : (n : Node) (t u : Tree) (us ts : Trees)
    → top_level (cons (sequence (ands n) (cons t (cons u us))) ts) ≡ cons (sequence (ands n) (cons t (cons u us))) (top_level ts)
unfolding top_level top_of ◌⊕◌
two_children n t u us ts = refl

with_test : (b : Bool) (n : Node) (es ts : Trees) → top_level (cons (sequence (whens b n) es) ts) ≡ cons (sequence (whens b n) es) (top_level ts)
unfolding top_level top_of ◌⊕◌
with_test b n es ts = refl

-- and so are those in a top-level begin
in_begin_lem : (m n : Node) (t : Tree) (ts : Trees) → top_level (cons (sequence (begins m) (cons (sequence (ands n) (cons t nil)) nil)) ts) ≡ cons (core t) (top_level ts)
unfolding top_level top_of ◌⊕◌
in_begin_lem m n t ts = refl
