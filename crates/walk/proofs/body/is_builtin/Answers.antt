-- `is_builtin`: by the call's head, then its first argument.
use native.Mathlib.Omega.{arith}
use Rattle.tree.proofs.Laws.Stands.{root}
use Rattle.walk.proofs.Bodies.{head_stands, reached, some_tree, argument_stands, alone_tells, head_tells, both_tell}
use Rattle.walk.proofs.body.is_builtin.Goals as goal

pub returns-then-count-le1 : goal.returns-then-count-le1
returns-then-count-le1 c =
    alone_tells _ _ _ c.requires.1 c.count.ensures c.if-count-le1.true

pub core_at-h-requires : goal.core_at-h-requires
core_at-h-requires c = some_tree (head_stands c.requires.1 c.requires.0)

pub is_ident_of-requires : goal.is_ident_of-requires
is_ident_of-requires c = (reached c.core_at-h.ensures (head_stands c.requires.1 c.requires.0), omega arith)

pub returns-then-not-is_ident_of : goal.returns-then-not-is_ident_of
returns-then-not-is_ident_of c =
    head_tells _ _ _ c.requires.1 c.core_at-h.ensures c.is_ident_of.ensures c.if-not-is_ident_of.true

pub overflow_add-h : goal.overflow_add-h
overflow_add-h c =
    let h = (root (reached c.core_at-h.ensures (head_stands c.requires.1 c.requires.0)).stands).few in
    omega arith

pub core_at-requires : goal.core_at-requires
core_at-requires c =
    some_tree (argument_stands _ _ _ c.requires.1 c.core_at-h.ensures c.is_ident_of.ensures c.count.ensures (omega arith) c.if-not-is_ident_of.false c.requires.0)

pub is_ident_of-requires-2 : goal.is_ident_of-requires-2
is_ident_of-requires-2 c =
    (reached c.core_at.ensures (argument_stands _ _ _ c.requires.1 c.core_at-h.ensures c.is_ident_of.ensures c.count.ensures (omega arith) c.if-not-is_ident_of.false c.requires.0), omega arith)

pub returns : goal.returns
returns c =
    both_tell _ _ _ c.requires.1 c.core_at-h.ensures c.is_ident_of.ensures c.count.ensures (omega arith) c.if-not-is_ident_of.false c.core_at.ensures c.is_ident_of-2.ensures
