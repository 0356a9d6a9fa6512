-- The end of a call, the start of a set!, and what stands before and after a define's body.
use Rattle.std.specs.Prelude.{ℕ, List, Bool, true, false, ◌&&◌, Some}
use Rattle.std.proofs.Math.Dec.{ltb}
use Rattle.tree.specs.Tree.{Ident, Node, Tree, Trees, nil, cons}
use Rattle.semantic.specs.Information.{NONE}
use Rattle.tree.specs.Core.{core, cores}
use Rattle.semantic.specs.declared.IdentifierStatus.TheVariants.{Local}
use Rattle.pass.specs.State.{State, depth}
use Rattle.pass.specs.Visit.{Flags, mark_arguments, is_self, mark_if_tail, close_call, clear_context, open_define, close_define}
use Rattle.pass_laws.specs.Sound.{Property, Lawful, Each}
use Rattle.pass_laws.specs.Laws.Sound.Each.{each_either, each_context, each_insert}
use Rattle.pass_laws.specs.Laws.Sound.Names.{each_define}
use Rattle.pass_laws.specs.Laws.Sound.Scopes.{each_last}
use Rattle.pass_laws.specs.Laws.Cases.{by_argument, by_head}

module _ {Q : Property} (lawful : Lawful Q) {F : ℕ → Type 0} (unused : F 0) where
  pub each_marks : (ts : Trees) {s : State} → Each Q F s → Each Q F (mark_arguments ts s)
  unfolding mark_arguments
  each_marks nil h = h
  each_marks (cons t ts) h = each_marks ts (by_argument (λ s u. Each Q F s → Each Q F u) (λ s h. h) (λ x s h. each_last lawful unused (Some x) h) t _ h)

  each_tail : (b : Bool) (ts : Trees) {s : State} → Each Q F s → Each Q F (mark_if_tail b ts s)
  each_tail true ts h = each_marks ts h
  each_tail false ts h = h

  pub each_call : (n : Node) (g : Tree) (es : Trees) (f : Flags) {s : State} → Each Q F s → Each Q F (close_call n g es f s)
  unfolding close_call
  each_call n g es f {s} h =
      let p = each_tail (f.tail && ltb 1 (depth s)) (cores es) h in
      by_head (Each Q F) (core g) n _ f.counter _ p (λ e c q. each_insert n.at _ unused p)

  pub each_clear : (x : Ident) {s : State} → Each Q F s → Each Q F (clear_context x s)
  unfolding clear_context
  each_clear x {s} h = each_either (is_self s x) (each_context NONE h) h

  module _ (classes : List ℕ) where
    pub each_before : (direct lambda : Bool) (x : Ident) (b : Tree) {s : State} → Q.ident x → Each Q F s → Each Q F (open_define classes direct lambda x b s)
    each_before true true x b p h = each_context x.id h
    each_before true false x b p h = each_context x.id h
    each_before false true x b p h = each_context x.id (each_define unused classes Local NONE x b p h)
    each_before false false x b p h = h

    pub each_after : (direct lambda : Bool) (c : ℕ) (x : Ident) (b : Tree) {s : State} → Q.ident x → Each Q F s
        → Each Q F (close_define classes direct lambda c x b s)
    each_after true true c x b p h = each_context c h
    each_after true false c x b p h = each_context c (each_define unused classes Local NONE x b p h)
    each_after false true c x b p h = each_context c h
    each_after false false c x b p h = each_define unused classes Local NONE x b p h
