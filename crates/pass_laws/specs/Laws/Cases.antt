-- Functions by cases that do one thing, or in all but one case nothing: what holds of both holds of them.
use Rattle.std.specs.Prelude.{ℕ, List, Bool, true, false, cond, ◌≡◌, refl, Option, Some}
use Rattle.tree.specs.Tree.{Ident, Node, Tree, ident, const, if, letin, define, lambda, sequence, call, set! }
use Rattle.semantic.specs.Information.{NONE}
use Rattle.semantic.specs.Rows.{Row, Blank, Variable, Function, CallSite, Let, ListEntry}
use Rattle.semantic.specs.declared.IdentifierStatus.{IdentifierStatus}
use Rattle.semantic.specs.declared.CallKind.{CallKind}
use Rattle.semantic.specs.declared.Span.{Span}
use Rattle.pass.specs.State.{State, newest}
use Rattle.pass.specs.Read.{enter_define}
use Rattle.pass.specs.Lambda.{make_let, mark_last}
use Rattle.pass.specs.Visit.{top_flags, is_lambda, enter_if_lambda, enter_child, visit, visit_top_define, visit_top, last_use_of, same_ident, mark_argument, call_site, call_fact}
use Rattle.tree.specs.Core.{is_constant_form}

-- a let's fact is made where its row is blank
pub by_let : (P : State → Type 0) (r : Row) (n : Node) (l : List ListEntry) (height : ℕ) (function : Option Node) (s : State)
    → (r ≡ Blank → P (make_let Blank n l height function s)) → P s → P (make_let r n l height function s)
by_let P Blank n l height function s m o = m refl
by_let P (Variable v) n l height function s m o = o
by_let P (Function v) n l height function s m o = o
by_let P (CallSite v) n l height function s m o = o
by_let P (Let v) n l height function s m o = o

-- an argument that is an identifier is marked, if at all
pub by_argument : (P : State → State → Type 0) → ((s : State) → P s s) → ((x : Ident) (s : State) → P s (mark_last (Some x) s)) → (t : Tree) (s : State)
    → P s (mark_argument t s)
by_argument P o m (ident x) s = go (same_ident (last_use_of s (newest s x.name)) x)
  where
    go : (b : Bool) → P s (cond b (mark_last (Some x) s) s)
    go true = m x s
    go false = o s
by_argument P o m (const n q) s = o s
by_argument P o m (if n a b c) s = o s
by_argument P o m (letin n xs es b) s = o s
by_argument P o m (define n x b) s = o s
by_argument P o m (lambda n xs b) s = o s
by_argument P o m (sequence n es) s = o s
by_argument P o m (call n h es) s = o s
by_argument P o m (set! n x e) s = o s

-- a call's fact is made unless its head is a constant
pub by_head : (P : State → Type 0) (h : Tree) (n : Node) (tail : Bool) (k : ℕ) (s : State) → P s
    → (is_constant_form h ≡ false → (c : CallKind) (p : Span) → P (call_site n c p s)) → P (call_fact h n tail k s)
by_head P (ident x) n tail k s o m = m refl _ _
by_head P (const i q) n tail k s o m = o
by_head P (if i a b c) n tail k s o m = m refl _ _
by_head P (letin i xs es b) n tail k s o m = m refl _ _
by_head P (define i x b) n tail k s o m = m refl _ _
by_head P (lambda i xs b) n tail k s o m = m refl _ _
by_head P (sequence i es) n tail k s o m = m refl _ _
by_head P (call i h es) n tail k s o m = m refl _ _
by_head P (set! i x e) n tail k s o m = m refl _ _

module _ (classes : List ℕ) (P : Tree → (State → State) → Type 0) where
  -- a lambda define enters first
  pub by_child : (kind : IdentifierStatus) → ((t : Tree) → P t (λ s. s))
      → ((n : Node) (x : Ident) (b : Tree) → is_lambda b ≡ true → P (define n x b) (enter_define classes kind NONE x b))
      → (t : Tree) → P t (enter_child classes kind t)
  by_child kind o d (ident x) = o (ident x)
  by_child kind o d (const n q) = o (const n q)
  by_child kind o d (if n a b c) = o (if n a b c)
  by_child kind o d (letin n xs es b) = o (letin n xs es b)
  by_child kind o d (define n x b) = go (is_lambda b) refl
    where
      go : (l : Bool) → is_lambda b ≡ l → P (define n x b) (enter_if_lambda classes kind l x b)
      go true e = d n x b e
      go false e = o (define n x b)
  by_child kind o d (lambda n xs b) = o (lambda n xs b)
  by_child kind o d (sequence n es) = o (sequence n es)
  by_child kind o d (call n h es) = o (call n h es)
  by_child kind o d (set! n x e) = o (set! n x e)

  -- at top level a define is visited in a way of its own
  pub by_top : ((t : Tree) → P t (visit classes t top_flags)) → ((n : Node) (x : Ident) (b : Tree) → P (define n x b) (visit_top_define classes (is_lambda b) x b))
      → (t : Tree) → P t (visit_top classes t)
  unfolding visit_top visit
  by_top v d (ident x) = v (ident x)
  by_top v d (const n q) = v (const n q)
  by_top v d (if n a b c) = v (if n a b c)
  by_top v d (letin n xs es b) = v (letin n xs es b)
  by_top v d (define n x b) = d n x b
  by_top v d (lambda n xs b) = v (lambda n xs b)
  by_top v d (sequence n es) = v (sequence n es)
  by_top v d (call n h es) = v (call n h es)
  by_top v d (set! n x e) = v (set! n x e)
