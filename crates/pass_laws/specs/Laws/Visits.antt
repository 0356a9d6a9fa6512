-- Which facts a visit writes: those of its own identifiers, binders, lambdas, lets and calls.
use Rattle.std.specs.Prelude.{ℕ, ◌≤◌, List, Bool, true, false, ◌&&◌, ◌≡◌, length, eqb, Some}
use Rattle.std.proofs.Common.{ap, sym, arith}
use Rattle.std.proofs.Math.Dec.{ltb}
use Rattle.tree.specs.Tree.{Ident, Node, Tree, Trees, ident, const, if, letin, define, lambda, sequence, call, set!, nil, cons, many, begins, ands, whens}
use Rattle.tree.specs.Define.{top_level}
use Rattle.tree.specs.Accepted.{All}
use Rattle.tree.specs.Core.{core, cores, is_constant}
use Rattle.tree.proofs.Laws.Core.{to_core}
use Rattle.semantic.specs.Information.{NONE}
use Rattle.semantic.specs.declared.IdentifierStatus.TheVariants.{Local}
use Rattle.semantic.specs.declared.IdentifierStatus.{IdentifierStatus}
use Rattle.pass.specs.State.{Facts, State, with_context, depth}
use Rattle.pass.specs.Lambda.{at_bottom}
use Rattle.pass.specs.Visit.{Flags, top_flags, not_tail, same_tail, pushed, let_body_flags, body_flags, argument_flags, is_lambda, head_flags, is_nil, child_flags, define_flags, mark_arguments, mark_if_tail, close_call, is_self, clear_context, open_define, close_define, enter_child, enter_children, visit, visit_arguments, visit_children, visit_top_define, visit_top, visit_tops, in_begin, in_and, is_alone, visit_tested}
use Rattle.pass.specs.Run.{start, run}
use Rattle.pass_laws.specs.Laws.Changes.{CallSteps, CallChanges, Changes, same, ◌⨾◌, either, site, context, same_depth, keeps_depth}
use Rattle.pass_laws.specs.Laws.Names.{define_changes, value_changes, read_changes, mutate_changes}
use Rattle.pass_laws.specs.Laws.Scopes.{last_changes, lambda_changes, let_changes, lambda_depth, let_stays}
use Rattle.pass_laws.specs.Laws.Cases.{by_child, by_argument, by_head}

-- the records of a tree that may have a fact are in `own`, and of these the calls in `sites`
module _ (own sites : ℕ → Type 0) where
  unfoldable mutual
    pub Writes : Tree → Type 0
    Writes (ident x) = own x.at
    Writes (const n q) = Unit {0}
    Writes (if n a b c) = Writes a × Writes b × Writes c
    Writes (letin n xs es b) = own n.at × All (λ x. own x.at) xs × WritesAll es × Writes b
    Writes (define n x b) = own x.at × Writes b
    Writes (lambda n xs b) = own n.at × All (λ x. own x.at) xs × Writes b
    Writes (sequence n es) = WritesAll es
    Writes (call n h es) = (is_constant h ≡ false → sites n.at) × Writes h × WritesAll es
    Writes (set! n x e) = own x.at × Writes e

    pub WritesAll : Trees → Type 0
    WritesAll nil = Unit {0}
    WritesAll (cons t ts) = Writes t × WritesAll ts

  pub writes_core : (t : Tree) → Writes t → Writes (core t)
  unfolding Writes
  writes_core t w = to_core Writes (λ n p. p) (λ n u p. p.0) t w

  pub writes_cores : (ts : Trees) → WritesAll ts → WritesAll (cores ts)
  unfolding Writes
  writes_cores nil w = tt
  writes_cores (cons t ts) w = (writes_core t w.0, writes_cores ts w.1)

module _ {free : Type 0} {own sites : ℕ → Type 0} where
  -- Call

  pub marks_changes : (ts : Trees) (s : State) → CallSteps free own sites s (mark_arguments ts s)
  unfolding mark_arguments
  marks_changes nil s = same
  marks_changes (cons t ts) s = by_argument (CallSteps free own sites) (λ s. same) (λ x s. last_changes (Some x) s) t s ⨾ marks_changes ts _

  pub tail_changes : (b : Bool) (ts : Trees) (s : State) → CallSteps free own sites s (mark_if_tail b ts s)
  tail_changes true ts s = marks_changes ts s
  tail_changes false ts s = same

  pub call_changes : (n : Node) (h : Tree) (es : Trees) (f : Flags) (s : State) → (is_constant h ≡ false → sites n.at) → CallSteps free own sites s (close_call n h es f s)
  unfolding close_call
  call_changes n h es f s o = tail_changes (f.tail && ltb 1 (depth s)) (cores es) s ⨾ by_head (CallSteps free own sites _) (core h) n _ f.counter _ same (λ e c p. site n.at _ (o e))

  -- set!
  pub clear_changes : (x : Ident) (s : State) → CallSteps free own sites s (clear_context x s)
  unfolding clear_context
  clear_changes x s = either (is_self s x) (context NONE) same

-- the bottom layer stays
pub stays : {own : ℕ → Type 0} {s t : State} → Changes own s t → 1 ≤ depth s → 1 ≤ depth t
stays c h = omega (arith, keeps_depth c h)

module _ {own sites : ℕ → Type 0} where
  bottom_stays : {s t : State} → CallChanges own sites s t → 1 ≤ depth s → 1 ≤ depth t
  bottom_stays c h = omega (arith, same_depth c h)

  module _ (classes : List ℕ) where
    -- Define

    pub before_changes : (direct lambda : Bool) (x : Ident) (b : Tree) (s : State) → own x.at → CallChanges own sites s (open_define classes direct lambda x b s)
    before_changes true true x b s o = context x.id
    before_changes true false x b s o = context x.id
    before_changes false true x b s o = define_changes classes Local NONE x b s o ⨾ context x.id
    before_changes false false x b s o = same

    pub after_changes : (direct lambda : Bool) (c : ℕ) (x : Ident) (b : Tree) (s : State) → own x.at → CallChanges own sites s (close_define classes direct lambda c x b s)
    after_changes true true c x b s o = context c
    after_changes true false c x b s o = define_changes classes Local NONE x b s o ⨾ context c
    after_changes false true c x b s o = context c
    after_changes false false c x b s o = define_changes classes Local NONE x b s o

    -- names that enter before the visits

    child_changes : (kind : IdentifierStatus) (t : Tree) (s : State) → Writes own sites t → CallChanges own sites s (enter_child classes kind t s)
    unfolding Writes
    child_changes kind t s w =
        by_child classes (λ u g. Writes own sites u → CallChanges own sites s (g s)) kind (λ u w. same) (λ n x b e w. define_changes classes kind NONE x b s w.0) t w

    pub children_changes : (kind : IdentifierStatus) (ts : Trees) (s : State) → WritesAll own sites ts → CallChanges own sites s (enter_children classes kind ts s)
    unfolding enter_children Writes
    children_changes kind nil s w = same
    children_changes kind (cons t ts) s w = child_changes kind t s w.0 ⨾ children_changes kind ts _ w.1

    -- The visits

    mutual
      unfolding visit Writes

      pub visit_changes : (t : Tree) (f : Flags) (s : State) → Writes own sites t → 1 ≤ depth s → CallChanges own sites s (visit classes t f s)
      visit_changes (ident x) f s w h = read_changes classes x s w
      visit_changes (const n q) f s w h = same
      visit_changes (if n a b c) f s w h =
          let p = visit_changes a (not_tail f) s w.0 h in
          let q = p ⨾ visit_changes b (same_tail f) _ w.1 (bottom_stays p h) in
          q ⨾ visit_changes c (same_tail f) _ w.2 (bottom_stays q h)
      visit_changes (letin n xs es b) f s w h =
          let t = with_context s.context (visit_arguments classes es (not_tail f) (with_context NONE s)) in
          let p : CallChanges own sites s t = context NONE ⨾ arguments_visited es (not_tail f) _ w.2 h ⨾ context s.context in
          p ⨾ let_changes (at_bottom s) n xs f.height f.function t _ (ap (λ (k : ℕ). eqb k 1) (sym (same_depth p h))) w.0 w.1
          (visit_changes b (let_body_flags (many es) f) _ w.3 (let_stays n xs f.height f.function t (bottom_stays p h)))
      visit_changes (define n x b) f s w h =
          let p = before_changes f.direct (is_lambda b) x b s w.0 in
          p ⨾ visit_changes b (define_flags f) _ w.1 (bottom_stays p h) ⨾ after_changes f.direct (is_lambda b) s.context x b _ w.0
      visit_changes (lambda n xs b) f s w h = lambda_changes n xs b f.escape s _ w.0 w.1 (visit_changes b (body_flags n (length xs) f) _ w.2 (omega (arith, lambda_depth n xs s h)))
      visit_changes (sequence (begins n) es) f s w h = let p = children_changes _ (cores es) s (writes_cores own sites es w) in p ⨾ children_visited es (in_begin f) _ w (bottom_stays p h)
      visit_changes (sequence (ands n) es) f s w h = children_visited es (in_and (is_alone es) f) s w h
      visit_changes (sequence (whens b n) es) f s w h = tested-visited es f s w h
      visit_changes (call n g es) f s w h =
          let p = arguments_visited es (argument_flags f) s w.2 h in
          p ⨾ visit_changes g (head_flags g (many es) f) _ w.1 (bottom_stays p h) ⨾ call_changes n g es f _ w.0
      visit_changes (set! n x e) f s w h =
          let p = clear_changes x s in
          p ⨾ visit_changes e (not_tail f) _ w.1 (bottom_stays p h) ⨾ mutate_changes x.name _ ⨾ read_changes classes x _ w.0

      pub arguments_visited : (ts : Trees) (f : Flags) (s : State) → WritesAll own sites ts → 1 ≤ depth s → CallChanges own sites s (visit_arguments classes ts f s)
      arguments_visited nil f s w h = same
      arguments_visited (cons t ts) f s w h = let p = visit_changes t f s w.0 h in p ⨾ arguments_visited ts (pushed f) _ w.1 (bottom_stays p h)

      pub children_visited : (ts : Trees) (f : Flags) (s : State) → WritesAll own sites ts → 1 ≤ depth s → CallChanges own sites s (visit_children classes ts f s)
      children_visited nil f s w h = same
      children_visited (cons t ts) f s w h = let p = visit_changes t (child_flags (is_nil ts) f) s w.0 h in p ⨾ children_visited ts f _ w.1 (bottom_stays p h)

      pub tested-visited : (ts : Trees) (f : Flags) (s : State) → WritesAll own sites ts → 1 ≤ depth s → CallChanges own sites s (visit_tested classes ts f s)
      tested-visited nil f s w h = same
      tested-visited (cons t ts) f s w h =
          let p = visit_changes t (not_tail f) s w.0 h in
          let q = p ⨾ children_changes _ (cores ts) _ (writes_cores own sites ts w.1) in
          q ⨾ children_visited ts (in_begin f) _ w.1 (bottom_stays q h)

    -- The top level

    top-define : (l : Bool) (x : Ident) (b : Tree) (s : State) → own x.at → Writes own sites b → 1 ≤ depth s → CallChanges own sites s (visit_top_define classes l x b s)
    top-define true x b s o w h = context x.id ⨾ visit_changes b top_flags _ w h ⨾ context NONE
    top-define false x b s o w h = let p = value_changes classes x b s o in p ⨾ visit_changes b top_flags _ w (bottom_stays p h)

    pub top-visited : (t : Tree) (s : State) → Writes own sites t → 1 ≤ depth s → CallChanges own sites s (visit_top classes t s)
    unfolding visit_top Writes
    top-visited (ident x) s w h = visit_changes (ident x) top_flags s w h
    top-visited (const n q) s w h = same
    top-visited (if n a b c) s w h = visit_changes (if n a b c) top_flags s w h
    top-visited (letin n xs es b) s w h = visit_changes (letin n xs es b) top_flags s w h
    top-visited (define n x b) s w h = top-define (is_lambda b) x b s w.0 w.1 h
    top-visited (lambda n xs b) s w h = visit_changes (lambda n xs b) top_flags s w h
    top-visited (sequence n es) s w h = visit_changes (sequence n es) top_flags s w h
    top-visited (call n g es) s w h = visit_changes (call n g es) top_flags s w h
    top-visited (set! n x e) s w h = visit_changes (set! n x e) top_flags s w h

    pub tops_visited : (ts : Trees) (s : State) → WritesAll own sites ts → 1 ≤ depth s → CallChanges own sites s (visit_tops classes ts s)
    unfolding visit_tops Writes
    tops_visited nil s w h = same
    tops_visited (cons t ts) s w h = let p = top-visited t s w.0 h in p ⨾ tops_visited ts _ w.1 (bottom_stays p h)

    -- a whole run
    pub run_changes : (ts : Trees) (f : Facts) → WritesAll own sites (top_level ts) → CallChanges own sites (start f) (run classes ts f)
    unfolding run start
    run_changes ts f w = let p = children_changes _ (top_level ts) (start f) w in p ⨾ tops_visited (top_level ts) _ w (bottom_stays p (omega arith))
