-- Refusal 9 of the fresh run: over the top level, and the claim.
use Rattle.std.specs.Prelude.{ℕ, List, [], ◌∷◌, Bool, true, false, cond, ◌≡◌, refl, None}
use Rattle.std.proofs.Common.{ap, sym, subst, ◌∙◌, arith}
use Rattle.tree.specs.Tree.{Ident, Tree, Trees, ident, const, if, letin, define, lambda, sequence, call, set!, nil, cons}
use Rattle.tree.specs.Define.{top_level, defines, below, below_all, inner_defines}
use Rattle.scope_map.specs.ScopeMap.{ScopeMap, Live, is_at, has_in, replace_in}
use Rattle.scope_map.specs.ScopeMap as map
use Rattle.semantic.specs.Information.{NONE}
use Rattle.semantic.specs.declared.IdentifierStatus.{IdentifierStatus}
use Rattle.semantic.specs.declared.IdentifierStatus.TheVariants.{Global}
use Rattle.pass.specs.State.{Entry, Facts, State, with_context, insert, put_entry, newest}
use Rattle.pass.specs.Read.{enter, enter_define, enter_top_level_value, alias}
use Rattle.pass.specs.Visit.{top_flags, is_lambda, visit, enter_child, enter_children, visit_top_define, visit_top, visit_tops}
use Rattle.pass.specs.Run.{no_facts, start, run, fresh}
use Rattle.pass_laws.specs.Laws.Changes.{keeps_noted, quiet}
use Rattle.pass_laws.specs.Laws.Scopes.{Any}
use Rattle.pass_laws.specs.Laws.Names.{shadow_changes}
use Rattle.pass_laws.specs.Laws.Visits.{stays, top-visited, tops_visited}
use Rattle.pass_laws.specs.Laws.Ranges.{tree_any, trees_any}
use Rattle.pass_laws.specs.Laws.Layers.{Within}
use Rattle.pass_laws.specs.Laws.Leaves.{names, quiet_names}
use Rattle.pass_laws.specs.Laws.Live.{none_left, none_right}
use Rattle.pass_laws.specs.Laws.Script.{walk_top}
use Rattle.pass_laws.specs.Laws.Cases.{by_child}
use Rattle.r7rs.specs.Binding.{Event, top, walk, walk_all, events}
use Rattle.tree.specs.Core.{core}
use Rattle.execution.specs.Acceptance.{nine_in}
use Rattle.execution.specs.Claims.{NineExact}
use Rattle.execution.proofs.Laws.Exact.Scope.{first, Scoped}
use Rattle.execution.proofs.Laws.Exact.Visits.{notes}

-- the bottom layer alone is open
pub record Bottom (m : ScopeMap Ident) : Type 0 where
  pub one : m.depth ≡ 1
  pub low : Within 1 m.live

bottom_scoped : (m : ScopeMap Ident) → Bottom m → Scoped 1 [] m
bottom_scoped m b =
    record { bottom = m.live; low = b.low; live = rw b.one; layered = record { one = omega (arith, b.one); within = rw b.one b.low } }

-- A define enters there: no 9 is noted

record Enters (s t : State) : Type 0 where
  nine : t.noted.nine ≡ s.noted.nine
  bottom : Bottom (names t)

replaced_low : (x : ℕ) (v : Ident) (l : List (Live Ident)) → Within 1 l → Within 1 (replace_in 1 x v l)
unfolding replace_in
replaced_low x v [] w = tt
replaced_low x v (e ∷ l) w = go (is_at 1 x e) (replaced_low x v l w.1)
  where
    go : (b : Bool) → Within 1 (replace_in 1 x v l) → Within 1 (cond b (record { name = x; layer = 1; value = v } ∷ l) (e ∷ replace_in 1 x v l))
    go true k = (omega arith, w.1)
    go false k = (w.0, k)

define_bottom : (x : ℕ) (v : Ident) (m : ScopeMap Ident) → Bottom m → Bottom (map.define x v m)
define_bottom x v m b = record { one = b.one; low = rw b.one (go (has_in 1 x m.live)) }
  where
    go : (q : Bool) → Within 1 (cond q (replace_in 1 x v m.live) (record { name = x; layer = 1; value = v } ∷ m.live))
    go true = replaced_low x v m.live b.low
    go false = (omega arith, b.low)

enter_bottom : (x : Ident) (e : Entry) (s : State) → Bottom (names s) → Enters s (enter x e s)
unfolding enter put_entry
enter_bottom x e s b = record { nine = rw b.one; bottom = define_bottom x.name x (names s) b }

module _ (classes : List ℕ) where
  define_enters : (k : IdentifierStatus) (a : ℕ) (x : Ident) (t : Tree) (s : State) → Bottom (names s) → Enters s (enter_define classes k a x t s)
  unfolding enter_define insert
  define_enters k a x t s b = let p = enter_bottom x _ s b in record { nine = p.nine; bottom = p.bottom }

  value_enters : (x : Ident) (t : Tree) (s : State) → Bottom (names s) → Enters s (enter_top_level_value classes x t s)
  unfolding enter_top_level_value
  value_enters x t s b =
      let c = shadow_changes {free = ⊥} {own = Any} classes (newest s x.name) s in
      let p = define_enters Global (alias (core t)) x t _ (subst Bottom (sym (quiet_names c)) b) in
      record { nine = p.nine ∙ (quiet c).nine; bottom = p.bottom }

  -- lambda defines enter first

  top_enters : (t : Tree) (s : State) → Bottom (names s) → Enters s (enter_child classes Global t s)
  top_enters t s b =
      by_child classes (λ u g. Enters s (g s)) Global (λ u. record { nine = refl; bottom = b }) (λ n x d e. define_enters Global NONE x d s b) t

  tops_enter : (ts : Trees) (s : State) → Bottom (names s) → Enters s (enter_children classes Global ts s)
  unfolding enter_children
  tops_enter nil s b = record { nine = refl; bottom = b }
  tops_enter (cons t ts) s b =
      let p = top_enters t s b in
      let q = tops_enter ts _ p.bottom in
      record { nine = q.nine ∙ p.nine; bottom = q.bottom }

  -- The visits

  record TopNotes (l : List Event) (t : State) : Type 0 where
    nine : t.noted.nine ≡ nine_in l
    bottom : t.noted.nine ≡ None → Bottom (names t)

  tree_top : (t : Tree) (s : State) → defines t ≡ [] → Bottom (names s) → s.noted.nine ≡ None → TopNotes (walk t top) (visit classes t top_flags s)
  tree_top t s e b n =
      let st = bottom_scoped (names s) b in
      let p = notes classes t top_flags top s e st.layered.one in
      record { nine = p.nine st n; bottom = λ q. subst Bottom (sym (p.restores.restored st.layered q)) b }

  define-top : (q : Bool) (x : Ident) (d : Tree) (s : State) → defines d ≡ [] → Bottom (names s) → s.noted.nine ≡ None → TopNotes (walk d top) (visit_top_define classes q x d s)
  define-top true x d s e b n = let p = tree_top d (with_context x.id s) e b n in record { nine = p.nine; bottom = p.bottom }
  define-top false x d s e b n = let p = value_enters x d s b in tree_top d _ e p.bottom (p.nine ∙ n)

  one-top : (t : Tree) (s : State) → below t ≡ [] → Bottom (names s) → s.noted.nine ≡ None → TopNotes (walk t top) (visit_top classes t s)
  unfolding visit_top below walk defines nine_in
  one-top (ident x) s e b n = tree_top (ident x) s e b n
  one-top (const m q) s e b n = record { nine = n; bottom = λ q. b }
  one-top (if m a c d) s e b n = tree_top (if m a c d) s e b n
  one-top (letin m xs es d) s e b n = tree_top (letin m xs es d) s e b n
  one-top (define m x d) s e b n = define-top (is_lambda d) x d s e b n
  one-top (lambda m xs d) s e b n = tree_top (lambda m xs d) s e b n
  one-top (sequence m es) s e b n = tree_top (sequence m es) s e b n
  one-top (call m h es) s e b n = tree_top (call m h es) s e b n
  one-top (set! m x d) s e b n = tree_top (set! m x d) s e b n

  all_tops : (ts : Trees) (s : State) → below_all ts ≡ [] → Bottom (names s) → s.noted.nine ≡ None → (visit_tops classes ts s).noted.nine ≡ nine_in (walk_all ts top)
  unfolding visit_tops below_all walk nine_in
  all_tops nil s e b n = n
  all_tops (cons t ts) s e b n =
      let p = one-top t s (none_left (below t) (below_all ts) e) b n in
      let u = visit_top classes t s in
      let one = stays (top-visited classes t s (tree_any t) (omega (arith, b.one))) (omega (arith, b.one)) in
      first u (visit_tops classes ts u) (walk t top) (walk_all ts top) p.nine
      (λ q. all_tops ts u (none_right (below t) (below_all ts) e) (p.bottom q) q)
      (keeps_noted (tops_visited classes ts u (trees_any ts) one))

start_bottom : (f : Facts) → Bottom (names (start f))
unfolding start
start_bottom f = record { one = refl; low = tt }

-- a run over trees without inner define, accepted or not
pub run_nine : (classes : List ℕ) (ts : Trees) (f : Facts) → inner_defines ts ≡ [] → (run classes ts f).noted.nine ≡ nine_in (events ts)
unfolding run start inner_defines events
run_nine classes ts f e =
    let p = tops_enter classes (top_level ts) (start f) (start_bottom f) in
    all_tops classes (top_level ts) _ e p.bottom p.nine ∙ ap nine_in (walk_top ts top)

pub nine_exact : NineExact
unfolding fresh
nine_exact classes rs ts a e = run_nine classes ts no_facts e
