-- A lambda's fact tells the layer that it is made at, after one run and after two, inner defines or not.
use Rattle.std.specs.Prelude.{ℕ, suc, ◌+◌, ◌≤◌, ◌<◌, List, ◌++◌, Bool, true, false, ◌≡◌, length, get_or, Option, None, Some}
use Rattle.std.proofs.lemmas.Option.{none-some, same_Some}
use Rattle.std.proofs.Math.Path.{refl, ap, sym, subst}
use Rattle.std.proofs.Common.{◌∙◌, lt-ltb}
use native.Mathlib.Omega.{arith}
use Rattle.std.proofs.Math.ListN.{length-replicate}
use Rattle.tree.specs.Tree.{Ident, Node, Tree, Trees, ident, const, if, letin, define, lambda, sequence, call, set!, nil, cons, many, size, sizes, Num, Nums, begins, ands, whens}
use Rattle.tree.specs.Core.{cores}
use Rattle.tree.specs.Define.{top_level}
use Rattle.tree.specs.Site.{lambdas, lambdas_in, let_layer}
use Rattle.tree.specs.Accepted.{All}
use Rattle.tree.proofs.Laws.Site.{let_le}
use Rattle.scope_map.specs.ScopeMap.{ScopeMap}
use Rattle.semantic.specs.Information.{NONE}
use Rattle.semantic.specs.Rows.{Row, Blank, Variable, Function, CallSite, Let, ListEntry}
use Rattle.semantic.specs.declared.FunctionInformation.{FunctionInformation}
use Rattle.pass.specs.State.{Capture, Facts, State, with_context, row_at, depth}
use Rattle.pass.specs.Lambda.{function_in, amend_function, function_ends, close_scope, close_lambda, at_bottom, open_lambda, open_let}
use Rattle.pass.specs.Visit.{Flags, top_flags, not_tail, same_tail, pushed, let_body_flags, body_flags, argument_flags, is_lambda, head_flags, is_nil, child_flags, define_flags, enter_child, enter_children, visit, visit_arguments, visit_children, visit_top_define, visit_top, visit_tops, in_begin, in_and, is_alone, visit_tested}
use Rattle.pass.specs.Run.{rows_most, no_facts, start, run, fresh, settled}
use Rattle.pass_laws.specs.Laws.All.{all-++, all_left, all_right, all_of, all_map, all_zip}
use Rattle.pass_laws.specs.Laws.Rows.{key, key_function, row_put, blank-rows}
use Rattle.pass_laws.specs.Laws.Changes.{Changes, ◌⨾◌, keeps_key, keeps_lengths, keeps_depth, context}
use Rattle.pass_laws.specs.Laws.Moves.{Moves, by, ◌⨟◌, moves_key, moves_lengths, into_lambda, out_of_lambda, into_let, out_of_let}
use Rattle.pass_laws.specs.Laws.Scopes.{Any, names-any, leave_changes, lambda_depth, let_depth}
use Rattle.pass_laws.specs.Laws.Names.{define_changes, value_changes, read_changes, mutate_changes}
use Rattle.pass_laws.specs.Laws.Visits.{before_changes, after_changes, children_changes, call_changes, clear_changes, visit_changes, arguments_visited, children_visited, top-visited, tops_visited, writes_cores}
use Rattle.pass_laws.specs.Laws.Ranges.{Covers, names_writes, tree_writes, trees_writes, tree_any, trees_any}
use Rattle.pass_laws.specs.Spread.{Spread}
use Rattle.pass_laws.specs.Laws.Tops.{spread_cores, spread_end, spread_top, spread_writes}
use Rattle.pass_laws.specs.Laws.Keeps.{Off, But, Agree, narrow, earlier, visited, visited_arguments, ran}
use Rattle.pass_laws.specs.Laws.Ends.{Made, made}
use Rattle.pass_laws.specs.Laws.Globals.{SparedBy, Spared}
use Rattle.semantic.specs.declared.IdentifierStatus.TheVariants.{Global, LocallyDefinedFunction}
use Rattle.semantic.specs.declared.IdentifierStatus.{IdentifierStatus}
use Rattle.pass_laws.specs.Laws.LambdaPlaces.{Between, between, between_in, between_spread, spared_all, lambdas_top, lambdas_cores}
use Rattle.pass_laws.specs.Laws.Cases.{by_child}

function_key : (r : Row) → function_in (key r) ≡ function_in r
function_key Blank = refl
function_key (Variable v) = refl
function_key (Function v) = refl
function_key (CallSite v) = refl
function_key (Let v) = refl

-- the rows R of the run before have no lambda's fact there, or one that tells the depth
abbrev pub Open : List Row → ℕ × ℕ → Type 0
Open R p = (v : FunctionInformation) → function_in (get_or R p.0 Blank) ≡ Some v → v.depth ≡ p.1

-- the rows T have one that tells it
abbrev pub MadeIn : List Row → ℕ × ℕ → Type 0
MadeIn T p = Made (get_or T p.0 Blank) p.1

-- a lambda ends

left-depth : (n : Node) (xs : List Ident) (b : Tree) (escapes : Bool) (s : State) (d : ℕ) → depth s ≡ suc d → 1 ≤ d → depth (close_lambda n xs b escapes s) ≡ d
unfolding close_scope
left-depth n xs b escapes s d e h =
    let closed : depth (close_scope s) ≡ d = rw (lt-ltb 1 (depth s) (omega arith)) (omega arith) in
    keeps_depth (leave_changes {own = Any} n xs b escapes s tt) (omega arith) ∙ closed

ends_made : (o : Option FunctionInformation) (n : Node) (b : Tree) (escapes : Bool) (now arguments : List ListEntry) (m : ScopeMap Capture) (s : State) (d : ℕ)
    → ((v : FunctionInformation) → o ≡ Some v → v.depth ≡ d) → depth (function_ends o n b escapes now arguments m s) ≡ d
    → n.at < length (function_ends o n b escapes now arguments m s).facts.rows → Made (row_at (function_ends o n b escapes now arguments m s) n.at) d
unfolding amend_function
ends_made None n b escapes now arguments m s d f e l =
    let r = made None n b escapes now arguments m s refl l in
    record { fact = r.fact; is = r.is; depth = r.depth ∙ e }
ends_made (Some v) n b escapes now arguments m s d f e l = record { fact = _; is = row_put n.at _ _ l; depth = f v refl }

-- N records have rows, and the state is at the depth d
record At (N d : ℕ) (s : State) : Type 0 where
  long : N ≤ length s.facts.rows
  deep : depth s ≡ d
  one : 1 ≤ d

still : {N d : ℕ} {r s : State} → At N d r → Changes Any r s → At N d s
still a c =
    record {
      long = omega (arith, a.long, (keeps_lengths c).rows);
      deep = keeps_depth c (omega (arith, a.deep, a.one)) ∙ a.deep;
      one = a.one;
    }

bottom : {N d : ℕ} {s : State} → At N d s → 1 ≤ depth s
bottom a = omega (arith, a.deep, a.one)

-- the names of lambda defines enter

child_key : (classes : List ℕ) (kind : IdentifierStatus) (t : Tree) (s : State) (x : ℕ) → SparedBy t x → key (row_at (enter_child classes kind t s) x) ≡ key (row_at s x)
child_key classes kind t s x z =
    by_child classes (λ u g. SparedBy u x → key (row_at (g s) x) ≡ key (row_at s x)) kind (λ u z. refl)
    (λ n y b l z. keeps_key (define_changes {own = But x} classes kind NONE y b s (λ e. z.0 l (sym e))) x (λ q. q refl)) t z

children_key : (classes : List ℕ) (kind : IdentifierStatus) (ts : Trees) (s : State) (x : ℕ) → Spared ts x
    → key (row_at (enter_children classes kind ts s) x) ≡ key (row_at s x)
unfolding enter_children
children_key classes kind nil s x z = refl
children_key classes kind (cons t ts) s x z = children_key classes kind ts (enter_child classes kind t s) x z.1 ∙ child_key classes kind t s x z.0

module _ (classes : List ℕ) (N : ℕ) (R T : List Row) where
  -- the rows of the run before, and at a later place of the walk

  abbrev Was : State → ℕ × ℕ → Type 0
  Was s p = key (get_or R p.0 Blank) ≡ key (row_at s p.0)

  later : (k m : ℕ) {s t : State} (l : List (ℕ × ℕ)) → All (Between k m) l → All (Was s) l → Moves (Off k m) s t → All (Was t) l
  later k m {s} {t} l b a c = all_zip (Between k m) (Was s) (Was t) (λ p q e. e ∙ sym (moves_key c p.0 (λ o. o q.0 q.1))) l b a

  past : {own : ℕ → Type 0} {d : ℕ} (i : ℕ) (t : Tree) → Num i t → Covers own i (i + size t) → (f : Flags) (s : State) → At N d s
      → Changes own s (visit classes t f s)
  past {own} i t n o f s r = visit_changes classes t f s (tree_writes own i t n o) (bottom r)

  -- the lambda's own row
  own-made : {i j d : ℕ} (n : Node) (xs : List Ident) (b : Tree) (escapes : Bool) (s : State) → At N (suc d) s → 1 ≤ d → n.at ≡ i → i < j → j ≤ N
      → key (get_or R n.at Blank) ≡ key (row_at s n.at) → Agree i j T (close_lambda n xs b escapes s) → Open R (n.at, d) → MadeIn T (n.at, d)
  unfolding close_lambda
  own-made {d = d} n xs b escapes s r h e l u k ag q =
      let same : function_in (get_or R n.at Blank) ≡ function_in (row_at s n.at) = sym (function_key (get_or R n.at Blank)) ∙ ap function_in k ∙ function_key (row_at s n.at) in
      let lengths = (moves_lengths (out_of_lambda {own = Any} n xs b escapes s tt)).rows in
      let m = ends_made (function_in (row_at s n.at)) n b escapes _ _ _ _ d (λ v g. q v (same ∙ g)) (left-depth n xs b escapes s d r.deep h)
      (omega (arith, r.long)) in
      record { fact = m.fact; is = key_function _ (ag.at n.at (omega arith) (omega arith) ∙ ap key m.is); depth = m.depth }

  -- an inner begin enters its lambda defines
  children_was : (i : ℕ) (ts : Trees) → Nums i ts → (s : State) (d : ℕ) → All (Was s) (lambdas_in ts d) → All (Was (enter_children classes LocallyDefinedFunction (cores ts) s)) (lambdas_in ts d)
  children_was i ts n s d a =
      let us = cores ts in
      all_zip (λ p. Spared us p.0) (Was s) (Was (enter_children classes LocallyDefinedFunction us s)) (λ p z e. e ∙ sym (children_key classes LocallyDefinedFunction us s p.0 z)) (lambdas_in ts d)
      (subst (All (λ p. Spared us p.0)) (lambdas_cores ts d) (spared_all i (i + sizes ts) us (spread_cores i ts n) d)) a

  mutual
    unfolding visit Num size lambdas

    makes : (i : ℕ) (t : Tree) → Num i t → (f : Flags) (s : State) (d : ℕ) → At N d s → i + size t ≤ N
        → All (Was s) (lambdas t d) → Agree i (i + size t) T (visit classes t f s) → All (Open R) (lambdas t d) → All (MadeIn T) (lambdas t d)
    makes i (ident x) n f s d r h br ag o = tt
    makes i (const m q) n f s d r h br ag o = tt
    makes i (if m a b c) n f s d r h br ag o =
        let s₁ = visit classes a (not_tail f) s in
        let s₂ = visit classes b (same_tail f) s₁ in
        let r₁ = still r (visited classes a (not_tail f) s (bottom r)) in
        let r₂ = still r₁ (visited classes b (same_tail f) s₁ (bottom r₁)) in
        let j = i + 1 in
        let k = j + size a in
        let l = k + size b in
        let br₁ = all_right (Was s) (lambdas a d) (lambdas b d ++ lambdas c d) br in
        let o₁ = all_right (Open R) (lambdas a d) (lambdas b d ++ lambdas c d) o in
        all-++ (MadeIn T) (lambdas a d) (lambdas b d ++ lambdas c d)
        (makes j a n.1 (not_tail f) s d r (omega arith) (all_left (Was s) (lambdas a d) (lambdas b d ++ lambdas c d) br)
        (earlier ag (omega arith) (omega arith)
        (by (past k b n.2 (λ x l u y z. omega arith) (same_tail f) s₁ r₁) ⨟ by (past l c n.3 (λ x l u y z. omega arith) (same_tail f) s₂ r₂)))
        (all_left (Open R) (lambdas a d) (lambdas b d ++ lambdas c d) o))
        (all-++ (MadeIn T) (lambdas b d) (lambdas c d)
        (makes k b n.2 (same_tail f) s₁ d r₁ (omega arith)
        (later k l (lambdas b d) (between k b n.2 d) (all_left (Was s) (lambdas b d) (lambdas c d) br₁) (by (past j a n.1 (λ x l u y z. omega arith) (not_tail f) s r)))
        (earlier ag (omega arith) (omega arith) (by (past l c n.3 (λ x l u y z. omega arith) (same_tail f) s₂ r₂)))
        (all_left (Open R) (lambdas b d) (lambdas c d) o₁))
        (makes l c n.3 (same_tail f) s₂ d r₂ (omega arith)
        (later l (l + size c) (lambdas c d) (between l c n.3 d) (all_right (Was s) (lambdas b d) (lambdas c d) br₁)
        (by (past j a n.1 (λ x l u y z. omega arith) (not_tail f) s r) ⨟ by (past k b n.2 (λ x l u y z. omega arith) (same_tail f) s₁ r₁)))
        (narrow ag (omega arith) (omega arith))
        (all_right (Open R) (lambdas b d) (lambdas c d) o₁)))
    makes i (letin m xs es b) n f s d r h br ag o =
        let s₁ = with_context NONE s in
        let s₂ = visit_arguments classes es (not_tail f) s₁ in
        let s₃ = with_context s.context s₂ in
        let s₄ = open_let m xs f.height f.function s₃ in
        let g = let_body_flags (many es) f in
        let r₃ : At N d s₃ = still r (context NONE ⨾ visited_arguments classes es (not_tail f) s₁ (bottom r) ⨾ context s.context) in
        let r₄ : At N (let_layer d) s₄ = record {
          long = omega (arith, r₃.long, (moves_lengths (into_let {own = Any} m xs f.height f.function s₃ (names-any xs))).rows);
          deep = let_depth m xs f.height f.function s₃ (bottom r₃) ∙ ap let_layer r₃.deep;
          one = omega (arith, let_le d, r.one);
        } in
        let j = i + 1 + length xs in
        let k = j + sizes es in
        all-++ (MadeIn T) (lambdas_in es d) (lambdas b (let_layer d))
        (makes_in j es n.3 (not_tail f) s₁ d (still r (context NONE)) (omega arith)
        (all_left (Was s) (lambdas_in es d) (lambdas b (let_layer d)) br)
        (earlier ag (omega arith) (omega arith)
        (by (context {s = s₂} s.context)
        ⨟ into_let m xs f.height f.function s₃ (names_writes (Off j k) (i + 1) xs n.2 (λ x l u y z. omega arith))
        ⨟ by (past k b n.4 (λ x l u y z. omega arith) g s₄ r₄)
        ⨟ out_of_let (at_bottom s) m xs f.height f.function _ (λ y z. omega arith)))
        (all_left (Open R) (lambdas_in es d) (lambdas b (let_layer d)) o))
        (makes k b n.4 g s₄ (let_layer d) r₄ (omega arith)
        (later k (k + size b) (lambdas b (let_layer d)) (between k b n.4 (let_layer d)) (all_right (Was s) (lambdas_in es d) (lambdas b (let_layer d)) br)
        (by (context {s = s} NONE)
        ⨟ by (arguments_visited classes es (not_tail f) s₁ (trees_writes _ j es n.3 (λ x l u y z. omega arith)) (bottom r))
        ⨟ by (context {s = s₂} s.context)
        ⨟ into_let m xs f.height f.function s₃ (names_writes _ (i + 1) xs n.2 (λ x l u y z. omega arith))))
        (earlier ag (omega arith) (omega arith) (out_of_let (at_bottom s) m xs f.height f.function _ (λ y z. omega arith)))
        (all_right (Open R) (lambdas_in es d) (lambdas b (let_layer d)) o))
    makes i (define m x b) n f s d r h br ag o =
        makes (i + 2) b n.2 (define_flags f) _ d (still r (before_changes classes f.direct (is_lambda b) x b s tt)) (omega arith)
        (later (i + 2) (i + 2 + size b) (lambdas b d) (between (i + 2) b n.2 d) br (by (before_changes classes f.direct (is_lambda b) x b s (λ y z. omega arith))))
        (earlier ag (omega arith) (omega arith) (by (after_changes classes f.direct (is_lambda b) s.context x b _ (λ y z. omega arith)))) o
    makes i (lambda m xs b) n f s d r h br ag o =
        let g = body_flags m (length xs) f in
        let s₁ = open_lambda m xs s in
        let s₂ = visit classes b g s₁ in
        let r₁ : At N (suc d) s₁ = record {
          long = omega (arith, r.long, (moves_lengths (into_lambda {own = Any} m xs s (names-any xs))).rows);
          deep = lambda_depth m xs s (bottom r) ∙ ap suc r.deep;
          one = omega arith;
        } in
        let k = i + 1 + length xs in (
          own-made m xs b f.escape s₂ (still r₁ (visited classes b g s₁ (bottom r₁))) r.one n.0 (omega arith) h
              (br.0
              ∙ sym (moves_key (into_lambda {own = Off i (i + 1)} m xs s (names_writes _ (i + 1) xs n.1 (λ x l u y z. omega arith))
              ⨟ by (past k b n.2 (λ x l u y z. omega arith) g s₁ r₁)) m.at (λ z. z (omega arith) (omega arith))))
              ag o.0,
          makes k b n.2 g s₁ (suc d) r₁ (omega arith)
              (later k (k + size b) (lambdas b (suc d)) (between k b n.2 (suc d)) br.1 (into_lambda m xs s (names_writes _ (i + 1) xs n.1 (λ x l u y z. omega arith))))
              (earlier ag (omega arith) (omega arith) (out_of_lambda m xs b f.escape _ (λ y z. omega arith)))
              o.1,
        )
    makes i (sequence (begins m) es) n f s d r h br ag o =
        makes_all (i + 1) es n.1 (in_begin f) _ d (still r (children_changes classes _ (cores es) s (trees_any (cores es)))) (omega arith)
        (children_was (i + 1) es n.1 s d br) (narrow ag (omega arith) (omega arith)) o
    makes i (sequence (ands m) es) n f s d r h br ag o = makes_all (i + 1) es n.1 (in_and (is_alone es) f) s d r (omega arith) br (narrow ag (omega arith) (omega arith)) o
    makes i (sequence (whens q m) es) n f s d r h br ag o = makes_tested (i + 1) es n.1 f s d r (omega arith) br (narrow ag (omega arith) (omega arith)) o
    makes i (call m g es) n f s d r h br ag o =
        let s₁ = visit_arguments classes es (argument_flags f) s in
        let q = head_flags g (many es) f in
        let s₂ = visit classes g q s₁ in
        let r₁ = still r (visited_arguments classes es (argument_flags f) s (bottom r)) in
        let j = i + 1 in
        let k = j + size g in
        all-++ (MadeIn T) (lambdas g d) (lambdas_in es d)
        (makes j g n.1 q s₁ d r₁ (omega arith)
        (later j k (lambdas g d) (between j g n.1 d) (all_left (Was s) (lambdas g d) (lambdas_in es d) br)
        (by (arguments_visited classes es (argument_flags f) s (trees_writes _ k es n.2 (λ x l u y z. omega arith)) (bottom r))))
        (earlier ag (omega arith) (omega arith) (by (call_changes m g es f s₂ (λ e y z. omega arith))))
        (all_left (Open R) (lambdas g d) (lambdas_in es d) o))
        (makes_in k es n.2 (argument_flags f) s d r (omega arith) (all_right (Was s) (lambdas g d) (lambdas_in es d) br)
        (earlier ag (omega arith) (omega arith) (by (past j g n.1 (λ x l u y z. omega arith) q s₁ r₁ ⨾ call_changes m g es f s₂ (λ e y z. omega arith))))
        (all_right (Open R) (lambdas g d) (lambdas_in es d) o))
    makes i (set! m x b) n f s d r h br ag o =
        makes (i + 2) b n.2 (not_tail f) _ d (still r (clear_changes x s)) (omega arith)
        (later (i + 2) (i + 2 + size b) (lambdas b d) (between (i + 2) b n.2 d) br (by (clear_changes x s)))
        (earlier ag (omega arith) (omega arith) (by (mutate_changes x.name _ ⨾ read_changes classes x _ (λ y z. omega arith)))) o

    makes_in : (i : ℕ) (ts : Trees) → Nums i ts → (f : Flags) (s : State) (d : ℕ) → At N d s → i + sizes ts ≤ N
        → All (Was s) (lambdas_in ts d) → Agree i (i + sizes ts) T (visit_arguments classes ts f s) → All (Open R) (lambdas_in ts d) → All (MadeIn T) (lambdas_in ts d)
    makes_in i nil n f s d r h br ag o = tt
    makes_in i (cons t ts) n f s d r h br ag o =
        let s₁ = visit classes t f s in
        let r₁ = still r (visited classes t f s (bottom r)) in
        all-++ (MadeIn T) (lambdas t d) (lambdas_in ts d)
        (makes i t n.0 f s d r (omega arith) (all_left (Was s) (lambdas t d) (lambdas_in ts d) br)
        (earlier ag (omega arith) (omega arith)
        (by (arguments_visited classes ts (pushed f) s₁ (trees_writes _ (i + size t) ts n.1 (λ x l u y z. omega arith)) (bottom r₁))))
        (all_left (Open R) (lambdas t d) (lambdas_in ts d) o))
        (makes_in (i + size t) ts n.1 (pushed f) s₁ d r₁ (omega arith)
        (later (i + size t) (i + size t + sizes ts) (lambdas_in ts d) (between_in (i + size t) ts n.1 d) (all_right (Was s) (lambdas t d) (lambdas_in ts d) br) (by (past i t n.0 (λ x l u y z. omega arith) f s r)))
        (narrow ag (omega arith) (omega arith)) (all_right (Open R) (lambdas t d) (lambdas_in ts d) o))

    makes_all : (i : ℕ) (ts : Trees) → Nums i ts → (f : Flags) (s : State) (d : ℕ) → At N d s → i + sizes ts ≤ N
        → All (Was s) (lambdas_in ts d) → Agree i (i + sizes ts) T (visit_children classes ts f s) → All (Open R) (lambdas_in ts d) → All (MadeIn T) (lambdas_in ts d)
    makes_all i nil n f s d r h br ag o = tt
    makes_all i (cons t ts) n f s d r h br ag o =
        let g = child_flags (is_nil ts) f in
        let s₁ = visit classes t g s in
        let r₁ = still r (visited classes t g s (bottom r)) in
        all-++ (MadeIn T) (lambdas t d) (lambdas_in ts d)
        (makes i t n.0 g s d r (omega arith) (all_left (Was s) (lambdas t d) (lambdas_in ts d) br)
        (earlier ag (omega arith) (omega arith)
        (by (children_visited classes ts f s₁ (trees_writes _ (i + size t) ts n.1 (λ x l u y z. omega arith)) (bottom r₁))))
        (all_left (Open R) (lambdas t d) (lambdas_in ts d) o))
        (makes_all (i + size t) ts n.1 f s₁ d r₁ (omega arith)
        (later (i + size t) (i + size t + sizes ts) (lambdas_in ts d) (between_in (i + size t) ts n.1 d) (all_right (Was s) (lambdas t d) (lambdas_in ts d) br) (by (past i t n.0 (λ x l u y z. omega arith) g s r)))
        (narrow ag (omega arith) (omega arith)) (all_right (Open R) (lambdas t d) (lambdas_in ts d) o))

    makes_tested : (i : ℕ) (ts : Trees) → Nums i ts → (f : Flags) (s : State) (d : ℕ) → At N d s → i + sizes ts ≤ N
        → All (Was s) (lambdas_in ts d) → Agree i (i + sizes ts) T (visit_tested classes ts f s) → All (Open R) (lambdas_in ts d) → All (MadeIn T) (lambdas_in ts d)
    makes_tested i nil n f s d r h br ag o = tt
    makes_tested i (cons t ts) n f s d r h br ag o =
        let g = not_tail f in
        let k = i + size t in
        let s₁ = visit classes t g s in
        let s₂ = enter_children classes LocallyDefinedFunction (cores ts) s₁ in
        let r₁ = still r (visited classes t g s (bottom r)) in
        let r₂ = still r₁ (children_changes classes LocallyDefinedFunction (cores ts) s₁ (trees_any (cores ts))) in
        let w = trees_writes (Off i k) k ts n.1 (λ x l u y z. omega arith) in
        all-++ (MadeIn T) (lambdas t d) (lambdas_in ts d)
        (makes i t n.0 g s d r (omega arith) (all_left (Was s) (lambdas t d) (lambdas_in ts d) br)
        (earlier ag (omega arith) (omega arith)
        (by (children_changes classes _ (cores ts) s₁ (writes_cores _ _ ts w) ⨾ children_visited classes ts (in_begin f) s₂ w (bottom r₂))))
        (all_left (Open R) (lambdas t d) (lambdas_in ts d) o))
        (makes_all k ts n.1 (in_begin f) s₂ d r₂ (omega arith)
        (children_was k ts n.1 s₁ d
        (later k (k + sizes ts) (lambdas_in ts d) (between_in k ts n.1 d) (all_right (Was s) (lambdas t d) (lambdas_in ts d) br) (by (past i t n.0 (λ x l u y z. omega arith) g s r))))
        (narrow ag (omega arith) (omega arith)) (all_right (Open R) (lambdas t d) (lambdas_in ts d) o))

  -- The top level

  makes_define : (i : ℕ) (l : Bool) (x : Ident) (b : Tree) → Num i b → x.at < i → (s : State) → At N 1 s → i + size b ≤ N
      → All (Was s) (lambdas b 1) → Agree i (i + size b) T (visit_top_define classes l x b s) → All (Open R) (lambdas b 1) → All (MadeIn T) (lambdas b 1)
  makes_define i true x b n u s r h br ag o =
      let s₁ = with_context x.id s in
      makes i b n top_flags s₁ 1 (still r (context x.id)) h br
      (earlier ag (omega arith) (omega arith) (by (context {s = visit classes b top_flags s₁} NONE))) o
  makes_define i false x b n u s r h br ag o =
      makes i b n top_flags _ 1 (still r (value_changes classes x b s tt)) h
      (later i (i + size b) (lambdas b 1) (between i b n 1) br (by (value_changes classes x b s (λ y z. omega arith)))) ag o

  makes_one : (i : ℕ) (t : Tree) → Num i t → (s : State) → At N 1 s → i + size t ≤ N → All (Was s) (lambdas t 1)
      → Agree i (i + size t) T (visit_top classes t s) → All (Open R) (lambdas t 1) → All (MadeIn T) (lambdas t 1)
  unfolding visit_top lambdas Num size
  makes_one i (ident x) n s r h br ag o = tt
  makes_one i (const m q) n s r h br ag o = tt
  makes_one i (if m a b c) n s r h br ag o = makes i (if m a b c) n top_flags s 1 r h br ag o
  makes_one i (letin m xs es b) n s r h br ag o = makes i (letin m xs es b) n top_flags s 1 r h br ag o
  makes_one i (define m x b) n s r h br ag o =
      makes_define (i + 2) (is_lambda b) x b n.2 (omega (arith, n.1)) s r (omega arith) br (narrow ag (omega arith) (omega arith)) o
  makes_one i (lambda m xs b) n s r h br ag o = makes i (lambda m xs b) n top_flags s 1 r h br ag o
  makes_one i (sequence m es) n s r h br ag o = makes i (sequence m es) n top_flags s 1 r h br ag o
  makes_one i (call m k es) n s r h br ag o = makes i (call m k es) n top_flags s 1 r h br ag o
  makes_one i (set! m x b) n s r h br ag o = makes i (set! m x b) n top_flags s 1 r h br ag o

  makes_top : (i j : ℕ) (ts : Trees) → Spread i j ts → (s : State) → At N 1 s → j ≤ N → All (Was s) (lambdas_in ts 1)
      → Agree i j T (visit_tops classes ts s) → All (Open R) (lambdas_in ts 1) → All (MadeIn T) (lambdas_in ts 1)
  unfolding visit_tops lambdas
  makes_top i j nil p s r h br ag o = tt
  makes_top i j (cons t ts) p s r h br ag o =
      let k = p.0 + size t in
      let s₁ = visit_top classes t s in
      let r₁ = still r (top-visited classes t s (tree_any t) (bottom r)) in
      let l = p.1 in
      let end = spread_end k j ts p.3 in
      all-++ (MadeIn T) (lambdas t 1) (lambdas_in ts 1)
      (makes_one p.0 t p.2 s r (omega arith) (all_left (Was s) (lambdas t 1) (lambdas_in ts 1) br)
      (earlier ag (omega arith) (omega arith) (by (tops_visited classes ts s₁ (spread_writes _ k j ts p.3 (λ x l u y z. omega arith)) (bottom r₁))))
      (all_left (Open R) (lambdas t 1) (lambdas_in ts 1) o))
      (makes_top k j ts p.3 s₁ r₁ h
      (later k j (lambdas_in ts 1) (between_spread k j ts p.3 1) (all_right (Was s) (lambdas t 1) (lambdas_in ts 1) br)
      (by (top-visited classes t s (tree_writes _ p.0 t p.2 (λ x u v y z. omega arith)) (bottom r))))
      (narrow ag (omega arith) (omega arith)) (all_right (Open R) (lambdas t 1) (lambdas_in ts 1) o))

module _ (classes : List ℕ) (ts : Trees) (n : Nums 0 ts) (h : sizes ts ≤ rows_most) where
  run_makes : (f : Facts) → length f.rows ≡ rows_most → All (Open f.rows) (lambdas_in ts 1) → All (MadeIn (run classes ts f).facts.rows) (lambdas_in ts 1)
  unfolding run start
  run_makes f l o =
      let us = top_level ts in
      let T = (run classes ts f).facts.rows in
      let first : At rows_most 1 (start f) = record { long = omega arith; deep = refl; one = omega arith } in
      let s = enter_children classes Global us (start f) in
      subst (All (MadeIn T)) (lambdas_top ts 1)
      (makes_top classes rows_most f.rows T 0 (0 + sizes ts) us (spread_top 0 ts n) s (still first (children_changes classes Global us (start f) (trees_any us))) (omega arith)
      (all_map (λ p. Spared us p.0) _ (λ p z. sym (children_key classes Global us (start f) p.0 z)) (lambdas_in us 1) (spared_all 0 (0 + sizes ts) us (spread_top 0 ts n) 1))
      (record { at = λ x u v. refl })
      (subst (All (Open f.rows)) (sym (lambdas_top ts 1)) o))

  pub fresh_makes : All (MadeIn (fresh classes ts).facts.rows) (lambdas_in ts 1)
  unfolding fresh no_facts
  fresh_makes =
      run_makes no_facts (length-replicate rows_most Blank)
      (all_of (Open no_facts.rows) (λ p v q. absurd (none-some v (sym (sym q ∙ ap function_in (blank-rows rows_most p.0))))) (lambdas_in ts 1))

  pub settled_makes : All (MadeIn (settled classes ts).facts.rows) (lambdas_in ts 1)
  unfolding settled fresh no_facts start
  settled_makes =
      let T = (fresh classes ts).facts.rows in
      run_makes (fresh classes ts).facts ((keeps_lengths (ran classes ts no_facts)).rows ∙ length-replicate rows_most Blank)
      (all_map (MadeIn T) (Open T) (λ p m v q. ap (λ (w : FunctionInformation). w.depth) (same_Some v m.fact (sym q ∙ ap function_in m.is)) ∙ m.depth) (lambdas_in ts 1) fresh_makes)
