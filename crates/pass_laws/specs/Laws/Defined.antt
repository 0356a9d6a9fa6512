-- What a run leaves at the name of a define at top level, inner defines or not: Global, of depth 1, with no reference and no slot.
use Rattle.std.specs.Prelude.{ℕ, ◌+◌, ◌≤◌, ◌<◌, List, Bool, ◌≡◌, length}
use Rattle.std.proofs.Math.Bool.{true, false}
use Rattle.std.proofs.Common.{true≢false, ap, sym, ◌∙◌, arith}
use Rattle.std.proofs.Math.Path.{refl}
use Rattle.std.proofs.Math.ListN.{length-replicate}
use Rattle.tree.specs.Tree.{Ident, Tree, Trees, ident, const, if, letin, define, lambda, sequence, call, set!, nil, cons, size, sizes, Num, Nums}
use Rattle.tree.specs.Core.{core}
use Rattle.tree.proofs.Laws.Tree.{size_pos}
use Rattle.tree.specs.Define.{top_level}
use Rattle.tree.specs.Accepted.{All}
use Rattle.semantic.specs.Information.{NONE}
use Rattle.semantic.specs.Rows.{Row, Blank, Variable}
use Rattle.semantic.specs.declared.IdentifierStatus.TheVariants.{Global}
use Rattle.semantic.specs.declared.SemanticInformation.{SemanticInformation}
use Rattle.r7rs.specs.Bottom.{Define, define_of, defines_of}
use Rattle.pass.specs.State.{Facts, State, top_level_entry, newest, depth, row_at}
use Rattle.pass.specs.Read.{is_builtin, is_required, enter, define_fact, enter_define, shadow, enter_top_level_value}
use Rattle.pass.specs.Visit.{top_flags, is_lambda, enter_if_lambda, enter_child, enter_children, visit_top_define, visit_top, visit_tops}
use Rattle.pass.specs.Run.{rows_most, no_facts, start, run, fresh, settled}
use Rattle.pass_laws.specs.Laws.All.{all-++, all_left, all_right, all_map, all_zip}
use Rattle.pass_laws.specs.Laws.Rows.{key, key_variable, row_same}
use Rattle.pass_laws.specs.Laws.Changes.{Changes, keeps_key, keeps_lengths, keeps_depth}
use Rattle.pass_laws.specs.Laws.Names.{enter_changes, shadow_changes, value_changes}
use Rattle.pass_laws.specs.Laws.Visits.{Writes, stays, top-visited, children_changes, tops_visited}
use Rattle.pass_laws.specs.Laws.Ranges.{tree_writes, tree_any, trees_any}
use Rattle.pass_laws.specs.Laws.Scopes.{Any}
use Rattle.pass_laws.specs.Laws.Keeps.{Off, But, but, keeps, ran}
use Rattle.pass_laws.specs.Spread.{Spread}
use Rattle.pass_laws.specs.Laws.Tops.{spread_end, spread_writes, spread_top}
use Rattle.pass_laws.specs.Laws.Globals.{DefineAt, define-at}

-- a row that says so
pub record Defined (r : Row) : Type 0 where
  pub fact : SemanticInformation
  pub is : r ≡ Variable fact
  pub kind : fact.kind ≡ Global
  pub refers : fact.refers_to ≡ NONE
  pub depth : fact.depth ≡ 1
  pub slot : fact.stack_offset ≡ NONE

-- a row of the same key says it too
kept : (r q : Row) → key r ≡ key q → Defined q → Defined r
kept r q e d =
    let (v, i, l) = key_variable r (e ∙ ap key d.is) in
    record {
      fact = v;
      is = i;
      kind = ap (λ (w : SemanticInformation). w.kind) l ∙ d.kind;
      refers = ap (λ (w : SemanticInformation). w.refers_to) l ∙ d.refers;
      depth = ap (λ (w : SemanticInformation). w.depth) l ∙ d.depth;
      slot = ap (λ (w : SemanticInformation). w.stack_offset) l ∙ d.slot;
    }

module _ (classes : List ℕ) where
  -- A define enters

  fact_says : (a : ℕ) (x : Ident) (b : Tree) (s : State) → depth s ≡ 1 → Defined (Variable (define_fact classes Global a x b s))
  unfolding define_fact
  fact_says a x b s h = go (is_builtin classes (core b)) (is_required classes (core b)) refl refl
    where
      go : (p q : Bool) → is_builtin classes (core b) ≡ p → is_required classes (core b) ≡ q → Defined (Variable (define_fact classes Global a x b s))
      go true true p q = record { fact = _; is = refl; kind = rw (p, q, h); refers = rw (p, q); depth = rw (p, q, h); slot = rw (p, q) }
      go true false p q = record { fact = _; is = refl; kind = rw (p, q, h); refers = rw (p, q); depth = rw (p, q, h); slot = rw (p, q) }
      go false true p q = record { fact = _; is = refl; kind = rw (p, q, h); refers = rw (p, q); depth = rw (p, q, h); slot = rw (p, q) }
      go false false p q = record { fact = _; is = refl; kind = rw (p, q, h); refers = rw (p, q); depth = rw (p, q, h); slot = rw (p, q) }

  define_says : (a : ℕ) (x : Ident) (b : Tree) (s : State) → depth s ≡ 1 → x.at < length s.facts.rows
      → Defined (row_at (enter_define classes Global a x b s) x.at)
  unfolding enter_define
  define_says a x b s h l =
      let same = (keeps_lengths (enter_changes {own = Any} x top_level_entry s tt)).rows in
      kept _ _ (ap key (row_same x.at (Variable (define_fact classes Global a x b s)) (enter x top_level_entry s) (omega (arith, same)))) (fact_says a x b s h)

  value_says : (x : Ident) (b : Tree) (s : State) → depth s ≡ 1 → x.at < length s.facts.rows → Defined (row_at (enter_top_level_value classes x b s) x.at)
  unfolding enter_top_level_value
  value_says x b s h l =
      let c = shadow_changes {free = Unit {0}} {own = Any} classes (newest s x.name) s in
      define_says _ x b (shadow classes (newest s x.name) s) (keeps_depth c (omega arith) ∙ h) (omega (arith, (keeps_lengths c).rows))

  -- One tree

  -- the lambda define of t has entered
  abbrev Entered : State → Define → Type 0
  Entered s d = d.is_lambda ≡ true → Defined (row_at s d.name.at)

  abbrev Says : State → Define → Type 0
  Says s d = Defined (row_at s d.name.at)

  enter-top_says : (k : ℕ) (t : Tree) (s : State) → Num k t → depth s ≡ 1 → k + size t ≤ length s.facts.rows → All (Entered (enter_child classes Global t s)) (define_of t)
  unfolding Num size
  enter-top_says k (ident x) s n h l = tt
  enter-top_says k (const m q) s n h l = tt
  enter-top_says k (if m a b c) s n h l = tt
  enter-top_says k (letin m xs es b) s n h l = tt
  enter-top_says k (define m x b) s n h l = (go (is_lambda b), tt)
    where
      go : (q : Bool) → q ≡ true → Defined (row_at (enter_if_lambda classes Global q x b s) x.at)
      go true e = define_says NONE x b s h (omega (arith, n.1, size_pos b))
      go false e = absurd (true≢false (sym e))
  enter-top_says k (lambda m xs b) s n h l = tt
  enter-top_says k (sequence m es) s n h l = tt
  enter-top_says k (call m g es) s n h l = tt
  enter-top_says k (set! m x e) s n h l = tt

  visit_top_says : (k : ℕ) (t : Tree) (s : State) → Num k t → depth s ≡ 1 → k + size t ≤ length s.facts.rows → All (Entered s) (define_of t)
      → All (Says (visit_top classes t s)) (define_of t)
  unfolding Num size visit_top
  visit_top_says k (ident x) s n h l p = tt
  visit_top_says k (const m q) s n h l p = tt
  visit_top_says k (if m a b c) s n h l p = tt
  visit_top_says k (letin m xs es b) s n h l p = tt
  visit_top_says k (define m x b) s n h l p = (go (is_lambda b) p.0, tt)
    where
      off : Off (k + 2) (k + 2 + size b) x.at
      off u v = omega (arith, n.1)

      go : (q : Bool) → (q ≡ true → Defined (row_at s x.at)) → Defined (row_at (visit_top_define classes q x b s) x.at)
      go true e = kept _ _ (keeps classes (k + 2) b n.2 top_flags _ (omega arith) x.at off) (e refl)
      go false e =
          let c = value_changes {own = Any} classes x b s tt in
          kept _ _ (keeps classes (k + 2) b n.2 top_flags (enter_top_level_value classes x b s) (stays c (omega arith)) x.at off)
          (value_says x b s h (omega (arith, n.1, size_pos b)))
  visit_top_says k (lambda m xs b) s n h l p = tt
  visit_top_says k (sequence m es) s n h l p = tt
  visit_top_says k (call m g es) s n h l p = tt
  visit_top_says k (set! m x e) s n h l p = tt

  -- The top level

  record Between (i j : ℕ) (d : Define) : Type 0 where
    from : i ≤ d.name.at
    below : d.name.at < j

  names_between : (i j : ℕ) (ts : Trees) → Spread i j ts → All (Between i j) (defines_of ts)
  unfolding defines_of
  names_between i j nil p = tt
  names_between i j (cons t ts) p =
      let l = p.1 in
      let e = spread_end (p.0 + size t) j ts p.3 in
      all-++ (Between i j) (define_of t) (defines_of ts)
      (all_map (DefineAt p.0 (p.0 + size t)) (Between i j) (λ d q. record { from = omega (arith, q.name); below = omega (arith, q.name, q.below) }) (define_of t) (define-at p.0 t p.2))
      (all_map (Between (p.0 + size t) j) (Between i j) (λ d q. record { from = omega (arith, q.from); below = q.below }) (defines_of ts) (names_between (p.0 + size t) j ts p.3))

  -- what is said of names outside the records from i up to j outlives changes there
  outlives : {i j : ℕ} {s t : State} (d : Define) → Off i j d.name.at → ((x : ℕ) → Off i j x → Changes (But x) s t) → Says s d → Says t d
  outlives d o c p = kept _ _ (keeps_key (c d.name.at o) d.name.at (λ q. q refl)) p

  enters_say : (i j : ℕ) (ts : Trees) (s : State) → Spread i j ts → depth s ≡ 1 → j ≤ length s.facts.rows → All (Entered (enter_children classes Global ts s)) (defines_of ts)
  unfolding enter_children defines_of Writes
  enters_say i j nil s p h l = tt
  enters_say i j (cons t ts) s p h l =
      let k = p.0 + size t in
      let s₁ = enter_child classes Global t s in
      let e = spread_end k j ts p.3 in
      let c : Changes Any s s₁ = children_changes classes Global (cons t nil) s (tree_any t, tt) in
      all-++ (Entered (enter_children classes Global ts s₁)) (define_of t) (defines_of ts)
      (all_zip (DefineAt p.0 k) (Entered s₁) (Entered (enter_children classes Global ts s₁))
      (λ d q g y. outlives {i = k} {j = j} d (λ u v. omega (arith, q.name, q.below)) (λ x o. children_changes classes Global ts s₁ (spread_writes (But x) k j ts p.3 (but x o))) (g y))
      (define_of t) (define-at p.0 t p.2) (enter-top_says p.0 t s p.2 h (omega arith)))
      (enters_say k j ts s₁ p.3 (keeps_depth c (omega arith) ∙ h) (omega (arith, (keeps_lengths c).rows)))

  visits_say : (i j : ℕ) (ts : Trees) (s : State) → Spread i j ts → depth s ≡ 1 → j ≤ length s.facts.rows → All (Entered s) (defines_of ts)
      → All (Says (visit_tops classes ts s)) (defines_of ts)
  unfolding visit_tops defines_of
  visits_say i j nil s p h l a = tt
  visits_say i j (cons t ts) s p h l a =
      let k = p.0 + size t in
      let s₁ = visit_top classes t s in
      let e = spread_end k j ts p.3 in
      let c : Changes Any s s₁ = top-visited classes t s (tree_any t) (omega arith) in
      let h₁ : depth s₁ ≡ 1 = keeps_depth c (omega arith) ∙ h in
      all-++ (Says (visit_tops classes ts s₁)) (define_of t) (defines_of ts)
      (all_zip (DefineAt p.0 k) (Says s₁) (Says (visit_tops classes ts s₁))
      (λ d q g. outlives {i = k} {j = j} d (λ u v. omega (arith, q.name, q.below)) (λ x o. tops_visited classes ts s₁ (spread_writes (But x) k j ts p.3 (but x o)) (omega arith)) g)
      (define_of t) (define-at p.0 t p.2) (visit_top_says p.0 t s p.2 h (omega arith) (all_left (Entered s) (define_of t) (defines_of ts) a)))
      (visits_say k j ts s₁ p.3 h₁ (omega (arith, (keeps_lengths c).rows))
      (all_zip (Between k j) (Entered s) (Entered s₁)
      (λ d q g y. outlives {i = p.0} {j = k} d (λ u v. omega (arith, q.from)) (λ x o. top-visited classes t s (tree_writes (But x) p.0 t p.2 (but x o)) (omega arith)) (g y))
      (defines_of ts) (names_between k j ts p.3) (all_right (Entered s) (define_of t) (defines_of ts) a)))

  pub run_says : (ts : Trees) (f : Facts) → Nums 0 ts → sizes ts ≤ length f.rows → All (λ d. Defined (row_at (run classes ts f) d.name.at)) (defines_of (top_level ts))
  unfolding run start
  run_says ts f n l =
      let us = top_level ts in
      let p = spread_top 0 ts n in
      let c : Changes Any (start f) (enter_children classes Global us (start f)) = children_changes classes Global us (start f) (trees_any us) in
      visits_say 0 (0 + sizes ts) us (enter_children classes Global us (start f)) p (keeps_depth c (omega arith)) (omega (arith, (keeps_lengths c).rows))
      (enters_say 0 (0 + sizes ts) us (start f) p refl (omega arith))

  pub fresh-defined : (ts : Trees) → Nums 0 ts → sizes ts ≤ rows_most → All (λ d. Defined (row_at (fresh classes ts) d.name.at)) (defines_of (top_level ts))
  unfolding fresh no_facts
  fresh-defined ts n l = run_says ts no_facts n (omega (arith, length-replicate rows_most Blank))

  pub settled-defined : (ts : Trees) → Nums 0 ts → sizes ts ≤ rows_most → All (λ d. Defined (row_at (settled classes ts) d.name.at)) (defines_of (top_level ts))
  unfolding settled fresh no_facts start
  settled-defined ts n l = run_says ts (fresh classes ts).facts n (omega (arith, (keeps_lengths (ran classes ts no_facts)).rows, length-replicate rows_most Blank))
