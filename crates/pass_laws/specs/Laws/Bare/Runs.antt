-- The top level, and both runs.
use Rattle.std.specs.Prelude.{ℕ, List, Bool, true, false, ◌≡◌}
use Rattle.std.proofs.Math.Path.{refl}
use Rattle.std.proofs.Common.{ap, ◌∙◌}
use Rattle.tree.specs.Tree.{Ident, Tree, Trees, ident, const, if, letin, define, lambda, sequence, call, set!, nil, cons}
use Rattle.tree.specs.Define.{top_level}
use Rattle.scope_map.specs.Map.{map_live}
use Rattle.semantic.specs.Information.{NONE}
use Rattle.semantic.specs.Rows.{Blank, no_list_entry}
use Rattle.semantic.specs.declared.IdentifierStatus.TheVariants.{Global}
use Rattle.pass.specs.State.{Entry, Facts, State, with_context, with_entries, no_entry}
use Rattle.pass.specs.Visit.{top_flags, is_lambda, visit, visit_top_define, visit_top, visit_tops}
use Rattle.pass.specs.Run.{rows_most, list_entries_most, no_facts, start, run, fresh, settled}
use Rattle.pass.specs.Bare.{bare_ident, bare, bares, bare_row, bare_list_entry, bare_entry, bare_facts, bare_state, ◌↝◌}
use Rattle.pass_laws.specs.Laws.Bare.Maps.{map-replicate}
use Rattle.pass_laws.specs.Laws.Bare.Looks.{bare_tops}
use Rattle.pass_laws.specs.Laws.Bare.Steps.{bare_context_set}
use Rattle.pass_laws.specs.Laws.Bare.Reads.{bare-enter_value}
use Rattle.pass_laws.specs.Laws.Bare.Visits.{bare_visit, bare_lambda_is, bare-enter_children}

module _ (classes : List ℕ) where
  -- Top level

  top-define : (l : Bool) (x : Ident) (b : Tree) → visit_top_define classes l x b ↝ visit_top_define classes l (bare_ident x) (bare b)
  top-define true x b s = bare_context_set NONE _ ∙ ap (with_context NONE) (bare_visit classes b top_flags _ ∙ ap (visit classes (bare b) top_flags) (bare_context_set x.id s))
  top-define false x b s = bare_visit classes b top_flags _ ∙ rw (bare-enter_value classes x b s)

  visit_top_lem : (t : Tree) → visit_top classes t ↝ visit_top classes (bare t)
  unfolding visit_top bare
  visit_top_lem (ident x) s = bare_visit classes (ident x) top_flags s
  visit_top_lem (const n q) s = refl
  visit_top_lem (if n a b c) s = bare_visit classes (if n a b c) top_flags s
  visit_top_lem (letin n xs es b) s = bare_visit classes (letin n xs es b) top_flags s
  visit_top_lem (define n x b) s = rw (bare_lambda_is classes b) (top-define (is_lambda b) x b s)
  visit_top_lem (lambda n xs b) s = bare_visit classes (lambda n xs b) top_flags s
  visit_top_lem (sequence n es) s = bare_visit classes (sequence n es) top_flags s
  visit_top_lem (call n h es) s = bare_visit classes (call n h es) top_flags s
  visit_top_lem (set! n x e) s = bare_visit classes (set! n x e) top_flags s

  visit_tops_lem : (ts : Trees) → visit_tops classes ts ↝ visit_tops classes (bares ts)
  unfolding visit_tops bare
  visit_tops_lem nil s = refl
  visit_tops_lem (cons t ts) s = visit_tops_lem ts _ ∙ rw (visit_top_lem t s)

-- Runs

bare-start : (f : Facts) → bare_state (start f) ≡ start (bare_facts f)
unfolding start bare_state map_live
bare-start f = ap (λ (l : List Entry). with_entries l (start (bare_facts f))) (map-replicate bare_entry rows_most no_entry)

no_facts_lem : bare_facts no_facts ≡ no_facts
unfolding no_facts bare_facts
no_facts_lem = rw (map-replicate bare_row rows_most Blank, map-replicate bare_list_entry list_entries_most no_list_entry)

bare-run : (classes : List ℕ) (ts : Trees) (f : Facts) → bare_state (run classes ts f) ≡ run classes (bares ts) (bare_facts f)
unfolding run
bare-run classes ts f = visit_tops_lem classes (top_level ts) _ ∙ rw (bare-enter_children classes Global, bare-start, bare_tops)

pub bare-fresh : (classes : List ℕ) (ts : Trees) → bare_state (fresh classes ts) ≡ fresh classes (bares ts)
unfolding fresh
bare-fresh classes ts = bare-run classes ts no_facts ∙ rw no_facts_lem

facts_of : (s : State) → bare_facts s.facts ≡ (bare_state s).facts
unfolding bare_state
facts_of s = refl

pub bare-settled : (classes : List ℕ) (ts : Trees) → bare_state (settled classes ts) ≡ settled classes (bares ts)
unfolding settled
bare-settled classes ts = bare-run classes ts _ ∙ rw (facts_of, bare-fresh)
