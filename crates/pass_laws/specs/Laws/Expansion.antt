-- Facts equal those of the expanded tree: a run over the expansion of a script gives the state that a run over the script gives. Added records have no
-- fact, so that the rows of the two are the same.
pub mod Holds
pub mod Looks
pub mod Visits
use Rattle.std.specs.Prelude.{ℕ, Bool, true, false, ◌≡◌}
use mathlib.Core.List.{List, ◌++◌}
use Rattle.std.proofs.Math.Path.{refl, ap, ap₂}
use Rattle.std.proofs.Common.{◌∙◌}
use Rattle.tree.specs.Tree.{Ident, Node, Tree, Trees, ident, const, if, letin, define, lambda, sequence, call, set!, nil, cons, begins, ands, whens}
use Rattle.tree.specs.Core.{core, and_of, cores}
use Rattle.tree.specs.Define.{◌⊕◌, top_of, top_level, below, below_all, inner_defines}
use Rattle.tree.specs.Expand.{expand, expands, expand_and, expand_tested}
use Rattle.semantic.specs.Information.{NONE}
use Rattle.semantic.specs.declared.IdentifierStatus.TheVariants.{Global}
use Rattle.pass.specs.State.{Facts, State, with_context}
use Rattle.pass.specs.Visit.{is_lambda, top_flags, visit, enter_child, enter_children, visit_top_define, visit_top, visit_tops}
use Rattle.pass.specs.Run.{no_facts, start, run, fresh, settled}
use Rattle.pass_laws.specs.Laws.Expansion.Holds.{defined}
use Rattle.pass_laws.specs.Laws.Expansion.Looks.{looks, same_child, same_lambda, same_value}
use Rattle.pass_laws.specs.Laws.Expansion.Visits.{visit_expand}

module _ (classes : List ℕ) where
  -- The top level

  -- what a tree does there, another does
  record Alike (t u : Tree) : Type 0 where
    enters : (s : State) → enter_child classes Global t s ≡ enter_child classes Global u s
    visits : (s : State) → visit_top classes t s ≡ visit_top classes u s
    inner : below t ≡ below u

  abbrev AllAlike : Trees → Trees → Type 0
  AllAlike nil nil = Unit {0}
  AllAlike nil (cons u us) = ⊥
  AllAlike (cons t ts) nil = ⊥
  AllAlike (cons t ts) (cons u us) = Alike t u × AllAlike ts us

  join : (ts us vs ws : Trees) → AllAlike ts us → AllAlike vs ws → AllAlike (ts ⊕ vs) (us ⊕ ws)
  unfolding ◌⊕◌
  join nil nil vs ws p q = q
  join nil (cons u us) vs ws p q = absurd p
  join (cons t ts) nil vs ws p q = absurd p
  join (cons t ts) (cons u us) vs ws p q = (p.0, join ts us vs ws p.1 q)

  top-define : (l : Bool) (x : Ident) (b : Tree) (s : State) → visit_top_define classes l x (expand b) s ≡ visit_top_define classes l x b s
  top-define true x b s = ap (with_context NONE) (visit_expand classes b top_flags _)
  top-define false x b s = visit_expand classes b top_flags _ ∙ ap (visit classes b top_flags) (same_value classes x (expand b) b (looks b) s)

  mutual
    unfolding expand visit_top below

    -- a tree as what it is
    alike : (t : Tree) → Alike (core (expand t)) (core t)
    alike (ident x) = record { enters = λ s. refl; visits = λ s. refl; inner = refl }
    alike (const n q) = record { enters = λ s. refl; visits = λ s. refl; inner = refl }
    alike (if n a b c) = record { enters = λ s. refl; visits = visit_expand classes (if n a b c) top_flags; inner = defined (if n a b c) }
    alike (letin n xs es b) = record { enters = λ s. refl; visits = visit_expand classes (letin n xs es b) top_flags; inner = defined (letin n xs es b) }
    alike (define n x b) =
        record {
          enters = same_child classes Global (looks (define n x b));
          visits = λ s. ap (λ (l : Bool). visit_top_define classes l x (expand b) s) (same_lambda (looks b)) ∙ top-define (is_lambda b) x b s;
          inner = defined b;
        }
    alike (lambda n xs b) = record { enters = λ s. refl; visits = visit_expand classes (lambda n xs b) top_flags; inner = defined (lambda n xs b) }
    alike (sequence (begins n) es) = record { enters = λ s. refl; visits = visit_expand classes (sequence (begins n) es) top_flags; inner = defined (sequence (begins n) es) }
    alike (sequence (ands n) es) = alike_and es n
    alike (sequence (whens q n) es) = alike_tested es q n
    alike (call n h es) = record { enters = λ s. refl; visits = visit_expand classes (call n h es) top_flags; inner = defined (call n h es) }
    alike (set! n x e) = record { enters = λ s. refl; visits = visit_expand classes (set! n x e) top_flags; inner = defined (set! n x e) }

    alike_and : (es : Trees) (n : Node) → Alike (core (expand_and es n)) (and_of es n)
    alike_and nil n = record { enters = λ s. refl; visits = λ s. refl; inner = refl }
    alike_and (cons t nil) n = alike t
    alike_and (cons t (cons u us)) n =
        record {
          enters = λ s. refl;
          visits = visit_expand classes (sequence (ands n) (cons t (cons u us))) top_flags;
          inner = defined (sequence (ands n) (cons t (cons u us)));
        }

    alike_tested : (es : Trees) (q : Bool) (n : Node) → Alike (core (expand_tested es q n)) (sequence (whens q n) es)
    alike_tested nil true n = record { enters = λ s. refl; visits = visit_expand classes (sequence (whens true n) nil) top_flags; inner = defined (sequence (whens true n) nil) }
    alike_tested nil false n = record { enters = λ s. refl; visits = visit_expand classes (sequence (whens false n) nil) top_flags; inner = defined (sequence (whens false n) nil) }
    alike_tested (cons t ts) true n =
        record { enters = λ s. refl; visits = visit_expand classes (sequence (whens true n) (cons t ts)) top_flags; inner = defined (sequence (whens true n) (cons t ts)) }
    alike_tested (cons t ts) false n =
        record { enters = λ s. refl; visits = visit_expand classes (sequence (whens false n) (cons t ts)) top_flags; inner = defined (sequence (whens false n) (cons t ts)) }

  all_alike : (ts : Trees) → AllAlike (cores (expands ts)) (cores ts)
  unfolding expand
  all_alike nil = tt
  all_alike (cons t ts) = (alike t, all_alike ts)

  mutual
    unfolding expand top_of

    top_alike : (t : Tree) → AllAlike (top_of (core (expand t))) (top_of (core t))
    top_alike (ident x) = (alike (ident x), tt)
    top_alike (const n q) = (alike (const n q), tt)
    top_alike (if n a b c) = (alike (if n a b c), tt)
    top_alike (letin n xs es b) = (alike (letin n xs es b), tt)
    top_alike (define n x b) = (alike (define n x b), tt)
    top_alike (lambda n xs b) = (alike (lambda n xs b), tt)
    top_alike (sequence (begins n) es) = all_alike es
    top_alike (sequence (ands n) es) = top-and es n
    top_alike (sequence (whens q n) es) = top-tested es q n
    top_alike (call n h es) = (alike (call n h es), tt)
    top_alike (set! n x e) = (alike (set! n x e), tt)

    top-and : (es : Trees) (n : Node) → AllAlike (top_of (core (expand_and es n))) (top_of (and_of es n))
    top-and nil n = (alike (sequence (ands n) nil), tt)
    top-and (cons t nil) n = top_alike t
    top-and (cons t (cons u us)) n = (alike (sequence (ands n) (cons t (cons u us))), tt)

    top-tested : (es : Trees) (q : Bool) (n : Node) → AllAlike (top_of (core (expand_tested es q n))) (cons (sequence (whens q n) es) nil)
    top-tested nil true n = (alike (sequence (whens true n) nil), tt)
    top-tested nil false n = (alike (sequence (whens false n) nil), tt)
    top-tested (cons t ts) true n = (alike (sequence (whens true n) (cons t ts)), tt)
    top-tested (cons t ts) false n = (alike (sequence (whens false n) (cons t ts)), tt)

  tops_alike : (ts : Trees) → AllAlike (top_level (expands ts)) (top_level ts)
  unfolding expand top_level
  tops_alike nil = tt
  tops_alike (cons t ts) = join (top_of (core (expand t))) (top_of (core t)) _ _ (top_alike t) (tops_alike ts)

  enter_alike : (ts us : Trees) → AllAlike ts us → (s : State) → enter_children classes Global ts s ≡ enter_children classes Global us s
  unfolding enter_children
  enter_alike nil nil p s = refl
  enter_alike nil (cons u us) p s = absurd p
  enter_alike (cons t ts) nil p s = absurd p
  enter_alike (cons t ts) (cons u us) p s = enter_alike ts us p.1 _ ∙ ap (enter_children classes Global us) (p.0.enters s)

  visit_alike : (ts us : Trees) → AllAlike ts us → (s : State) → visit_tops classes ts s ≡ visit_tops classes us s
  unfolding visit_tops
  visit_alike nil nil p s = refl
  visit_alike nil (cons u us) p s = absurd p
  visit_alike (cons t ts) nil p s = absurd p
  visit_alike (cons t ts) (cons u us) p s = visit_alike ts us p.1 _ ∙ ap (visit_tops classes us) (p.0.visits s)

  pub run_expand : (ts : Trees) (f : Facts) → run classes (expands ts) f ≡ run classes ts f
  unfolding run
  run_expand ts f =
      let p = tops_alike ts in
      visit_alike (top_level (expands ts)) (top_level ts) p _ ∙ ap (visit_tops classes (top_level ts)) (enter_alike (top_level (expands ts)) (top_level ts) p (start f))

  -- both runs
  pub fresh_expand : (ts : Trees) → fresh classes (expands ts) ≡ fresh classes ts
  unfolding fresh
  fresh_expand ts = run_expand ts no_facts

  pub settled_expand : (ts : Trees) → settled classes (expands ts) ≡ settled classes ts
  unfolding settled
  settled_expand ts = run_expand ts _ ∙ ap (λ (s : State). run classes ts s.facts) (fresh_expand ts)

  -- the same inner defines
  inner_alike : (ts us : Trees) → AllAlike ts us → below_all ts ≡ below_all us
  unfolding below_all
  inner_alike nil nil p = refl
  inner_alike nil (cons u us) p = absurd p
  inner_alike (cons t ts) nil p = absurd p
  inner_alike (cons t ts) (cons u us) p = ap₂ (λ (a b : List ℕ). a ++ b) p.0.inner (inner_alike ts us p.1)

  pub inner_expand : (ts : Trees) → inner_defines (expands ts) ≡ inner_defines ts
  unfolding inner_defines
  inner_expand ts = inner_alike (top_level (expands ts)) (top_level ts) (tops_alike ts)
