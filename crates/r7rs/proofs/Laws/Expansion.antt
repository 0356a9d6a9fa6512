-- The expansion of and, when and unless has the same names, mentions and heights, and its calls stand in tail position where those of the tree do.
use Rattle.std.specs.Prelude.{ℕ, suc, List, [], ◌∷◌, ◌++◌, map, Bool, true, false, ◌≡◌, refl, length}
use Rattle.std.proofs.Common.{append-nil, ap, ap₂, sym, ◌∙◌}
use Rattle.std.proofs.lemmas.List.{map-append}
use Rattle.tree.specs.Tree.{Node, Tree, Trees, ident, const, if, letin, define, lambda, sequence, call, set!, nil, cons, begins, ands, whens, many}
use Rattle.tree.specs.Expand.{expand, expands, expand_and, expand_tested}
use Rattle.r7rs.specs.Tail.{Call, key, keys, calls, calls_in, calls_last, calls_tested}
use Rattle.r7rs.specs.Binding.{Place, walk, walk_arguments, walk_all, raised, within, let_names, let_body, parameters, lambda_body, events, top}

pub many_expands : (ts : Trees) → many (expands ts) ≡ many ts
unfolding expand
many_expands nil = refl
many_expands (cons t ts) = ap suc (many_expands ts)

mutual
  unfolding expand walk

  pub walk_expand : (t : Tree) (p : Place) → walk (expand t) p ≡ walk t p
  walk_expand (ident x) p = refl
  walk_expand (const n q) p = refl
  walk_expand (if n a b c) p = rw (walk_expand a p, walk_expand b p, walk_expand c p)
  walk_expand (letin n xs es b) p = rw (arguments_expand es p, walk_expand b (within (let_names xs p) (let_body (length xs) p)))
  walk_expand (define n x b) p = walk_expand b p
  walk_expand (lambda n xs b) p = rw (walk_expand b (within (parameters n xs p) (lambda_body n (length xs) p)))
  walk_expand (sequence (begins n) es) p = all_expand es p
  walk_expand (sequence (ands n) es) p = and_expand es n p
  walk_expand (sequence (whens q n) es) p = tested_expand es q n p
  walk_expand (call n h es) p = rw (arguments_expand es p, many_expands es, walk_expand h (raised (many es) p))
  walk_expand (set! n x e) p = rw (walk_expand e p)

  arguments_expand : (ts : Trees) (p : Place) → walk_arguments (expands ts) p ≡ walk_arguments ts p
  arguments_expand nil p = refl
  arguments_expand (cons t ts) p = rw (walk_expand t p, arguments_expand ts (raised 1 p))

  all_expand : (ts : Trees) (p : Place) → walk_all (expands ts) p ≡ walk_all ts p
  all_expand nil p = refl
  all_expand (cons t ts) p = rw (walk_expand t p, all_expand ts p)

  and_expand : (ts : Trees) (n : Node) (p : Place) → walk (expand_and ts n) p ≡ walk_all ts p
  and_expand nil n p = refl
  and_expand (cons t nil) n p = walk_expand t p ∙ sym (append-nil (walk t p))
  and_expand (cons t (cons u us)) n p = rw (walk_expand t p, and_expand (cons u us) n p, append-nil (walk_all (cons u us) p))

  tested_expand : (ts : Trees) (q : Bool) (n : Node) (p : Place) → walk (expand_tested ts q n) p ≡ walk_all ts p
  tested_expand nil true n p = refl
  tested_expand nil false n p = refl
  tested_expand (cons t ts) true n p = rw (walk_expand t p, all_expand ts p, append-nil (walk_all ts p))
  tested_expand (cons t ts) false n p = rw (walk_expand t p, all_expand ts p)

pub events_expand : (ts : Trees) → events (expands ts) ≡ events ts
unfolding events
events_expand ts = all_expand ts top

two : (a b c d : List Call) → keys a ≡ keys b → keys c ≡ keys d → keys (a ++ c) ≡ keys (b ++ d)
two a b c d p q = map-append key a c ∙ ap₂ (λ (l r : List (ℕ × Bool)). l ++ r) p q ∙ sym (map-append key b d)

mutual
  unfolding expand calls

  pub calls_expand : (t : Tree) (b : Bool) → keys (calls (expand t) b) ≡ keys (calls t b)
  calls_expand (ident x) b = refl
  calls_expand (const n q) b = refl
  calls_expand (if n a c d) b =
      two (calls (expand a) false) (calls a false) _ _ (calls_expand a false)
      (two (calls (expand c) b) (calls c b) (calls (expand d) b) (calls d b) (calls_expand c b) (calls_expand d b))
  calls_expand (letin n xs es c) b = two (calls_in (expands es)) (calls_in es) (calls (expand c) b) (calls c b) (calls_in_lem es) (calls_expand c b)
  calls_expand (define n x c) b = calls_expand c false
  calls_expand (lambda n xs c) b = calls_expand c true
  calls_expand (sequence (begins n) es) b = calls_last_lem es b
  calls_expand (sequence (ands n) es) b = calls_and es n b
  calls_expand (sequence (whens q n) es) b = calls_tested_lem es q n b
  calls_expand (call n h es) b =
      ap (λ (l : List (ℕ × Bool)). (n.at, b) ∷ l) (two (calls (expand h) false) (calls h false) (calls_in (expands es)) (calls_in es) (calls_expand h false) (calls_in_lem es))
  calls_expand (set! n x e) b = calls_expand e false

  pub calls_in_lem : (ts : Trees) → keys (calls_in (expands ts)) ≡ keys (calls_in ts)
  calls_in_lem nil = refl
  calls_in_lem (cons t ts) = two (calls (expand t) false) (calls t false) (calls_in (expands ts)) (calls_in ts) (calls_expand t false) (calls_in_lem ts)

  calls_last_lem : (ts : Trees) (b : Bool) → keys (calls_last (expands ts) b) ≡ keys (calls_last ts b)
  calls_last_lem nil b = refl
  calls_last_lem (cons t nil) b = calls_expand t b
  calls_last_lem (cons t (cons u us)) b =
      two (calls (expand t) false) (calls t false) (calls_last (expands (cons u us)) b) (calls_last (cons u us) b) (calls_expand t false) (calls_last_lem (cons u us) b)

  calls_and : (ts : Trees) (n : Node) (b : Bool) → keys (calls (expand_and ts n) b) ≡ keys (calls_last ts b)
  calls_and nil n b = refl
  calls_and (cons t nil) n b = calls_expand t b
  calls_and (cons t (cons u us)) n b =
      two (calls (expand t) false) (calls t false) (calls (expand_and (cons u us) n) b ++ []) (calls_last (cons u us) b) (calls_expand t false)
      (ap keys (append-nil (calls (expand_and (cons u us) n) b)) ∙ calls_and (cons u us) n b)

  calls_tested_lem : (ts : Trees) (q : Bool) (n : Node) (b : Bool) → keys (calls (expand_tested ts q n) b) ≡ keys (calls_tested ts b)
  calls_tested_lem nil true n b = refl
  calls_tested_lem nil false n b = refl
  calls_tested_lem (cons t ts) true n b =
      two (calls (expand t) false) (calls t false) (calls_last (expands ts) b ++ []) (calls_last ts b) (calls_expand t false)
      (ap keys (append-nil (calls_last (expands ts) b)) ∙ calls_last_lem ts b)
  calls_tested_lem (cons t ts) false n b =
      two (calls (expand t) false) (calls t false) (calls_last (expands ts) b) (calls_last ts b) (calls_expand t false) (calls_last_lem ts b)
