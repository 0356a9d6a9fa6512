-- How many captured entries a stretch of a fresh run adds, and where it passes the limit.
use Rattle.std.specs.Prelude.{ℕ, ◌+◌, Bool, false, cond, ◌≡◌, refl, ltb, Option, None, Some}
use mathlib.Core.List.{List, [], ◌∷◌, ◌++◌, append-nil, reverse_aux}
use Rattle.std.proofs.Common.{ap, sym, subst, ◌∙◌}
use Rattle.tree.specs.Tree.{Ident, Node, Tree}
use Rattle.tree.specs.Accepted.{All}
use Rattle.scope_map.specs.ScopeMap.{Live}
use Rattle.semantic.specs.Rows.{Blank}
use Rattle.r7rs.specs.Binding.{Binder, Place, Mention, Event, mentions, ends, binders, entering, Use}
use Rattle.pass.specs.State.{State, or_kept, row_at}
use Rattle.pass.specs.Lists.{captured_most}
use Rattle.pass.specs.Lambda.{close_lambda}
use Rattle.pass_laws.specs.Laws.Changes.{Later, later_trans}
use Rattle.pass_laws.specs.Laws.Moves.{moves_noted, out_of_lambda}
use Rattle.pass_laws.specs.Laws.Scopes.{Any}
use Rattle.pass_laws.specs.Laws.Says.{uses_in, uses-then, uses-entering, used_inside}
use Rattle.pass_laws.specs.Laws.Finds.{Finds}
use Rattle.execution.specs.Acceptance.{ten_from, list_length}
use Rattle.execution.proofs.Laws.Exact.Seen.{seen_after, count_after, seen-append, count-append, ten_left, ten_right, seen-entering, count-entering, ten_entering, Seen, seen_fewer, seen_out, seen_in, seen-uses, mention-seen}
use Rattle.execution.proofs.Laws.Exact.Plain.{Plain}
use Rattle.execution.proofs.Laws.Exact.Captured.{top_of, captured_length, lambda_counts}

-- From s on to t the walk meets l. Before it are the uses `before` and the mentions `seen`; after it the names in scope are sc, and the records
-- `left` are left to visit.
pub record Counts (left : ℕ → Type 0) (before : List Use) (seen : List Mention) (l : List Event) (sc : List Binder) (s t : State) : Type 0 where
  pub met : Seen left (before ++ uses_in l) (seen_after seen l) sc
  pub top : top_of t ≡ count_after seen (top_of s) l
  pub ten : s.noted.ten ≡ None → t.noted.ten ≡ ten_from seen (top_of s) l
  pub later : Later s.noted t.noted

module _ {own left : ℕ → Type 0} {before : List Use} {seen : List Mention} {l : List Event} {s t u : State} where
  pub both : {sc around : List Binder} {r : List Event} → Counts own before seen l sc s t → Counts left (before ++ uses_in l) (seen_after seen l) r around t u
      → Counts left before seen (l ++ r) around s u
  both {sc} {around} {r} p q =
      record {
        met = subst (λ (m : List Mention). Seen left (before ++ uses_in (l ++ r)) m around) (sym (seen-append seen l r)) (seen-uses (uses-then before l r) q.met);
        top = q.top ∙ ap (λ (n : ℕ). count_after (seen_after seen l) n r) p.top ∙ sym (count-append seen (top_of s) l r);
        ten = λ e. go t.noted.ten refl (p.ten e);
        later = later_trans p.later q.later;
      }
    where
      go : (o : Option ℕ) → t.noted.ten ≡ o → t.noted.ten ≡ ten_from seen (top_of s) l → u.noted.ten ≡ ten_from seen (top_of s) (l ++ r)
      go None n m = q.ten n ∙ ap (λ (k : ℕ). ten_from (seen_after seen l) k r) p.top ∙ sym (ten_right seen (top_of s) l r (sym m ∙ n))
      go (Some i) n m = q.later.first_ten i n ∙ sym (ten_left seen (top_of s) l r i (sym m ∙ n))

  -- a plain step after it, out of a body with the names bs
  pub out : (bs sc : List Binder) → ((x : ℕ) → left x → own x) → Counts own before seen l (reverse_aux bs sc) s t → Plain t u → Later t.noted u.noted
      → Counts left before seen l sc s u
  out bs sc w q p k =
      record {
        met = seen_out w bs sc q.met;
        top = p.top ∙ q.top;
        ten = λ e. p.ten ∙ q.ten e;
        later = later_trans q.later k;
      }

-- a plain step before it
pub preceded : {left : ℕ → Type 0} {before : List Use} {seen : List Mention} {l : List Event} {sc : List Binder} {s t u : State} → Plain s t → Later s.noted t.noted
    → Counts left before seen l sc t u → Counts left before seen l sc s u
preceded {seen = seen} {l} p k q =
    record {
      met = q.met;
      top = q.top ∙ ap (λ (n : ℕ). count_after seen n l) p.top;
      ten = λ e. q.ten (p.ten ∙ e) ∙ ap (λ (n : ℕ). ten_from seen n l) p.top;
      later = later_trans k q.later;
    }

-- fewer records
pub fewer : {own left : ℕ → Type 0} {before : List Use} {seen : List Mention} {l : List Event} {sc : List Binder} {s t : State} → ((x : ℕ) → left x → own x)
    → Counts own before seen l sc s t → Counts left before seen l sc s t
fewer w q = record { met = seen_fewer w q.met; top = q.top; ten = q.ten; later = q.later }

-- The stretches

-- nothing is met
pub nothing : {own : ℕ → Type 0} {before : List Use} {seen : List Mention} {sc : List Binder} {s t : State} → Plain s t → Later s.noted t.noted
    → Seen own before seen sc → Counts own before seen [] sc s t
unfolding ten_from
nothing {before = before} p k w = record { met = seen-uses (sym (append-nil before)) w; top = p.top; ten = λ e. p.ten ∙ e; later = k }

-- a mention
pub mentioned : {own : ℕ → Type 0} {bottom : List (Live Ident)} {before : List Use} {seen : List Mention} {p : Place} {s t : State} (x : Ident) (is_set : Bool) → Plain s t
    → Later s.noted t.noted → Finds own bottom before p s → Seen own before seen p.scope
    → Counts own before seen (mentions (record { ident = x; is_set = is_set; place = p }) ∷ []) p.scope s t
unfolding ten_from
mentioned x is_set p k f w = record { met = mention-seen f w x is_set; top = p.top; ten = λ e. p.ten ∙ e; later = k }

-- names enter
pub entered : {own left : ℕ → Type 0} {before : List Use} {seen : List Mention} {s t : State} (is_let : Bool) (base : ℕ) (q : Place) (xs : List Ident) (sc : List Binder)
    → ((x : ℕ) → left x → own x) → All (λ x. own x.at) xs → ((x : ℕ) → own x → used_inside x before ≡ false) → Plain s t → Later s.noted t.noted
    → Seen own before seen sc → Counts left before seen (entering (binders is_let base q 0 xs) sc) (reverse_aux (binders is_let base q 0 xs) sc) s t
entered {left = left} {before} {seen} {s} is_let base q xs sc w o u p k v =
    let bs = binders is_let base q 0 xs in
    record {
      met = subst (λ (m : List Mention). Seen left (before ++ uses_in (entering bs sc)) m (reverse_aux bs sc)) (sym (seen-entering seen bs sc))
          (seen-uses (uses-entering before bs sc) (seen_in w is_let base q 0 xs sc o u v));
      top = p.top ∙ sym (count-entering seen (top_of s) bs sc);
      ten = λ e. p.ten ∙ e ∙ sym (ten_entering seen (top_of s) bs sc);
      later = k;
    }

-- a lambda ends
pub ended : {own left : ℕ → Type 0} {bottom : List (Live Ident)} {before : List Use} {seen : List Mention} {s : State} (n : Node) (xs : List Ident) (b : Tree) (escapes : Bool)
    (q : Place) (sc : List Binder) → ((x : ℕ) → left x → own x) → row_at s n.at ≡ Blank
    → Finds own bottom before (record { scope = reverse_aux (binders false 0 q 0 xs) sc; around = q.around; site = q.site }) s
    → Seen own before seen (reverse_aux (binders false 0 q 0 xs) sc) → Counts left before seen (ends n.at xs sc ∷ []) sc s (close_lambda n xs b escapes s)
unfolding ten_from
ended {before = before} {seen} {s} n xs b escapes q sc w r f v =
    let c = lambda_counts n xs b escapes s r in
    let k = ap (λ (j : ℕ). top_of s + j) (captured_length 0 q xs sc f v) in
    record {
      met = seen-uses (sym (append-nil before)) (seen_out w (binders false 0 q 0 xs) sc v);
      top = c.top ∙ k;
      ten = λ e. c.ten ∙ ap (λ (j : ℕ). cond (ltb captured_most j) (or_kept s.noted.ten n.at) s.noted.ten) k
          ∙ ap (λ (o : Option ℕ). cond (ltb captured_most (top_of s + list_length seen xs sc sc)) (or_kept o n.at) o) e;
      later = moves_noted (out_of_lambda {own = Any} n xs b escapes s tt);
    }
