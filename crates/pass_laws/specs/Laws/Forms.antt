-- The parts of a fresh visit, form by form: a name read or set, names that enter, a lambda at its end, a let.
use Rattle.std.specs.Prelude.{ℕ, ◌+◌, ◌≤◌, ◌<◌, Bool, ◌≡◌, get_or, Option, None}
use mathlib.Core.List.{List, [], ◌∷◌, ◌++◌, append-nil, reverse_aux}
use Rattle.std.proofs.Math.Bool.{true}
use Rattle.std.proofs.Common.{ap, subst, ◌∙◌, arith}
use Rattle.std.proofs.Math.Path.{sym}
use Rattle.std.proofs.Math.ListN.{length}
use Rattle.tree.specs.Tree.{Ident, Node, Tree, Trees, ident, letin, size, sizes, Num}
use Rattle.tree.specs.Site.{let_layer}
use Rattle.scope_map.specs.ScopeMap.{Live}
use Rattle.semantic.specs.Rows.{Row, Blank}
use Rattle.r7rs.specs.Binding.{Binder, Place, Use, Event, binders, let_body, let_names, within, mentions, ends, entering, walk, walk_arguments}
use Rattle.pass.specs.State.{State, row_at}
use Rattle.pass.specs.Read.{read, mutate}
use Rattle.pass.specs.Lambda.{close_lambda, at_bottom, open_let, close_let}
use Rattle.pass_laws.specs.Static.{Presumption, Ctx, lookup, Noted, Ref, Aim, Rec, r_ident, r_let, Args}
use Rattle.pass_laws.specs.Laws.Rows.{key, key_function}
use Rattle.pass_laws.specs.Laws.Changes.{Changes}
use Rattle.pass_laws.specs.Laws.Moves.{Moves, by, ◌⨟◌, out_of_let}
use Rattle.pass_laws.specs.Laws.Ranges.{Covers}
use Rattle.pass_laws.specs.Laws.Keeps.{Off, Agree}
use Rattle.pass_laws.specs.Laws.Says.{cell_of, uses_in, uses-entering}
use Rattle.pass_laws.specs.Laws.Finds.{Finds, deep, around_of}
use Rattle.pass_laws.specs.Laws.Onward.{Parts}
use Rattle.pass_laws.specs.Laws.Reads.{Only, read_at, read_finds, read_says}
use Rattle.pass_laws.specs.Laws.Sets.{set_at, target_finds, target_says}
use Rattle.pass_laws.specs.Laws.Enters.{in_scope, Entered}
use Rattle.pass_laws.specs.Laws.Bodies.{let_left}
use Rattle.pass_laws.specs.Laws.Refs.{ctx_of, find_ctx, enter_ctx, Fact, ref_of, aim_of, noted_of}
use Rattle.pass_laws.specs.Laws.Ends.{Made, lambda_row}
use Rattle.pass_laws.specs.Laws.Done.{with_uses_lem, Done, both, ended}
use Rattle.pass_laws.specs.Laws.Counts.{credits-entering, Counts, counts_as, counts_quietly}
use Rattle.pass_laws.specs.Laws.Counting.{reads-count, sets_count, let_quietly}

-- the records in `own` but those from i up to j
abbrev pub Minus : (ℕ → Type 0) → ℕ → ℕ → ℕ → Type 0
Minus own i j x = own x × Off i j x

-- one record of them is taken
pub take-one : {own : ℕ → Type 0} (i j x : ℕ) → own x → i ≤ x → x < j → Parts own (Only x) (Minus own i j)
take-one {own} i j x o l u = record { written = λ y e. subst own (sym e) o; kept = λ y z. z.0; apart = λ y z e. z.1 (omega arith) (omega arith) }

module _ (classes : List ℕ) (T : List Row) (P : Presumption) (bottom : List (Live Ident)) where
  -- an identifier that is read, and one that is set

  pub reads : {own : ℕ → Type 0} {before : List Use} {p : Place} {s : State} {b : Bool} (i : ℕ) (x : Ident) → x.at ≡ i → Covers own i (i + 1) → Finds own bottom before p s
      → Done classes T P bottom (Minus own i (i + 1)) before p (mentions (read_at x p) ∷ []) i (i + 1) (read classes x s) (Rec T P (ctx_of p.scope) p.site.layer p.site.height b (ident x)) (λ n. Counts own n s)
  reads {before = before} {p} {s} i x e c f =
      let o = c x.at (omega arith) (omega arith) in
      let parts = take-one i (i + 1) x.at o (omega arith) (omega arith) in
      let said : Agree i (i + 1) T (read classes x s) → _ = λ ag. read_says classes x f o (record { is = ag.at x.at (omega arith) (omega arith) }) in
      record {
        finds = with_uses_lem (ap (λ (u : List Use). before ++ u) (sym (append-nil _))) (read_finds classes x parts f);
        counts = λ n c. counts_as (λ y. omega arith) (reads-count classes x parts o f c);
        says = λ ag. (said ag, tt);
        means = λ ag u.
            let m = ref_of classes T (cell_of bottom) P before x p (said ag) (around_of f x.name) u.0 in
            r_ident m.is (subst (Ref T P p.site.layer m.fact) (find_ctx p.scope x.name) m.means);
      }

  pub sets : {own : ℕ → Type 0} {before : List Use} {p : Place} {s : State} (i : ℕ) (x : Ident) → x.at ≡ i → Covers own i (i + 1) → Finds own bottom before p s
      → Done classes T P bottom (Minus own i (i + 1)) before p (mentions (set_at x p) ∷ []) i (i + 1) (read classes x (mutate x.name s))
      (Fact T x.at (λ v. Aim T P p.site.layer v (lookup (ctx_of p.scope) x.name))) (λ n. Counts own n s)
  sets {before = before} {p} {s} i x e c f =
      let o = c x.at (omega arith) (omega arith) in
      let parts = take-one i (i + 1) x.at o (omega arith) (omega arith) in
      let said : Agree i (i + 1) T (read classes x (mutate x.name s)) → _ = λ ag. target_says classes x parts f T o (record { is = ag.at x.at (omega arith) (omega arith) }) in
      record {
        finds = with_uses_lem (ap (λ (u : List Use). before ++ u) (sym (append-nil _))) (target_finds classes x parts f);
        counts = λ n c. counts_as (λ y. omega arith) (sets_count classes x parts o f c);
        says = λ ag. (said ag, tt);
        means = λ ag u.
            let m = aim_of classes T (cell_of bottom) P before x p (said ag) (around_of f x.name) u.0 in
            record { fact = m.fact; is = m.is; means = subst (Aim T P p.site.layer m.fact) (find_ctx p.scope x.name) m.means };
      }

  -- names that have entered
  pub names_done : {left : ℕ → Type 0} {before : List Use} {t : State} (is_let : Bool) (base : ℕ) (q : Place) (xs : List Ident) (sc : List Binder) (k : ℕ)
      → Entered classes q bottom before left (binders is_let base q 0 xs) sc k (length xs) t
      → Done classes T P bottom left before (in_scope q (reverse_aux (binders is_let base q 0 xs) sc)) (entering (binders is_let base q 0 xs) sc) k (k + length xs) t (Noted T q.site.layer xs) (λ n. Counts left n t)
  names_done {left} {before} {t} is_let base q xs sc k n =
      record {
        finds = with_uses_lem (uses-entering before (binders is_let base q 0 xs) sc) n.finds;
        counts = λ m c. counts_as (λ y. omega (arith, credits-entering (cell_of bottom) (binders is_let base q 0 xs) sc y)) c;
        says = λ ag. n.says T ag;
        means = λ ag u. noted_of classes T (cell_of bottom) before is_let base q 0 xs sc (n.says T ag);
      }

  -- a lambda that has ended
  pub lambda_done : {left : ℕ → Type 0} {before : List Use} {p : Place} (i : ℕ) (n : Node) (xs : List Ident) (b : Tree) (escapes : Bool) (s : State) → n.at ≡ i
      → row_at s n.at ≡ Blank → n.at < length s.facts.rows → Finds left bottom before p (close_lambda n xs b escapes s)
      → Done classes T P bottom left before p (ends n.at xs p.scope ∷ []) i (i + 1) (close_lambda n xs b escapes s) (Made (get_or T n.at Blank) p.site.layer) (λ c. Counts left c (close_lambda n xs b escapes s))
  lambda_done {before = before} i n xs b escapes s e r l f =
      let m = lambda_row n xs b escapes s r l in
      record {
        finds = with_uses_lem (sym (append-nil before)) f;
        counts = λ c k. counts_as (λ y. omega arith) k;
        says = λ ag. tt;
        means = λ ag u. record {
          fact = m.fact;
          is = key_function (get_or T n.at Blank) (ag.at n.at (omega arith) (omega arith) ∙ ap key m.is);
          depth = m.depth ∙ deep f;
        };
      }

  -- Let

  module _ (own : ℕ → Type 0) (before : List Use) (p : Place) (i : ℕ) (m : Node) (xs : List Ident) (es : Trees) (c : Tree) where
    -- where its names, its initial expressions and its body begin, and where it ends

    abbrev names_at : ℕ
    names_at = i + 1

    abbrev initials_at : ℕ
    initials_at = names_at + length xs

    abbrev body_at : ℕ
    body_at = initials_at + sizes es

    abbrev end : ℕ
    end = body_at + size c

    -- the records left after the initial expressions, after the names, after the body

    abbrev AfterInitials : ℕ → Type 0
    AfterInitials = Minus own initials_at body_at

    abbrev AfterNames : ℕ → Type 0
    AfterNames = Minus AfterInitials names_at initials_at

    abbrev AfterBody : ℕ → Type 0
    AfterBody = Minus AfterNames body_at end

    abbrev body : Place
    body = within (let_names xs p) (let_body (length xs) p)

    abbrev used : List Use
    used = before ++ uses_in (walk_arguments es p)

    abbrev naming : List Event
    naming = entering (let_names xs p) p.scope

    -- its parts are done: s is the state after the initial expressions, t before the names enter, u after the body
    pub let_done : (b : Bool) {z s t u : State} (height : ℕ) (function : Option Node) (opened : Bool) → Num i (letin m xs es c) → Covers own i (i + size (letin m xs es c))
        → Done classes T P bottom AfterInitials before p (walk_arguments es p) initials_at body_at s (Args T P (ctx_of p.scope) p.site.layer p.site.height es) (λ n. Counts own n z)
        → Moves (Off initials_at body_at) s (open_let m xs height function t) → ((n : ℕ → ℕ) → Counts AfterInitials n s → Counts AfterNames n (open_let m xs height function t))
        → Finds AfterInitials bottom used p t → opened ≡ at_bottom t
        → (open_let m xs height function t).noted.nine ≡ None
        → Done classes T P bottom AfterNames used body naming names_at initials_at (open_let m xs height function t) (Noted T body.site.layer xs) (λ n. Counts AfterNames n (open_let m xs height function t))
        → ((own : ℕ → Type 0) → Covers own body_at end → Changes own (open_let m xs height function t) u)
        → Done classes T P bottom AfterBody (used ++ uses_in naming) body (walk c body) body_at end u (Rec T P (ctx_of body.scope) body.site.layer body.site.height b c) (λ n. Counts AfterNames n (open_let m xs height function t))
        → Done classes T P bottom (Minus own i (i + size (letin m xs es c))) before p (walk (letin m xs es c) p) i (i + size (letin m xs es c)) (close_let opened m xs height function u)
        (Rec T P (ctx_of p.scope) p.site.layer p.site.height b (letin m xs es c)) (λ n. Counts own n z)
    unfolding Num size walk
    let_done b {u = u} height function opened n o A w link g q e D past C =
        let X = both names_at end (omega arith) (omega arith) (omega arith) (omega arith) A (w ⨟ by (past _ (λ x l u y z. omega arith))) link
        (both names_at end (omega arith) (omega arith) (omega arith) (omega arith) D (by (past _ (λ x l u y z. omega arith))) (λ n k. k) C) in
        let parts : Parts AfterBody (Only m.at) (Minus own i (i + size (letin m xs es c))) =
        record {
          written = λ x q. (((o x (omega arith) (omega arith), λ l u. omega arith), λ l u. omega arith), λ l u. omega arith);
          kept = λ x z. (((z.0, λ l u. z.1 (omega arith) (omega arith)), λ l u. z.1 (omega arith) (omega arith)), λ l u. z.1 (omega arith) (omega arith));
          apart = λ x z q. z.1 (omega arith) (omega arith);
        } in
        ended i (i + size (letin m xs es c)) (omega arith) (omega arith) X (out_of_let opened m xs height function u (λ l u. omega arith))
        (let_left m xs (let_body (length xs) p) (let_names xs p) g X.finds parts opened height function q e (X.finds.live ∙ sym D.finds.live))
        (λ n k. counts_quietly parts.kept k (let_quietly opened m xs height function u))
        (λ z ag. r_let z.0 n.1 z.1.0
        (subst (λ (Γ : Ctx). Rec T P Γ (let_layer p.site.layer) (p.site.height + length xs) b c) (enter_ctx true p.site.height (let_body (length xs) p) 0 xs p.site.height (omega arith) p.scope) z.1.1))
