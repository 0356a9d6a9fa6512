-- A fresh visit of a tree with no define in it: its rows say what R7RS has of each name, and have the static meaning.
use Rattle.std.specs.Prelude.{ℕ, suc, ◌+◌, ◌≤◌, Bool, true, false, ◌≡◌, refl, length, get_or, eqb, None}
use mathlib.Core.List.{List, [], ◌++◌, append-nil, cons-ne-nil}
use Rattle.std.proofs.Common.{ap, sym, subst, ◌∙◌, add-one, arith}
use Rattle.tree.specs.Tree.{Ident, Tree, Trees, ident, const, if, letin, define, lambda, sequence, call, set!, nil, cons, many, size, sizes, Num, Nums, Node, begins, ands, whens}
use Rattle.tree.specs.Define.{defines, defines_in}
use Rattle.scope_map.specs.ScopeMap.{Live}
use Rattle.semantic.specs.Information.{NONE}
use Rattle.semantic.specs.Rows.{Row, Blank}
use Rattle.r7rs.specs.Binding.{Place, Use, Event, lambda_body, let_body, parameters, walk, walk_arguments, walk_all}
use Rattle.pass.specs.State.{State, with_context, depth}
use Rattle.pass.specs.Lambda.{open_lambda, at_bottom, open_let}
use Rattle.pass_laws.specs.Static.{Presumption, Ctx, Rec, r_const, r_if, r_lambda, r_begin, r_call, r_set, Args, a_nil, a_cons, Seq, s_nil, s_one, s_more, r_and, r_when, r_no_test}
use Rattle.pass.specs.Visit.{Flags, not_tail, same_tail, pushed, let_body_flags, body_flags, argument_flags, head_flags, child_flags, clear_context, visit, visit_arguments, visit_children, in_begin, in_and, is_alone, visit_tested}
use Rattle.pass_laws.specs.Laws.Changes.{Changes, same, ◌⨾◌, context, keeps_noted}
use Rattle.pass_laws.specs.Laws.Moves.{by, ◌⨟◌, moves_noted, into_let, out_of_let, out_of_lambda}
use Rattle.pass_laws.specs.Laws.Scopes.{Any, names-any, lambda_depth, let_stays}
use Rattle.pass_laws.specs.Laws.Names.{read_changes, mutate_changes}
use Rattle.pass_laws.specs.Laws.Visits.{stays, call_changes, clear_changes, visit_changes, arguments_visited, children_visited}
use Rattle.pass_laws.specs.Laws.Ranges.{Covers, names_writes, tree_writes, trees_writes}
use Rattle.pass_laws.specs.Laws.Keeps.{visited, visited_arguments, visited_children}
use Rattle.pass_laws.specs.Laws.Live.{none_left, none_right, none-entered}
use Rattle.pass_laws.specs.Laws.Says.{uses_in}
use Rattle.pass_laws.specs.Laws.Finds.{Finds, layered, deep}
use Rattle.pass_laws.specs.Laws.Onward.{Parts, calmly, fewer}
use Rattle.pass_laws.specs.Laws.Reads.{Only}
use Rattle.pass_laws.specs.Laws.Bodies.{no_part, at_height, into_let as open_let_lem, into_lambda as open_lambda_lem, lambda_left}
use Rattle.pass_laws.specs.Laws.Refs.{ctx_of, enter_ctx}
use Rattle.pass_laws.specs.Laws.Ends.{call_row}
use Rattle.pass_laws.specs.Laws.Forms.{Minus, reads, sets, names_done, lambda_done, let_done}
use Rattle.pass_laws.specs.Laws.Done.{with_uses_lem, Done, given, both, ended, closed}
use Rattle.pass_laws.specs.Laws.Counts.{Counts, counts_as, counts_fewer, counts_quietly, untouched_rows}
use Rattle.pass_laws.specs.Laws.Counting.{let_counts, lambda_counts, call_quietly, clear_quietly, body-deep, left_counts}

module _ (classes : List ℕ) (T : List Row) (P : Presumption) (bottom : List (Live Ident)) where
  -- The visits

  -- a visit of other records
  past : {own : ℕ → Type 0} (i : ℕ) (t : Tree) → Num i t → Covers own i (i + size t) → (f : Flags) (s : State) → 1 ≤ depth s → Changes own s (visit classes t f s)
  past {own} i t n o f s h = visit_changes classes t f s (tree_writes own i t n o) h

  abbrev RecAt : Place → Bool → Tree → Type 0
  RecAt p b t = Rec T P (ctx_of p.scope) p.site.layer p.site.height b t

  mutual
    unfolding visit walk defines Num size

    pub visits : (i : ℕ) (t : Tree) → Num i t → defines t ≡ [] → (f : Flags) (b : Bool) → f.tail ≡ b → {own : ℕ → Type 0} {before : List Use} {p : Place} {s : State} → f.height ≡ p.site.height
        → Covers own i (i + size t) → Finds own bottom before p s → (visit classes t f s).noted.nine ≡ None
        → Done classes T P bottom (Minus own i (i + size t)) before p (walk t p) i (i + size t) (visit classes t f s) (RecAt p b t) (λ n. Counts own n s)
    visits i (ident x) n d f b t h o g e = reads classes T P bottom i x n o g
    visits i (const m q) n d f b t {before = before} h o g e =
        record {
          finds = with_uses_lem (sym (append-nil before)) (fewer (λ x z. z.0) g);
          counts = λ n c. counts_as (λ y. omega arith) (counts_fewer (λ x z. z.0) c);
          says = λ ag. tt;
          means = λ ag u. r_const;
        }
    visits i (if m a c k) n d f b t {own} {before} {p} {s} h o g e =
        let s₁ = visit classes a (not_tail f) s in
        let s₂ = visit classes c (same_tail f) s₁ in
        let h₀ = (layered g).one in
        let h₁ = stays (visited classes a (not_tail f) s h₀) h₀ in
        let h₂ = stays (visited classes c (same_tail f) s₁ h₁) h₁ in
        let e₂ = (keeps_noted (visited classes k (same_tail f) s₂ h₂)).nine e in
        let e₁ = (keeps_noted (visited classes c (same_tail f) s₁ h₁)).nine e₂ in
        let ck = none_right (defines a) (defines c ++ defines k) d in
        let i₁ = i + 1 in
        let i₂ = i₁ + size a in
        let i₃ = i₂ + size c in
        let j = i₃ + size k in
        let A = visits i₁ a n.1 (none_left (defines a) (defines c ++ defines k) d) (not_tail f) false refl h (λ x l u. o x (omega arith) (omega arith)) g e₁ in
        let C = visits i₂ c n.2 (none_left (defines c) (defines k) ck) (same_tail f) b t h (λ x l u. (o x (omega arith) (omega arith), λ y z. omega arith)) A.finds e₂ in
        let K = visits i₃ k n.3 (none_right (defines c) (defines k) ck) (same_tail f) b t h
        (λ x l u. ((o x (omega arith) (omega arith), λ y z. omega arith), λ y z. omega arith)) C.finds e in
        closed i (i + size (if m a c k)) (omega arith) (omega arith)
        (λ x z. (((z.0, λ l u. z.1 (omega arith) (omega arith)), λ l u. z.1 (omega arith) (omega arith)), λ l u. z.1 (omega arith) (omega arith)))
        (both i₁ j (omega arith) (omega arith) (omega arith) (omega arith) A
        (by (past i₂ c n.2 (λ x l u y z. omega arith) (same_tail f) s₁ h₁) ⨟ by (past i₃ k n.3 (λ x l u y z. omega arith) (same_tail f) s₂ h₂)) (λ k c. c)
        (both i₂ j (omega arith) (omega arith) (omega arith) (omega arith) C (by (past i₃ k n.3 (λ x l u y z. omega arith) (same_tail f) s₂ h₂)) (λ k c. c) K))
        (λ q. r_if q.0 q.1.0 q.1.1)
    visits i (letin m xs es c) n d f b t {own} {before} {p} {s} h o g e =
        let s₁ = with_context NONE s in
        let s₂ = visit_arguments classes es (not_tail f) s₁ in
        let s₃ = with_context s.context s₂ in
        let s₄ = open_let m xs f.height f.function s₃ in
        let k = let_body_flags (many es) f in
        let s₅ = visit classes c k s₄ in
        let h₀ = (layered g).one in
        let h₂ = stays (visited_arguments classes es (not_tail f) s₁ h₀) h₀ in
        let h₄ = let_stays m xs f.height f.function s₃ h₂ in
        let e₅ = (moves_noted (out_of_let {own = Any} (at_bottom s) m xs f.height f.function s₅ tt)).nine e in
        let e₄ = (keeps_noted (visited classes c k s₄ h₄)).nine e₅ in
        let e₂ = (moves_noted (into_let {own = Any} m xs f.height f.function s₃ (names-any xs))).nine e₄ in
        let i₁ = i + 1 in
        let i₂ = i₁ + length xs in
        let i₃ = i₂ + sizes es in
        let j = i₃ + size c in
        let q = let_body (length xs) p in
        let g₁ : Finds own bottom before p s₁ = calmly no_part g (λ free. context NONE) in
        let A = visits_in i₂ es n.3 (none_left (defines_in es) (defines c) d) (not_tail f) refl h (λ x l u. o x (omega arith) (omega arith)) g₁ e₂ in
        let g₃ : Finds (Minus own i₂ i₃) bottom (before ++ uses_in (walk_arguments es p)) p s₃ = calmly no_part A.finds (λ free. context s.context) in
        let N = open_let_lem classes {left = Minus (Minus own i₂ i₃) i₁ i₂} m i₁ xs n.2 (λ x l u. (o x (omega arith) (omega arith), λ y z. omega arith))
        (o m.at (omega arith) (omega arith), λ y z. omega arith) (λ y z. z.0) (λ y z l u. z.1 l u) g₃ f.height h f.function e₄ in
        let D = names_done classes T P bottom true p.site.height q xs p.scope i₁ N in
        let C = visits i₃ c n.4 (none_right (defines_in es) (defines c) d) k b t (omega (arith, n.1))
        (λ x l u. ((o x (omega arith) (omega arith), λ y z. omega arith), λ y z. omega arith)) D.finds e₅ in
        let_done classes T P bottom own before p i m xs es c b f.height f.function (at_bottom s) n o
        (given {C = λ n. Counts own n s} (λ k c. counts_quietly (λ y z. z) c (untouched_rows refl refl)) A)
        (by (context {s = s₂} s.context) ⨟ into_let m xs f.height f.function s₃ (names_writes _ i₁ xs n.2 (λ x l u y z. omega arith)))
        (λ k c. let_counts {left = Minus (Minus own i₂ i₃) i₁ i₂} m i₁ xs n.2 (λ x l u. (o x (omega arith) (omega arith), λ y z. omega arith))
        (o m.at (omega arith) (omega arith), λ y z. omega arith) (λ y z. z.0) (λ y z l u. z.1 l u) g₃ (counts_quietly (λ y z. z) c (untouched_rows refl refl)) f.height f.function)
        g₃ (ap (λ (k : ℕ). eqb k 1) (deep g ∙ sym (deep g₃))) e₄ D (λ own w. past i₃ c n.4 w k s₄ h₄) C
    visits i (define m x c) n d f b t h o g e = absurd (cons-ne-nil m.at (defines c) d)
    visits i (lambda m xs c) n d f b t {own} {before} {p} {s} h o g e =
        let k = body_flags m (length xs) f in
        let s₁ = open_lambda m xs s in
        let s₂ = visit classes c k s₁ in
        let h₁ : 1 ≤ depth s₁ = omega (arith, lambda_depth m xs s (layered g).one) in
        let e₂ = (moves_noted (out_of_lambda {own = Any} m xs c f.escape s₂ tt)).nine e in
        let e₁ = (keeps_noted (visited classes c k s₁ h₁)).nine e₂ in
        let i₁ = i + 1 in
        let i₂ = i₁ + length xs in
        let j = i₂ + size c in
        let q = lambda_body m (length xs) p in
        let here = o m.at (omega arith) (omega arith) in
        let N = open_lambda_lem classes {left = Minus own i₁ i₂} m i₁ xs n.1 (λ x l u. o x (omega arith) (omega arith)) here (λ y z. z.0) (λ y z l u. z.1 l u) g e₁ in
        let D = names_done classes T P bottom false 0 q xs p.scope i₁ N in
        let into : (k : ℕ → ℕ) → Counts own k s → Counts (Minus own i₁ i₂) k s₁ =
        λ k z. lambda_counts m i₁ xs n.1 (λ x l u. o x (omega arith) (omega arith)) here (λ y z. z.0) (λ y z l u. z.1 l u) g z in
        let C = visits i₂ c n.2 d k true refl refl (λ x l u. (o x (omega arith) (omega arith), λ y z. omega arith)) D.finds e₂ in
        let parts : Parts (Minus (Minus own i₁ i₂) i₂ j) (Only m.at) (Minus own i (i + size (lambda m xs c))) =
        record {
          written = λ x q. ((o x (omega arith) (omega arith), λ l u. omega arith), λ l u. omega arith);
          kept = λ x z. ((z.0, λ l u. z.1 (omega arith) (omega arith)), λ l u. z.1 (omega arith) (omega arith));
          apart = λ x z q. z.1 (omega arith) (omega arith);
        } in
        let left = lambda_left m xs q (parameters m xs p) g C.finds parts c f.escape e₁ (C.finds.live ∙ sym N.finds.live) in
        let own_record : Minus (Minus own i₁ i₂) i₂ j m.at = ((here, λ l u. omega arith), λ l u. omega arith) in
        let E = lambda_done classes T P bottom i m xs c f.escape s₂ n.0 (C.finds.tables.blank m.at own_record) (C.finds.tables.rows m.at own_record) left in
        closed i (i + size (lambda m xs c)) (omega arith) (omega arith) (λ x z. z)
        (both i j (omega arith) (omega arith) (omega arith) (omega arith) (given {C = λ n. Counts own n s} into D)
        (by (past i₂ c n.2 (λ x l u y z. omega arith) k s₁ h₁) ⨟ out_of_lambda m xs c f.escape s₂ (λ l u. omega arith)) (λ k c. c)
        (both i j (omega arith) (omega arith) (omega arith) (omega arith) C (out_of_lambda m xs c f.escape s₂ (λ l u. omega arith)) (λ k z. left_counts m xs c f.escape s₂ parts.kept (body-deep false 0 q xs p.scope C.finds) z) E))
        (λ z. r_lambda z.1.1.is z.1.1.depth z.0
        (subst (λ (Γ : Ctx). Rec T P Γ (suc p.site.layer) (length xs) true c) (enter_ctx false 0 q 0 xs 0 (omega arith) p.scope) z.1.0))
    visits i (sequence (begins m) es) n d f b t {own} {before} {p} {s} h o g e =
        subst (λ (u : State). (visit_children classes es (in_begin f) u).noted.nine ≡ None
        → Done classes T P bottom (Minus own i (i + size (sequence (begins m) es))) before p (walk_all es p) i (i + size (sequence (begins m) es)) (visit_children classes es (in_begin f) u) (RecAt p b (sequence (begins m) es)) (λ n. Counts own n s))
        (sym (none-entered classes es s d))
        (λ e. closed i (i + size (sequence (begins m) es)) (omega arith) (omega arith) (λ x z. (z.0, λ l u. z.1 (omega arith) (omega arith)))
        (visits_all (i + 1) es n.1 d (in_begin f) b t h (λ x l u. o x (omega arith) (omega arith)) g e) r_begin) e
    visits i (sequence (ands m) es) n d f b t {own} {before} {p} {s} h o g e =
        closed i (i + size (sequence (ands m) es)) (omega arith) (omega arith) (λ x z. (z.0, λ l u. z.1 (omega arith) (omega arith)))
        (visits_all (i + 1) es n.1 d (in_and (is_alone es) f) b t h (λ x l u. o x (omega arith) (omega arith)) g e) r_and
    visits i (sequence (whens q m) es) n d f b t {own} {before} {p} {s} h o g e =
        closed i (i + size (sequence (whens q m) es)) (omega arith) (omega arith) (λ x z. (z.0, λ l u. z.1 (omega arith) (omega arith)))
        (visits_tested (i + 1) q m es n.1 d f b t h (λ x l u. o x (omega arith) (omega arith)) g e) (λ z. z)
    visits i (call m c es) n d f b t {own} {before} {p} {s} h o g e =
        let k = head_flags c (many es) f in
        let s₁ = visit_arguments classes es (argument_flags f) s in
        let s₂ = visit classes c k s₁ in
        let h₀ = (layered g).one in
        let h₁ = stays (visited_arguments classes es (argument_flags f) s h₀) h₀ in
        let e₂ = (keeps_noted (call_changes {free = ⊥} {own = Any} m c es f s₂ (λ q. tt))).nine e in
        let e₁ = (keeps_noted (visited classes c k s₁ h₁)).nine e₂ in
        let i₁ = i + 1 in
        let i₂ = i₁ + size c in
        let j = i₂ + sizes es in
        let A = visits_in i₂ es n.2 (none_right (defines c) (defines_in es) d) (argument_flags f) refl h (λ x l u. o x (omega arith) (omega arith)) g e₁ in
        let C = visits i₁ c n.1 (none_left (defines c) (defines_in es) d) k false refl (omega arith) (λ x l u. (o x (omega arith) (omega arith), λ y z. omega arith))
        (at_height (p.site.height + many es) A.finds) e₂ in
        let X = both i₁ j (omega arith) (omega arith) (omega arith) (omega arith) A (by (past i₁ c n.1 (λ x l u y z. omega arith) k s₁ h₁)) (λ k c. c) C in
        let own_record : Minus (Minus own i₂ j) i₁ i₂ m.at = ((o m.at (omega arith) (omega arith), λ l u. omega arith), λ l u. omega arith) in
        let parts : Parts (Minus (Minus own i₂ j) i₁ i₂) (Only m.at) (Minus own i (i + size (call m c es))) =
        record {
          written = λ x q. ((o x (omega arith) (omega arith), λ l u. omega arith), λ l u. omega arith);
          kept = λ x z. ((z.0, λ l u. z.1 (omega arith) (omega arith)), λ l u. z.1 (omega arith) (omega arith));
          apart = λ x z q. z.1 (omega arith) (omega arith);
        } in
        ended i (i + size (call m c es)) (omega arith) (omega arith) X (by (call_changes m c es f s₂ (λ q l u. omega arith)))
        (at_height p.site.height (calmly parts X.finds (λ free. call_changes m c es f s₂ (λ q. refl)))) (λ k z. counts_quietly parts.kept z (call_quietly m c es f s₂))
        (λ z ag. r_call z.0 z.1
        (λ r. sym t ∙ call_row m c es f s₂ (C.finds.tables.blank m.at own_record) (C.finds.tables.rows m.at own_record) (get_or T m.at Blank)
        (ag.at m.at (omega arith) (omega arith)) r))
    visits i (set! m x c) n d f b t {own} {before} {p} {s} h o g e =
        let s₁ = clear_context x s in
        let s₂ = visit classes c (not_tail f) s₁ in
        let g₁ : Finds own bottom before p s₁ = calmly no_part g (λ free. clear_changes x s) in
        let e₂ = (keeps_noted (mutate_changes {own = Any} x.name s₂ ⨾ read_changes classes x _ tt)).nine e in
        let C = visits (i + 2) c n.2 d (not_tail f) false refl h (λ y l u. o y (omega arith) (omega arith)) g₁ e₂ in
        let X = sets classes T P bottom (i + 1) x n.1 (λ y l u. (o y (omega arith) (omega arith), λ a z. omega arith)) C.finds in
        closed i (i + size (set! m x c)) (omega arith) (omega arith)
        (λ y z. ((z.0, λ l u. z.1 (omega arith) (omega arith)), λ l u. z.1 (omega arith) (omega arith)))
        (both (i + 1) (i + 2 + size c) (omega arith) (omega arith) (omega arith) (omega arith) (given {C = λ n. Counts own n s} (λ k z. counts_quietly (λ y z. z) z (clear_quietly x s)) C)
        (by (mutate_changes x.name s₂ ⨾ read_changes classes x _ (λ l u. omega arith))) (λ k c. c) X)
        (λ z. r_set z.0 z.1.is z.1.means)

    pub visits_in : (i : ℕ) (ts : Trees) → Nums i ts → defines_in ts ≡ [] → (f : Flags) → f.tail ≡ false → {own : ℕ → Type 0} {before : List Use} {p : Place} {s : State} → f.height ≡ p.site.height
        → Covers own i (i + sizes ts) → Finds own bottom before p s → (visit_arguments classes ts f s).noted.nine ≡ None
        → Done classes T P bottom (Minus own i (i + sizes ts)) before p (walk_arguments ts p) i (i + sizes ts) (visit_arguments classes ts f s)
        (Args T P (ctx_of p.scope) p.site.layer p.site.height ts) (λ n. Counts own n s)
    visits_in i nil n d f t {before = before} h o g e =
        record {
          finds = with_uses_lem (sym (append-nil before)) (fewer (λ x z. z.0) g);
          counts = λ n c. counts_as (λ y. omega arith) (counts_fewer (λ x z. z.0) c);
          says = λ ag. tt;
          means = λ ag u. a_nil;
        }
    visits_in i (cons c ts) n d f t {own} {before} {p} {s} h o g e =
        let s₁ = visit classes c f s in
        let h₀ = (layered g).one in
        let h₁ = stays (visited classes c f s h₀) h₀ in
        let e₁ = (keeps_noted (visited_arguments classes ts (pushed f) s₁ h₁)).nine e in
        let k = i + size c in
        let j = k + sizes ts in
        let A = visits i c n.0 (none_left (defines c) (defines_in ts) d) f false t h (λ x l u. o x (omega arith) (omega arith)) g e₁ in
        let R = visits_in k ts n.1 (none_right (defines c) (defines_in ts) d) (pushed f) t (omega arith) (λ x l u. (o x (omega arith) (omega arith), λ y z. omega arith))
        (at_height (p.site.height + 1) A.finds) e in
        let X = both i j (omega arith) (omega arith) (omega arith) (omega arith) A
        (by (arguments_visited classes ts (pushed f) s₁ (trees_writes _ k ts n.1 (λ x l u y z. omega arith)) h₁)) (λ k c. c) R in
        ended i (i + sizes (cons c ts)) (omega arith) (omega arith) X (by same)
        (at_height p.site.height (fewer (λ x z. ((z.0, λ l u. z.1 (omega arith) (omega arith)), λ l u. z.1 (omega arith) (omega arith))) X.finds))
        (λ k c. counts_fewer (λ x z. ((z.0, λ l u. z.1 (omega arith) (omega arith)), λ l u. z.1 (omega arith) (omega arith))) c)
        (λ z ag. a_cons z.0 (subst (λ (k : ℕ). Args T P (ctx_of p.scope) p.site.layer k ts) (add-one p.site.height) z.1))

    visits_tested : (i : ℕ) (q : Bool) (m : Node) (ts : Trees) → Nums i ts → defines_in ts ≡ [] → (f : Flags) (b : Bool) → f.tail ≡ b → {own : ℕ → Type 0} {before : List Use} {p : Place} {s : State} → f.height ≡ p.site.height
        → Covers own i (i + sizes ts) → Finds own bottom before p s → (visit_tested classes ts f s).noted.nine ≡ None
        → Done classes T P bottom (Minus own i (i + sizes ts)) before p (walk_all ts p) i (i + sizes ts) (visit_tested classes ts f s)
        (RecAt p b (sequence (whens q m) ts)) (λ n. Counts own n s)
    visits_tested i q m nil n d f b t {before = before} h o g e =
        record {
          finds = with_uses_lem (sym (append-nil before)) (fewer (λ x z. z.0) g);
          counts = λ n c. counts_as (λ y. omega arith) (counts_fewer (λ x z. z.0) c);
          says = λ ag. tt;
          means = λ ag u. r_no_test;
        }
    visits_tested i q m (cons c ts) n d f b t {own} {before} {p} {s} h o g e =
        let s₁ = visit classes c (not_tail f) s in
        let k = i + size c in
        let j = k + sizes ts in
        let d₂ = none_right (defines c) (defines_in ts) d in
        subst (λ (u : State). (visit_children classes ts (in_begin f) u).noted.nine ≡ None
        → Done classes T P bottom (Minus own i (i + sizes (cons c ts))) before p (walk_all (cons c ts) p) i (i + sizes (cons c ts)) (visit_children classes ts (in_begin f) u) (RecAt p b (sequence (whens q m) (cons c ts))) (λ n. Counts own n s))
        (sym (none-entered classes ts s₁ d₂))
        (λ e.
        let h₀ = (layered g).one in
        let h₁ = stays (visited classes c (not_tail f) s h₀) h₀ in
        let e₁ = (keeps_noted (visited_children classes ts (in_begin f) s₁ h₁)).nine e in
        let A = visits i c n.0 (none_left (defines c) (defines_in ts) d) (not_tail f) false refl h (λ x l u. o x (omega arith) (omega arith)) g e₁ in
        let R = visits_all k ts n.1 d₂ (in_begin f) b t h (λ x l u. (o x (omega arith) (omega arith), λ y z. omega arith)) A.finds e in
        closed i (i + sizes (cons c ts)) (omega arith) (omega arith) (λ x z. ((z.0, λ l u. z.1 (omega arith) (omega arith)), λ l u. z.1 (omega arith) (omega arith)))
        (both i j (omega arith) (omega arith) (omega arith) (omega arith) A
        (by (children_visited classes ts (in_begin f) s₁ (trees_writes _ k ts n.1 (λ x l u y z. omega arith)) h₁)) (λ k c. c) R)
        (λ z. r_when z.0 z.1)) e

    pub visits_all : (i : ℕ) (ts : Trees) → Nums i ts → defines_in ts ≡ [] → (f : Flags) (b : Bool) → f.tail ≡ b → {own : ℕ → Type 0} {before : List Use} {p : Place} {s : State} → f.height ≡ p.site.height
        → Covers own i (i + sizes ts) → Finds own bottom before p s → (visit_children classes ts f s).noted.nine ≡ None
        → Done classes T P bottom (Minus own i (i + sizes ts)) before p (walk_all ts p) i (i + sizes ts) (visit_children classes ts f s)
        (Seq T P (ctx_of p.scope) p.site.layer p.site.height b ts) (λ n. Counts own n s)
    visits_all i nil n d f b t {before = before} h o g e =
        record {
          finds = with_uses_lem (sym (append-nil before)) (fewer (λ x z. z.0) g);
          counts = λ n c. counts_as (λ y. omega arith) (counts_fewer (λ x z. z.0) c);
          says = λ ag. tt;
          means = λ ag u. s_nil;
        }
    visits_all i (cons c nil) n d f b t {own} {before} {p} {s} h o g e =
        let C = visits i c n.0 (none_left (defines c) [] d) (child_flags true f) b t h (λ x l u. o x (omega arith) (omega arith)) g e in
        subst (λ (l : List Event). Done classes T P bottom (Minus own i (i + sizes (cons c nil))) before p l i (i + sizes (cons c nil)) (visit classes c (child_flags true f) s) (Seq T P (ctx_of p.scope) p.site.layer p.site.height b (cons c nil)) (λ n. Counts own n s))
        (sym (append-nil (walk c p)))
        (closed i (i + sizes (cons c nil)) (omega arith) (omega arith) (λ x z. (z.0, λ l u. z.1 (omega arith) (omega arith))) C s_one)
    visits_all i (cons c (cons u us)) n d f b t {own} {before} {p} {s} h o g e =
        let s₁ = visit classes c (child_flags false f) s in
        let h₀ = (layered g).one in
        let h₁ = stays (visited classes c (child_flags false f) s h₀) h₀ in
        let e₁ = (keeps_noted (visited_children classes (cons u us) f s₁ h₁)).nine e in
        let k = i + size c in
        let j = k + sizes (cons u us) in
        let A = visits i c n.0 (none_left (defines c) (defines_in (cons u us)) d) (child_flags false f) false refl h (λ x l u. o x (omega arith) (omega arith)) g e₁ in
        let R = visits_all k (cons u us) n.1 (none_right (defines c) (defines_in (cons u us)) d) f b t h (λ x l u. (o x (omega arith) (omega arith), λ y z. omega arith)) A.finds e in
        closed i (i + sizes (cons c (cons u us))) (omega arith) (omega arith) (λ x z. ((z.0, λ l u. z.1 (omega arith) (omega arith)), λ l u. z.1 (omega arith) (omega arith)))
        (both i j (omega arith) (omega arith) (omega arith) (omega arith) A
        (by (children_visited classes (cons u us) f s₁ (trees_writes _ k (cons u us) n.1 (λ x l u y z. omega arith)) h₁)) (λ k c. c) R)
        (λ z. s_more z.0 z.1)
