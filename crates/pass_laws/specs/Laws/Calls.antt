-- What a visit leaves at its own calls, whatever the run before left there: a call whose head is no constant has a fact, which is a tail call's
-- exactly if the call stands in tail position.
use Rattle.std.specs.Prelude.{ℕ, ◌+◌, ◌≤◌, ◌<◌, List, ◌++◌, Bool, true, ◌&&◌, ◌≡◌, refl, length, get_or, Option}
use Rattle.std.proofs.Math.Bool.{false}
use Rattle.std.proofs.Common.{true≢false, sym, ◌∙◌, arith, lt-ltb}
use Rattle.std.proofs.Math.Path.{ap}
use Rattle.std.proofs.Math.Dec.{ltb}
use Rattle.tree.specs.Tree.{Ident, Node, Tree, Trees, ident, const, if, letin, define, lambda, sequence, call, set!, nil, cons, many, size, sizes, Num, Nums, begins, ands, whens}
use Rattle.tree.specs.Define.{top_level}
use Rattle.tree.specs.Accepted.{All}
use Rattle.semantic.specs.Information.{NONE}
use Rattle.semantic.specs.Rows.{Row, Blank, CallSite}
use Rattle.semantic.specs.declared.CallSiteInformation.{CallSiteInformation}
use Rattle.r7rs.specs.Tail.{Call, calls, calls_in, calls_last, calls_tested}
use Rattle.tree.specs.Core.{core, cores, is_constant, is_constant_form}
use Rattle.tree.proofs.Laws.Site.{let_le}
use Rattle.semantic.specs.declared.IdentifierStatus.TheVariants.{LocallyDefinedFunction, Global}
use Rattle.pass.specs.State.{Facts, State, with_context, insert, row_at, depth}
use Rattle.semantic.specs.Kinds.{is_tail}
use Rattle.pass.specs.Lambda.{at_bottom, open_lambda, open_let}
use Rattle.pass.specs.Visit.{Flags, top_flags, not_tail, same_tail, pushed, let_body_flags, body_flags, argument_flags, is_lambda, head_flags, child_flags, define_flags, call_kind, call_fact, is_self, mark_if_tail, close_call, visit, visit_arguments, visit_children, visit_top_define, visit_top, visit_tops, in_begin, in_and, is_alone, visit_tested, enter_children}
use Rattle.pass.specs.Run.{start, run}
use Rattle.pass_laws.specs.Laws.All.{all-++}
use Rattle.pass_laws.specs.Laws.Rows.{key, key_call, row_same}
use Rattle.pass_laws.specs.Laws.Changes.{Changes, ◌⨾◌, keeps_lengths, keeps_depth, context}
use Rattle.pass_laws.specs.Laws.Moves.{by, ◌⨟◌, moves_lengths, into_lambda, out_of_lambda, into_let, out_of_let}
use Rattle.pass_laws.specs.Laws.Scopes.{Any, names-any, lambda_depth, let_depth}
use Rattle.pass_laws.specs.Laws.Names.{value_changes, read_changes, mutate_changes}
use Rattle.pass_laws.specs.Laws.Visits.{tail_changes, call_changes, clear_changes, before_changes, after_changes, children_changes, visit_changes, arguments_visited, children_visited, top-visited, tops_visited, writes_cores}
use Rattle.pass_laws.specs.Laws.Ranges.{Covers, names_writes, tree_writes, trees_writes, tree_any, trees_any}
use Rattle.pass_laws.specs.Spread.{Spread}
use Rattle.pass_laws.specs.Laws.Tops.{spread_end, spread_top, spread_writes, calls_top}
use Rattle.pass_laws.specs.Laws.Keeps.{Off, Agree, narrow, earlier, visited, visited_arguments}

-- the row is a call's fact, of a tail call as t says
pub record Site (r : Row) (t : Bool) : Type 0 where
  pub info : CallSiteInformation
  pub is : r ≡ CallSite info
  pub tail : is_tail info.kind ≡ t

kind_tail : (t self : Bool) (k : ℕ) → is_tail (call_kind t self k) ≡ t
kind_tail true true k = refl
kind_tail true false k = refl
kind_tail false self k = refl

put_site : (i : ℕ) (v : CallSiteInformation) (t : Bool) (s : State) → is_tail v.kind ≡ t → i < length s.facts.rows
    → Site (row_at (insert i (CallSite v) s) i) t
put_site i v t s e l = record { info = v; is = row_same i (CallSite v) s l; tail = e }

-- the row that a call leaves
pub call_site_lem : (h : Tree) (n : Node) (t : Bool) (k : ℕ) (s : State) → is_constant_form h ≡ false → n.at < length s.facts.rows
    → Site (row_at (call_fact h n t k s) n.at) t
call_site_lem (ident x) n t k s e l = put_site n.at _ t s (kind_tail t (is_self s x) k) l
call_site_lem (const m q) n t k s e l = absurd (true≢false e)
call_site_lem (if m a b c) n t k s e l = put_site n.at _ t s (kind_tail t false k) l
call_site_lem (letin m xs es b) n t k s e l = put_site n.at _ t s (kind_tail t false k) l
call_site_lem (define m x b) n t k s e l = put_site n.at _ t s (kind_tail t false k) l
call_site_lem (lambda m xs b) n t k s e l = put_site n.at _ t s (kind_tail t false k) l
call_site_lem (sequence m es) n t k s e l = put_site n.at _ t s (kind_tail t false k) l
call_site_lem (call m g es) n t k s e l = put_site n.at _ t s (kind_tail t false k) l
call_site_lem (set! m x b) n t k s e l = put_site n.at _ t s (kind_tail t false k) l

-- the tests of a call: its flag, and the depth
tail_deep : (t : Bool) (d : ℕ) → (t ≡ true → 2 ≤ d) → t && ltb 1 d ≡ t
tail_deep true d h = lt-ltb 1 d (h refl)
tail_deep false d h = refl

and-true : (b : Bool) → b && true ≡ b
and-true true = refl
and-true false = refl

and-false : (b : Bool) → b && false ≡ false
and-false true = refl
and-false false = refl

-- N records have rows; a tail flag stands in a lambda
pub record Ready (N : ℕ) (t : Bool) (s : State) : Type 0 where
  pub long : N ≤ length s.facts.rows
  pub bottom : 1 ≤ depth s
  pub deep : t ≡ true → 2 ≤ depth s

module _ {N : ℕ} where
  pub still : {t : Bool} {r s : State} → Ready N t r → Changes Any r s → Ready N t s
  still a c = record {
    long = omega (arith, a.long, (keeps_lengths c).rows);
    bottom = omega (arith, a.bottom, keeps_depth c a.bottom);
    deep = λ e. omega (arith, a.deep e, keeps_depth c a.bottom);
  }

  untailed : {t : Bool} {s : State} → Ready N t s → Ready N false s
  untailed a = record { long = a.long; bottom = a.bottom; deep = λ e. absurd (true≢false (sym e)) }

  in_lambda : {t : Bool} {s : State} (n : Node) (xs : List Ident) → Ready N t s → Ready N true (open_lambda n xs s)
  in_lambda {s = s} n xs a =
      let d = lambda_depth n xs s a.bottom in
      record {
        long = omega (arith, a.long, (moves_lengths (into_lambda {own = Any} n xs s (names-any xs))).rows);
        bottom = omega arith;
        deep = λ e. omega (arith, a.bottom);
      }

  in_let : {t : Bool} {s : State} (n : Node) (xs : List Ident) (height : ℕ) (function : Option Node)
      → Ready N t s → Ready N t (open_let n xs height function s)
  in_let {s = s} n xs height function a =
      let d = let_depth n xs height function s a.bottom in
      let g = let_le (depth s) in
      record {
        long = omega (arith, a.long, (moves_lengths (into_let {own = Any} n xs height function s (names-any xs))).rows);
        bottom = omega (arith, a.bottom);
        deep = λ e. omega (arith, a.deep e);
      }

-- the rows T have the call's fact, if its head is no constant
abbrev pub Marked : List Row → Call → Type 0
Marked T c = is_constant c.head ≡ false → Site (get_or T c.at Blank) c.tail

module _ (classes : List ℕ) (N : ℕ) (T : List Row) where
  -- a visit of other records
  past : {own : ℕ → Type 0} {b : Bool} (i : ℕ) (t : Tree) → Num i t → Covers own i (i + size t) → (f : Flags) (s : State) → Ready N b s
      → Changes own s (visit classes t f s)
  past {own} i t n o f s r = visit_changes classes t f s (tree_writes own i t n o) r.bottom

  -- the call's own row
  own_site : {i j : ℕ} (n : Node) (h : Tree) (es : Trees) (f : Flags) (s : State) → Ready N f.tail s → n.at ≡ i → i < j → j ≤ N
      → Agree i j T (close_call n h es f s) → Marked T (record { at = n.at; head = h; tail = f.tail })
  unfolding close_call
  own_site n h es f s r e l u ag c =
      let b = f.tail && ltb 1 (depth s) in
      let m = still r (tail_changes b (cores es) s) in
      let v = call_site_lem (core h) n b f.counter (mark_if_tail b (cores es) s) c (omega (arith, m.long)) in
      record {
        info = v.info;
        is = key_call _ (ag.at n.at (omega arith) (omega arith) ∙ ap key v.is);
        tail = v.tail ∙ tail_deep f.tail (depth s) r.deep;
      }

  mutual
    unfolding visit Num size calls

    pub marks : (i : ℕ) (t : Tree) → Num i t → (f : Flags) (s : State) → Ready N f.tail s → i + size t ≤ N
        → Agree i (i + size t) T (visit classes t f s) → All (Marked T) (calls t f.tail)
    marks i (ident x) n f s r h ag = tt
    marks i (const m q) n f s r h ag = tt
    marks i (if m a b c) n f s r h ag =
        let s₁ = visit classes a (not_tail f) s in
        let s₂ = visit classes b (same_tail f) s₁ in
        let r₁ = still r (visited classes a (not_tail f) s r.bottom) in
        let r₂ = still r₁ (visited classes b (same_tail f) s₁ r₁.bottom) in
        let j = i + 1 in
        let k = j + size a in
        let l = k + size b in
        all-++ (Marked T) (calls a false) (calls b f.tail ++ calls c f.tail)
        (marks j a n.1 (not_tail f) s (untailed r) (omega arith)
        (earlier ag (omega arith) (omega arith)
        (by (past k b n.2 (λ x l u y z. omega arith) (same_tail f) s₁ r₁) ⨟ by (past l c n.3 (λ x l u y z. omega arith) (same_tail f) s₂ r₂))))
        (all-++ (Marked T) (calls b f.tail) (calls c f.tail)
        (marks k b n.2 (same_tail f) s₁ r₁ (omega arith)
        (earlier ag (omega arith) (omega arith) (by (past l c n.3 (λ x l u y z. omega arith) (same_tail f) s₂ r₂))))
        (marks l c n.3 (same_tail f) s₂ r₂ (omega arith) (narrow ag (omega arith) (omega arith))))
    marks i (letin m xs es b) n f s r h ag =
        let s₁ = with_context NONE s in
        let s₂ = visit_arguments classes es (not_tail f) s₁ in
        let s₃ = with_context s.context s₂ in
        let s₄ = open_let m xs f.height f.function s₃ in
        let g = let_body_flags (many es) f in
        let r₃ : Ready N f.tail s₃ = still r (context NONE ⨾ visited_arguments classes es (not_tail f) s₁ r.bottom ⨾ context s.context) in
        let r₄ = in_let m xs f.height f.function r₃ in
        let j = i + 1 + length xs in
        let k = j + sizes es in
        all-++ (Marked T) (calls_in es) (calls b f.tail)
        (marks_in j es n.3 (not_tail f) s₁ refl (still (untailed r) (context NONE)) (omega arith)
        (earlier ag (omega arith) (omega arith)
        (by (context {s = s₂} s.context)
        ⨟ into_let m xs f.height f.function s₃ (names_writes (Off j k) (i + 1) xs n.2 (λ x l u y z. omega arith))
        ⨟ by (past k b n.4 (λ x l u y z. omega arith) g s₄ r₄)
        ⨟ out_of_let (at_bottom s) m xs f.height f.function _ (λ y z. omega arith))))
        (marks k b n.4 g s₄ r₄ (omega arith)
        (earlier ag (omega arith) (omega arith) (out_of_let (at_bottom s) m xs f.height f.function _ (λ y z. omega arith))))
    marks i (define m x b) n f s r h ag =
        marks (i + 2) b n.2 (define_flags f) _ (untailed (still r (before_changes classes f.direct (is_lambda b) x b s tt))) (omega arith)
        (earlier ag (omega arith) (omega arith) (by (after_changes classes f.direct (is_lambda b) s.context x b _ (λ y z. omega arith))))
    marks i (lambda m xs b) n f s r h ag =
        marks (i + 1 + length xs) b n.2 (body_flags m (length xs) f) _ (in_lambda m xs r) (omega arith)
        (earlier ag (omega arith) (omega arith) (out_of_lambda m xs b f.escape _ (λ y z. omega arith)))
    marks i (sequence (begins m) es) n f s r h ag =
        marks-last (i + 1) es n.1 (in_begin f) _ (still r (children_changes classes _ (cores es) s (trees_any (cores es)))) (omega arith)
        (narrow ag (omega arith) (omega arith))
    marks i (sequence (ands m) es) n f s r h ag = marks-last (i + 1) es n.1 (in_and (is_alone es) f) s r (omega arith) (narrow ag (omega arith) (omega arith))
    marks i (sequence (whens b m) es) n f s r h ag = marks-tested (i + 1) es n.1 f s r (omega arith) (narrow ag (omega arith) (omega arith))
    marks i (call m g es) n f s r h ag =
        let s₁ = visit_arguments classes es (argument_flags f) s in
        let d = head_flags g (many es) f in
        let s₂ = visit classes g d s₁ in
        let r₁ = still r (visited_arguments classes es (argument_flags f) s r.bottom) in
        let r₂ = still r₁ (visited classes g d s₁ r₁.bottom) in
        let j = i + 1 in
        let k = j + size g in (
          own_site m g es f s₂ r₂ n.0 (omega arith) h ag,
          all-++ (Marked T) (calls g false) (calls_in es)
              (marks j g n.1 d s₁ (untailed r₁) (omega arith) (earlier ag (omega arith) (omega arith) (by (call_changes m g es f s₂ (λ e y z. omega arith)))))
              (marks_in k es n.2 (argument_flags f) s refl (untailed r) (omega arith)
              (earlier ag (omega arith) (omega arith) (by (past j g n.1 (λ x l u y z. omega arith) d s₁ r₁ ⨾ call_changes m g es f s₂ (λ e y z. omega arith))))),
        )
    marks i (set! m x e) n f s r h ag =
        marks (i + 2) e n.2 (not_tail f) _ (untailed (still r (clear_changes x s))) (omega arith)
        (earlier ag (omega arith) (omega arith) (by (mutate_changes x.name _ ⨾ read_changes classes x _ (λ y z. omega arith))))

    marks_in : (i : ℕ) (ts : Trees) → Nums i ts → (f : Flags) (s : State) → f.tail ≡ false → Ready N false s → i + sizes ts ≤ N
        → Agree i (i + sizes ts) T (visit_arguments classes ts f s) → All (Marked T) (calls_in ts)
    marks_in i nil n f s e r h ag = tt
    marks_in i (cons t ts) n f s e r h ag =
        let s₁ = visit classes t f s in
        let r₁ = still r (visited classes t f s r.bottom) in
        all-++ (Marked T) (calls t false) (calls_in ts)
        (rw (← e) (marks i t n.0 f s (rw e r) (omega arith)
        (earlier ag (omega arith) (omega arith)
        (by (arguments_visited classes ts (pushed f) s₁ (trees_writes _ (i + size t) ts n.1 (λ x l u y z. omega arith)) r₁.bottom)))))
        (marks_in (i + size t) ts n.1 (pushed f) s₁ e r₁ (omega arith) (narrow ag (omega arith) (omega arith)))

    marks-last : (i : ℕ) (ts : Trees) → Nums i ts → (f : Flags) (s : State) → Ready N f.tail s → i + sizes ts ≤ N
        → Agree i (i + sizes ts) T (visit_children classes ts f s) → All (Marked T) (calls_last ts f.tail)
    marks-last i nil n f s r h ag = tt
    marks-last i (cons t nil) n f s r h ag =
        marks i t n.0 (child_flags true f) s r (omega arith) (narrow ag (omega arith) (omega arith))
    marks-last i (cons t (cons u us)) n f s r h ag =
        let s₁ = visit classes t (child_flags false f) s in
        let r₁ = still r (visited classes t (child_flags false f) s r.bottom) in
        all-++ (Marked T) (calls t false) (calls_last (cons u us) f.tail)
        (marks i t n.0 (child_flags false f) s (untailed r) (omega arith)
        (earlier ag (omega arith) (omega arith)
        (by (children_visited classes (cons u us) f s₁ (trees_writes _ (i + size t) (cons u us) n.1 (λ x l u y z. omega arith)) r₁.bottom))))
        (marks-last (i + size t) (cons u us) n.1 f s₁ r₁ (omega arith) (narrow ag (omega arith) (omega arith)))

    marks-tested : (i : ℕ) (ts : Trees) → Nums i ts → (f : Flags) (s : State) → Ready N f.tail s → i + sizes ts ≤ N
        → Agree i (i + sizes ts) T (visit_tested classes ts f s) → All (Marked T) (calls_tested ts f.tail)
    marks-tested i nil n f s r h ag = tt
    marks-tested i (cons t ts) n f s r h ag =
        let s₁ = visit classes t (not_tail f) s in
        let r₁ = still r (visited classes t (not_tail f) s r.bottom) in
        let s₂ = enter_children classes LocallyDefinedFunction (cores ts) s₁ in
        let r₂ = still r₁ (children_changes classes LocallyDefinedFunction (cores ts) s₁ (trees_any (cores ts))) in
        let writes = trees_writes (Off i (i + size t)) (i + size t) ts n.1 (λ x l u y z. omega arith) in
        all-++ (Marked T) (calls t false) (calls_last ts f.tail)
        (marks i t n.0 (not_tail f) s (untailed r) (omega arith)
        (earlier ag (omega arith) (omega arith)
        (by (children_changes classes _ (cores ts) s₁ (writes_cores _ _ ts writes) ⨾ children_visited classes ts (in_begin f) s₂ writes r₂.bottom))))
        (marks-last (i + size t) ts n.1 (in_begin f) s₂ r₂ (omega arith) (narrow ag (omega arith) (omega arith)))

  -- The top level

  marks-define : (i : ℕ) (l : Bool) (x : Ident) (b : Tree) → Num i b → (s : State) → Ready N false s → i + size b ≤ N
      → Agree i (i + size b) T (visit_top_define classes l x b s) → All (Marked T) (calls b false)
  marks-define i true x b n s r h ag =
      let s₁ = with_context x.id s in
      marks i b n top_flags s₁ (still r (context x.id)) h (earlier ag (omega arith) (omega arith) (by (context {s = visit classes b top_flags s₁} NONE)))
  marks-define i false x b n s r h ag = marks i b n top_flags _ (still r (value_changes classes x b s tt)) h ag

  marks-one : (i : ℕ) (t : Tree) → Num i t → (s : State) → Ready N false s → i + size t ≤ N
      → Agree i (i + size t) T (visit_top classes t s) → All (Marked T) (calls t false)
  unfolding visit_top calls Num size
  marks-one i (ident x) n s r h ag = tt
  marks-one i (const m q) n s r h ag = tt
  marks-one i (if m a b c) n s r h ag = marks i (if m a b c) n top_flags s r h ag
  marks-one i (letin m xs es b) n s r h ag = marks i (letin m xs es b) n top_flags s r h ag
  marks-one i (define m x b) n s r h ag = marks-define (i + 2) (is_lambda b) x b n.2 s r (omega arith) (narrow ag (omega arith) (omega arith))
  marks-one i (lambda m xs b) n s r h ag = marks i (lambda m xs b) n top_flags s r h ag
  marks-one i (sequence m es) n s r h ag = marks i (sequence m es) n top_flags s r h ag
  marks-one i (call m g es) n s r h ag = marks i (call m g es) n top_flags s r h ag
  marks-one i (set! m x e) n s r h ag = marks i (set! m x e) n top_flags s r h ag

  pub marks-top : (i j : ℕ) (ts : Trees) → Spread i j ts → (s : State) → Ready N false s → j ≤ N
      → Agree i j T (visit_tops classes ts s) → All (Marked T) (calls_in ts)
  unfolding visit_tops calls
  marks-top i j nil p s r h ag = tt
  marks-top i j (cons t ts) p s r h ag =
      let k = p.0 + size t in
      let s₁ = visit_top classes t s in
      let r₁ = still r (top-visited classes t s (tree_any t) r.bottom) in
      let l = p.1 in
      let e = spread_end k j ts p.3 in
      all-++ (Marked T) (calls t false) (calls_in ts)
      (marks-one p.0 t p.2 s r (omega arith)
      (earlier ag (omega arith) (omega arith) (by (tops_visited classes ts s₁ (spread_writes _ k j ts p.3 (λ x l u y z. omega arith)) r₁.bottom))))
      (marks-top k j ts p.3 s₁ r₁ h (narrow ag (omega arith) (omega arith)))

  -- a whole run
  pub marks-run : (ts : Trees) → Nums 0 ts → (f : Facts) → sizes ts ≤ N → N ≤ length f.rows
      → Agree 0 (sizes ts) T (run classes ts f) → All (Marked T) (calls_in ts)
  unfolding run start
  marks-run ts n f h l ag =
      let r : Ready N false (start f) = record { long = l; bottom = omega arith; deep = λ e. absurd (true≢false (sym e)) } in
      let c = children_changes classes Global (top_level ts) (start f) (trees_any (top_level ts)) in
      rw calls_top at
      (marks-top 0 (0 + sizes ts) (top_level ts) (spread_top 0 ts n) _ (still r c) (omega arith) (narrow ag (omega arith) (omega arith)))
