-- A fresh run over a whole script with no inner define.
use Prim.Native.Nat.{ℕ, ◌+◌, ◌≤◌, ◌<◌}
use Rattle.std.specs.Prelude.{List, [], ◌++◌, Bool, cond, ◌≡◌, None}
use Rattle.std.proofs.Common.{append_assoc, append-nil, true≢false, ap, ap₂, sym, ◌∙◌}
use Rattle.std.proofs.Math.Bool.{true, false}
use Rattle.std.proofs.Math.Path.{refl, subst}
use native.Mathlib.Omega.{arith}
use Rattle.std.proofs.lemmas.List.{length-replicate, get_or-replicate}
use Rattle.tree.specs.Tree.{Ident, Node, Tree, Trees, ident, const, if, letin, define, lambda, sequence, call, set!, nil, cons, size, sizes, Num, Nums, begins, ands, whens}
use Rattle.tree.specs.Define.{◌⊕◌, top_of, defines, below, below_all, top_level, inner_defines}
use Rattle.scope_map.specs.ScopeMap.{Live}
use Rattle.semantic.specs.Information.{NONE}
use Rattle.semantic.specs.Rows.{Row, Blank}
use Rattle.semantic.specs.declared.IdentifierStatus.TheVariants.{Global}
use Rattle.r7rs.specs.Binding.{Place, Event, Use, top, walk, walk_all}
use Rattle.r7rs.specs.Bottom.{define_of}
use Rattle.tree.specs.Core.{core, cores}
use Rattle.tree.proofs.Laws.Core.{to_core, from_core}
use Rattle.pass.specs.State.{State, no_entry}
use Rattle.pass_laws.specs.Static.{Presumption, Rec, r_define, r_begin, Seq, s_nil, s_one, s_more, Top, top-nil, top-cons, r_and}
use Rattle.pass.specs.Visit.{top_flags, is_lambda, visit, visit_top_define, visit_top, visit_tops}
use Rattle.pass.specs.Run.{rows_most, no_facts, start, run, fresh}
use Rattle.pass_laws.specs.Laws.Changes.{context, keeps_noted}
use Rattle.pass_laws.specs.Laws.Moves.{by}
use Rattle.pass_laws.specs.Laws.Visits.{stays, top-visited, tops_visited}
use Rattle.pass_laws.specs.Laws.Ranges.{tree_any, trees_any}
use Rattle.pass_laws.specs.Laws.Keeps.{Agree, narrow, earlier}
use Rattle.pass_laws.specs.Spread.{Spread}
use Rattle.pass_laws.specs.Laws.Tops.{spread_top, spread_end, spread_writes}
use Rattle.pass_laws.specs.Laws.Live.{none_left, none_right}
use Rattle.pass_laws.specs.Laws.Says.{cell_of, uses_in, Says, Presumes, presumes_left, presumes_right}
use Rattle.pass_laws.specs.Laws.Finds.{Finds, layered}
use Rattle.pass_laws.specs.Laws.Onward.{Parts, calmly, fewer}
use Rattle.pass_laws.specs.Laws.Reads.{Only}
use Rattle.pass_laws.specs.Laws.Bodies.{no_part}
use Rattle.pass_laws.specs.Laws.Globals.{defined_in, value_finds, SparedBy, Spared, values_in, entered_all, spared_past, enter_tops}
use Rattle.pass_laws.specs.Laws.Done.{Done, given, ended, closed}
use Rattle.pass_laws.specs.Laws.Counts.{Counts, counts_quietly, untouched_rows}
use Rattle.pass_laws.specs.Laws.Counting.{value_counts}
use Rattle.pass_laws.specs.Laws.Forms.{Minus}
use Rattle.pass_laws.specs.Laws.Fresh.{visits}

-- the bottom layer that a tree at top level is visited with
abbrev pub bottom_for : Tree → List (Live Ident) → List (Live Ident)
bottom_for t l = values_in (define_of t) l

-- the records from i up to j but for the names of lambda defines
abbrev pub Left : ℕ → ℕ → Trees → ℕ → Type 0
Left i j ts y = (i ≤ y) × (y < j) × Spared ts y

pub spared_before : (i j : ℕ) (ts : Trees) → Spread i j ts → (y : ℕ) → y < i → Spared ts y
spared_before i j nil p y h = tt
spared_before i j (cons t ts) p y h =
    let k = p.1 in
    (spared_past p.0 t p.2 y (λ c d. omega arith), spared_before (p.0 + size t) j ts p.3 y (omega arith))

-- what the rows say, tree by tree
abbrev pub SaysTops : List ℕ → List Row → List Use → List (Live Ident) → Trees → Type 0
SaysTops classes T before bottom nil = Unit {0}
SaysTops classes T before bottom (cons t ts) =
    Says classes T (cell_of (bottom_for t bottom)) before (walk t top) × SaysTops classes T (before ++ uses_in (walk t top)) (bottom_for t bottom) ts

module _ (classes : List ℕ) (T : List Row) (P : Presumption) where
  module _ {own : ℕ → Type 0} {bottom : List (Live Ident)} {before : List Use} {s : State} (f : Finds own bottom before top s) where
    top-define : (k : ℕ) (n : Node) (x : Ident) (b : Tree) (q : Bool) → is_lambda b ≡ q → Num k (define n x b) → defines b ≡ []
        → ((y : ℕ) → k ≤ y → y < k + size (define n x b) → SparedBy (define n x b) y → own y) → (visit_top_define classes q x b s).noted.nine ≡ None
        → Done classes T P (cond q bottom (defined_in x bottom)) (Minus own k (k + size (define n x b))) before top (walk b top) k (k + size (define n x b)) (visit_top_define classes q x b s)
        (Rec T P [] 1 0 false (define n x b)) (λ n. Counts own n s)
    unfolding Num size
    top-define k n x b true l m d o e =
        let B = visits classes T P bottom (k + 2) b m.2 d top_flags false refl refl (λ y u v. o y (omega arith) (omega arith) (λ g q. omega arith, tt)) (calmly no_part f (λ free. context x.id)) e in
        ended k (k + size (define n x b)) (omega arith) (omega arith) (given {C = λ n. Counts own n s} (λ g c. counts_quietly (λ y z. z) c (untouched_rows refl refl)) B) (by (context NONE))
        (calmly no_part (fewer (λ y z. (z.0, λ u v. z.1 (omega arith) (omega arith))) B.finds) (λ free. context NONE))
        (λ g c. counts_quietly (λ y z. (z.0, λ u v. z.1 (omega arith) (omega arith))) c (untouched_rows refl refl))
        (λ g ag. r_define g)
    top-define k n x b false l m d o e =
        let here = o x.at (omega arith) (omega arith) (λ g. absurd (true≢false (sym g ∙ l)), tt) in
        let next : ℕ → Type 0 = λ y. own y × ¬ (y ≡ x.at) in
        let parts : Parts own (Only x.at) next = record { written = λ y q. subst own (sym q) here; kept = λ y z. z.0; apart = λ y z q. z.1 q } in
        let B = visits classes T P (defined_in x bottom) (k + 2) b m.2 d top_flags false refl refl
        (λ y u v. (o y (omega arith) (omega arith) (λ g q. omega arith, tt), λ q. omega arith)) (value_finds classes x b parts here f) e in
        closed k (k + size (define n x b)) (omega arith) (omega arith)
        (λ y z. ((z.0, λ q. z.1 (omega arith) (omega arith)), λ u v. z.1 (omega arith) (omega arith)))
        (given {C = λ n. Counts own n s} (λ g c. value_counts classes x b parts here c) B) (λ g. r_define g)

    pub visit_top_lem : (k : ℕ) (t : Tree) → Num k t → below t ≡ [] → ((y : ℕ) → k ≤ y → y < k + size t → SparedBy t y → own y) → (visit_top classes t s).noted.nine ≡ None
        → Done classes T P (bottom_for t bottom) (Minus own k (k + size t)) before top (walk t top) k (k + size t) (visit_top classes t s) (Rec T P [] 1 0 false t) (λ n. Counts own n s)
    unfolding visit_top visit below defines walk
    visit_top_lem k (ident x) n d o e = visits classes T P bottom k (ident x) n d top_flags false refl refl (λ y l u. o y l u tt) f e
    visit_top_lem k (const m q) n d o e = visits classes T P bottom k (const m q) n d top_flags false refl refl (λ y l u. o y l u tt) f e
    visit_top_lem k (if m a b c) n d o e = visits classes T P bottom k (if m a b c) n d top_flags false refl refl (λ y l u. o y l u tt) f e
    visit_top_lem k (letin m xs es b) n d o e = visits classes T P bottom k (letin m xs es b) n d top_flags false refl refl (λ y l u. o y l u tt) f e
    visit_top_lem k (define m x b) n d o e = top-define k m x b (is_lambda b) refl n d o e
    visit_top_lem k (lambda m xs b) n d o e = visits classes T P bottom k (lambda m xs b) n d top_flags false refl refl (λ y l u. o y l u tt) f e
    visit_top_lem k (sequence m es) n d o e = visits classes T P bottom k (sequence m es) n d top_flags false refl refl (λ y l u. o y l u tt) f e
    visit_top_lem k (call m h es) n d o e = visits classes T P bottom k (call m h es) n d top_flags false refl refl (λ y l u. o y l u tt) f e
    visit_top_lem k (set! m x b) n d o e = visits classes T P bottom k (set! m x b) n d top_flags false refl refl (λ y l u. o y l u tt) f e

  -- the rows of trees at top level
  pub record Script (before : List Use) (bottom : List (Live Ident)) (ts : Trees) : Type 0 where
    pub says : SaysTops classes T before bottom ts
    pub means : Presumes P (walk_all ts top) → Top T P ts

  pub visit_tops_lem : (i j : ℕ) (ts : Trees) → Spread i j ts → below_all ts ≡ [] → {before : List Use} {bottom : List (Live Ident)} {s : State} → Finds (Left i j ts) bottom before top s
      → (visit_tops classes ts s).noted.nine ≡ None → Agree i j T (visit_tops classes ts s) → Script before bottom ts
  unfolding visit_tops below_all walk
  visit_tops_lem i j nil p d f e ag = record { says = tt; means = λ u. top-nil }
  visit_tops_lem i j (cons t ts) p d {s = s} f e ag =
      let k = p.0 + size t in
      let l = p.1 in
      let end = spread_end k j ts p.3 in
      let s₁ = visit_top classes t s in
      let h₀ = (layered f).one in
      let h₁ = stays (top-visited classes t s (tree_any t) h₀) h₀ in
      let e₁ = (keeps_noted (tops_visited classes ts s₁ (trees_any ts) h₁)).nine e in
      let D = visit_top_lem f p.0 t p.2 (none_left (below t) (below_all ts) d)
      (λ y u v z. (omega arith, omega arith, (z, spared_before k j ts p.3 y (omega arith)))) e₁ in
      let rest = visit_tops_lem k j ts p.3 (none_right (below t) (below_all ts) d)
      (fewer (λ y z. ((omega (arith, z.0), z.1, (spared_past p.0 t p.2 y (λ c d. omega (arith, z.0)), z.2)), λ c d. omega (arith, z.0))) D.finds) e
      (narrow ag (omega arith) (omega arith)) in
      let ag₁ : Agree p.0 k T s₁ = earlier ag (omega arith) (omega arith) (by (tops_visited classes ts s₁ (spread_writes _ k j ts p.3 (λ x l u y z. omega arith)) h₁)) in
      record {
        says = (D.says ag₁, rest.says);
        means = λ u. top-cons (D.means ag₁ (presumes_left P (walk t top) (walk_all ts top) u)) (rest.means (presumes_right P (walk t top) (walk_all ts top) u));
      }

-- What stands at top level is what the trees hold

module _ (T : List Row) (P : Presumption) where
  top-⊕ : (ts us : Trees) → Top T P (ts ⊕ us) → Top T P ts × Top T P us
  unfolding ◌⊕◌
  top-⊕ nil us r = (top-nil, r)
  top-⊕ (cons t ts) us (top-cons r rs) = let q = top-⊕ ts us rs in (top-cons r q.0, q.1)

  seq_of : (ts : Trees) → Top T P ts → Seq T P [] 1 0 false ts
  seq_of nil r = s_nil
  seq_of (cons t nil) (top-cons r rs) = s_one r
  seq_of (cons t (cons u us)) (top-cons r rs) = s_more r (seq_of (cons u us) rs)

  only : {t : Tree} → Top T P (cons t nil) → Rec T P [] 1 0 false t
  only (top-cons r rs) = r

  -- of a tree, from what it is
  rec_core : (t : Tree) → Rec T P [] 1 0 false (core t) → Rec T P [] 1 0 false t
  rec_core = from_core (Rec T P [] 1 0 false) (λ n r. r_and s_nil) (λ n t r. r_and (s_one r))

  top-cores : (ts : Trees) → Top T P (cores ts) → Top T P ts
  top-cores nil r = top-nil
  top-cores (cons t ts) (top-cons r rs) = top-cons (rec_core t r) (top-cores ts rs)

  top_of_lem : (t : Tree) → Top T P (top_of t) → Rec T P [] 1 0 false t
  unfolding top_of
  top_of_lem (ident x) r = only r
  top_of_lem (const n q) r = only r
  top_of_lem (if n a b c) r = only r
  top_of_lem (letin n xs es b) r = only r
  top_of_lem (define n x b) r = only r
  top_of_lem (lambda n xs b) r = only r
  top_of_lem (sequence (begins n) es) r = r_begin (seq_of es (top-cores es r))
  top_of_lem (sequence (ands n) es) r = only r
  top_of_lem (sequence (whens b n) es) r = only r
  top_of_lem (call n h es) r = only r
  top_of_lem (set! n x e) r = only r

  pub top_level_lem : (ts : Trees) → Top T P (top_level ts) → Top T P ts
  unfolding top_level
  top_level_lem nil r = top-nil
  top_level_lem (cons t ts) r = let q = top-⊕ (top_of (core t)) (top_level ts) r in top-cons (rec_core t (top_of_lem (core t) q.0)) (top_level_lem ts q.1)

walk_⊕ : (ts us : Trees) (p : Place) → walk_all (ts ⊕ us) p ≡ walk_all ts p ++ walk_all us p
unfolding ◌⊕◌ walk
walk_⊕ nil us p = refl
walk_⊕ (cons t ts) us p = ap (λ (l : List Event). walk t p ++ l) (walk_⊕ ts us p) ∙ sym (append_assoc (walk t p) (walk_all ts p) (walk_all us p))

pub walk_core : (t : Tree) (p : Place) → walk (core t) p ≡ walk t p
unfolding walk
walk_core t p = to_core (λ u. walk u p ≡ walk t p) (λ n e. e) (λ n u e. sym (append-nil (walk u p)) ∙ e) t refl

pub walk_cores : (ts : Trees) (p : Place) → walk_all (cores ts) p ≡ walk_all ts p
unfolding walk
walk_cores nil p = refl
walk_cores (cons t ts) p = ap₂ (λ (a b : List Event). a ++ b) (walk_core t p) (walk_cores ts p)

walk_of : (t : Tree) (p : Place) → walk_all (top_of t) p ≡ walk t p
unfolding top_of walk
walk_of (ident x) p = append-nil (walk (ident x) p)
walk_of (const n q) p = append-nil (walk (const n q) p)
walk_of (if n a b c) p = append-nil (walk (if n a b c) p)
walk_of (letin n xs es b) p = append-nil (walk (letin n xs es b) p)
walk_of (define n x b) p = append-nil (walk (define n x b) p)
walk_of (lambda n xs b) p = append-nil (walk (lambda n xs b) p)
walk_of (sequence (begins n) es) p = walk_cores es p
walk_of (sequence (ands n) es) p = append-nil (walk (sequence (ands n) es) p)
walk_of (sequence (whens b n) es) p = append-nil (walk (sequence (whens b n) es) p)
walk_of (call n h es) p = append-nil (walk (call n h es) p)
walk_of (set! n x e) p = append-nil (walk (set! n x e) p)

pub walk_top : (ts : Trees) (p : Place) → walk_all (top_level ts) p ≡ walk_all ts p
unfolding top_level walk
walk_top nil p = refl
walk_top (cons t ts) p =
    walk_⊕ (top_of (core t)) (top_level ts) p ∙ ap (λ (l : List Event). l ++ walk_all (top_level ts) p) (walk_of (core t) p ∙ walk_core t p) ∙ ap (λ (l : List Event). walk t p ++ l) (walk_top ts p)

-- The start

-- nothing is known yet, and n records are left
pub start_finds : (n : ℕ) → n ≤ rows_most → Finds (λ y. y < n) [] [] top (start no_facts)
unfolding start no_facts
start_finds n h =
    record {
      tables = record {
        rows = λ y l. omega (arith, length-replicate rows_most Blank);
        entries = λ y l. omega (arith, length-replicate rows_most no_entry);
        blank = λ y l. get_or-replicate rows_most y Blank Blank (omega arith);
        globals = tt;
      };
      unused = λ y l. record { captured = refl; mutated = refl };
      captures = refl;
      one = omega arith;
      live = refl;
      around = tt;
      stands = tt;
    }

module _ (classes : List ℕ) (P : Presumption) (ts : Trees) where
  pub fresh_script : Nums 0 ts → sizes ts ≤ rows_most → inner_defines ts ≡ [] → (fresh classes ts).noted.nine ≡ None
      → Script classes (fresh classes ts).facts.rows P [] (entered_all (top_level ts) []) (top_level ts)
  unfolding fresh run inner_defines
  fresh_script n h d e =
      let us = top_level ts in
      let spread = spread_top 0 ts n in
      let entered = enter_tops classes Global {left = Left 0 (0 + sizes ts) us} 0 (0 + sizes ts) us spread (λ y l u. u) (λ y z. z.1) (λ y z. z.2) (start_finds (0 + sizes ts) (omega arith)) in
      visit_tops_lem classes (fresh classes ts).facts.rows P 0 (0 + sizes ts) us spread d entered e (record { at = λ x l u. refl })
