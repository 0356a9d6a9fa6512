-- A fresh run over a script with no inner define: each row that is an identifier's has counted the uses that R7RS's walk gives to its record.
use Rattle.std.specs.Prelude.{ℕ, zero, suc, ◌+◌, ◌≤◌, ◌<◌, List, [], ◌≡◌, refl, get_or, replicate, None}
use Rattle.std.proofs.Common.{ap, subst, arith}
use Rattle.tree.specs.Tree.{Ident, Trees, nil, cons, size, sizes, Nums}
use Rattle.tree.specs.Define.{below, below_all, top_level, inner_defines}
use Rattle.scope_map.specs.ScopeMap.{Live}
use Rattle.semantic.specs.Information.{NONE}
use Rattle.semantic.specs.Rows.{Blank}
use Rattle.r7rs.specs.Binding.{Use, Event, events, top, walk, walk_all}
use Rattle.semantic.specs.declared.IdentifierStatus.TheVariants.{Global}
use Rattle.pass.specs.State.{Entry, State, no_entry, row_at}
use Rattle.pass.specs.Visit.{enter_children, visit_top, visit_tops}
use Rattle.pass.specs.Run.{rows_most, no_facts, start, run, fresh}
use Rattle.pass_laws.specs.Laws.Changes.{keeps_noted}
use Rattle.pass_laws.specs.Laws.Visits.{stays, top-visited, tops_visited}
use Rattle.pass_laws.specs.Laws.Ranges.{Covers, tree_any, trees_any}
use Rattle.pass_laws.specs.Spread.{Spread}
use Rattle.pass_laws.specs.Laws.Tops.{spread_top, spread_end}
use Rattle.pass_laws.specs.Laws.Live.{none_left, none_right}
use Rattle.pass_laws.specs.Laws.Says.{cell_of}
use Rattle.pass_laws.specs.Laws.Finds.{Finds, layered}
use Rattle.pass_laws.specs.Laws.Onward.{fewer}
use Rattle.pass_laws.specs.Laws.Bodies.{Nowhere}
use Rattle.pass_laws.specs.Laws.Globals.{Spared, spared_past, enter_tops, enter-all}
use Rattle.pass_laws.specs.Laws.Counts.{credits, credits-append, credits-cell, Told, Counts, counts_as, counts_fewer}
use Rattle.pass_laws.specs.Laws.Counting.{define_counts}
use Rattle.pass_laws.specs.Laws.Forms.{Minus}
use Rattle.pass_laws.specs.Laws.Presumed.{any_uses}
use Rattle.pass_laws.specs.Laws.Script.{bottom_for, Left, spared_before, visit_top_lem, walk_top, start_finds}
use Rattle.pass_laws.specs.Laws.Bottoms.{cell, CellsTops, script_cells}

-- The lambda defines enter

enter_counts : (classes : List ℕ) {own left : ℕ → Type 0} {n : ℕ → ℕ} {s : State} (i j : ℕ) (ts : Trees) → Spread i j ts
    → Covers own i j → ((y : ℕ) → left y → own y) → ((y : ℕ) → left y → Spared ts y) → Counts own n s → Counts left n (enter_children classes Global ts s)
enter_counts classes {n = n} i j ts p o l a c =
    enter-all classes Global (λ own bottom s. Counts own n s) (λ own left bottom s. counts_fewer) (λ own left bottom s x b parts o c. define_counts classes x b parts o c Global NONE)
    {bottom = []} i j ts p o l a c

-- The visits

count_tops : (classes : List ℕ) (ts : Trees) (i j : ℕ) (us : Trees) → Spread i j us → below_all us ≡ [] → {before : List Use} {bottom : List (Live Ident)} {n : ℕ → ℕ} {s : State}
    → CellsTops ts bottom us → Finds (Left i j us) bottom before top s → Counts (Left i j us) n s → (visit_tops classes us s).noted.nine ≡ None
    → Counts Nowhere (λ y. n y + credits (cell ts) (walk_all us top) y) (visit_tops classes us s)
unfolding visit_tops below_all walk
count_tops classes ts i j nil p d q f c e = counts_as (λ y. omega arith) (counts_fewer (λ y z. absurd z) c)
count_tops classes ts i j (cons t us) p d {bottom = bottom} {n} {s} q f c e =
    let k = p.0 + size t in
    let l = p.1 in
    let end = spread_end k j us p.3 in
    let s₁ = visit_top classes t s in
    let h₀ = (layered f).one in
    let h₁ = stays (top-visited classes t s (tree_any t) h₀) h₀ in
    let e₁ = (keeps_noted (tops_visited classes us s₁ (trees_any us) h₁)).nine e in
    let D = visit_top_lem classes [] any_uses f p.0 t p.2 (none_left (below t) (below_all us) d)
    (λ y u v z. (omega arith, omega arith, (z, spared_before k j us p.3 y (omega arith)))) e₁ in
    let left : (y : ℕ) → Left k j us y → Minus (Left i j (cons t us)) p.0 k y =
    λ y z. ((omega (arith, z.0), z.1, (spared_past p.0 t p.2 y (λ c d. omega (arith, z.0)), z.2)), λ c d. omega (arith, z.0)) in
    let first : Counts (Left k j us) (λ y. n y + credits (cell ts) (walk t top) y) s₁ =
    counts_as (λ y. omega (arith, credits-cell (cell_of (bottom_for t bottom)) (cell ts) (walk t top) q.0 y)) (counts_fewer left (D.counts n c)) in
    counts_as (λ y. omega (arith, credits-append (cell ts) (walk t top) (walk_all us top) y))
    (count_tops classes ts k j us p.3 (none_right (below t) (below_all us) d) q.1 (fewer left D.finds) first e)

-- The start

no_entries : (n y : ℕ) → get_or (replicate n no_entry) y no_entry ≡ no_entry
no_entries zero y = refl
no_entries (suc n) zero = refl
no_entries (suc n) (suc y) = no_entries n y

no_rows : (n y : ℕ) → get_or (replicate n Blank) y Blank ≡ Blank
no_rows zero y = refl
no_rows (suc n) zero = refl
no_rows (suc n) (suc y) = no_rows n y

start_counts : (n : ℕ) → Counts (λ y. y < n) (λ y. 0) (start no_facts)
unfolding start no_facts
start_counts n =
    record {
      told = λ y. rw (no_rows rows_most y) tt;
      entries = λ y h. absurd (omega (arith, ap (λ (e : Entry). e.depth) (no_entries rows_most y)));
      unentered = λ y l. ap (λ (e : Entry). e.depth) (no_entries rows_most y);
      unused = λ y l. refl;
    }

pub fresh-told : (classes : List ℕ) (ts : Trees) → Nums 0 ts → sizes ts ≤ rows_most → inner_defines ts ≡ [] → (fresh classes ts).noted.nine ≡ None
    → (y : ℕ) → Told (credits (cell ts) (events ts) y) (row_at (fresh classes ts) y)
unfolding fresh run inner_defines events
fresh-told classes ts n h d e y =
    let us = top_level ts in
    let N = 0 + sizes ts in
    let spread = spread_top 0 ts n in
    let f = enter_tops classes Global {left = Left 0 N us} 0 N us spread (λ y l u. u) (λ y z. z.1) (λ y z. z.2) (start_finds N (omega arith)) in
    let c = enter_counts classes {left = Left 0 N us} 0 N us spread (λ y l u. u) (λ y z. z.1) (λ y z. z.2) (start_counts N) in
    subst (λ (l : List Event). Told (credits (cell ts) l y) (row_at (fresh classes ts) y)) (walk_top ts top)
    (subst (λ (k : ℕ). Told k (row_at (fresh classes ts) y)) (omega arith) ((count_tops classes ts 0 N us spread d (script_cells ts n) f c e).told y))
