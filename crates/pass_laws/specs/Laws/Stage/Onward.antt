-- From the stage of a whole to that of a part: what lies between leaves the rest as it was.
use Rattle.std.specs.Prelude.{ℕ, suc, ◌+◌, ◌*◌, ◌≤◌, List, [], ◌∷◌, ◌≡◌, refl, length, Option, None, Some}
use Rattle.std.proofs.Common.{ap, sym, ◌∙◌, arith}
use Rattle.tree.specs.Tree.{Node, Tree, size, Num}
use Rattle.scope_map.specs.ScopeMap.{Live}
use Rattle.semantic.specs.Rows.{Row}
use Rattle.pass.specs.State.{Capture, State, row_at}
use Rattle.pass.specs.Visit.{Flags, visit}
use Rattle.pass.specs.Run.{list_entries_most}
use Rattle.pass_laws.specs.Stage.{due, entering, layers_of, Layered, Unmade, Made, FunctionWithin, IsBlank, Around, OnRun, first, second, Staged}
use Rattle.pass_laws.specs.Laws.Keeps.{visited}
use Rattle.pass_laws.specs.Laws.Stage.Lists.{Lasting, lists_shorter, lists-within}
use Rattle.pass_laws.specs.Laws.Stage.Still.{Stored, Stacked, as_full, as_stacked}
use Rattle.pass_laws.specs.Laws.Stage.Arguments.{visit_due}
use Rattle.pass_laws.specs.Laws.Stage.Captured.{visit_top_lem}
use Rattle.pass_laws.specs.Laws.Stage.Captures.{next, visit_stacked}
use Rattle.pass_laws.specs.Laws.Stage.Blocks.{Lasts, blank}
use Rattle.pass_laws.specs.Laws.Stage.Reached.{at_once, to-rest}
use Rattle.pass_laws.specs.Laws.Stage.Second.{made, visit_stored}

layers_long : (l : List (Live Capture)) → length (layers_of l) ≡ length l
layers_long [] = refl
layers_long (e ∷ l) = ap suc (layers_long l)

-- as many captures
pub stacked_long : {s t : State} → Stacked s t → length t.captures.live ≡ length s.captures.live
stacked_long {s} {t} p = sym (layers_long t.captures.live) ∙ ap length p.layers ∙ layers_long s.captures.live

pub around_lasts : (P : Row → Type 0) → Lasts P → {i k : ℕ} (o : Option Node) {s t : State} → Lasting 0 i s t → i ≤ k → Around P i s o → Around P k t o
around_lasts P p None c h a = tt
around_lasts P p (Some n) {s} {t} c h a = (omega (arith, a.0), p (row_at t n.at) (row_at s n.at) (c.at n.at (omega arith) a.0) a.1)

pub narrow : {i j : ℕ} {s t : State} → Lasting 0 j s t → i ≤ j → Lasting 0 i s t
narrow c h = record { at = λ x l u. c.at x l (omega arith) }

pub lasting_of : {i j k m : ℕ} {s t : State} → Lasting i j s t → i ≤ k → m ≤ j → Lasting k m s t
lasting_of c h g = record { at = λ x l u. c.at x (omega arith) (omega arith) }

-- from the whole to a part
pub onward : {i n r k m q : ℕ} {U M U' M' : Type 0} {o : Option Node} {s t : State} → Staged i n r U M o s → i ≤ k → k + m ≤ i + n
    → Layered t → Stacked s t → Lasting 0 i s t → (U → U') → (M → M') → (M → Stored s t) → due t + q ≤ due s + r
    → (due s + r ≤ suc list_entries_most → t.facts.captured_top + list_entries_most * m ≤ s.facts.captured_top + list_entries_most * n) → Staged k m q U' M' o t
onward {i} {n} {r} {k} {m} {q} {U} {M} {U'} {M'} {o} {s} {t} w h g e c a u v d l z = record { layered = e; run = go w.run }
  where
    go : OnRun i n r U M o s → OnRun k m q U' M' o t
    go (first p) =
        first (record {
          unmade = u p.unmade;
          function = around_lasts IsBlank blank.function o a h p.function;
          room = omega (arith, p.room);
          captured = omega (arith, p.captured, z p.room);
        })
    go (second p) =
        let y = d p.made in
        second (record {
          made = v p.made;
          function = around_lasts (FunctionWithin list_entries_most list_entries_most) made.function o a h p.function;
          room = omega (arith, p.room, stacked_long c, lists_shorter y.shorter k m, lists-within s i n k m h g);
          arguments = omega (arith, p.arguments, y.arguments);
          captured = omega (arith, p.captured, y.captured);
        })

-- with nothing between
pub here : {i n r k m q : ℕ} {U M U' M' : Type 0} {o : Option Node} {s : State} → Staged i n r U M o s → i ≤ k → k + m ≤ i + n → q ≤ r → (U → U') → (M → M')
    → Staged k m q U' M' o s
here {i} {s = s} w h g l u v =
    onward w h g w.layered (as_stacked refl) (at_once i 0 0 s).before u v (λ b. as_full refl refl refl refl) (omega arith) (λ z. omega arith)

module _ (classes : List ℕ) where
  -- past a tree, to the m records after it
  pub past_tree : (k : ℕ) (t : Tree) → Num k t → (m q : ℕ) {r : ℕ} {U M U' M' : Type 0} {o : Option Node} (g : Flags) {s : State}
      → Staged k (size t + m) r (Unmade s t × U) (Made s t × M) o s → size t ≤ r → size t + q ≤ suc (r + entering t)
      → (Lasting (k + size t) (k + size t + m) s (visit classes t g s) → U → U')
      → (Lasting (k + size t) (k + size t + m) s (visit classes t g s) → M → M') → Staged (k + size t) m q U' M' o (visit classes t g s)
  past_tree k t n m q g {s} w o l u v =
      let h = w.layered in
      let p = visit_stacked classes t g s h in
      let d = visited classes t g s h.scope in
      let c = to-rest classes k t m n g s h.scope in
      onward w (omega arith) (omega arith) (next h d p) p c.before (λ b. u c.part b.1) (λ b. v c.part b.1)
      (λ b. visit_stored classes k t n g s h.scope b.0) (omega (arith, visit_due classes k t n g s h.scope))
      (λ z. omega (arith, visit_top_lem classes k t n g s h.scope (omega arith)))
