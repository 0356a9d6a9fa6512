-- Where the lambdas of a tree stand: between its records, at no name of a define, and at top level as in the trees.
use Rattle.std.specs.Prelude.{ℕ, suc, ◌+◌, ◌≤◌, ◌<◌, List, ◌++◌, ◌≡◌, refl, length}
use Rattle.std.proofs.Common.{append_assoc, append-nil, ap, ap₂, sym, ◌∙◌, arith}
use Rattle.tree.specs.Tree.{Tree, Trees, ident, const, if, letin, define, lambda, sequence, call, set!, nil, cons, size, sizes, Num, Nums, begins, ands, whens}
use Rattle.tree.specs.Core.{core, cores}
use Rattle.tree.proofs.Laws.Core.{to_core}
use Rattle.tree.specs.Define.{◌⊕◌, top_of, top_level}
use Rattle.tree.specs.Site.{lambdas, lambdas_in, let_layer}
use Rattle.tree.specs.Accepted.{All}
use Rattle.pass_laws.specs.Laws.All.{all-++, all_of, all_map, all_zip}
use Rattle.pass_laws.specs.Spread.{Spread}
use Rattle.pass_laws.specs.Laws.Tops.{spread_end}
use Rattle.pass_laws.specs.Laws.Globals.{SparedBy, Spared, spared_past}
use Rattle.pass_laws.specs.Laws.Script.{spared_before}

abbrev pub Between : ℕ → ℕ → ℕ × ℕ → Type 0
Between i j p = (i ≤ p.0) × (p.0 < j)

pub wider : {i j k m : ℕ} → k ≤ i → j ≤ m → (l : List (ℕ × ℕ)) → All (Between i j) l → All (Between k m) l
wider {i} {j} {k} {m} h g = all_map (Between i j) (Between k m) (λ p q. (omega (arith, q.0), omega (arith, q.1)))

mutual
  unfolding Num size lambdas

  pub between : (i : ℕ) (t : Tree) → Num i t → (d : ℕ) → All (Between i (i + size t)) (lambdas t d)
  between i (ident x) n d = tt
  between i (const m q) n d = tt
  between i (if m a b c) n d =
      let w : (k j : ℕ) → i ≤ k → j ≤ i + size (if m a b c) → (l : List (ℕ × ℕ)) → All (Between k j) l → All (Between i (i + size (if m a b c))) l = λ k j h g. wider h g in
      all-++ _ (lambdas a d) (lambdas b d ++ lambdas c d) (w _ _ (omega arith) (omega arith) (lambdas a d) (between (i + 1) a n.1 d))
      (all-++ _ (lambdas b d) (lambdas c d) (w _ _ (omega arith) (omega arith) (lambdas b d) (between (i + 1 + size a) b n.2 d))
      (w _ _ (omega arith) (omega arith) (lambdas c d) (between (i + 1 + size a + size b) c n.3 d)))
  between i (letin m xs es b) n d =
      all-++ _ (lambdas_in es d) (lambdas b (let_layer d)) (wider (omega arith) (omega arith) (lambdas_in es d) (between_in (i + 1 + length xs) es n.3 d))
      (wider (omega arith) (omega arith) (lambdas b (let_layer d)) (between (i + 1 + length xs + sizes es) b n.4 (let_layer d)))
  between i (define m x b) n d = wider (omega arith) (omega arith) (lambdas b d) (between (i + 2) b n.2 d)
  between i (lambda m xs b) n d = ((omega arith, omega arith), wider (omega arith) (omega arith) (lambdas b (suc d)) (between (i + 1 + length xs) b n.2 (suc d)))
  between i (sequence m es) n d = wider (omega arith) (omega arith) (lambdas_in es d) (between_in (i + 1) es n.1 d)
  between i (call m g es) n d =
      all-++ _ (lambdas g d) (lambdas_in es d) (wider (omega arith) (omega arith) (lambdas g d) (between (i + 1) g n.1 d))
      (wider (omega arith) (omega arith) (lambdas_in es d) (between_in (i + 1 + size g) es n.2 d))
  between i (set! m x b) n d = wider (omega arith) (omega arith) (lambdas b d) (between (i + 2) b n.2 d)

  pub between_in : (i : ℕ) (ts : Trees) → Nums i ts → (d : ℕ) → All (Between i (i + sizes ts)) (lambdas_in ts d)
  between_in i nil n d = tt
  between_in i (cons t ts) n d =
      all-++ _ (lambdas t d) (lambdas_in ts d) (wider (omega arith) (omega arith) (lambdas t d) (between i t n.0 d))
      (wider (omega arith) (omega arith) (lambdas_in ts d) (between_in (i + size t) ts n.1 d))

pub between_spread : (i j : ℕ) (ts : Trees) → Spread i j ts → (d : ℕ) → All (Between i j) (lambdas_in ts d)
unfolding lambdas
between_spread i j nil p d = tt
between_spread i j (cons t ts) p d =
    let l = p.1 in
    let end = spread_end (p.0 + size t) j ts p.3 in
    all-++ _ (lambdas t d) (lambdas_in ts d) (wider (omega arith) (omega arith) (lambdas t d) (between p.0 t p.2 d))
    (wider (omega arith) (omega arith) (lambdas_in ts d) (between_spread (p.0 + size t) j ts p.3 d))

-- none is at the name of a define

spared_own : (k : ℕ) (t : Tree) → Num k t → (d : ℕ) → All (λ p. SparedBy t p.0) (lambdas t d)
unfolding Num size lambdas
spared_own k (ident x) n d = tt
spared_own k (const m q) n d = tt
spared_own k (if m a b c) n d = all_of _ (λ p. tt) (lambdas (if m a b c) d)
spared_own k (letin m xs es b) n d = all_of _ (λ p. tt) (lambdas (letin m xs es b) d)
spared_own k (define m x b) n d =
    all_map (Between (k + 2) (k + 2 + size b)) (λ p. SparedBy (define m x b) p.0) (λ p q. (λ e z. omega (arith, q.0, n.1), tt)) (lambdas b d) (between (k + 2) b n.2 d)
spared_own k (lambda m xs b) n d = all_of _ (λ p. tt) (lambdas (lambda m xs b) d)
spared_own k (sequence m es) n d = all_of _ (λ p. tt) (lambdas (sequence m es) d)
spared_own k (call m g es) n d = all_of _ (λ p. tt) (lambdas (call m g es) d)
spared_own k (set! m x b) n d = all_of _ (λ p. tt) (lambdas (set! m x b) d)

pub spared_all : (i j : ℕ) (ts : Trees) → Spread i j ts → (d : ℕ) → All (λ p. Spared ts p.0) (lambdas_in ts d)
unfolding lambdas
spared_all i j nil p d = tt
spared_all i j (cons t ts) p d =
    let k = p.0 + size t in
    all-++ (λ q. Spared (cons t ts) q.0) (lambdas t d) (lambdas_in ts d)
    (all_zip (Between p.0 k) (λ q. SparedBy t q.0) (λ q. Spared (cons t ts) q.0) (λ q b z. (z, spared_before k j ts p.3 q.0 b.1)) (lambdas t d) (between p.0 t p.2 d) (spared_own p.0 t p.2 d))
    (all_zip (Between k j) (λ q. Spared ts q.0) (λ q. Spared (cons t ts) q.0) (λ q b z. (spared_past p.0 t p.2 q.0 (λ c e. omega (arith, b.0)), z)) (lambdas_in ts d) (between_spread k j ts p.3 d) (spared_all k j ts p.3 d))

-- What stands at top level is what the trees hold

lambdas_⊕ : (ts us : Trees) (d : ℕ) → lambdas_in (ts ⊕ us) d ≡ lambdas_in ts d ++ lambdas_in us d
unfolding ◌⊕◌ lambdas
lambdas_⊕ nil us d = refl
lambdas_⊕ (cons t ts) us d = ap (λ (l : List (ℕ × ℕ)). lambdas t d ++ l) (lambdas_⊕ ts us d) ∙ sym (append_assoc (lambdas t d) (lambdas_in ts d) (lambdas_in us d))

lambdas_core : (t : Tree) (d : ℕ) → lambdas (core t) d ≡ lambdas t d
unfolding lambdas
lambdas_core t d = to_core (λ u. lambdas u d ≡ lambdas t d) (λ n e. e) (λ n u e. sym (append-nil (lambdas u d)) ∙ e) t refl

pub lambdas_cores : (ts : Trees) (d : ℕ) → lambdas_in (cores ts) d ≡ lambdas_in ts d
unfolding lambdas
lambdas_cores nil d = refl
lambdas_cores (cons t ts) d = ap₂ (λ (a b : List (ℕ × ℕ)). a ++ b) (lambdas_core t d) (lambdas_cores ts d)

lambdas_of : (t : Tree) (d : ℕ) → lambdas_in (top_of t) d ≡ lambdas t d
unfolding top_of lambdas
lambdas_of (ident x) d = refl
lambdas_of (const n q) d = refl
lambdas_of (if n a b c) d = append-nil (lambdas (if n a b c) d)
lambdas_of (letin n xs es b) d = append-nil (lambdas (letin n xs es b) d)
lambdas_of (define n x b) d = append-nil (lambdas (define n x b) d)
lambdas_of (lambda n xs b) d = append-nil (lambdas (lambda n xs b) d)
lambdas_of (sequence (begins n) es) d = lambdas_cores es d
lambdas_of (sequence (ands n) es) d = append-nil (lambdas_in es d)
lambdas_of (sequence (whens q n) es) d = append-nil (lambdas_in es d)
lambdas_of (call n h es) d = append-nil (lambdas (call n h es) d)
lambdas_of (set! n x e) d = append-nil (lambdas (set! n x e) d)

pub lambdas_top : (ts : Trees) (d : ℕ) → lambdas_in (top_level ts) d ≡ lambdas_in ts d
unfolding top_level lambdas
lambdas_top nil d = refl
lambdas_top (cons t ts) d =
    lambdas_⊕ (top_of (core t)) (top_level ts) d
    ∙ ap (λ (l : List (ℕ × ℕ)). l ++ lambdas_in (top_level ts) d) (lambdas_of (core t) d ∙ lambdas_core t d)
    ∙ ap (λ (l : List (ℕ × ℕ)). lambdas t d ++ l) (lambdas_top ts d)
