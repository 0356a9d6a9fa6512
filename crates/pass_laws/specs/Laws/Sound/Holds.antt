-- Every identifier of a tree: at top level, and as its record says.
use Rattle.std.specs.Prelude.{ℕ, ◌+◌, ◌<◌, ◌≡◌, length, get_or, drop}
use mathlib.Core.List.{List, [], ◌∷◌, ◌++◌, map, append-nil, append_assoc}
use Rattle.std.proofs.Math.Path.{refl}
use Rattle.std.proofs.Common.{ap, sym, ◌∙◌, arith, length-drop, drop-drop, get_or-drop}
use Rattle.std.proofs.lemmas.List.{length-map}
use Rattle.std.proofs.Math.Seq.{drop-append_seam}
use Rattle.tree.specs.Record.{Record, blank}
use Rattle.tree.specs.Tree.{Ident, Tree, Trees, ident, const, if, letin, define, lambda, sequence, call, set!, nil, cons, named, flat, flats, size, sizes, NumNames, Num, Nums, begins, ands, whens}
use Rattle.tree.proofs.Laws.Tree.{length_flat, length_flats}
use Rattle.tree.specs.Define.{◌⊕◌, top_of, top_level}
use Rattle.tree.specs.Accepted.{All, Accepted}
use Rattle.tree.specs.Core.{core, cores}
use Rattle.tree.proofs.Laws.Core.{to_core}
use Rattle.pass.specs.Run.{rows_most}
use Rattle.pass_laws.specs.Sound.{Holds, HoldsAll}
use Rattle.pass_laws.specs.Laws.All.{all_of, all_map}

module _ (P : Ident → Type 0) where
  -- whatever has P

  module _ (any : (x : Ident) → P x) where
    mutual
      unfolding Holds

      pub holds-any : (t : Tree) → Holds P t
      holds-any (ident x) = any x
      holds-any (const n q) = tt
      holds-any (if n a b c) = (holds-any a, holds-any b, holds-any c)
      holds-any (letin n xs es b) = (all_of P any xs, hold_any es, holds-any b)
      holds-any (define n x b) = (any x, holds-any b)
      holds-any (lambda n xs b) = (all_of P any xs, holds-any b)
      holds-any (sequence n es) = hold_any es
      holds-any (call n g es) = (holds-any g, hold_any es)
      holds-any (set! n x e) = (any x, holds-any e)

      pub hold_any : (ts : Trees) → HoldsAll P ts
      hold_any nil = tt
      hold_any (cons t ts) = (holds-any t, hold_any ts)

  -- At top level

  both_hold : (ts us : Trees) → HoldsAll P ts → HoldsAll P us → HoldsAll P (ts ⊕ us)
  unfolding ◌⊕◌ Holds
  both_hold nil us p q = q
  both_hold (cons t ts) us p q = (p.0, both_hold ts us p.1 q)

  pub hold_first : (ts us : Trees) → HoldsAll P (ts ⊕ us) → HoldsAll P ts
  unfolding ◌⊕◌ Holds
  hold_first nil us p = tt
  hold_first (cons t ts) us p = (p.0, hold_first ts us p.1)

  pub hold_rest : (ts us : Trees) → HoldsAll P (ts ⊕ us) → HoldsAll P us
  unfolding ◌⊕◌ Holds
  hold_rest nil us p = p
  hold_rest (cons t ts) us p = hold_rest ts us p.1

  pub holds_core : (t : Tree) → Holds P t → Holds P (core t)
  unfolding Holds
  holds_core t p = to_core (Holds P) (λ n p. p) (λ n u p. p.0) t p

  pub holds-cores : (ts : Trees) → HoldsAll P ts → HoldsAll P (cores ts)
  unfolding Holds
  holds-cores nil p = tt
  holds-cores (cons t ts) p = (holds_core t p.0, holds-cores ts p.1)

  top-holds : (t : Tree) → Holds P t → HoldsAll P (top_of t)
  unfolding top_of Holds
  top-holds (ident x) p = (p, tt)
  top-holds (const n q) p = (p, tt)
  top-holds (if n a b c) p = (p, tt)
  top-holds (letin n xs es b) p = (p, tt)
  top-holds (define n x b) p = (p, tt)
  top-holds (lambda n xs b) p = (p, tt)
  top-holds (sequence (begins n) es) p = holds-cores es p
  top-holds (sequence (ands n) es) p = (p, tt)
  top-holds (sequence (whens b n) es) p = (p, tt)
  top-holds (call n g es) p = (p, tt)
  top-holds (set! n x e) p = (p, tt)

  pub tops_hold : (ts : Trees) → HoldsAll P ts → HoldsAll P (top_level ts)
  unfolding top_level Holds
  tops_hold nil p = tt
  tops_hold (cons t ts) p = both_hold (top_of (core t)) (top_level ts) (top-holds (core t) (holds_core t p.0)) (tops_hold ts p.1)

-- from one property to another
module _ (P Q : Ident → Type 0) (f : (x : Ident) → P x → Q x) where
  mutual
    unfolding Holds

    pub holds-map : (t : Tree) → Holds P t → Holds Q t
    holds-map (ident x) p = f x p
    holds-map (const n q) p = tt
    holds-map (if n a b c) p = (holds-map a p.0, holds-map b p.1, holds-map c p.2)
    holds-map (letin n xs es b) p = (all_map P Q f xs p.0, hold_map es p.1, holds-map b p.2)
    holds-map (define n x b) p = (f x p.0, holds-map b p.1)
    holds-map (lambda n xs b) p = (all_map P Q f xs p.0, holds-map b p.1)
    holds-map (sequence n es) p = hold_map es p
    holds-map (call n g es) p = (holds-map g p.0, hold_map es p.1)
    holds-map (set! n x e) p = (f x p.0, holds-map e p.1)

    pub hold_map : (ts : Trees) → HoldsAll P ts → HoldsAll Q ts
    hold_map nil p = tt
    hold_map (cons t ts) p = (holds-map t p.0, hold_map ts p.1)

-- The records l hold the identifier x at its place
pub record Recorded (l : List Record) (x : Ident) : Type 0 where
  pub inside : x.at < length l
  pub is : get_or l x.at blank ≡ named x

module _ (l : List Record) where
  -- the records from i on are p, then q
  past : (i : ℕ) (p q : List Record) (n : ℕ) → length p ≡ n → drop i l ≡ p ++ q → drop (i + n) l ≡ q
  past i p q n e d = sym (drop-drop n i l) ∙ ap (drop n) d ∙ rw (← e) (drop-append_seam p q)

  one : (i : ℕ) (x : Ident) (q : List Record) → x.at ≡ i → drop i l ≡ named x ∷ q → Recorded l x
  one i x q e d = record {
    inside = omega (arith, length-drop i l, ap length d);
    is = ap (λ (k : ℕ). get_or l k blank) (omega arith) ∙ sym (get_or-drop i l 0 blank) ∙ ap (λ (m : List Record). get_or m 0 blank) d;
  }

  names_recorded : (i : ℕ) (xs : List Ident) (q : List Record) → NumNames i xs → drop i l ≡ map named xs ++ q → All (Recorded l) xs
  unfolding NumNames
  names_recorded i [] q n d = tt
  names_recorded i (x ∷ xs) q n d = (one i x _ n.0 d, names_recorded (i + 1) xs q n.1 (past i (named x ∷ []) _ 1 refl d))

  mutual
    unfolding Num flat size Holds

    pub tree_recorded : (i : ℕ) (t : Tree) (q : List Record) → Num i t → drop i l ≡ flat t ++ q → Holds (Recorded l) t
    tree_recorded i (ident x) q n d = one i x q n d
    tree_recorded i (const m b) q n d = tt
    tree_recorded i (if m a b c) q n d =
        let da = past i (_ ∷ []) _ 1 refl d ∙ append_assoc (flat a) (flat b ++ flat c) q in
        let db = past (i + 1) (flat a) _ (size a) (length_flat a) da ∙ append_assoc (flat b) (flat c) q in
        let dc = past (i + 1 + size a) (flat b) _ (size b) (length_flat b) db in
        (tree_recorded (i + 1) a _ n.1 da, tree_recorded (i + 1 + size a) b _ n.2 db, tree_recorded (i + 1 + size a + size b) c q n.3 dc)
    tree_recorded i (letin m xs es b) q n d =
        let dx = past i (_ ∷ []) _ 1 refl d ∙ append_assoc (map named xs) (flats es ++ flat b) q in
        let de = past (i + 1) (map named xs) _ (length xs) (length-map xs named) dx ∙ append_assoc (flats es) (flat b) q in
        let db = past (i + 1 + length xs) (flats es) _ (sizes es) (length_flats es) de in
        (names_recorded (i + 1) xs _ n.2 dx, trees_recorded (i + 1 + length xs) es _ n.3 de, tree_recorded (i + 1 + length xs + sizes es) b q n.4 db)
    tree_recorded i (define m x b) q n d =
        (one (i + 1) x _ n.1 (past i (_ ∷ []) _ 1 refl d), tree_recorded (i + 2) b q n.2 (past i (_ ∷ _ ∷ []) _ 2 refl d))
    tree_recorded i (lambda m xs b) q n d =
        let dx = past i (_ ∷ []) _ 1 refl d ∙ append_assoc (map named xs) (flat b) q in
        let db = past (i + 1) (map named xs) _ (length xs) (length-map xs named) dx in
        (names_recorded (i + 1) xs _ n.1 dx, tree_recorded (i + 1 + length xs) b q n.2 db)
    tree_recorded i (sequence m es) q n d = trees_recorded (i + 1) es q n.1 (past i (_ ∷ []) _ 1 refl d)
    tree_recorded i (call m g es) q n d =
        let dg = past i (_ ∷ []) _ 1 refl d ∙ append_assoc (flat g) (flats es) q in
        (tree_recorded (i + 1) g _ n.1 dg, trees_recorded (i + 1 + size g) es q n.2 (past (i + 1) (flat g) _ (size g) (length_flat g) dg))
    tree_recorded i (set! m x e) q n d =
        (one (i + 1) x _ n.1 (past i (_ ∷ []) _ 1 refl d), tree_recorded (i + 2) e q n.2 (past i (_ ∷ _ ∷ []) _ 2 refl d))

    pub trees_recorded : (i : ℕ) (ts : Trees) (q : List Record) → Nums i ts → drop i l ≡ flats ts ++ q → HoldsAll (Recorded l) ts
    trees_recorded i nil q n d = tt
    trees_recorded i (cons t ts) q n d =
        let dt = d ∙ append_assoc (flat t) (flats ts) q in
        (tree_recorded i t _ n.0 dt, trees_recorded (i + size t) ts q n.1 (past i (flat t) _ (size t) (length_flat t) dt))

-- the records of accepted trees
pub accepted_recorded : {N : ℕ} {rs : List ℕ} {ts : Trees} → Accepted N rs ts → HoldsAll (Recorded (flats ts)) ts
accepted_recorded {ts = ts} a = trees_recorded (flats ts) 0 ts [] a.num (sym (append-nil (flats ts)))

pub recorded_small : {N : ℕ} {rs : List ℕ} {ts : Trees} → Accepted N rs ts → (x : Ident) → Recorded (flats ts) x → x.at < rows_most
recorded_small {ts = ts} a x r = omega (arith, r.inside, length_flats ts, a.few)
