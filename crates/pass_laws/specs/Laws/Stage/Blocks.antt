-- Lambdas and lets of a tree: what their rows are lasts while those records are not written.
use Rattle.std.specs.Prelude.{ℕ, ◌+◌, ◌≤◌, ◌<◌, ◌≡◌, refl, length}
use Rattle.std.proofs.Common.{ap, sym, subst, ◌∙◌, arith}
use Rattle.tree.specs.Tree.{Tree, Trees, ident, const, if, letin, define, lambda, sequence, call, set!, nil, cons, size, sizes, Num, Nums}
use Rattle.semantic.specs.Kinds.{function_in, let_in}
use Rattle.semantic.specs.Rows.{Row, Blank, Variable, Function, CallSite, Let}
use Rattle.pass.specs.State.{State, row_at}
use Rattle.pass_laws.specs.Stage.{Blocks, BlocksAll, BlocksIn, BlocksAllIn, ListsWithin, FunctionWithin, NamesWithin, LetWithin, IsBlank}
use Rattle.pass_laws.specs.Laws.Rows.{key, key-blank}
use Rattle.pass_laws.specs.Laws.Changes.{Changes, keeps_key}
use Rattle.pass_laws.specs.Laws.Stage.Lists.{function_key, Lasting}

-- from one thing said of their records to another
module _ {F L G M : ℕ → Type 0} where
  mutual
    unfolding Blocks Num size

    pub blocks_map : (i : ℕ) (t : Tree) → Num i t → ((x : ℕ) → i ≤ x → x < i + size t → F x → G x) → ((x : ℕ) → i ≤ x → x < i + size t → L x → M x)
        → Blocks F L t → Blocks G M t
    blocks_map i (ident x) n g m b = tt
    blocks_map i (const k q) n g m b = tt
    blocks_map i (if k t u v) n g m b = (
      blocks_map (i + 1) t n.1 (λ x l h. g x (omega arith) (omega arith)) (λ x l h. m x (omega arith) (omega arith)) b.0,
      blocks_map (i + 1 + size t) u n.2 (λ x l h. g x (omega arith) (omega arith)) (λ x l h. m x (omega arith) (omega arith)) b.1,
      blocks_map (i + 1 + size t + size u) v n.3 (λ x l h. g x (omega arith) (omega arith)) (λ x l h. m x (omega arith) (omega arith)) b.2,
    )
    blocks_map i (letin k xs es t) n g m b = (
      m k.at (omega (arith, n.0)) (omega (arith, n.0)) b.0,
      blocks_map-all (i + 1 + length xs) es n.3 (λ x l h. g x (omega arith) (omega arith)) (λ x l h. m x (omega arith) (omega arith)) b.1,
      blocks_map (i + 1 + length xs + sizes es) t n.4 (λ x l h. g x (omega arith) (omega arith)) (λ x l h. m x (omega arith) (omega arith)) b.2,
    )
    blocks_map i (define k x t) n g m b = blocks_map (i + 2) t n.2 (λ y l h. g y (omega arith) (omega arith)) (λ y l h. m y (omega arith) (omega arith)) b
    blocks_map i (lambda k xs t) n g m b = (
      g k.at (omega (arith, n.0)) (omega (arith, n.0)) b.0,
      blocks_map (i + 1 + length xs) t n.2 (λ x l h. g x (omega arith) (omega arith)) (λ x l h. m x (omega arith) (omega arith)) b.1,
    )
    blocks_map i (sequence k es) n g m b = blocks_map-all (i + 1) es n.1 (λ x l h. g x (omega arith) (omega arith)) (λ x l h. m x (omega arith) (omega arith)) b
    blocks_map i (call k t es) n g m b = (
      blocks_map (i + 1) t n.1 (λ x l h. g x (omega arith) (omega arith)) (λ x l h. m x (omega arith) (omega arith)) b.0,
      blocks_map-all (i + 1 + size t) es n.2 (λ x l h. g x (omega arith) (omega arith)) (λ x l h. m x (omega arith) (omega arith)) b.1,
    )
    blocks_map i (set! k x t) n g m b = blocks_map (i + 2) t n.2 (λ y l h. g y (omega arith) (omega arith)) (λ y l h. m y (omega arith) (omega arith)) b

    pub blocks_map-all : (i : ℕ) (ts : Trees) → Nums i ts → ((x : ℕ) → i ≤ x → x < i + sizes ts → F x → G x)
        → ((x : ℕ) → i ≤ x → x < i + sizes ts → L x → M x) → BlocksAll F L ts → BlocksAll G M ts
    blocks_map-all i nil n g m b = tt
    blocks_map-all i (cons t ts) n g m b = (
      blocks_map i t n.0 (λ x l h. g x l (omega arith)) (λ x l h. m x l (omega arith)) b.0,
      blocks_map-all (i + size t) ts n.1 (λ x l h. g x (omega arith) (omega arith)) (λ x l h. m x (omega arith) (omega arith)) b.1,
    )

-- What a row's key tells

abbrev pub Lasts : (Row → Type 0) → Type 0
Lasts P = (r q : Row) → key r ≡ key q → P q → P r

pub record Kind (F L : Row → Type 0) : Type 0 where
  pub function : Lasts F
  pub letin : Lasts L

blank_lasts : Lasts IsBlank
blank_lasts r q e h = key-blank r (e ∙ ap key h)

pub blank : Kind IsBlank IsBlank
blank = record { function = blank_lasts; letin = blank_lasts }

let_key : (r : Row) → let_in (key r) ≡ let_in r
let_key Blank = refl
let_key (Variable v) = refl
let_key (Function v) = refl
let_key (CallSite v) = refl
let_key (Let v) = refl

pub within : (c a : ℕ) → Kind (FunctionWithin c a) (LetWithin a)
within c a =
    record {
      function = λ r q e h. subst (ListsWithin c a) (sym (function_key q) ∙ ap function_in (sym e) ∙ function_key r) h;
      letin = λ r q e h. subst (NamesWithin a) (sym (let_key q) ∙ ap let_in (sym e) ∙ let_key r) h;
    }

pub changes_lasting : {own : ℕ → Type 0} {j k : ℕ} {s t : State} → Changes own s t → ((x : ℕ) → j ≤ x → x < k → own x → ⊥) → Lasting j k s t
changes_lasting c o = record { at = λ x l u. keeps_key c x (o x l u) }

module _ {F L : Row → Type 0} (kind : Kind F L) where
  pub blocks_last : (i : ℕ) (t : Tree) → Num i t → {s u : State} → Lasting i (i + size t) s u → BlocksIn F L s t → BlocksIn F L u t
  blocks_last i t n {s} {u} c b =
      blocks_map i t n (λ x l h. kind.function (row_at u x) (row_at s x) (c.at x l h)) (λ x l h. kind.letin (row_at u x) (row_at s x) (c.at x l h)) b

  pub blocks_last-all : (i : ℕ) (ts : Trees) → Nums i ts → {s u : State} → Lasting i (i + sizes ts) s u → BlocksAllIn F L s ts → BlocksAllIn F L u ts
  blocks_last-all i ts n {s} {u} c b =
      blocks_map-all i ts n (λ x l h. kind.function (row_at u x) (row_at s x) (c.at x l h)) (λ x l h. kind.letin (row_at u x) (row_at s x) (c.at x l h)) b
