-- How many captured entries the lists of some rows have together.
use Rattle.std.specs.Prelude.{ℕ, zero, suc, ◌+◌, ◌≤◌, ◌<◌, List, [], ◌∷◌, Bool, true, false, cond, ◌≡◌, refl, length, get_or, drop}
use Rattle.std.proofs.Common.{ap, arith, length-take}
use Rattle.std.proofs.Math.Decide.{ℕ_discrete, dec_lt}
use Rattle.tree.specs.Tree.{Tree}
use Rattle.tree.specs.Check.{member}
use Rattle.scope_map.specs.ScopeMap.{ScopeMap}
use Rattle.semantic.specs.Kinds.{function_in}
use Rattle.semantic.specs.Rows.{Row, Blank, Variable, Function, CallSite, Let, ListEntry}
use Rattle.semantic.specs.declared.FunctionInformation.{FunctionInformation}
use Rattle.semantic.specs.declared.SemanticInformation.{SemanticInformation}
use Rattle.pass.specs.State.{Capture, State, insert, amended, row_at}
use Rattle.pass.specs.Lists.{keep, amend_list, name_of, names_of}
use Rattle.pass.specs.Lambda.{holds_lambda, kept_of, captured_list}
use Rattle.pass_laws.specs.Stage.{list_length, held, lists}
use Rattle.pass_laws.specs.Laws.Rows.{key, row_same, row_other, row_out}

-- what lasts of a row tells its fact, if it is of a lambda
pub function_key : (r : Row) → function_in (key r) ≡ function_in r
function_key Blank = refl
function_key (Variable v) = refl
function_key (Function v) = refl
function_key (CallSite v) = refl
function_key (Let v) = refl

function_amended : (f : SemanticInformation → SemanticInformation) (r : Row) → function_in (amended f r) ≡ function_in r
function_amended f Blank = refl
function_amended f (Variable v) = refl
function_amended f (Function v) = refl
function_amended f (CallSite v) = refl
function_amended f (Let v) = refl

pub held-amended : (f : SemanticInformation → SemanticInformation) (r : Row) → held (amended f r) ≡ held r
held-amended f r = ap list_length (function_amended f r)

-- no list is longer
pub record Shorter (s t : State) : Type 0 where
  pub at : (x : ℕ) → held (row_at t x) ≤ held (row_at s x)

pub shorter_then : {s t u : State} → Shorter s t → Shorter t u → Shorter s u
shorter_then p q = record { at = λ x. omega (arith, p.at x, q.at x) }

pub same_rows : {s t : State} → t.facts.rows ≡ s.facts.rows → Shorter s t
same_rows {s} {t} e = record { at = λ x. let d = ap (λ (l : List Row). held (get_or l x Blank)) e in omega arith }

-- a row is written whose list is no longer
pub shorter_put : {s t : State} (i : ℕ) (r : Row) → Shorter s t → held r ≤ held (row_at s i) → Shorter s (insert i r t)
shorter_put {s} {t} i r p h = record { at = λ x. go x (ℕ_discrete x i) (dec_lt i (length t.facts.rows)) }
  where
    go : (x : ℕ) → Dec (x ≡ i) → Dec (i < length t.facts.rows) → held (row_at (insert i r t) x) ≤ held (row_at s x)
    go x (no d) g = let e = ap held (row_other i r t x d) in omega (arith, p.at x)
    go x (yes d) (yes g) = rw d (let e = ap held (row_same i r t g) in omega arith)
    go x (yes d) (no g) = let e = ap held (row_out i r t x (omega arith)) in omega (arith, p.at x)

-- Together

pub lists_shorter : {s t : State} → Shorter s t → (i n : ℕ) → lists t i n ≤ lists s i n
lists_shorter p i zero = omega arith
lists_shorter p i (suc n) = omega (arith, p.at i, lists_shorter p (suc i) n)

-- of some of the rows
pub lists-within : (s : State) (i n k m : ℕ) → i ≤ k → k + m ≤ i + n → lists s k m ≤ lists s i n
lists-within s i n k zero h g = omega arith
lists-within s i zero k (suc m) h g = absurd (omega arith)
lists-within s i (suc n) k (suc m) h g =
    go (ℕ_discrete k i) (λ d. lists-within s (suc i) n (suc i) m (omega arith) (omega arith))
    (λ d. lists-within s (suc i) n k (suc m) (omega arith) (omega arith))
  where
    go : Dec (k ≡ i) → (k ≡ i → lists s (suc i) m ≤ lists s (suc i) n) → (¬ (k ≡ i) → lists s k (suc m) ≤ lists s (suc i) n)
        → lists s k (suc m) ≤ lists s i (suc n)
    go (yes e) p q = rw e (omega (arith, p e))
    go (no e) p q = omega (arith, q e)

-- of the first, and of some after it
pub lists-first : (s : State) (i n k m : ℕ) → i < k → k + m ≤ i + n → held (row_at s i) + lists s k m ≤ lists s i n
lists-first s i zero k m h g = absurd (omega arith)
lists-first s i (suc n) k m h g = omega (arith, lists-within s (suc i) n k m h (omega arith))

-- rows that kept their keys
pub record Lasting (i j : ℕ) (s t : State) : Type 0 where
  pub at : (x : ℕ) → i ≤ x → x < j → key (row_at t x) ≡ key (row_at s x)

-- a row is written
lists-after : (t : State) (i : ℕ) (r : Row) (j n : ℕ) → i < j → lists (insert i r t) j n ≡ lists t j n
lists-after t i r j zero h = refl
lists-after t i r j (suc n) h =
    let e = ap held (row_other i r t j (λ d. omega arith)) in omega (arith, lists-after t i r (suc j) n (omega arith))

pub lists-put : (t : State) (i : ℕ) (r : Row) (j n : ℕ) → lists (insert i r t) j n ≤ lists t j n + held r
lists-put t i r j zero = omega arith
lists-put t i r j (suc n) = go (ℕ_discrete j i) (dec_lt i (length t.facts.rows)) (lists-put t i r (suc j) n)
  where
    go : Dec (j ≡ i) → Dec (i < length t.facts.rows) → lists (insert i r t) (suc j) n ≤ lists t (suc j) n + held r
        → lists (insert i r t) j (suc n) ≤ lists t j (suc n) + held r
    go (no d) g h = let e = ap held (row_other i r t j d) in omega arith
    go (yes d) (yes g) h = rw d (let e = ap held (row_same i r t g) in omega (arith, lists-after t i r (suc i) n (omega arith)))
    go (yes d) (no g) h = let e = ap held (row_out i r t j (omega arith)) in omega arith

-- A list that is amended is no longer

keep_long : (p : ℕ → Bool) (l : List ListEntry) → length (keep p l) ≤ length l
unfolding keep
keep_long p [] = omega arith
keep_long p (i ∷ l) = pick (p (name_of i)) (keep_long p l)
  where
    pick : (b : Bool) → length (keep p l) ≤ length l → length (cond b (i ∷ keep p l) (keep p l)) ≤ suc (length l)
    pick true h = omega arith
    pick false h = omega arith

amend_long : (now : List ListEntry) (m : ScopeMap Capture) (seen : List ℕ) (l : List ListEntry) → length (amend_list now m seen l) ≡ length l
unfolding amend_list
amend_long now m seen [] = refl
amend_long now m seen (i ∷ l) = ap suc (amend_long now m (name_of i ∷ seen) l)

pub amended_long : (b : Tree) (now : List ListEntry) (m : ScopeMap Capture) (v : FunctionInformation) (s : State)
    → length (amend_list now m [] (kept_of b now (captured_list s v))) ≤ v.captured_vars.length
amended_long b now m v s =
    let l = captured_list s v in
    let e = v.captured_vars in
    omega (arith, amend_long now m [] (kept_of b now l), kept (holds_lambda b) l, length-take e.length (drop e.first s.facts.captured))
  where
    kept : (h : Bool) (l : List ListEntry) → length (cond h l (keep (λ x. member x (names_of now)) l)) ≤ length l
    kept true l = omega arith
    kept false l = keep_long _ l
