-- Rows: what is written at a record, and what lasts of a fact however the walk goes on.
use Rattle.std.specs.Prelude.{ℕ, zero, suc, ◌≤◌, ◌<◌, List, false, ◌≡◌, refl, length, get_or, replicate}
use Rattle.std.proofs.Common.{ap, ◌∙◌, arith, length-set, get_or-set_same, get_or-set_other}
use Rattle.std.proofs.Math.Decide.{ℕ_discrete, dec_lt}
use Rattle.std.proofs.Math.Seq.{set_out}
use Rattle.semantic.specs.Information.{NONE}
use Rattle.semantic.specs.Rows.{Row, Blank, Variable, Function, CallSite, Let}
use Rattle.semantic.specs.declared.SemanticInformation.{SemanticInformation}
use Rattle.semantic.specs.declared.FunctionInformation.{FunctionInformation}
use Rattle.semantic.specs.declared.CallSiteInformation.{CallSiteInformation}
use Rattle.pass.specs.State.{State, insert, amended, amend, row_at}

-- An identifier's fact but for the counts and marks that later reads, sets and ends of scopes change
abbrev pub lasting : SemanticInformation → SemanticInformation
lasting v = record {
  kind = v.kind;
  set_bang = false;
  depth = v.depth;
  shadows = NONE;
  usage_count = 0;
  span = v.span;
  refers_to = v.refers_to;
  aliases_to = v.aliases_to;
  builtin = v.builtin;
  last_usage = false;
  stack_offset = v.stack_offset;
  escapes = v.escapes;
  capture_index = v.capture_index;
  read_capture_offset = v.read_capture_offset;
  captured_from_enclosing = v.captured_from_enclosing;
  heap_offset = v.heap_offset;
  read_heap_offset = v.read_heap_offset;
  is_shadowed = false;
  is_required_identifier = v.is_required_identifier;
}

-- a row so; other facts last whole
abbrev pub key : Row → Row
key Blank = Blank
key (Variable v) = Variable (lasting v)
key (Function v) = Function v
key (CallSite v) = CallSite v
key (Let v) = Let v

-- a change of an identifier's fact that only counts or marks
abbrev pub Marks : (SemanticInformation → SemanticInformation) → Type 0
Marks f = (v : SemanticInformation) → lasting (f v) ≡ lasting v

pub amended-key : (f : SemanticInformation → SemanticInformation) → Marks f → (r : Row) → key (amended f r) ≡ key r
amended-key f m Blank = refl
amended-key f m (Variable v) = ap Variable (m v)
amended-key f m (Function v) = refl
amended-key f m (CallSite v) = refl
amended-key f m (Let v) = refl

-- what a key tells of its row
pub key-blank : (r : Row) → key r ≡ Blank → r ≡ Blank
key-blank Blank e = refl
key-blank (Variable v) e = let z : ◌≡◌ {A = ℕ} 0 1 = cc in absurd (omega arith)
key-blank (Function v) e = e
key-blank (CallSite v) e = e
key-blank (Let v) e = e

pub key_variable : (r : Row) {w : SemanticInformation} → key r ≡ Variable w → (v : SemanticInformation) × (r ≡ Variable v) × (lasting v ≡ w)
key_variable Blank e = let z : ◌≡◌ {A = ℕ} 0 1 = cc in absurd (omega arith)
key_variable (Variable v) e = (v, refl, cc)
key_variable (Function v) e = let z : ◌≡◌ {A = ℕ} 0 1 = cc in absurd (omega arith)
key_variable (CallSite v) e = let z : ◌≡◌ {A = ℕ} 0 1 = cc in absurd (omega arith)
key_variable (Let v) e = let z : ◌≡◌ {A = ℕ} 0 1 = cc in absurd (omega arith)

pub key_call : (r : Row) {v : CallSiteInformation} → key r ≡ CallSite v → r ≡ CallSite v
key_call Blank e = e
key_call (Variable v) e = let z : ◌≡◌ {A = ℕ} 0 1 = cc in absurd (omega arith)
key_call (Function v) e = e
key_call (CallSite v) e = e
key_call (Let v) e = e

pub key_function : (r : Row) {v : FunctionInformation} → key r ≡ Function v → r ≡ Function v
key_function Blank e = e
key_function (Variable v) e = let z : ◌≡◌ {A = ℕ} 0 1 = cc in absurd (omega arith)
key_function (Function v) e = e
key_function (CallSite v) e = e
key_function (Let v) e = e

-- A row is written

pub row_same : (i : ℕ) (r : Row) (s : State) → i < length s.facts.rows → row_at (insert i r s) i ≡ r
unfolding insert
row_same i r s h = get_or-set_same s.facts.rows i r Blank h

pub row_put : (i : ℕ) (r : Row) (s : State) → i < length (insert i r s).facts.rows → row_at (insert i r s) i ≡ r
unfolding insert
row_put i r s h = row_same i r s (omega (arith, length-set s.facts.rows i r))

pub row_other : (i : ℕ) (r : Row) (s : State) (x : ℕ) → ¬ (x ≡ i) → row_at (insert i r s) x ≡ row_at s x
unfolding insert
row_other i r s x h = get_or-set_other s.facts.rows i x r Blank h

pub row_out : (i : ℕ) (r : Row) (s : State) (x : ℕ) → length s.facts.rows ≤ i → row_at (insert i r s) x ≡ row_at s x
unfolding insert
row_out i r s x h = ap (λ (l : List Row). get_or l x Blank) (set_out s.facts.rows i r h)

-- with the key that it had
pub key-rewritten : (i : ℕ) (r : Row) (s : State) → key r ≡ key (row_at s i) → (x : ℕ) → key (row_at (insert i r s) x) ≡ key (row_at s x)
key-rewritten i r s e x = go (ℕ_discrete x i) (dec_lt i (length s.facts.rows))
  where
    go : Dec (x ≡ i) → Dec (i < length s.facts.rows) → key (row_at (insert i r s) x) ≡ key (row_at s x)
    go (no d) h = ap key (row_other i r s x d)
    go (yes d) (yes h) = rw d (ap key (row_same i r s h) ∙ e)
    go (yes d) (no h) = ap key (row_out i r s x (omega arith))

pub key-amended : (f : SemanticInformation → SemanticInformation) → Marks f → (i : ℕ) (s : State) (x : ℕ) → key (row_at (amend f i s) x) ≡ key (row_at s x)
unfolding amend
key-amended f m i s x = key-rewritten i (amended f (row_at s i)) s (amended-key f m (row_at s i)) x

-- a table of blank rows
pub blank-rows : (n i : ℕ) → get_or (replicate n Blank) i Blank ≡ Blank
blank-rows zero i = refl
blank-rows (suc n) zero = refl
blank-rows (suc n) (suc i) = blank-rows n i
