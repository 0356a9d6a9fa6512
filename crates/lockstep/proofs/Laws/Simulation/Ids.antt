-- An accepted tree has no id twice: the record that has a name's id is the name's.
use Rattle.std.specs.Prelude.{ℕ, zero, suc, ◌+◌, List, [], ◌∷◌, true, ◌≡◌, eqb, Some, slice_get}
use Rattle.std.proofs.lemmas.Option.{same_Some, none-some}
use Rattle.std.proofs.lemmas.Bool.{false≢true}
use Rattle.std.proofs.Common.{ap, sym, ◌∙◌, arith, eq-eqb, ne_eqb}
use Rattle.tree.specs.Record.{Record}
use Rattle.tree.specs.Form.{form_of, fits}
use Rattle.tree.specs.Tree.{Ident, Trees, named, flats}
use Rattle.tree.specs.First.{first}
use Rattle.tree.specs.Accepted.{Distinct, Accepted}
use Rattle.semantic.specs.Rows.{Row}
use Rattle.lockstep.specs.Facts.{row_of, row_of?, row_of_id}
use Rattle.lockstep.proofs.Laws.Simulation.Lists.{all-at}

-- the first record that has the id of the one at i
first_id : (l : List Record) (i : ℕ) (r : Record) → Distinct l → slice_get l i ≡ Some r → ¬ (r.id ≡ 0) → first (λ q. eqb q.id r.id) l ≡ Some i
unfolding first
first_id [] i r d e z = absurd (none-some r e)
first_id (q ∷ l) zero r d e z = rw (eq-eqb q.id r.id (ap (λ (p : Record). p.id) (same_Some q r e)))
first_id (q ∷ l) (suc i) r d e z =
    let other : ¬ (q.id ≡ r.id) = λ p. z (sym p ∙ all-at (λ s. q.id ≡ s.id → q.id ≡ 0) l i d.0 e p) in
    let n : 1 + i ≡ suc i = omega arith in
    rw (ne_eqb q.id r.id other, first_id l i r d.1 e z, n)

id_positive : (N : ℕ) (x : Ident) → fits N (named x) ≡ true → ¬ (x.id ≡ 0)
unfolding fits form_of
id_positive N x f z = false≢true (rw z at f)

-- the fact of the record that has a name's id is the one of the name's record
pub row_of_id_lem : {N : ℕ} {rs : List ℕ} {ts : Trees} (T : List Row) (x : Ident) → Accepted N rs ts → slice_get (flats ts) x.at ≡ Some (named x)
    → row_of_id ts T x.id ≡ row_of T x.at
unfolding row_of_id
row_of_id_lem {N} {ts = ts} T x a e =
    ap (row_of? T) (first_id (flats ts) x.at (named x) a.ids e (id_positive N x (all-at (λ r. fits N r ≡ true) (flats ts) x.at a.fields e)))
