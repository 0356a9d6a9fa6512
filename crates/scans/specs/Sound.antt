-- What the checks 3, 6, 7 and 16 ask of one record.
use Rattle.std.specs.Prelude.{ℕ, ◌<◌, true, false, ◌&&◌, ◌≡◌, eqb}
use Rattle.tree.specs.Record.{Record}
use Rattle.tree.specs.Form.{fits}
use Rattle.tree.specs.Check.{untested}

-- they do not apply to the record r, where so many names are due
pub record Sound (N : ℕ) (r : Record) (due : ℕ) : Type 0 where
  pub fit : fits N r ≡ true
  pub called : eqb r.form 8 && eqb r.count 0 ≡ false
  pub tested : untested r ≡ false
  pub named : 0 < due → r.form ≡ 1
