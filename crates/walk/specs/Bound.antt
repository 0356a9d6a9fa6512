-- What a record says of names: the one it is, and how many it binds.
use Rattle.std.specs.Prelude.{ℕ, Bool, cond, ◌&&◌, eqb}
use Rattle.tree.specs.Record.{Record}
use Rattle.tree.specs.Form.{names_of}

abbrev pub is_named : ℕ → Record → Bool
is_named x r = eqb r.form 1 && eqb x r.name

-- the name of a set! is used, not bound
abbrev pub bound_by : Record → ℕ
bound_by r = cond (eqb r.form 9) 0 (names_of r.form r.count)
