-- The ids before a record, latest first: what `repeated` has seen when it comes there.
use Rattle.std.specs.Prelude.{ℕ, zero, suc, List, [], ◌∷◌}
use Rattle.tree.specs.Record.{nth}

abbrev pub seen : List ℕ → ℕ → List ℕ
seen rs zero = []
seen rs (suc i) = (nth rs i).id ∷ seen rs i
