-- What the functions that read a line promise.
use Rattle.std.specs.Prelude.{ℕ, List, [], ◌∷◌, Option, option_map}
use Rattle.reading.specs.Reading.{Numbered}
use Rattle.reading.specs.declared.line.Field.{Field}

-- a number and what follows it
abbrev pub numbered_in : Field → Numbered
numbered_in f = record { value = f.value; rest = f.rest.now }

abbrev pub found : Option Field → Option Numbered
found = option_map numbered_in

-- the numbers of a line of one field
abbrev pub ones : Option ℕ → Option (List ℕ)
ones = option_map (λ n. n ∷ [])
