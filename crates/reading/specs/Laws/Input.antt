-- What holds of all of a list and of one more.
use Rattle.std.specs.Prelude.{List, [], ◌∷◌, ◌++◌}
use Rattle.reading.specs.Input.{All, all_none, all_more}

pub all_snoc : {A : Type 0} {P : A → Type 0} {a : A} {l : List A} → All P l → P a → All P (l ++ (a ∷ []))
all_snoc all_none p = all_more p all_none
all_snoc (all_more q h) p = all_more q (all_snoc h p)
