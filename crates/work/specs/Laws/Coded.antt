-- How many numbers the row of an entry is.
use Rattle.std.specs.Prelude.{◌≡◌, refl, length}
use Rattle.pass.specs.State.{Entry}
use Rattle.work.specs.Coded.{entry_width, put_coded, put_entry_row}

pub entry_long : (e : Entry) → length (put_entry_row e) ≡ entry_width
unfolding put_coded
entry_long e = refl
