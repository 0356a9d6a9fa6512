-- "Positions are carried and never consulted: trees that differ only there give equal rows but for positions."
use Rattle.std.specs.Prelude.{map, ◌≡◌}
use Rattle.semantic.specs.Rows.{put_list_entry}
use Rattle.pass.specs.State.{State}
use Rattle.pass.specs.Bare.{bare_row}

-- what two runs leave is equal but for positions
pub record Same (s u : State) : Type 0 where
  pub rows : map bare_row s.facts.rows ≡ map bare_row u.facts.rows
  pub captured : map put_list_entry s.facts.captured ≡ map put_list_entry u.facts.captured
  pub arguments : map put_list_entry s.facts.arguments ≡ map put_list_entry u.facts.arguments
  pub noted : s.noted ≡ u.noted
