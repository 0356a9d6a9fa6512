-- The steps that leave the captured and argument lists alone.
use Rattle.std.specs.Prelude.{ℕ, [], ◌≡◌, refl}
use Rattle.std.proofs.Common.{◌∙◌}
use Rattle.semantic.specs.Rows.{Row}
use Rattle.pass.specs.State.{Facts, State, insert, amend, put_entry}
use Rattle.pass.specs.Lambda.{close_scope, close_captures}
use Rattle.pass_laws.specs.Laws.Preserved.{Preserves}

-- the lists of a state, with their tables
abbrev pub lists_of : State → Facts
lists_of s = record {
  rows = [];
  captured = s.facts.captured;
  captured_top = s.facts.captured_top;
  arguments = s.facts.arguments;
  arguments_top = s.facts.arguments_top;
}

abbrev pub Idle : State → State → Type 0
Idle s t = lists_of t ≡ lists_of s

pub insert_idle : (i : ℕ) (r : Row) (s : State) → Idle s (insert i r s)
unfolding insert
insert_idle i r s = refl

pub idle_steps : Preserves (Unit {0}) (Unit {0}) Idle
unfolding amend put_entry
idle_steps = record {
  same = λ s. refl;
  join = λ p q. q ∙ p;
  mark = λ f i s. insert_idle i _ s;
  fact = λ i v s. insert_idle i _ s;
  site = λ i v s. insert_idle i _ s;
  entry = λ i e s. refl;
  context = λ c s. refl;
  used = λ o i v s. insert_idle i _ s;
  capture = λ o x s. refl;
  second = λ o n i s. refl;
  names = λ o m s. refl;
  nine = λ o i s. refl;
}

pub closed_idle : (s : State) → Idle s (close_captures (close_scope s))
unfolding close_captures close_scope
closed_idle s = refl
