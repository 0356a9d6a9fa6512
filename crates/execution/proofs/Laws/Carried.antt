-- The claim on positions holds.
use Rattle.std.specs.Prelude.{List, [], ◌∷◌, map, ◌≡◌, refl}
use Rattle.std.proofs.Common.{ap, sym, ◌∙◌}
use Rattle.semantic.specs.Rows.{ListEntry, put_list_entry}
use Rattle.pass.specs.State.{State}
use Rattle.pass.specs.Run.{fresh, settled}
use Rattle.pass.specs.Bare.{bare_list_entry, bare_facts, bare_state}
use Rattle.pass_laws.specs.Laws.Bare.Runs.{bare-fresh, bare-settled}
use Rattle.execution.specs.Positions.{Same}
use Rattle.execution.specs.Claims.{PositionsCarried}

-- an entry's numbers hold no position
put-bare : (l : List ListEntry) → map put_list_entry (map bare_list_entry l) ≡ map put_list_entry l
unfolding put_list_entry
put-bare [] = refl
put-bare (i ∷ l) = rw (put-bare l)

same : (s u : State) → bare_state s ≡ bare_state u → Same s u
unfolding bare_state bare_facts
same s u h = record {
  rows = ap (λ (t : State). t.facts.rows) h;
  captured = sym (put-bare s.facts.captured) ∙ ap (λ (t : State). map put_list_entry t.facts.captured) h ∙ put-bare u.facts.captured;
  arguments = sym (put-bare s.facts.arguments) ∙ ap (λ (t : State). map put_list_entry t.facts.arguments) h ∙ put-bare u.facts.arguments;
  noted = ap (λ (t : State). t.noted) h;
}

pub positions_carried : PositionsCarried
positions_carried classes ts us h = (
  same _ _ (bare-fresh classes ts ∙ ap (fresh classes) h ∙ sym (bare-fresh classes us)),
  same _ _ (bare-settled classes ts ∙ ap (settled classes) h ∙ sym (bare-settled classes us)),
)
