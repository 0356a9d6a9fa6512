-- What the code holds of an entry, of a capture and of a refusal; and their rows of the work table.
use Rattle.std.specs.Prelude.{ℕ, suc, ◌+◌, ◌*◌, ◌<◌, List, [], ◌∷◌, Option, None, Some, option_map}
use Rattle.tree.specs.Tree.{Ident, bit}
use Rattle.tree.specs.Check.{Refusal}
use Rattle.semantic.specs.Rows.{ListEntry}
use Rattle.pass.specs.State.{Entry, Capture}
use Rattle.pass.specs.Run.{rows_most}
use Rattle.work.specs.declared.entries.Entry.{Entry as Coded}
use Rattle.work.specs.declared.captures.Capture.{Capture as CodedCapture}
use Rattle.work.specs.declared.SecondRefusal.{SecondRefusal}
use Rattle.work.specs.declared.SecondRefusal.TheVariants.{NoLambda, NoCapture}

-- the record of an identifier, counted from 1; 0 is none
abbrev pub last_code : Option Ident → ℕ
last_code None = 0
last_code (Some x) = suc x.at

abbrev pub coded : Entry → Coded
coded e = record {
  captured = e.captured;
  mutated = e.mutated;
  uses = e.usage_count;
  last = last_code e.last_used;
  slot = e.stack_offset;
  heap = e.heap_offset;
  depth = e.depth;
}

abbrev pub entry_width : ℕ
entry_width = 5

unfoldable pub put_coded : Coded → List ℕ
put_coded e = (bit e.captured + 2 * bit e.mutated + 4 * e.uses) ∷ e.last ∷ e.slot ∷ e.heap ∷ e.depth ∷ []

abbrev pub put_entry_row : Entry → List ℕ
put_entry_row e = put_coded (coded e)

abbrev pub capture_of : Capture → CodedCapture
capture_of c = record { binder = c.binder.at; id = c.binder.id; uses = c.usage_count; enclosing = c.from_enclosing }

abbrev pub capture_width : ℕ
capture_width = 2

unfoldable pub put_capture : CodedCapture → List ℕ
put_capture t = t.id ∷ (t.binder + rows_most * (2 * t.uses + bit t.enclosing)) ∷ []

-- all but the id have room in one number
pub record Packable (t : CodedCapture) : Type 0 where
  pub binder : t.binder < rows_most
  pub uses : t.uses < 524288

-- of a captured entry, its binder's record
abbrev pub put_binder : ListEntry → List ℕ
put_binder i = i.binder.at ∷ []

-- What is noted of refusals

abbrev pub refusal_at : ℕ → ℕ → Refusal
refusal_at n i = record { number = n; at = i }

abbrev pub refusal_of : SecondRefusal → Refusal
refusal_of (NoLambda i) = refusal_at 11 i
refusal_of (NoCapture i) = refusal_at 12 i

abbrev pub second_of : Option SecondRefusal → Option Refusal
second_of o = option_map refusal_of o

abbrev pub record_in : Option Ident → Option ℕ
record_in o = option_map (λ (x : Ident). x.at) o
