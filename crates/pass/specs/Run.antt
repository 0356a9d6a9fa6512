-- Both runs, and what the operations answer. Document 01, "What the operations answer".
use Rattle.std.specs.Prelude.{ℕ, ◌*◌, ◌%◌, List, Bool, true, false, ◌&&◌, ◌≡◌, length, replicate, eqb, Option, None, Some}
use Rattle.table.specs.Layout.{layout}
use Rattle.tree.specs.Record.{width}
use Rattle.tree.specs.Tree.{Trees}
use Rattle.tree.specs.Define.{top_level}
use Rattle.tree.specs.Check.{Refusal, refusal}
use Rattle.tree.specs.Accepted.{Accepted}
use Rattle.scope_map.specs.ScopeMap.{new}
use Rattle.semantic.specs.Information.{NONE}
use Rattle.semantic.specs.Rows.{Blank, row_width, put_row, no_list_entry, list_entry_width, put_list_entry}
use Rattle.semantic.specs.declared.IdentifierStatus.TheVariants.{Global}
use Rattle.pass.specs.State.{Facts, Noted, State, no_entry}
use Rattle.pass.specs.Visit.{enter_children, visit_tops}

-- how many rows each table has
abbrev pub rows_most : ℕ
rows_most = 4096

abbrev pub list_entries_most : ℕ
list_entries_most = 4096

-- nothing is known yet
unfoldable pub no_facts : Facts
no_facts = record {
  rows = replicate rows_most Blank;
  captured = replicate list_entries_most no_list_entry;
  captured_top = 0;
  arguments = replicate list_entries_most no_list_entry;
  arguments_top = 0;
}

-- a run starts with these facts and an empty scope
unfoldable pub start : Facts → State
start f = record {
  facts = f;
  scope = record { names = new; entries = replicate rows_most no_entry };
  captures = new;
  context = NONE;
  noted = record { nine = None; ten = None; second = None };
}

-- `run_with_scope`: the lambda defines at top level enter first
unfoldable pub run : List ℕ → Trees → Facts → State
run classes ts f = visit_tops classes (top_level ts) (enter_children classes Global (top_level ts) (start f))

-- The fresh run, and the settled run: the same called twice, with the facts kept

unfoldable pub fresh : List ℕ → Trees → State
fresh classes ts = run classes ts no_facts

unfoldable pub settled : List ℕ → Trees → State
settled classes ts = run classes ts (fresh classes ts).facts

-- The refusals of a run: 9 covers the whole input before 10

abbrev pub ten_at : Option ℕ → Option Refusal
ten_at None = None
ten_at (Some i) = Some (record { number = 10; at = i })

abbrev pub nine_or : Option ℕ → Option Refusal → Option Refusal
nine_or None o = o
nine_or (Some i) o = Some (record { number = 9; at = i })

abbrev pub refused_first : Noted → Option Refusal
refused_first n = nine_or n.nine (ten_at n.ten)

abbrev pub or_second : Option Refusal → Option Refusal → Option Refusal
or_second None o = o
or_second (Some r) o = Some r

-- The tables that a caller lends

pub record Tables : Type 0 where
  pub facts : List ℕ
  pub captured : List ℕ
  pub arguments : List ℕ
  pub work : List ℕ

abbrev pub facts_length : ℕ
facts_length = row_width * rows_most

abbrev pub list_entries_length : ℕ
list_entries_length = list_entry_width * list_entries_most

abbrev pub work_length : ℕ
work_length = 59392

unfoldable pub lengths_fit : Tables → Bool
lengths_fit t =
    eqb (length t.facts) facts_length
    && (eqb (length t.captured) list_entries_length && (eqb (length t.arguments) list_entries_length && eqb (length t.work) work_length))

unfoldable pub zeros : Tables
zeros = record {
  facts = replicate facts_length 0;
  captured = replicate list_entries_length 0;
  arguments = replicate list_entries_length 0;
  work = replicate work_length 0;
}

-- which numbers of which table the facts are; the work table is left zero
unfoldable pub tables_of : Facts → Tables
tables_of f = record {
  facts = layout put_row f.rows;
  captured = layout put_list_entry f.captured;
  arguments = layout put_list_entry f.arguments;
  work = replicate work_length 0;
}

-- What an operation answers: the refusal, if any, and what the tables then hold

pub record Outcome : Type 0 where
  pub refused : Option Refusal
  pub tables : Tables

abbrev pub outcome : Option Refusal → Facts → Outcome
outcome None f = record { refused = None; tables = tables_of f }
outcome (Some r) f = record { refused = Some r; tables = zeros }

unfoldable pub fresh_outcome : List ℕ → Trees → Outcome
fresh_outcome classes ts = outcome (refused_first (fresh classes ts).noted) (fresh classes ts).facts

unfoldable pub settled_outcome : List ℕ → Trees → Outcome
settled_outcome classes ts =
    outcome (or_second (refused_first (fresh classes ts).noted) (settled classes ts).noted.second) (settled classes ts).facts

-- check 1: whole records, and every lent table of its set length
unfoldable pub fitting : List ℕ → Tables → Bool
fitting rs t = eqb (length rs % width) 0 && lengths_fit t

-- An operation answers `outcome_of` for the trees that the records are; the checks say when they are any
pub record Answers (outcome_of : List ℕ → Trees → Outcome) (classes rs : List ℕ) (t : Tables) (o : Outcome) : Type 0 where
  pub unfit : fitting rs t ≡ false → o ≡ record { refused = Some (record { number = 1; at = 0 }); tables = t }
  pub unsound : fitting rs t ≡ true → (r : Refusal) → refusal (length classes) rs ≡ Some r → o ≡ record { refused = Some r; tables = zeros }
  pub sound : fitting rs t ≡ true → (ts : Trees) → Accepted (length classes) rs ts → o ≡ outcome_of classes ts

pub record Fresh (classes rs : List ℕ) (t : Tables) (o : Outcome) : Type 0 where
  pub answers : Answers fresh_outcome classes rs t o

pub record Settled (classes rs : List ℕ) (t : Tables) (o : Outcome) : Type 0 where
  pub answers : Answers settled_outcome classes rs t o
