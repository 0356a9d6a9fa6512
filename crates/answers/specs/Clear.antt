-- What is cleared before a run, between two runs, and after them.
use Rattle.std.specs.Prelude.{ℕ, ◌+◌, ◌-◌, ◌*◌, ◌≤◌, List, ◌≡◌, length, replicate, Option, None, Some}
use Rattle.table.specs.Region.{region, replaced}
use Rattle.tree.specs.Check.{Refusal}
use Rattle.scope_map.specs.Hints.{rows_length, hints_length}
use Rattle.pass.specs.Run.{rows_most, Tables, Outcome, facts_length, list_entries_length, work_length, zeros}
use Rattle.work.specs.Coded.{entry_width}
use Rattle.work.specs.Works.{entries_first, entries_length, captures_first, binders_first, binders_length}

-- what stays in the tables: the facts, or nothing where there is a refusal
abbrev pub left : Option Refusal → Tables → Tables
left None t = record { facts = t.facts; captured = t.captured; arguments = t.arguments; work = replicate work_length 0 }
left (Some r) t = zeros

abbrev pub cleared : Outcome → Outcome
cleared o = record { refused = o.refused; tables = left o.refused o.tables }

-- n numbers of a table from number a on made zero
unfoldable pub zeroed : ℕ → ℕ → List ℕ → List ℕ
zeroed a n w = replaced w a n (replicate n 0)

-- the hints of both maps, and the entries
unfoldable pub names_cleared : List ℕ → List ℕ
names_cleared w = zeroed (captures_first + rows_length) hints_length (zeroed entries_first entries_length (zeroed rows_length hints_length w))

-- the entries from record n on are zero
pub record Rested (n : ℕ) (w : List ℕ) : Type 0 where
  pub few : n ≤ rows_most
  pub tail : region w (entries_first + entry_width * n) (entries_length - entry_width * n) ≡ replicate (entries_length - entry_width * n) 0

-- a work table with no entries and no binders
pub record Emptied (w : List ℕ) : Type 0 where
  pub long : length w ≡ work_length
  pub entries : region w entries_first entries_length ≡ replicate entries_length 0
  pub binders : region w binders_first binders_length ≡ replicate binders_length 0

-- tables without facts, with which a run can start
pub record Blank (t : Tables) : Type 0 where
  pub facts : t.facts ≡ replicate facts_length 0
  pub captured : t.captured ≡ replicate list_entries_length 0
  pub arguments : t.arguments ≡ replicate list_entries_length 0
  pub work : Emptied t.work
