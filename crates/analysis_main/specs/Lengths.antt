-- How many numbers of each table are lent.
use Rattle.std.specs.Prelude.{◌+◌, ◌≤◌}
use Rattle.pass.specs.Run.{facts_length, list_entries_length, work_length}
use Rattle.analysis_main.specs.declared.lengths.Lengths.{Lengths}

-- at most one more than the set lengths
abbrev pub FitRoom : Lengths → Type 0
FitRoom l =
    (l.facts ≤ facts_length + 1)
    × (l.captured ≤ list_entries_length + 1)
    × (l.arguments ≤ list_entries_length + 1)
    × (l.work ≤ work_length + 1)
