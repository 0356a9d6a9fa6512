-- What the program runs.
use Rattle.std.specs.Prelude.{ℕ, List}
use Rattle.pass.specs.Run.{Tables, Outcome}
use Rattle.pass.specs.Run as run
use Rattle.analysis_main.specs.declared.Operation.{Operation}
use Rattle.analysis_main.specs.declared.Operation.TheVariants.{Fresh, Settled}

abbrev pub Runs : Operation → List ℕ → List ℕ → Tables → Outcome → Type 0
Runs Settled = run.Settled
Runs Fresh = run.Fresh
