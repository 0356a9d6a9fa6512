-- Nothing is found at any place, and a reading may end further on.
use Rattle.std.specs.Prelude.{ℕ, ◌≤◌, Bool, false, List}
use Rattle.std.proofs.Common.{true≢false, sym, arith}
use Rattle.replay.specs.Reads.{Reads}

pub nothing : (input : List ℕ) {at next : ℕ} → at ≤ next → Reads input at false next
nothing input h = record { onward = h; inside = λ e. absurd (true≢false (sym e)); more = λ e. absurd (true≢false (sym e)) }

-- and further readings after it
pub reads_on : {input : List ℕ} {at m n : ℕ} {found : Bool} → Reads input at found m → m ≤ n → Reads input at found n
reads_on r h = record { onward = omega (arith, r.onward); inside = r.inside; more = λ e. omega (arith, r.more e) }
