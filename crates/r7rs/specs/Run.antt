-- n moments of a machine; and of the plain machine on a tree.
use Rattle.std.specs.Prelude.{ℕ, zero, suc, [], None}
use Rattle.tree.specs.Tree.{Tree, Trees, sequence, nil, begins}
use Rattle.r7rs.specs.Machine.{start, kend, State, Out, next, ended, stopped, outside, state, unbound}
use Rattle.r7rs.specs.Plain.{PVal, PBody, PMem, body, mem, plainly}
use Rattle.r7rs.specs.Steps.{step}

-- how many moments were made, and what the last try came to. The end, or a stop, is met by the try after the last moment.
pub record Ran (W B M : Type 0) : Type 0 where
  pub made : ℕ
  pub now : Out W B M

module _ {W B M : Type 0} where
  abbrev pub ran : ℕ → Out W B M → Ran W B M
  ran n o = record { made = n; now = o }

  -- one more moment was tried
  abbrev pub tried : ℕ → Out W B M → Ran W B M
  tried n (next s) = ran (suc n) (next s)
  tried n (ended v m) = ran n (ended v m)
  tried n stopped = ran n stopped
  tried n outside = ran n outside

  abbrev pub more : (State W B M → Out W B M) → ℕ → Out W B M → Ran W B M
  more f n (next s) = tried n (f s)
  more f n (ended v m) = ran n (ended v m)
  more f n stopped = ran n stopped
  more f n outside = ran n outside

  unfoldable pub run : (State W B M → Out W B M) → State W B M → ℕ → Ran W B M
  run f s zero = ran zero (next s)
  run f s (suc n) = let r = run f s n in more f r.made r.now

-- before the first moment no body runs: an expression that mentions nothing stands for it
abbrev pub no_body : Tree
no_body = sequence (begins (record { at = 0; id = 0; from = 0; to = 0 })) nil

unfoldable pub plain : Trees → ℕ → Ran PVal PBody PMem
plain ts n = run (step plainly) (state (start ts) None (body no_body [] []) (kend nil) (mem [] unbound)) n
