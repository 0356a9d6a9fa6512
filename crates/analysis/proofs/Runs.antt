-- What the runs need of blank tables, and what they leave in them.
use Rattle.std.specs.Prelude.{Option, None, Some}
use Prim.Native.Nat.{ℕ}
use mathlib.Core.List.{List}
use mathlib.Core.Path.{◌≡◌, refl, sym, subst, ◌∙◌}
use lib.ListN.{length}
use Rattle.tree.specs.Record.{records}
use Rattle.tree.specs.Tree.{Trees}
use Rattle.tree.specs.Check.{Refusal}
use Rattle.tree.specs.Accepted.{Accepted}
use Rattle.tree.proofs.Laws.Acceptance.{unique}
use Rattle.pass.specs.State.{State}
use Rattle.pass.specs.Run.{work_length, no_facts, fresh, settled, refused_first, fresh_outcome, settled_outcome}
use Rattle.work.specs.Passes.{pass_new}
use Rattle.work.specs.Coded.{second_of}
use Rattle.work.specs.Laws.Works.{second_is}
use Rattle.work.specs.Tied.{Raw, raw, Tied}
use Rattle.work.specs.declared.Pass.{Pass}
use Rattle.answers.specs.Answer.{tables}
use Rattle.answers.specs.Noted.{first_in}
use Rattle.answers.specs.Clear.{names_cleared, Rested}
use Rattle.answers.specs.Laws.Start.{blank_tied, again_tied}
use Rattle.answers.specs.Laws.Left.{run_rested, refused_as, tied_outcome}
use Rattle.visits.specs.Runs.{anew, again, Ready, Runs}
use Rattle.analysis.specs.Steps.{Begins, Ends}

module _ {classes rs F C A w : List ℕ} (b : Begins classes rs (tables F C A w)) where
  pub work_long_lem : length w ≡ work_length
  work_long_lem = b.blank.work.long

  -- what is held of its trees is held of any that the records are
  pub tied_as : (f : List ℕ → Trees → State) {z : Raw} (us : Trees) → Accepted (length classes) rs us → Tied z (f classes b.ts) → Tied z (f classes us)
  tied_as f {z} us a t = subst (λ (ts : Trees). Tied z (f classes ts)) (unique b.accepted a) t

  abbrev pub first_ready : {p : Pass} → p ≡ pass_new 0 0 → Ready classes rs (raw p F C A w)
  first_ready e = record {
    ts = b.ts;
    facts = no_facts;
    accepted = b.accepted;
    starts = anew refl;
    tied = rw e (blank_tied b.blank);
  }

  module _ {p q : Pass} {F' C' A' w' : List ℕ} (e : p ≡ pass_new 0 0) (r : Runs classes rs (raw p F C A w) (raw q F' C' A' w')) where
    pub first_tied : Tied (raw q F' C' A' w') (fresh classes b.ts)
    unfolding fresh
    first_tied = r.is (first_ready e)

    pub first_rested : Rested (length (records rs)) w'
    first_rested = run_rested classes no_facts b.accepted (r.is (first_ready e)).works

    pub fresh_ends : {o : Option Refusal} → o ≡ first_in q → Ends fresh_outcome classes rs (record { refused = o; tables = tables F' C' A' w' })
    unfolding fresh_outcome
    fresh_ends g = record {
      sound = λ us k.
          let t = tied_as fresh us k first_tied in
          rw (g ∙ refused_as t.works) (tied_outcome (refused_first (fresh classes us).noted) t);
      rest = first_rested;
    }

    -- a refusal of the first run ends the second
    pub refused_ends : {r : Refusal} → Some r ≡ first_in q → Ends settled_outcome classes rs (record { refused = Some r; tables = tables F' C' A' w' })
    unfolding settled_outcome
    refused_ends g = record {
      sound = λ us k.
          let t = tied_as fresh us k first_tied in
          rw (← (g ∙ refused_as t.works));
      rest = first_rested;
    }

    module _ (g : None ≡ first_in q) where
      pub unnoted : (us : Trees) → Accepted (length classes) rs us → refused_first (fresh classes us).noted ≡ None
      unnoted us k = sym (g ∙ refused_as (tied_as fresh us k first_tied).works)

      abbrev pub second_ready : {p' : Pass} {w'' : List ℕ} → p' ≡ pass_new q.captured_top q.arguments_top
          → w'' ≡ names_cleared w' → Ready classes rs (raw p' F' C' A' w'')
      second_ready {w'' = w''} e' z = record {
        ts = b.ts;
        facts = (fresh classes b.ts).facts;
        accepted = b.accepted;
        starts = again (unnoted b.ts b.accepted) refl;
        tied = rw e' (again_tied w'' first_tied z);
      }

      pub settled_ends : {p' q' : Pass} {w'' F''' C''' A''' w''' : List ℕ} {o : Option Refusal}
          → p' ≡ pass_new q.captured_top q.arguments_top → w'' ≡ names_cleared w'
          → Runs classes rs (raw p' F' C' A' w'') (raw q' F''' C''' A''' w''') → o ≡ second_of q'.second
          → Ends settled_outcome classes rs (record { refused = o; tables = tables F''' C''' A''' w''' })
      unfolding settled_outcome settled
      settled_ends e' z r' g' = record {
        sound = λ us k.
            let u = tied_as settled us k (r'.is (second_ready e' z)) in
            rw (g' ∙ second_is u.works, unnoted us k) (tied_outcome (settled classes us).noted.second u);
        rest = run_rested classes (fresh classes b.ts).facts b.accepted (r'.is (second_ready e' z)).works;
      }
