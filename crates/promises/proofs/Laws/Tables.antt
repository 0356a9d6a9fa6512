-- What the table of facts holds where nothing is refused: from what the operations ensure, and the claims of the definition.
use Rattle.std.specs.Prelude.{ℕ, List, ◌≡◌, length}
use Rattle.std.proofs.Common.{sym, subst, ◌∙◌}
use Rattle.table.specs.Layout.{layout}
use Rattle.tree.specs.Tree.{Trees}
use Rattle.tree.specs.Accepted.{Accepted}
use Rattle.tree.proofs.Laws.Acceptance.{unique}
use Rattle.semantic.specs.Rows.{Row, put_row}
use Rattle.pass.specs.Run.{Outcome, fresh, settled, refused_first, or_second, fresh_outcome, settled_outcome}
use Rattle.execution.specs.Premises.{FreshAccepts, SettledAccepts}
use Rattle.execution.proofs.Laws.TailPosition.{tail_fresh, tail_settled}
use Rattle.execution.proofs.Laws.BindingFresh.{binding_fresh}
use Rattle.execution.proofs.Laws.DefinedNames.{defined-fresh, defined-settled}
use Rattle.execution.proofs.Laws.UsesFresh.{uses-fresh}
use Rattle.execution.proofs.Laws.BindingSettled.{binding_settled}
use Rattle.execution.proofs.Laws.Demand3.{demand3}
use Rattle.promises.specs.Promises.{FreshFacts, SettledFacts, Promise, FreshPromise, SettledPromise}
use Rattle.promises.proofs.Laws.Outcomes.{outcomes, kept}
use Rattle.promises.proofs.Laws.Back.{rows_same}

promise : {classes rs : List ℕ} {o : Outcome} (Facts : Trees → List Row → Type 0) (ts : Trees) (T : List Row) → Accepted (length classes) rs ts
    → o.tables.facts ≡ layout put_row T → Facts ts T → Promise classes rs o Facts
promise Facts ts T a l f = record {
  tree = (ts, a);
  rows = (T, l);
  facts = λ us U b m. subst (λ (vs : Trees). Facts vs U) (unique a b) (subst (Facts ts) (rows_same T U (sym l ∙ m)) f);
}

pub fresh_promise : FreshPromise
unfolding fresh_outcome
fresh_promise classes rs t o x e =
    let a = outcomes x.answers e in
    let s = fresh classes a.ts in
    let k = kept (refused_first s.noted) s.facts a.is e in
    let h : FreshAccepts classes rs a.ts = record { accepted = a.accepted; not_refused = k.unrefused } in
    promise (FreshFacts classes) a.ts s.facts.rows a.accepted k.laid (record {
      tail = tail_fresh classes rs a.ts h;
      defined = defined-fresh classes rs a.ts h;
      binding = binding_fresh classes rs a.ts h;
      uses = uses-fresh classes rs a.ts h;
      machines = demand3 classes rs a.ts h;
    })

pub settled_promise : SettledPromise
unfolding settled_outcome
settled_promise classes rs t o x e =
    let a = outcomes x.answers e in
    let s = settled classes a.ts in
    let k = kept (or_second (refused_first (fresh classes a.ts).noted) s.noted.second) s.facts a.is e in
    let h : SettledAccepts classes rs a.ts = record { accepted = a.accepted; not_refused = k.unrefused } in
    promise (SettledFacts classes) a.ts s.facts.rows a.accepted k.laid (record {
      tail = tail_settled classes rs a.ts h;
      defined = defined-settled classes rs a.ts h;
      binding = binding_settled classes rs a.ts h;
    })
