-- `empty_call`: a search for a call with count 0.
use Rattle.std.proofs.Common.{◌≡◌, true, false, rules}
use Rattle.std.proofs.lemmas.Iterator.{first_from_Range}
use Rattle.tree.specs.Record.{nth}
use Rattle.tree.specs.Check.{check7}
use Rattle.tree.proofs.Laws.Acceptance.Walk.{empty_call}
use Rattle.scans.proofs.Search.{found}
use Rattle.scans.proofs.scan.empty_call.Goals as goal

pub returns : goal.returns
unfolding check7
returns c = λ N.
    let rs = c.args.rs.now in
    found empty_call rs c.len.ensures _
    (first_from_Range _ _ _ _ (λ i. empty_call (nth rs i) ≡ true) (λ i. empty_call (nth rs i) ≡ false) c.find.ensures.ran
    (λ x q k. search rules)
    (λ x q k. search rules))
