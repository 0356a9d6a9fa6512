-- `untested`: a search for a when or an unless with count 0.
use Rattle.std.proofs.Common.{◌≡◌, true, false, rules}
use Rattle.std.proofs.lemmas.Iterator.{first_from_Range}
use Rattle.tree.specs.Record.{nth}
use Rattle.tree.specs.Check.{check16, untested}
use Rattle.scans.proofs.Search.{found}
use Rattle.scans.proofs.scan.untested.Goals as goal

pub returns : goal.returns
unfolding check16
returns c = λ N.
    let rs = c.args.rs.now in
    found untested rs c.len.ensures _
    (first_from_Range _ _ _ _ (λ i. untested (nth rs i) ≡ true) (λ i. untested (nth rs i) ≡ false) c.find.ensures.ran
    (λ x q k. search rules)
    (λ x q k. search rules))
