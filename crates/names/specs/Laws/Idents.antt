-- What the records say of an identifier of the tree.
use Rattle.std.specs.Prelude.{ℕ, ◌<◌, List, ◌≡◌, length}
use Rattle.std.proofs.Common.{ap, sym, ◌∙◌, arith}
use Rattle.tree.specs.Record.{Record, records, nth}
use Rattle.tree.specs.Tree.{Ident, named}
use Rattle.pass.specs.Read.{span}
use Rattle.pass.specs.Run.{rows_most}
use Rattle.work.specs.Known.{Known}
use Rattle.names.specs.Facts.{span_of}

module _ {rs : List ℕ} {x : Ident} {at : ℕ} (k : Known rs x) (e : x.at ≡ at) where
  pub known_record : nth rs at ≡ named x
  known_record = ap (nth rs) (sym e) ∙ k.is

  pub known_id : (nth rs at).id ≡ x.id
  known_id = ap (λ (r : Record). r.id) known_record

  pub known_name : (nth rs at).name ≡ x.name
  known_name = ap (λ (r : Record). r.name) known_record

  pub known-span : span_of (nth rs at) ≡ span x
  known-span = ap span_of known_record

  pub known-inside : at < length (records rs)
  known-inside = omega (arith, k.inside, e)

  pub known_few : at < rows_most
  known_few = omega (arith, k.few, e)
