-- `field_at`: the mark, then the number.
use mathlib.Core.Path.{ap, sym, ◌∙◌}
use Rattle.std.proofs.lemmas.Bool.Decides.{Decides-eqb}
use Rattle.std.proofs.lemmas.Slice.Eq.{strip_prefix_is}
use Rattle.reading.specs.Reading.{number_if, field_at}
use Rattle.reading.specs.Found.{found}
use Rattle.reading.proofs.Places.{after_some, after-none}
use Rattle.reading.proofs.line.field_at.Goals as goal

pub returns-in_err-strip_prefix : goal.returns-in_err-strip_prefix
unfolding field_at
returns-in_err-strip_prefix c =
    let h = strip_prefix_is Decides-eqb c.args.l.now c.args.mark.now c.strip_prefix.result c.strip_prefix.ensures.cases in
    ap found c.from_residual.ensures ∙ sym (ap number_if (after-none c.args.mark.now c.args.l.now (rw c.in_err-strip_prefix.was at h)))

pub returns : goal.returns
unfolding field_at
returns c =
    let h = strip_prefix_is Decides-eqb c.args.l.now c.args.mark.now c.strip_prefix.result c.strip_prefix.ensures.cases in
    c.number.ensures ∙ sym (ap number_if (after_some c.args.mark.now c.args.l.now _ (rw c.in_ok-strip_prefix.was at h)))
