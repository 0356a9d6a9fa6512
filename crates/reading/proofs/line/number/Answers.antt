-- `number`: by the first byte.
use mathlib.Core.Path.{ap, sym, ◌∙◌}
use Rattle.reading.specs.Found.{found}
use Rattle.reading.proofs.Places.{number_digits, number-none, number_nought, number-end}
use Rattle.reading.proofs.line.number.Goals as goal

pub returns-in_err-first : goal.returns-in_err-first
returns-in_err-first c = ap found c.from_residual.ensures ∙ sym (number-end c.args.l.now c.in_err-first.ensures.cases)

pub returns-then-first-eq48 : goal.returns-then-first-eq48
returns-then-first-eq48 c = sym (number_nought c.in_ok-first.ensures.cases.0 c.if-first-eq48.true)

pub returns-then-not-is_ascii_digit : goal.returns-then-not-is_ascii_digit
returns-then-not-is_ascii_digit c = sym (number-none c.in_ok-first.ensures.cases.0 c.if-first-eq48.false (sym c.if-not-is_ascii_digit.ensures.value))

pub returns : goal.returns
returns c = c.digits.ensures ∙ sym (number_digits c.in_ok-first.ensures.cases.0 c.if-first-eq48.false (sym c.if-not-is_ascii_digit.ensures.value))
