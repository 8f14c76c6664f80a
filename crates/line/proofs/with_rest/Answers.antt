-- `line::with_rest` meets its contract: the first number ends at the first space, and a second takes all that stands behind it. Assumes nothing.
use mathlib.Core.Path.{refl, sym, ◌∙◌}
use Rattle.line.proofs.Words.{rest_one, rest_two, one_not, two_not, not_two}
use Rattle.line.proofs.with_rest.Goals as goal

pub returns-in_err-decimal : goal.returns-in_err-decimal
returns-in_err-decimal c =
    c.from_residual.ensures ∙ sym (one_not c.args.letter)
    ∙ rest_one c.args.letter c.args.rest.now c.in_default.ensures.value c.in_err-decimal.ensures

pub returns-in_default : goal.returns-in_default
returns-in_default c =
    c.with_one.ensures ∙ rest_one c.args.letter c.args.rest.now c.in_default.ensures.value c.in_ok-decimal.ensures

pub returns-in_err-first : goal.returns-in_err-first
returns-in_err-first c =
    c.from_residual-in_err-first.ensures ∙ sym (not_two c.args.letter _)
    ∙ rest_two c.args.letter c.args.rest.now c.in-Some.end c.in-Some.ensures.value c.in_err-first.ensures refl

pub returns-in_err-second : goal.returns-in_err-second
returns-in_err-second c =
    c.from_residual-in_err-second.ensures ∙ sym (two_not c.args.letter _)
    ∙ rest_two c.args.letter c.args.rest.now c.in-Some.end c.in-Some.ensures.value c.in_ok-first.ensures c.in_err-second.ensures

pub returns : goal.returns
returns c =
    c.with_two.ensures ∙ rest_two c.args.letter c.args.rest.now c.in-Some.end c.in-Some.ensures.value c.in_ok-first.ensures
    c.in_ok-second.ensures
