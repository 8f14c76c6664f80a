-- `line::value` meets its contract. Assumes nothing.
use Rattle.std.proofs.Common.{◌≡◌, ◌+◌, ◌*◌, ◌-◌, get_or, sym, ◌∙◌, arith}
use Rattle.line.specs.Decimal.{digit}
use Rattle.line.proofs.Decimals.{digits_end, digits_other, digits_next, digits_past}
use Rattle.line.proofs.value.Goals as goal

pub returns-then-not-is_ascii_digit : goal.returns-then-not-is_ascii_digit
unfolding digit
returns-then-not-is_ascii_digit c =
    let l = c.loop-byte in
    sym (l.invariant.0 ∙ digits_other c.args.word.now l.value l.byte-index c.loop-byte-test.true
    (sym c.is_ascii_digit.ensures.value ∙ c.if-not-is_ascii_digit.true))

pub returns-in_err-value : goal.returns-in_err-value
unfolding digit
returns-in_err-value c =
    let l = c.loop-byte in
    c.from_residual.ensures ∙ sym (l.invariant.0 ∙ digits_past c.args.word.now l.value l.byte-index c.loop-byte-test.true
    (sym c.is_ascii_digit.ensures.value ∙ c.if-not-is_ascii_digit.false) (omega (arith, c.in_err-value.ensures)))

pub loop-byte-preserved : goal.loop-byte-preserved
unfolding digit
loop-byte-preserved c =
    let l = c.loop-byte in
    let e = l.invariant.0 ∙ digits_next c.args.word.now l.value l.byte-index c.loop-byte-test.true
    (sym c.is_ascii_digit.ensures.value ∙ c.if-not-is_ascii_digit.false) in
    let is : c.in_ok-value.value ≡ l.value * 10 + (get_or c.args.word.now l.byte-index 0 - 48) = omega
    (arith, c.in_ok-value.ensures) in
    (rw is e, omega (arith, c.in_ok-value.ensures))

pub returns : goal.returns
returns c =
    let l = c.loop-byte in
    sym (l.invariant.0 ∙ digits_end c.args.word.now l.value l.byte-index c.loop-byte-test.false (omega arith))
