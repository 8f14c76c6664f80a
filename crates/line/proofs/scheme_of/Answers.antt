-- `line::scheme_of` meets its contract: a first line begins with `scheme` and a space. Assumes nothing.
use mathlib.Core.Path.{sym, ◌∙◌}
use Rattle.line.specs.Line.{scheme_word, known_or}
use Rattle.line.proofs.Firsts.{scheme_other, scheme_named}
use Rattle.line.proofs.scheme_of.Goals as goal

pub returns-in_err-strip_prefix : goal.returns-in_err-strip_prefix
unfolding scheme_word
returns-in_err-strip_prefix c = c.from_residual.ensures ∙ sym (scheme_other _ c.in_err-strip_prefix.ensures.cases)

pub returns-in_err-scheme : goal.returns-in_err-scheme
unfolding scheme_word known_or
returns-in_err-scheme c =
    let a = c.in_ok-strip_prefix.ensures.cases in
    c.from_residual-in_err-scheme.ensures ∙ scheme_named _ _ a.0 a.1 c.in_err-scheme.ensures

pub returns-then-scheme_known : goal.returns-then-scheme_known
unfolding scheme_word known_or
returns-then-scheme_known c =
    let a = c.in_ok-strip_prefix.ensures.cases in
    let e = scheme_named c.args.line.now _ a.0 a.1 c.in_ok-scheme.ensures in
    rw (sym c.if-scheme_known.ensures) at e

pub returns-else-scheme_known : goal.returns-else-scheme_known
unfolding scheme_word known_or
returns-else-scheme_known c =
    let a = c.in_ok-strip_prefix.ensures.cases in
    let e = scheme_named c.args.line.now _ a.0 a.1 c.in_ok-scheme.ensures in
    rw (sym c.if-scheme_known.ensures) at e
