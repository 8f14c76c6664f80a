-- `line::meaning` meets its contract: a call has a letter, a space and what stands behind them. Assumes nothing.
use Rattle.std.proofs.Common.{◌≡◌, sym, ◌∙◌, get_or, arith}
use Rattle.line.proofs.Words.{part_rest, meaning_short, meaning_unspaced, meaning_spaced}
use Rattle.line.proofs.meaning.Goals as goal

pub returns-in-32 : goal.returns-in-32
returns-in-32 c =
    let l = c.args.line.now in
    let e : get_or l 1 0 ≡ 32 = omega arith in
    c.with_rest.ensures ∙ rw (part_rest 2 l) (sym (meaning_spaced l c.in-32.len_at_least e))

pub returns-in_default : goal.returns-in_default
returns-in_default c = sym (meaning_short _ c.in_default.len_below)

pub returns-in_default-2 : goal.returns-in_default-2
returns-in_default-2 c = sym (meaning_unspaced _ c.in_default.len_at_least (λ e. omega arith))
