-- Answers of document 01's sample, by computation. Assumes nothing.
use mathlib.Core.List.{[], ◌∷◌}
use mathlib.Core.Path.{◌≡◌, refl}
use Rattle.rule.specs.declared.Refusal.TheVariants.{Done, NumberZero}
use Rattle.rule.specs.Refusals.{replied, bare_reply}
use Rattle.answer.specs.Text.{digits_by, number_text, number_then, reply_text, move_text, move_text_at, moves_text, answer_text}

-- `0 10 1 1`, `m 5 10 20`
pub one_move : answer_text (replied Done 10 1 1) (5 ∷ 10 ∷ 20 ∷ 0 ∷ 0 ∷ 0 ∷ [])
    ≡ (48 ∷ 32 ∷ 49 ∷ 48 ∷ 32 ∷ 49 ∷ 32 ∷ 49 ∷ 10 ∷ 109 ∷ 32 ∷ 53 ∷ 32 ∷ 49 ∷ 48 ∷ 32 ∷ 50 ∷ 48 ∷ 10 ∷ [])
unfolding answer_text reply_text moves_text move_text_at move_text number_then number_text digits_by
one_move = refl

-- `3 0 0 0`
pub refused : answer_text (bare_reply NumberZero) [] ≡ (51 ∷ 32 ∷ 48 ∷ 32 ∷ 48 ∷ 32 ∷ 48 ∷ 10 ∷ [])
unfolding answer_text reply_text moves_text move_text_at move_text number_then number_text digits_by
refused = refl

-- 4294967295
pub greatest : number_text 4294967295 ≡ (52 ∷ 50 ∷ 57 ∷ 52 ∷ 57 ∷ 54 ∷ 55 ∷ 50 ∷ 57 ∷ 53 ∷ [])
unfolding number_text digits_by
greatest = refl
