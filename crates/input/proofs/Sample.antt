-- Document 01's sample for `watch` ("A drill to prove"): its input and the whole output, by computation, on tables of four places and four moves.
-- Assumes nothing.
use mathlib.Core.List.{List, [], ◌∷◌, ◌++◌}
use mathlib.Core.Path.{◌≡◌, refl}
use Prim.Native.Nat.{ℕ}
use lib.ListN.{replicate}
use Rattle.ring.specs.Scheme as Scheme
use Rattle.ring.specs.Clockwise as Clockwise
use Rattle.rule.specs.Entry as Entry
use Rattle.rule.specs.Order as Order
use Rattle.rule.specs.Rule as Rule
use Rattle.rule.specs.Refusals as Refusals
use Rattle.rule.specs.Calls as Calls
use Rattle.promise.specs.Promise as Promised
use Rattle.tables.specs.Table as Table
use Rattle.tables.specs.Shape as Shape
use Rattle.meaning.specs.Meaning as Meaning
use Rattle.write.specs.Tables as Tables
use Rattle.call_start.specs.Promise as Promise
use Rattle.line.specs.Decimal as Decimal
use Rattle.line.specs.Line as Line
use Rattle.answer.specs.Text as Text
use Rattle.stage.specs.declared.Stage.TheVariants.{First}
use Rattle.stage.specs.Stage as Stage
use Rattle.dialogue.specs.Lines as Lines
use Rattle.input.specs.Input as Input

pub joined : List (List ℕ) → List ℕ
joined [] = []
joined (l ∷ ls) = l ++ joined ls

pub sample : List (List ℕ)
sample =
    -- `scheme 0`
    (115 ∷ 99 ∷ 104 ∷ 101 ∷ 109 ∷ 101 ∷ 32 ∷ 48 ∷ 10 ∷ [])
    -- `a 10 1`
    ∷ (97 ∷ 32 ∷ 49 ∷ 48 ∷ 32 ∷ 49 ∷ 10 ∷ [])
    -- `a 20 2`
    ∷ (97 ∷ 32 ∷ 50 ∷ 48 ∷ 32 ∷ 50 ∷ 10 ∷ [])
    -- `e 5`
    ∷ (101 ∷ 32 ∷ 53 ∷ 10 ∷ [])
    -- `e 3`
    ∷ (101 ∷ 32 ∷ 51 ∷ 10 ∷ [])
    -- `w 3`
    ∷ (119 ∷ 32 ∷ 51 ∷ 10 ∷ [])
    -- `e 0`
    ∷ (101 ∷ 32 ∷ 48 ∷ 10 ∷ [])
    ∷ []

pub shown : List (List ℕ)
shown =
    -- `scheme 0`
    (115 ∷ 99 ∷ 104 ∷ 101 ∷ 109 ∷ 101 ∷ 32 ∷ 48 ∷ 10 ∷ [])
    -- `0 10 0 0`
    ∷ (48 ∷ 32 ∷ 49 ∷ 48 ∷ 32 ∷ 48 ∷ 32 ∷ 48 ∷ 10 ∷ [])
    -- `0 20 0 0`
    ∷ (48 ∷ 32 ∷ 50 ∷ 48 ∷ 32 ∷ 48 ∷ 32 ∷ 48 ∷ 10 ∷ [])
    -- `0 10 0 0`
    ∷ (48 ∷ 32 ∷ 49 ∷ 48 ∷ 32 ∷ 48 ∷ 32 ∷ 48 ∷ 10 ∷ [])
    -- `0 10 1 1`
    ∷ (48 ∷ 32 ∷ 49 ∷ 48 ∷ 32 ∷ 49 ∷ 32 ∷ 49 ∷ 10 ∷ [])
    -- `m 5 10 20`
    ∷ (109 ∷ 32 ∷ 53 ∷ 32 ∷ 49 ∷ 48 ∷ 32 ∷ 50 ∷ 48 ∷ 10 ∷ [])
    -- `0 10 0 1`
    ∷ (48 ∷ 32 ∷ 49 ∷ 48 ∷ 32 ∷ 48 ∷ 32 ∷ 49 ∷ 10 ∷ [])
    -- `m 5 20 10`
    ∷ (109 ∷ 32 ∷ 53 ∷ 32 ∷ 50 ∷ 48 ∷ 32 ∷ 49 ∷ 48 ∷ 10 ∷ [])
    -- `3 0 0 0`
    ∷ (51 ∷ 32 ∷ 48 ∷ 32 ∷ 48 ∷ 32 ∷ 48 ∷ 10 ∷ [])
    ∷ []

pub sample_holds : Input.printed First (replicate 8 0) (replicate 8 0) (replicate 12 0) (Input.lines_of (joined sample))
    ≡ joined shown
unfolding joined sample shown Input.lines_of Input.printed Lines.answered Lines.under Lines.called Lines.unchanged
    Stage.first Stage.other Stage.says Line.onto Line.words Line.letter_of Line.with_one Line.with_two Line.said
    Line.meaning_of Line.following Line.known_or Line.named Line.scheme_word Line.scheme_of Decimal.digit Decimal.all_digits
    Decimal.value Decimal.leading_zero Decimal.plain Decimal.decimal_of Text.digits_by Text.number_text Text.number_then
    Text.reply_text Text.move_text Text.move_text_at Text.moves_text Text.answer_text Promise.after Promise.left
    Promise.written Promised.settled Promise.outcome_of Meaning.ring_of Meaning.lent_of Meaning.places Meaning.fit_tables
    Meaning.rest_unused Shape.used_in Shape.used Shape.fits_in Shape.all
    Shape.unused Table.places_of Table.number_in Table.beside_in Table.is_whole
    Tables.flat Tables.filled Tables.relay_table
    Tables.tablet_table Tables.flat_moves Tables.listed Scheme.known Scheme.positions Scheme.position Clockwise.clockwise
    Clockwise.distance Clockwise.sooner Entry.numbers Entry.has Entry.beside_of Entry.insert Entry.delete Entry.put
    Entry.total Entry.count Entry.load Entry.first Entry.up_to Order.queued Order.order Rule.full Rule.has_room Rule.seat
    Rule.seat_all Rule.placement Rule.rising Rule.limits_fit Rule.same Rule.is_just Rule.right Refusals.is_done
    Refusals.first_bar Calls.edited Calls.or_nobody Calls.after Calls.moved Calls.moves Calls.ahead_of Calls.full_ahead
    Calls.passed Calls.relay_of Calls.wrong_numbers Calls.refusal Calls.accepted Calls.declined Calls.outcome
sample_holds = refl
