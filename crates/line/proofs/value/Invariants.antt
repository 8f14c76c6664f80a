-- The invariant of `line::value`: what the whole word says is what the bytes that are left say behind the number so far.
use Rattle.std.proofs.Common.{◌≡◌, ◌<◌, drop}
use Rattle.line.specs.Decimal.{digits_of}
use Rattle.line.proofs.value.Given as goal

abbrev pub invariant-loop-byte : goal.invariant-loop-byte
invariant-loop-byte l = (digits_of 0 l.word ≡ digits_of l.value (drop l.byte-index l.word)) × (l.value < 4294967296)
