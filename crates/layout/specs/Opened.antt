-- What the trailer of any bytes says (document 01, "Roster file"): the counts and the scheme, and by `Ok` that the shape is right. Bytes that are too
-- short for a trailer say nothing. Assumes nothing.
use Rattle.std.specs.Prelude.{true, false, List, ℕ, Result, Ok, Err, leb, length}
use Rattle.layout.specs.declared.Trailer.{Trailer}
use Rattle.layout.specs.Roster.{trailer_bytes, shape_right, relay_count, tablet_count, roster_scheme}

unfoldable pub opened : List ℕ → Trailer
opened b = record { relays = relay_count b; tablets = tablet_count b; scheme = roster_scheme b }

unfoldable pub unopened : Trailer
unopened = record { relays = 0; tablets = 0; scheme = 0 }

-- the trailer of bytes that are long enough for one
unfoldable pub long_trailer : List ℕ → Result Trailer Trailer
long_trailer b = elim (shape_right b) [ true ↦ Ok (opened b) | false ↦ Err (opened b) ]

unfoldable pub trailer_of : List ℕ → Result Trailer Trailer
trailer_of b = elim (leb trailer_bytes (length b)) [ true ↦ long_trailer b | false ↦ Err unopened ]
