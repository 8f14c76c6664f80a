-- The greatest numbers (document 01, "The ring", "The lent tables"). Assumes nothing.
use Rattle.std.specs.Prelude.{ℕ}

-- the greatest number of 32 bits
abbrev pub top_number : ℕ
top_number = 4294967295

-- the most places of each table that may be lent
abbrev pub most_relays : ℕ
most_relays = 256

abbrev pub most_tablets : ℕ
most_tablets = 4096

-- the greatest limit that a relay may have
abbrev pub most_limit : ℕ
most_limit = 4096
