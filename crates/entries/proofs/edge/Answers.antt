-- `entries::edge` meets its contract: the places are parted by their numbers, where those come first. Assumes nothing.
use mathlib.Core.List.{List}
use mathlib.Core.Path.{◌≡◌}
use Prim.Native.Nat.{ℕ, ◌<◌}
use lib.Dec.{ltb}
use lib.ListN.{length, get_or}
use Rattle.std.proofs.Common.{rules, arith}
use Rattle.std.proofs.lemmas.List.Sorted.{IsPartitionPoint-from_clause}
use Rattle.tables.specs.Table.{number_in, places_of}
use Rattle.entries.specs.Entries.{Ends}
use Rattle.tables.proofs.Pairs.{pair_number}
use Rattle.entries.proofs.Parted.{parted, parted_once}
use Rattle.entries.proofs.edge.Goals as goal

pub returns : goal.returns
unfolding places_of
returns c n e =
    let t = c.args.table.now in
    let xs = c.as_chunks.result.0.now in
    let many = c.as_chunks.ensures.front_len in
    let f : Ends (number_in t) (length xs) n = rw many e in
    let reads : (i : ℕ) (d : List ℕ) → i < length xs → get_or (get_or xs i d) 0 0 ≡ number_in t i
    = λ i d h. rw c.as_chunks.ensures.front (pair_number t _ i d (omega (arith, many))) in
    let point = IsPartitionPoint-from_clause (λ (place : List ℕ). ltb 0 (get_or place 0 0)) xs _
    c.partition_point.ensures.partitioned (parted (number_in t) xs f reads) (λ a r q k. search rules) in
    parted_once (number_in t) xs f reads _ c.partition_point.ensures.bound point
