-- `lookup::spot` meets its contract: a search by halves among the first pairs of the table. Assumes nothing.
use Rattle.std.proofs.Common.{rules, arith, ◌≡◌, sym, ap, ◌∙◌, ℕ, ◌<◌, ◌≤◌, List, length, get_or, take}
use Rattle.std.proofs.lemmas.List.{length-take-le, get_or-take}
use Rattle.std.proofs.lemmas.List.Sorted.{answers_always}
use Rattle.tables.specs.Table.{places_of, number_in}
use Rattle.tables.proofs.Pairs.{pair_number}
use Rattle.lookup.proofs.Halves.{searched}
use Rattle.lookup.proofs.spot.Goals as goal

pub slice_bounds-binary_search_by_key-end : goal.slice_bounds-binary_search_by_key-end
unfolding places_of
slice_bounds-binary_search_by_key-end c =
    let w : c.args.n ≤ length c.as_chunks.result.0.now = omega (arith, c.as_chunks.ensures.front_len, c.requires.0) in
    sym (length-take-le c.args.n c.as_chunks.result.0.now w)

pub returns : goal.returns
unfolding places_of
returns c =
    let t = c.args.table.now in
    let n = c.args.n in
    let all = c.as_chunks.result.0.now in
    let many = c.as_chunks.ensures.front_len in
    let w : n ≤ length all = omega (arith, many, c.requires.0) in
    let reads : (i : ℕ) (d : List ℕ) → i < n → get_or (get_or (take n all) i d) 0 0 ≡ number_in t i
    = λ i d h. ap (λ place. get_or place 0 0) (get_or-take n all i d h)
    ∙ rw c.as_chunks.ensures.front (pair_number t _ i d (omega (arith, many))) in
    searched t n c.requires.1 c.args.x (take n all) (length-take-le n all w) reads c.binary_search_by_key.result c.binary_search_by_key.ensures.bound
    (c.binary_search_by_key.ensures.position (λ place. get_or place 0 0) (answers_always _ _ _ (λ f a r g k. search rules)))
