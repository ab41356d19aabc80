-- `count_non_ascii` meets its contract: the blocks' counts and that of what is left make the whole.
use Rattle.std.specs.Prelude.{◌≡◌, List, ℕ, ◌+◌, ◌*◌, ◌/◌, length, drop}
use Rattle.std.specs.List.{sum_by}
use Rattle.std.specs.Simd.{first_chunks}
use Rattle.std.proofs.Common.{rules, arith}
use Rattle.laws.specs.Lists.{count_blocks, count_most}
use Rattle.octets.specs.Octets.{non_ascii}
use Rattle.context.specs.Head.{non_ascii_count}
use Rattle.context.proofs.count_non_ascii.Goals as goal

parts : (xs rest : List ℕ) (blocks : List (List ℕ)) → blocks ≡ first_chunks 128 (length xs / 128) xs → rest ≡ drop (length xs / 128 * 128) xs → sum_by non_ascii_count blocks + non_ascii_count rest ≡ non_ascii_count xs
parts xs rest blocks e f = rw (e, f) (count_blocks non_ascii 128 (length xs / 128) xs)

pub sum-counted-requires-clause-fits : goal.sum-counted-requires-clause-fits
sum-counted-requires-clause-fits c =
    let p = parts _ _ _ c.as_chunks.ensures.front c.as_chunks.ensures.back in
    search (rules, count_most non_ascii c.args.buffer.now, p)

pub overflow_add-result : goal.overflow_add-result
overflow_add-result c =
    let p = parts _ _ _ c.as_chunks.ensures.front c.as_chunks.ensures.back in
    let s : c.sum-counted.result ≡ sum_by non_ascii_count c.as_chunks.result.0.now = search rules in
    omega (arith, p, s, count_most non_ascii c.args.buffer.now)

pub returns : goal.returns
returns c =
    let p = parts _ _ _ c.as_chunks.ensures.front c.as_chunks.ensures.back in
    let s : c.sum-counted.result ≡ sum_by non_ascii_count c.as_chunks.result.0.now = search rules in
    omega (arith, p, s)
