-- The rooms for lists are long enough for counts that are within their ranges.
use Rattle.std.proofs.Common.{◌≡◌, ℕ, ◌*◌, ◌≤◌, List, length, mul-le-mul, arith}
use Rattle.rules.specs.declared.Network.{Network}
use Rattle.rules.specs.Limits.{need_counts, row_weights}
use Rattle.rules.specs.Entries.Lists.{lists, LongLists}
use Rattle.rules.proofs.File.Records.{counts_ok}
use Rattle.rules.proofs.Isolation.HomesAndRows.{homes_most}

pub lists_held : (h : Network) (a b weights homes rows : List ℕ) → need_counts h 0 ≡ 0 → 256 ≡ length a → 256 ≡ length b → 8192 ≡ length weights → 256 ≡ length homes → 8192 ≡ length rows
    → LongLists h (lists a b weights homes rows)
unfolding row_weights
lists_held h a b weights homes rows e la lb lw lh lr =
    let W = (counts_ok h 0 e).0 in
    let n = W.nodes.1 in
    let m = W.links.1 in
    let k = W.topologies.0 in
    let most : h.k * h.m ≤ 32 * 128 = mul-le-mul {n₁ = h.k} {m₁ = h.m} {n₂ = 32} {m₂ = 128} k m in
    record { a = omega arith; b = omega arith; weights = omega arith; homes = omega (arith, homes_most h); rows = omega arith }
