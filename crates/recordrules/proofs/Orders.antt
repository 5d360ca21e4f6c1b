-- The rules that others follow: the counts, the header's mark, a row's start. What follows decides exactly where they hold.
use lib.Dec.{eqb, leb}
use Prim.Native.Nat.{ℕ}
use Rattle.rules.specs.declared.Network.{Network}
use Rattle.rules.specs.Limits.{need_counts, header_length}
use Rattle.rules.proofs.Ground.Ruling.{InOrder, order_end, order_need}
use Rattle.recordrules.specs.Rules.{header_rule, row_rule}

pub counts_in_order : (h : Network) → InOrder (need_counts h)
unfolding need_counts
counts_in_order h =
    order_need (leb 3 h.n) 2 _ (order_need (leb h.n 32) 2 _ (order_need (leb 3 h.m) 2 _ (order_need (leb h.m 128) 2 _
    (order_need (leb h.k 32) 2 _ (order_need (leb h.k h.n) 2 _ (order_need (leb 1 h.wmax) 2 _ (order_need (leb h.wmax 65535) 2 _ order_end)))))))

pub header_in_order : (long x y : ℕ) → InOrder (header_rule long x y)
unfolding header_rule
header_in_order long x y = order_need (leb header_length long) 0 _ (order_need (eqb x 0x4E) 1 _ (order_need (eqb y 0x57) 1 _ order_end))

pub row_in_order : (i x y topology : ℕ) → InOrder (row_rule i x y topology)
unfolding row_rule
row_in_order i x y topology = order_need (eqb x 0x42) 1 _ (order_need (eqb y 0x57) 1 _ (order_need (eqb topology i) 5 _ order_end))
