-- The two rules of a backup topology over words: each node's neighbours in `nb`, the isolated nodes in `iso`, the backbone in `bb`.
use Rattle.std.specs.Prelude.{Bool, not, ◌&&◌, ◌||◌, List, ℕ, zero, suc, eqb, leb, get_or}
use Rattle.std.specs.Int.Count.{ones}
use Rattle.rules.specs.Basics.{need, all, any}
use Rattle.rules.specs.Isolation.{word}
use Rattle.words.specs.Word.{has, both, minus, only, firsts, lowest_in}

-- the nodes below n that are not isolated
unfoldable pub backbone_word : ℕ → ℕ → ℕ
backbone_word n iso = minus (firsts n) iso

-- the link from y to x is normal: both ends are in the backbone
abbrev pub normal : List ℕ → ℕ → ℕ → ℕ → Bool
normal nb bb y x = has bb y && (has bb x && has (get_or nb y 0) x)

-- one round: the nodes reached, and those a normal link away
unfoldable pub spread_word : List ℕ → ℕ → ℕ → ℕ
spread_word nb bb w = word (λ x. has w x || any (λ y. has w y && normal nb bb y x) 32) 32

unfoldable pub rounds : List ℕ → ℕ → ℕ → ℕ → ℕ
rounds nb bb root zero = only root
rounds nb bb root (suc k) = spread_word nb bb (rounds nb bb root k)

-- as many rounds as there can be nodes
unfoldable pub reached_word : List ℕ → ℕ → ℕ → ℕ
reached_word nb bb root = rounds nb bb root 32

-- 7: the backbone is there, and all of it is reached from its lowest node
unfoldable pub connected_by : List ℕ → ℕ → Bool
connected_by nb bb = not (eqb bb 0) && eqb (reached_word nb bb (lowest_in bb)) bb

-- 8: where v is isolated, its neighbour word masked by the backbone word has two ones or more
unfoldable pub served_by : List ℕ → ℕ → ℕ → ℕ → Bool
served_by nb iso bb v = not (has iso v) || leb 2 (ones (both (get_or nb v 0) bb))

unfoldable pub all_served : List ℕ → ℕ → ℕ → ℕ → Bool
all_served nb iso bb n = all (served_by nb iso bb) n

-- 0, or the number of the rule that a topology of n nodes with these isolated nodes breaks
unfoldable pub number_by : List ℕ → ℕ → ℕ → ℕ
number_by nb n iso = need (connected_by nb (backbone_word n iso)) 7 (need (all_served nb iso (backbone_word n iso) n) 8 0)
