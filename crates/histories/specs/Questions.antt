-- What a reading tells of its links and words when it is asked. Questions change nothing.
--   HasLink src m l b   where m is held, b says whether l is a link of the kept words; while closed, no
--   LinkCount src m n   where m is held, n is the number of links of the kept words; while closed, 0
--   word_count m        where m is held, the number of kept words; while closed, 0
use Rattle.std.specs.Prelude.{◌≡◌, ℕ, Bool, true, false, ◌↔◌, length}
use Rattle.parsing.specs.Items.{Source}
use Rattle.parsing.specs.Links.{Linked}
use Rattle.link_growth.specs.Counting.{Counts}
use Rattle.link_growth.specs.declared.Link.{Link}
use Rattle.histories.specs.Calls.{Held, closed, opened}

abbrev pub HasLink : Source → Held → Link → Bool → Type 0
HasLink src closed l b = b ≡ false
HasLink src (opened n ws) l b = (b ≡ true) ↔ Linked src ws l.state l.place l.below l.below_place

abbrev pub LinkCount : Source → Held → ℕ → Type 0
LinkCount src closed n = n ≡ 0
LinkCount src (opened m ws) n = Counts src ws n

abbrev pub word_count : Held → ℕ
word_count closed = 0
word_count (opened n ws) = length ws
