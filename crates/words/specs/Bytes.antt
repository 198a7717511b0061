-- What a byte of a text is.
--   is_blank b       a space, a tab or a line feed
--   opens_remark b   `#`
--   ends_remark b    a line feed
--   is_digit b       a digit
use Rattle.std.specs.Prelude.{ℕ, Bool, ◌&&◌, ◌||◌, ◌==◌, nat_le}

unfoldable pub is_blank : ℕ → Bool
is_blank b = b == 32 || (b == 9 || b == 10)

unfoldable pub opens_remark : ℕ → Bool
opens_remark b = b == 35

unfoldable pub ends_remark : ℕ → Bool
ends_remark b = b == 10

unfoldable pub is_digit : ℕ → Bool
is_digit b = nat_le 48 b && nat_le b 57
