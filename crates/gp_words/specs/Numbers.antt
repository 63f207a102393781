-- Numbers in decimal.
use Rattle.std.specs.Prelude.{ℕ, ◌^◌, Bool, not, ◌&&◌, ◌||◌, ◌==◌, nat_lt, if◌then◌else◌, List, length, slice_index, Option, Some, None}
use Rattle.std.specs.Char.{is_ascii_digit}
use Rattle.std.specs.List.{list_all}
use Rattle.std.specs.Str.Parse.{digits_value}

-- one or more digits, without a leading zero except in `0` itself
unfoldable pub is_decimal : List ℕ → Bool
is_decimal token = list_all is_ascii_digit token && not (length token == 0) && (not (slice_index token 0 == 48) || length token == 1)

-- the number that the token spells, if it is below 2^64
unfoldable pub number_of : List ℕ → Option ℕ
number_of token = if is_decimal token && nat_lt (digits_value 10 token) (2 ^ 64) then Some (digits_value 10 token) else None
