-- Numbers in decimal digits.
use Rattle.std.specs.Prelude.{ℕ, ◌+◌, ◌-◌, ◌*◌, ◌&&◌, if◌then◌else◌, List, [], ◌∷◌, length, Some, None, Option, nat_le, nat_lt}
use Rattle.std.specs.Char.{is_ascii_digit}
use Rattle.std.specs.List.{list_all}

-- the value of the digits, read after those that gave `so_far`
abbrev pub decimal : ℕ → List ℕ → ℕ
decimal so_far [] = so_far
decimal so_far (b ∷ bs) = decimal (so_far * 10 + (b - 48)) bs

-- one to ten digits of a value of at most 32 bits
abbrev pub numeral : List ℕ → Option ℕ
numeral field =
    if nat_lt 0 (length field) && nat_le (length field) 10 && list_all is_ascii_digit field && nat_le (decimal 0 field) 4294967295
    then Some (decimal 0 field) else None
