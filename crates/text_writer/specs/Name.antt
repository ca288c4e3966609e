-- The size of a name by its key, in which its bytes stand behind a 1.
-- Assumes nothing.
use Rattle.std.specs.Prelude.{ℕ, cond, ltb}

-- a key of so many bytes and the 1 is below 2 with as many zeros of the base 256 behind it: names have two to six bytes
abbrev pub size_by_key : ℕ → ℕ
size_by_key key =
    cond (ltb key 0x20000) 2 (cond (ltb key 0x2000000) 3 (cond (ltb key 0x200000000) 4 (cond (ltb key 0x20000000000) 5 6)))
