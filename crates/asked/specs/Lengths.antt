-- The format page: "`LEN` a buffer length, 0 to 400". Assumes nothing.
use Rattle.std.specs.Prelude.{cond, ℕ, ltb}

-- A line gives no LEN above 400; the code's longest buffer has that many bytes.
abbrev pub buffer_length : ℕ → ℕ
buffer_length len = cond (ltb len 0x400) len 0x400
