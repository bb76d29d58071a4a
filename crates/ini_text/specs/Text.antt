-- The lines of INI text, as EDS and DCF files of CiA 306 are written, and what makes a text one that is refused.
-- Own: the limits of 4,096 and 1,048,576 bytes, the bytes that are refused, and the byte order mark that is skipped.
use Rattle.std.specs.Prelude.{ℕ, ◌-◌, Bool, List, [], ◌∷◌, ◌==◌, ◌||◌, ◌&&◌, nat_lt, if◌then◌else◌, length, take, drop}
use Rattle.std.specs.Prelude.{Option, Some, None, not}
use Rattle.std.specs.List.{prefix_len, suffix_len, position_or_len, before_first, after_first, onto_first, list_any}
use Rattle.std.specs.List.{starts_with}
use Rattle.std.specs.Bool.{nat_eq}
use Rattle.std.specs.Str.{byte}
pub use Rattle.base.specs.Blanks.{tab, trim_start, trim_end}
pub use Rattle.base.specs.Lines.{line_feed, carriage_return, is_cr}
unfoldable pub use Rattle.base.specs.Lines.{split_once, lines_of}

-- the byte order mark of UTF-8: EF BB BF
abbrev pub byte_order_mark : List ℕ
byte_order_mark = 0xEF ∷ 0xBB ∷ 0xBF ∷ []

-- a space, a tab or a CR
abbrev pub is_blank : ℕ → Bool
is_blank b = (b == byte " ") || (b == tab) || (b == carriage_return)

-- without spaces, tabs and CRs at its ends
unfoldable pub trim_line : List ℕ → List ℕ
trim_line bs = trim_end is_blank (trim_start is_blank bs)

-- without a byte order mark at its front
abbrev pub without_mark : List ℕ → List ℕ
without_mark text = if starts_with nat_eq text byte_order_mark then drop (length byte_order_mark) text else text

-- over 4,096 bytes, the CRs at its end not counted
abbrev pub is_long_line : List ℕ → Bool
is_long_line line = nat_lt 4096 (length (trim_end is_cr line))

-- over 1,048,576 bytes, or with a line over 4,096
abbrev pub is_out_of_range : List ℕ → Bool
is_out_of_range text = nat_lt 1048576 (length text) || list_any is_long_line (lines_of text)

-- a byte below 20h other than tab, LF and CR
abbrev pub is_bad_byte : ℕ → Bool
is_bad_byte b = nat_lt b 0x20 && not ((b == tab) || (b == line_feed) || (b == carriage_return))

-- whether a text has such a byte
abbrev pub has_bad_byte : List ℕ → Bool
has_bad_byte text = list_any is_bad_byte text
