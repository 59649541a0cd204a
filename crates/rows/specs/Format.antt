-- The numbers of the record file: document 01, "Head record", "Token record" and "Answer record"; document 02, C-14 and C-16.
-- Assumes nothing.
use Rattle.std.specs.Prelude.{ℕ, ◌+◌, ◌*◌, ◌≤◌, Bool, not, Option, Some, None, eqb, ltb, if◌then◌else◌}
use Rattle.rows.specs.declared.format.SpanWidth.{SpanWidth}
use Rattle.rows.specs.declared.format.SpanWidth.TheVariants.{Four, Eight}
use Rattle.rows.specs.declared.format.StandIn.{StandIn}
use Rattle.rows.specs.declared.format.Format.{Format}
use Rattle.rows.specs.Languages.{C, Cpp, Fortran, C18, C23, Cpp17, Cpp23, Fortran2018, Fortran2023}

-- "255 means C18, Cpp17 or Fortran2018." C-16: "Release archives relied on C18, Cpp17 and Fortran2018".
abbrev pub archive_standards : StandIn
archive_standards = record { c = C18; cpp = Cpp17; fortran = Fortran2018 }

-- C-16: "C23, Cpp23 and Fortran2023".
abbrev pub newer_standards : StandIn
newer_standards = record { c = C23; cpp = Cpp23; fortran = Fortran2023 }

-- The format that every entry reads; `Format` is the code's struct of the numbers that requests of document 02 change. C-14: "Span start and end become
-- 8 bytes each ..; the head's kind becomes 261 ..; the file limit becomes 131,072 bytes". C-16: "Standard 255 comes to mean C23, Cpp23 and Fortran2023";
-- "so 254 names those from now on", the archives' standards.
abbrev pub format : Format
format =
    record {
      head_kind = 261;
      span_width = Eight;
      file_limit = 131072;
      greatest_flag = 1;
      means_254 = Some archive_standards;
      means_255 = Some newer_standards;
    }

-- Document 01's format, C-14's "old files", "of at most 65,536 bytes as before". C-16: "Refusal 3 no longer covers 254, save in old files."
abbrev pub old_format : Format
old_format =
    record {
      head_kind = 256;
      span_width = Four;
      file_limit = 65536;
      greatest_flag = 1;
      means_254 = None;
      means_255 = Some archive_standards;
    }

-- ---- the head record: "length (2 bytes, ..), kind (2 bytes, ..), language (1 byte ..), standard (1 byte, ..), structure flag (1 byte, ..), allowance (4 bytes)"

-- "Length (2 bytes, counting the whole record, 11)".
abbrev pub head_length : ℕ
head_length = 11

-- "(2 bytes ..)": length and kind, in a head and in a token record.
abbrev pub short_bytes : ℕ
short_bytes = 2

-- "allowance (4 bytes)".
abbrev pub allowance_bytes : ℕ
allowance_bytes = 4

-- Byte offset of "length (2 bytes ..)" in a head record.
abbrev pub at_length : ℕ
at_length = 0

-- Byte offset of "kind (2 bytes ..)" in a head and in a token record.
abbrev pub at_kind : ℕ
at_kind = 2

-- Byte offset of "language (1 byte ..)".
abbrev pub at_language : ℕ
at_language = 4

-- Byte offset of "standard (1 byte ..)".
abbrev pub at_standard : ℕ
at_standard = 5

-- Byte offset of "structure flag (1 byte ..)".
abbrev pub at_flag : ℕ
at_flag = 6

-- Byte offset of "allowance (4 bytes)".
abbrev pub at_allowance : ℕ
at_allowance = 7

-- "structure flag (1 byte, 0 or 1)": whether the structure is checked.
unfoldable pub asks_structure : (flag : ℕ) → Bool
asks_structure flag = not (eqb flag 0)

-- ---- the token record: "Length (2 bytes), kind (2 bytes ..), span start and end (4 bytes each ..)", 8 each since C-14, then the word of kind 0

-- Byte offset of "span start and end" in a token record.
abbrev pub at_span : ℕ
at_span = 4

-- "span start and end (4 bytes each ..)", C-14: "8 bytes each": how many bytes a width is.
abbrev pub bytes_of : SpanWidth → ℕ
bytes_of Four = 4
bytes_of Eight = 8

-- The bytes of a span's start, and of its end, in a format.
abbrev pub span_bytes : Format → ℕ
span_bytes f = bytes_of f.span_width

-- The length without a word: 12 in document 01's format; C-14: "token records 20 bytes before any word".
abbrev pub token_length : Format → ℕ
token_length f = at_span + 2 * span_bytes f

-- "A word of 1 to 255 bytes, each 33 to 126".
abbrev pub longest_word : ℕ
longest_word = 255

-- ".. each 33 ..".
abbrev pub least_word_byte : ℕ
least_word_byte = 33

-- ".. to 126".
abbrev pub greatest_word_byte : ℕ
greatest_word_byte = 126

-- Refusal 5: "a 1,025th record begins".
abbrev pub most_tokens : ℕ
most_tokens = 1024

-- ---- standards

-- How many standards a language declares: "in the order in which `CStandard`, `CppStandard` and `FortranStandard` declare them, from 0".
unfoldable pub declared : (language : ℕ) → ℕ
declared language =
    if eqb language C then C23 + 1
    else if eqb language Cpp then Cpp23 + 1
    else if eqb language Fortran then Fortran2023 + 1
    else 0

-- "A number outside that order counts as the standard it means": what it means in a language.
unfoldable pub stands_for : (language : ℕ) → Option StandIn → Option ℕ
stands_for language None = None
stands_for language (Some standards) =
    if eqb language C then Some standards.c
    else if eqb language Cpp then Some standards.cpp
    else if eqb language Fortran then Some standards.fortran
    else None

-- The numbers outside that order that a format may know: C-16's "254 names those from now on",
abbrev pub standard_254 : ℕ
standard_254 = 254

-- and "255 means ..".
abbrev pub standard_255 : ℕ
standard_255 = 255

-- "A number outside that order counts as the standard it means."
unfoldable pub meant : Format → (language standard : ℕ) → Option ℕ
meant f language standard =
    if ltb standard (declared language) then Some standard
    else if eqb standard standard_255 then stands_for language f.means_255
    else if eqb standard standard_254 then stands_for language f.means_254
    else None

-- Document 01's **later**: "A standard is later than another if its language declares it after that one". Of two standards of one language, each
-- the one that is meant, the second is the same or later.
abbrev pub SameOrLater : (standard standard' : ℕ) → Type 0
SameOrLater standard standard' = standard ≤ standard'
