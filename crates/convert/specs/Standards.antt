-- By which number a file's standard is written in the other format: document 02, C-16.
-- Assumes nothing.
use Rattle.std.specs.Prelude.{ℕ, eqb, if◌then◌else◌, None, Option, Some}
use Rattle.rows.specs.Format.{format, standard_254, standard_255, meant}

-- "The converter from old files writes 254 where it finds 255".
unfoldable pub widened_standard : (standard : ℕ) → ℕ
widened_standard standard = if eqb standard standard_255 then standard_254 else standard

-- "The standard's own number": that of the one that is meant. An unknown one was refused with 3.
unfoldable pub own_number : Option ℕ → ℕ
own_number (Some standard) = standard
own_number None = standard_255

-- "Its inverse writes 255 for 254 and the standard's own number for 255."
unfoldable pub narrowed_standard : (language standard : ℕ) → ℕ
unfolding own_number
narrowed_standard language standard =
    if eqb standard standard_254 then standard_255
    else if eqb standard standard_255 then own_number (meant format language standard)
    else standard

-- What comes back where a file is narrowed and widened again: "the standard's own number for 255", else the same number.
unfoldable pub returned_standard : (language standard : ℕ) → ℕ
unfolding own_number
returned_standard language standard = if eqb standard standard_255 then own_number (meant format language standard) else standard
