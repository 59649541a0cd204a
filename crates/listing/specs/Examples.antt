-- Document 01's example of a listing, from its node records, and the program's own limit.
-- Assumes nothing.
use Rattle.rows.specs.Answer.{accepted_with, refused_with}
use Rattle.std.specs.Prelude.{◌≡◌, refl, List, [], ◌∷◌, ℕ, replicate}
use Rattle.rows.specs.Notation.{◌is_one_of◌}
use Rattle.rows.specs.Words.{bytes}
use Rattle.rows.specs.Records.{head, head_formed, little_endian}
use Rattle.rows.specs.declared.answer.TypeNameError.TheVariants.{NoTypeName}
use Rattle.text.specs.Text.{decimal, ended, last_digit, last_digits}
use Rattle.reader.specs.Nodes.{number}
use Rattle.type_name.specs.Answers.{answer}
use Rattle.listing.specs.FileListing.{file_listing}
use Rattle.listing.specs.Listing.{listing, accepted_line, refused_line, listed, node_lines, node_line, level, levels_of, stands_below, makes_level, letter}

-- The tree of `Lane<(Key<8>>2)>`.
lane : List ℕ
lane = 0 ∷ 0 ∷ 1 ∷ 3 ∷ 1 ∷ 8 ∷ 4 ∷ 2 ∷ 7 ∷ 1 ∷ 2 ∷ 6 ∷ 0 ∷ 3 ∷ 1 ∷ 3 ∷ 4 ∷ 3 ∷ 4 ∷ 5 ∷ 2 ∷ 0 ∷ 5 ∷ 1 ∷ 0 ∷ 7 ∷ 1 ∷ 0 ∷ 9 ∷ 1 ∷ 0 ∷ 0 ∷ 0 ∷ []

accepted : listing (accepted_with 10 8) lane ≡ bytes "ok 10 8\n0 T 0 1\n0 L 1 8\n1 A 2 7\n1 G 2 6\n2 T 3 1\n2 L 4 3\n3 A 5 2\n3 T 5 1\n2 T 7 1\n0 T 9 1\n"
unfolding listing accepted_line listed node_lines node_line level levels_of stands_below makes_level letter lane number ◌is_one_of◌ bytes ended decimal last_digits last_digit
accepted = refl

refused : listing (refused_with NoTypeName 14) [] ≡ bytes "no 30 65535 0 14\n"
unfolding listing refused_line bytes ended decimal last_digits last_digit
refused = refl

-- Document 02, C-14: "the listing program keeps 65,536". One byte more is 1, whatever stands there; 65,536 zeros are no head, 2.
own_limit : (file_listing (replicate 65537 0) ≡ bytes "no 1 65535 0 0\n") × (file_listing (replicate 65536 0) ≡ bytes "no 2 65535 0 0\n")
unfolding file_listing listing refused_line answer head head_formed little_endian bytes ended decimal last_digits last_digit
own_limit = (refl, refl)
