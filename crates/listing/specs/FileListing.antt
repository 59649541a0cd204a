-- What `listing` prints for a file: document 01's answer to it and the tree buffer that it leaves, as text.
-- Assumes nothing.
use Rattle.rows.specs.Answer.{refused_with}
use Rattle.std.specs.Prelude.{ℕ, ◌+◌, ◌*◌, List, length, replicate, ltb, if◌then◌else◌}
use Rattle.rows.specs.Format.{most_tokens}
use Rattle.rows.specs.declared.answer.TypeNameError.TheVariants.{FileTooLong}
use Rattle.reader.specs.Nodes.{numbers_per_token}
use Rattle.type_name.specs.Answers.{answer, final_buffer}
use Rattle.listing.specs.Listing.{listing}

-- Document 02, C-14: "the listing program keeps 65,536".
abbrev pub listing_limit : ℕ
listing_limit = 65536

-- One byte more: input that fills it is too long, refusal 1.
abbrev pub input_length : ℕ
input_length = listing_limit + 1

-- No row is refused for its buffer.
abbrev pub tree_length : ℕ
tree_length = numbers_per_token * most_tokens

-- "The program `listing` reads a file": what it prints. Its own limit comes first, with "1 .." of document 01's table.
unfoldable pub file_listing : List ℕ → List ℕ
file_listing file =
    let tree : List ℕ = replicate tree_length 0 in
    if ltb listing_limit (length file) then listing (refused_with FileTooLong 0) tree
    else listing (answer file tree_length) (final_buffer file tree)
