-- The table of names, and what the contracts say of it. What bucket a word has is of no matter to what they say of names. Document 02, C-17.
-- Assumes nothing.
use Rattle.std.specs.Prelude.{ℕ, suc, ◌+◌, ◌*◌, ◌-◌, ◌%◌, ◌≤◌, ◌<◌, ◌≡◌, ◌≢◌, Bool, true, false, List, [], ◌∷◌, ◌++◌, length, get_or, replicate}
use Rattle.rows.specs.Kinds.{Less}
use Rattle.rows.specs.Format.{format, head_length, most_tokens}
use Rattle.rows.specs.Records.{RowToken, row, found, word_in, records_from, kinds_of, places_of, formed}
use Rattle.names.specs.NameList.{most_names, is_name, listed, malformed, name_list}

-- How many buckets there are.
abbrev pub buckets : ℕ
buckets = 512

-- What one byte more counts against those before it.
abbrev pub factor : ℕ
factor = 31

-- The bucket of a word whose bytes before these make `bucket`.
unfoldable pub bucket_from : (bucket : ℕ) → List ℕ → ℕ
bucket_from bucket [] = bucket
bucket_from bucket (b ∷ w) = bucket_from ((bucket * factor + b) % buckets) w

-- The bucket of a word.
unfoldable pub bucket_of : List ℕ → ℕ
unfolding bucket_from
bucket_of w = bucket_from 0 w

-- The name of a number, from 0.
abbrev pub name : List (List ℕ) → ℕ → List ℕ
name ns i = get_or ns i []

-- The word of the token record at a byte offset of a file.
abbrev pub word_of : (file : List ℕ) (at : ℕ) → List ℕ
word_of file at = word_in format file at (found format file at)

-- A well-formed token record stands at a byte offset.
pub record SomeRecord (file : List ℕ) (at : ℕ) : Type 0 where
  pub kind : ℕ
  pub size : ℕ
  pub is : found format file at ≡ formed kind size

-- The newest of the first n names that is in a bucket, by its number from 1; 0 if none is.
pub record Newest (ns : List (List ℕ)) (bucket n newest : ℕ) : Type 0 where
  pub below : newest ≤ n
  pub in_bucket : 0 < newest → bucket_of (name ns (newest - 1)) ≡ bucket
  pub none_newer : (j : ℕ) → newest ≤ j → j < n → bucket_of (name ns j) ≢ bucket

-- The names' records begin at `places`, and each is linked to the newest one before it that is in its bucket.
pub record Linked (file : List ℕ) (ns : List (List ℕ)) (links places : List ℕ) : Type 0 where
  pub few : length ns ≤ most_names
  pub for_links : most_names ≤ length links
  pub for_places : most_names ≤ length places
  pub recorded : (i : ℕ) → i < length ns → SomeRecord file (get_or places i 0)
  pub placed : (i : ℕ) → i < length ns → word_of file (get_or places i 0) ≡ name ns i
  pub linked : (i : ℕ) → i < length ns → Newest ns (bucket_of (name ns i)) i (get_or links i 0)

-- The table of these names: they are linked, and `heads` has each bucket's newest.
pub record Table (file : List ℕ) (ns : List (List ℕ)) (heads links places : List ℕ) : Type 0 where
  pub linked : Linked file ns links places
  pub for_heads : buckets ≤ length heads
  pub headed : (b : ℕ) → b < buckets → Newest ns b (length ns) (get_or heads b 0)

-- The table of so many names.
pub record SomeTable (file : List ℕ) (count : ℕ) (heads links places : List ℕ) : Type 0 where
  pub names : List (List ℕ)
  pub table : Table file names heads links places
  pub counted : length names ≡ count

-- ---- looking for a word

-- What `in_chain` requires: some names are linked, and `first` is the newest in the word's bucket.
pub record SomeChain (file links places : List ℕ) (first : ℕ) (word : List ℕ) : Type 0 where
  pub names : List (List ℕ)
  pub linked : Linked file names links places
  pub newest : Newest names (bucket_of word) (length names) first

-- What `in_chain` says of every such names.
pub record LooksInChain (file links places : List ℕ) (first : ℕ) (word : List ℕ) (r : Bool) : Type 0 where
  pub says : (ns : List (List ℕ)) → Linked file ns links places → Newest ns (bucket_of word) (length ns) first → r ≡ is_name ns word

-- What `is_name` and `mark_names` require of the arrays of a table: that it is the table of some names.
pub record TableThere (file heads links places : List ℕ) : Type 0 where
  pub names : List (List ℕ)
  pub table : Table file names heads links places

-- What `is_name` says of the names of the table.
pub record Looks (file heads links places word : List ℕ) (r : Bool) : Type 0 where
  pub says : (ns : List (List ℕ)) → Table file ns heads links places → r ≡ is_name ns word

-- ---- one name more

-- The word at a byte offset was none of the names, and is now; or it was one.
abbrev pub Added : (file : List ℕ) (at : ℕ) (ns : List (List ℕ)) → Bool → (heads links places : List ℕ) → Type 0
Added file at ns true heads links places = (is_name ns (word_of file at) ≡ false) × Table file (ns ++ (word_of file at ∷ [])) heads links places
Added file at ns false heads links places = is_name ns (word_of file at) ≡ true

-- `add_name`.
pub record Adds (file : List ℕ) (at count : ℕ) (heads links places : List ℕ) (r : Bool) (heads' links' places' : List ℕ) : Type 0 where
  pub says : (ns : List (List ℕ)) → length ns ≡ count → Table file ns heads links places → Added file at ns r heads' links' places'

-- ---- the name list

-- What a table of no names is made of: heads of no names, and room for the most names.
pub record Clear (heads links places : List ℕ) : Type 0 where
  pub no_heads : heads ≡ replicate buckets 0
  pub for_links : most_names ≤ length links
  pub for_places : most_names ≤ length places

-- A file lists so many names, and this is their table.
pub record NamesListed (file : List ℕ) (count : ℕ) (heads links places : List ℕ) : Type 0 where
  pub names : List (List ℕ)
  pub is : name_list file ≡ listed names
  pub counted : length names ≡ count
  pub table : Table file names heads links places

abbrev pub NamesTold : (file : List ℕ) → Bool → (count : ℕ) (heads links places : List ℕ) → Type 0
NamesTold file true count heads links places = NamesListed file count heads links places
NamesTold file false count heads links places = name_list file ≡ malformed

-- `read_names`. Which names the table holds where the list is malformed is free.
pub record ReadsNames (file : List ℕ) (r : Bool) (count : ℕ) (heads links places : List ℕ) : Type 0 where
  pub told : NamesTold file r count heads links places

-- ---- marks

-- A file's row is of these tokens, and has these kinds.
pub record RowIs (file kinds : List ℕ) (ts : List RowToken) : Type 0 where
  pub row_is : records_from format file most_tokens head_length ≡ row ts
  pub kinds_are : kinds ≡ kinds_of ts

-- What `mark_names` requires: the kinds of the file's row, and a mark for each token.
pub record MarksRoom (file kinds : List ℕ) (marks : List Bool) : Type 0 where
  pub tokens : List RowToken
  pub of_row : RowIs file kinds tokens
  pub for_marks : length kinds ≤ length marks

-- Of each token directly before a `<`, whether its word is one of the names, `offsets` being where their records begin; other marks stay.
pub record Marked (file kinds offsets : List ℕ) (ns : List (List ℕ)) (marks marks' : List Bool) : Type 0 where
  pub marked : (i : ℕ) → suc i < length kinds → get_or kinds (suc i) 0 ≡ Less → get_or marks' i false ≡ is_name ns (word_of file (get_or offsets i 0))
  pub others : (i : ℕ) → get_or kinds (suc i) 0 ≢ Less → get_or marks' i false ≡ get_or marks i false

-- `mark_names`, of the names of the table and the tokens of the row.
pub record Marks (file kinds names heads links places : List ℕ) (marks marks' : List Bool) : Type 0 where
  pub says : (ts : List RowToken) → RowIs file kinds ts → (ns : List (List ℕ)) → Table names ns heads links places → Marked file kinds (places_of ts) ns marks marks'
  pub kept : length marks' ≡ length marks
