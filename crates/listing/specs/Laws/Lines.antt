-- How the lines of a listing come together.
-- Assumes nothing.
use Rattle.rows.specs.Answer.{accepted_with, refused_with}
use Rattle.std.specs.Prelude.{ℕ, zero, suc, ◌+◌, ◌*◌, ◌/◌, ◌≤◌, ◌<◌, ◌≡◌, Bool, true, false, List, [], ◌∷◌, ◌++◌, ◌⊎◌, length, eqb, ltb}
use Rattle.std.proofs.Math.Path.{refl, ap}
use Rattle.std.proofs.Common.{sym, ◌∙◌, ⊎_elim, arith, add-one, length-append, ne_eqb}
use Rattle.std.proofs.Math.ListN.{get_or-eq_default}
use Rattle.rows.specs.Words.{bytes}
use Rattle.text.specs.declared.Text.{Text}
use Rattle.text.specs.Text.{ended}
use Rattle.text.specs.Puts.{Puts}
use Rattle.text.specs.Laws.Appending.{puts_as, puts_then, puts_none, ended_long}
use Rattle.rows.specs.Refusals.{refusal_of}
use Rattle.rows.specs.declared.answer.Refusal.{Refusal}
use Rattle.rows.specs.declared.answer.TypeNameError.{TypeNameError}
use Rattle.reader.specs.Nodes.{number, g_node, b_node, l_node, node_width, kind_of, token_of, extent_of}
use Rattle.listing.specs.Listing.{level, levels_of, stands_below, makes_level, letter, node_line, node_lines, accepted_line, refused_line, listed, listing, space, newline, accepted_line_length, refused_line_length, node_line_length, listing_length}

-- ---- kinds

pub makes_level_so : (k : ℕ) → 1 ≤ k → k < 4 → true ≡ makes_level k
unfolding makes_level
makes_level_so zero l u = absurd (omega arith)
makes_level_so (suc zero) l u = refl
makes_level_so (suc (suc zero)) l u = refl
makes_level_so (suc (suc (suc zero))) l u = refl
makes_level_so (suc (suc (suc (suc k)))) l u = absurd (omega arith)

pub makes_level_not : (k : ℕ) → (k < 1) ⊎ (4 ≤ k) → false ≡ makes_level k
unfolding makes_level number
makes_level_not k out = rw (other (number g_node) (omega arith) (omega arith), other (number b_node) (omega arith) (omega arith), other (number l_node) (omega arith) (omega arith)) refl where
  other : (n : ℕ) → 1 ≤ n → n < 4 → eqb k n ≡ false
  other n l u = ne_eqb k n (λ e. ⊎_elim (λ p. omega (arith, p, e)) (λ p. omega (arith, p, e)) out)

pub letter_same : (n k : ℕ) → k ≡ n → letter n ≡ letter k
letter_same n k e = rw e refl

pub letter_none : (k : ℕ) → 5 ≤ k → 63 ≡ letter k
unfolding letter
letter_none k past = sym (get_or-eq_default (bytes "TGBLA") 63 past)

-- ---- levels

pub below_yes : (tree : List ℕ) (above node : ℕ) (b : Bool) → makes_level (kind_of tree above) ≡ true → b ≡ ltb node (above + extent_of tree above) → b ≡ stands_below tree above node
unfolding stands_below
below_yes tree above node b makes e = rw makes e

pub below_no : (tree : List ℕ) (above node : ℕ) → makes_level (kind_of tree above) ≡ false → false ≡ stands_below tree above node
unfolding stands_below
below_no tree above node makes_not = rw makes_not refl

-- The loop that counts: of the first `above` nodes, `node` stands below `count`.
pub record Counting (tree : List ℕ) (node count above : ℕ) : Type 0 where
  pub within : above ≤ node
  pub fewer : count ≤ above
  pub so_far : count ≡ levels_of tree node above

module _ (tree : List ℕ) (node : ℕ) where
  pub counting_start : Counting tree node 0 0
  unfolding levels_of
  counting_start = record { within = omega arith; fewer = omega arith; so_far = refl }

  module _ {count above : ℕ} (c : Counting tree node count above) (less : above < node) where
    pub counting_below : {next : ℕ} → stands_below tree above node ≡ true → next ≡ count + 1 → Counting tree node next (above + 1)
    unfolding levels_of
    counting_below stands e = rw (add-one above, e) (record { within = omega arith; fewer = omega (arith, c.fewer); so_far = rw (stands, c.so_far) refl })

    pub counting_not_below : {next : ℕ} → stands_below tree above node ≡ false → next ≡ count → Counting tree node next (above + 1)
    unfolding levels_of
    counting_not_below stands_not e = rw (add-one above, e) (record { within = omega arith; fewer = omega (arith, c.fewer); so_far = rw stands_not (omega (arith, c.so_far)) })

  pub counting_end : {count above : ℕ} → Counting tree node count above → node ≤ above → count ≡ level tree node
  unfolding level
  counting_end {count} {above} c past =
      let whole : above ≡ node = omega (arith, c.within, past) in
      c.so_far ∙ ap (levels_of tree node) whole

-- ---- lines

-- A node's line from its pieces, as the code found them.
pub node_pieces : (tree : List ℕ) (i level_found letter_found token extent : ℕ) → level_found ≡ level tree i → letter_found ≡ letter (kind_of tree i)
    → token ≡ token_of tree i → extent ≡ extent_of tree i
    → ended level_found space ++ (letter_found ∷ []) ++ (space ∷ []) ++ ended token space ++ ended extent newline ≡ node_line tree i
unfolding node_line
node_pieces tree i lv lt to ex e f g h = rw (e, f, g, h) refl

pub node_long : (tree : List ℕ) (i : ℕ) → length (node_line tree i) ≤ node_line_length
unfolding node_line
node_long tree i = simp length-append (omega (arith, ended_long (level tree i) space, ended_long (token_of tree i) space, ended_long (extent_of tree i) newline))

pub nodes_long : (tree : List ℕ) (n : ℕ) → length (node_lines tree n) ≤ node_line_length * n
unfolding node_lines
nodes_long tree zero = omega arith
nodes_long tree (suc n) = simp length-append (omega (arith, nodes_long tree n, node_long tree n))

-- The loop over the nodes: the lines of the first `node` are put.
pub record Listing (entry : Text) (tree : List ℕ) (nodes : ℕ) (text : Text) (node : ℕ) : Type 0 where
  pub within : node ≤ nodes
  pub so_far : Puts entry (node_lines tree node) text

module _ {entry : Text} {tree : List ℕ} {nodes : ℕ} where
  pub listing_start : Listing entry tree nodes entry 0
  unfolding node_lines
  listing_start = record { within = omega arith; so_far = puts_none entry }

  -- Where the next line begins.
  pub listing_room : {text : Text} {node : ℕ} → Listing entry tree nodes text node → node < nodes → entry.end + node_line_length * nodes ≤ length entry.bytes.now
      → text.end + node_line_length ≤ length text.bytes.now
  listing_room {text} {node} l less room = omega (arith, l.so_far.appended.counts, l.so_far.as_long, nodes_long tree node)

  pub listing_on : {text next : Text} {node : ℕ} → Listing entry tree nodes text node → node < nodes → Puts text (node_line tree node) next → Listing entry tree nodes next (node + 1)
  unfolding node_lines
  listing_on {text} {next} {node} l less line = rw (add-one node) (record { within = omega arith; so_far = puts_then l.so_far line })

  pub listing_end : {text : Text} {node : ℕ} → Listing entry tree nodes text node → nodes ≤ node → Puts entry (node_lines tree nodes) text
  listing_end {text} {node} l past =
      let whole : node ≡ nodes = omega (arith, l.within, past) in
      puts_as (ap (node_lines tree) whole) l.so_far

pub accepted_long : (nodes steps : ℕ) → length (accepted_line nodes steps) ≤ accepted_line_length
unfolding accepted_line
accepted_long nodes steps = simp length-append (omega (arith, ended_long nodes space, ended_long steps newline))

pub refused_long : (refusal : Refusal) (steps : ℕ) → length (refused_line refusal steps) ≤ refused_line_length
unfolding refused_line
refused_long r s = simp length-append (omega (arith, ended_long r.number space, ended_long r.token space, ended_long r.detail space, ended_long s newline))

-- ---- the whole

pub listed_fits : (nodes : ℕ) (tree : List ℕ) → listed nodes tree ≤ length tree / node_width
unfolding listed
listed_fits nodes tree = omega arith

-- Behind the first line there is room for the lines of the nodes listed.
pub nodes_fit : {entry text : Text} (tree : List ℕ) (nodes steps n : ℕ) → entry.end + listing_length (length tree) ≤ length entry.bytes.now → n ≡ listed nodes tree
    → Puts entry (accepted_line nodes steps) text → (text.end + node_line_length * n ≤ length text.bytes.now) × (node_width * n ≤ length tree)
nodes_fit tree nodes steps n room found first =
    let fits = listed_fits nodes tree in
    (omega (arith, first.appended.counts, first.as_long, accepted_long nodes steps, found, fits), omega (arith, found, fits))

-- The text is put, and within the buffer.
abbrev pub Listed : (entry : Text) (added : List ℕ) (exit : Text) → Type 0
Listed entry added exit = Puts entry added exit × (exit.end ≤ length entry.bytes.now)

module _ {entry exit : Text} where
  -- Here `refusal` is the error's, as the code found it.
  pub listing_refused : (tree : List ℕ) (e : TypeNameError) (refusal : Refusal) (steps : ℕ) → entry.end + listing_length (length tree) ≤ length entry.bytes.now → refusal ≡ refusal_of e
      → Puts entry (refused_line refusal steps) exit → Listed entry (listing (refused_with e steps) tree) exit
  unfolding listing
  listing_refused tree e refusal steps room found line =
      (puts_as (ap (λ (f : Refusal). refused_line f steps) found) line, omega (arith, line.appended.counts, refused_long refusal steps))

  -- Here `n` is how many nodes are listed.
  pub listing_accepted : {text : Text} (tree : List ℕ) (nodes steps n : ℕ) → entry.end + listing_length (length tree) ≤ length entry.bytes.now → n ≡ listed nodes tree
      → Puts entry (accepted_line nodes steps) text → Puts text (node_lines tree n) exit → Listed entry (listing (accepted_with nodes steps) tree) exit
  unfolding listing
  listing_accepted tree nodes steps n room found first lines =
      let fits = listed_fits nodes tree in (
        puts_as (ap (λ (k : ℕ). accepted_line nodes steps ++ node_lines tree k) found) (puts_then first lines),
        omega (arith, first.appended.counts, lines.appended.counts, accepted_long nodes steps, nodes_long tree n, found, fits),
      )
