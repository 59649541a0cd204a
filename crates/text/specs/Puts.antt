-- What it is for a text to hold more.
-- Assumes nothing.
use Rattle.std.specs.Prelude.{ℕ, ◌≡◌, List, length}
use Rattle.text.specs.declared.Text.{Text}
use Rattle.text.specs.Text.{Appended}

-- A text that holds more: these bytes behind those it held, in the same buffer, which is as long.
pub record Puts (entry : Text) (added : List ℕ) (exit : Text) : Type 0 where
  pub same_buffer : exit.bytes.ghost_name ≡ entry.bytes.ghost_name
  pub as_long : length exit.bytes.now ≡ length entry.bytes.now
  pub appended : Appended entry.bytes.now entry.end added exit.end exit.bytes.now
