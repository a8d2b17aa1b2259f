-- Bytes that were put into a lent buffer.
use Rattle.std.specs.Prelude.{ℕ, ◌+◌, List, ◌≡◌, length}
use Rattle.std.proofs.lemmas.List.Edits.{sets}

-- the bytes stand in the buffer from `at` on, nothing else has changed, and `next` is the position after them
pub record Put (before : List ℕ) (at : ℕ) (bytes after : List ℕ) (next : ℕ) : Type 0 where
  pub end : next ≡ at + length bytes
  pub buffer : after ≡ sets before at bytes
