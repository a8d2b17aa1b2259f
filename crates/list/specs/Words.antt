-- The words that a list takes, as they are measured.
use Rattle.std.specs.Prelude.{ℕ, ◌≤◌, ◌<◌, ◌≡◌}

-- words that are measured for a room: enough if they fit, and exact if not
pub record Measured (needed room words : ℕ) : Type 0 where
  pub enough : words ≤ room → needed ≤ room
  pub exact : room < words → words ≡ needed
