-- What a writer of a text of any size leaves and answers, and the numbers that it writes.
-- Assumes nothing.
use Rattle.std.specs.Prelude.{ℕ, ◌<◌, ◌≡◌, List, length, get_or}
use Rattle.buffer.specs.Front.{at_front}

-- the text stands at the front of the buffer, the rest is as it was, and the answer is how many bytes the text has
pub record Put (text : List ℕ) (size : ℕ) (old new : List ℕ) : Type 0 where
  pub sized : size ≡ length text
  pub stands : new ≡ at_front text old

-- no number of a line is larger: "an immediate to 65535"
abbrev pub Small : List ℕ → Type 0
Small numbers = (i : ℕ) → get_or numbers i 0 < 65536
