-- What a writer leaves in a lent buffer.
-- Assumes nothing.
use Rattle.std.specs.Prelude.{ℕ, List, ◌++◌, length, take, drop}

-- "at the front of the buffer; bytes beyond it stay": the buffer with those elements at its front
abbrev pub at_front : {A : Type 0} → List A → List A → List A
at_front p buffer = p ++ drop (length p) buffer

-- "into the lent buffer from a stated start ..., bytes before and after untouched"
abbrev pub from_start : {A : Type 0} → ℕ → List A → List A → List A
from_start start p buffer = take start buffer ++ at_front p (drop start buffer)
