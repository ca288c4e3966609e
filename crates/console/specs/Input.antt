-- What is known of an input that was read into a buffer, whatever came.
-- Assumes nothing.
use Rattle.std.specs.Prelude.{ℕ, ◌≡◌, ◌≤◌, ◌<◌, ⊤, List, Option, Result, IfOk, length, take}
use mathlib.Core.Option.{none}
use Rattle.std.specs.Borrow.{MutBor, Bor, Fml, Array, u8, follows_so}
use Rattle.std.specs.Io.KnownBytes.{Consumes, IsAtEnd}
use Rattle.console.specs.declared.input.Unreadable.{Unreadable}

-- so many bytes stand at the front of a buffer: it has no fewer, and its front of that size has just so many
abbrev pub IsPrefixLen : ℕ → List ℕ → Type 0
IsPrefixLen n xs = (n ≤ length xs) × (n ≡ length (take n xs))

-- as many bytes as are answered are bytes of the buffer; of an input that could not be read there are none
abbrev pub CameInto : Result ℕ Unreadable → List ℕ → Type 0
CameInto came room = IfOk came (λ size. IsPrefixLen size room)

-- of an input that could be read: those bytes are the first that it had left, and it has them left no more; where there is room for more, it had no
-- more
abbrev pub CameFrom : Option (List ℕ) → Option (List ℕ) → Result ℕ Unreadable → List ℕ → Type 0
CameFrom before after came room = IfOk came (λ size. Consumes before after (take size room) × (size < length room → IsAtEnd after))

-- the same of the part of a buffer that is handed out, by the buffer's size
abbrev pub PartFrom : Option (List ℕ) → Option (List ℕ) → ℕ → List ℕ → Type 0
PartFrom before after room part = Consumes before after part × (length part < room → IsAtEnd after)

-- that part is the front of the buffer afterwards, which has its length still
abbrev pub IsFront : Result (Bor (List ℕ)) Unreadable → List ℕ → List ℕ → Type 0
IsFront handed before room = (length room ≡ length before) × IfOk handed (λ part. part.now ≡ take (length part.now) room)

-- the same of the buffer once the part is given back
abbrev pub LeavesPart : MutBor (List ℕ) → Result (Bor (List ℕ)) Unreadable → Fml
LeavesPart room handed = follows_so (Array u8 0) (Array u8 0) room.ghost_name none (λ _ _. ⊤) (IsFront handed room.now)
