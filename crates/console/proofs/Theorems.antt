-- What is said of a room once the part that was handed out of it is given back is no less than what is said of one whose bytes are answered as a size.
-- Assumes nothing.
use Rattle.std.proofs.Common.{◌≡◌, ℕ, List, length, take, ap, subst, arith, Bor, length-take}
use Rattle.std.specs.Prelude.{Option, Result, IfOk}
use Rattle.std.specs.declared.result.Result.TheVariants.{Ok, Err}
use Rattle.std.specs.Io.KnownBytes.{Consumes}
use Rattle.console.specs.Input.{CameInto, CameFrom, PartFrom, IsFront}
use Rattle.console.specs.declared.input.Unreadable.{Unreadable}

-- how many bytes were handed out
abbrev pub size_of : Result (Bor (List ℕ)) Unreadable → Result ℕ Unreadable
size_of (Ok part) = Ok (length part.now)
size_of (Err e) = Err e

-- so many stand at the front of the room
pub came_into : (handed : Result (Bor (List ℕ)) Unreadable) (before room : List ℕ) → IsFront handed before room → CameInto (size_of handed) room
came_into (Ok part) before room f = let e : length part.now ≡ length (take (length part.now) room) = ap length f.1 in (omega (arith, e, length-take (length part.now) room), e)
came_into (Err e) before room f = tt

-- and they are what came
pub came_from : (old new : Option (List ℕ)) (handed : Result (Bor (List ℕ)) Unreadable) (before room : List ℕ) → IsFront handed before room
    → IfOk handed (λ part. PartFrom old new (length before) part.now) → CameFrom old new (size_of handed) room
came_from old new (Ok part) before room f from = (subst (Consumes old new) f.1 from.0, λ less. from.1 (omega (arith, less)))
came_from old new (Err e) before room f from = tt
