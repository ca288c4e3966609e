-- What is known of bytes that were written, where all of them could be.
-- Assumes nothing.
use Rattle.std.specs.Prelude.{ℕ, ◌≡◌, List, ◌++◌, Option, codes, decimal}
use Rattle.std.specs.Io.KnownBytes.{Appends}
use Rattle.console.specs.declared.output.Streams.{Streams}

-- standard output holds the bytes behind what it held, and standard error is as it was; the function says what a stream holds, where that is known
abbrev pub Printed : {O E : Type 0} → (O → Option (List ℕ)) → Streams O E → Streams O E → List ℕ → Type 0
Printed held before after text = Appends (held before.output) (held after.output) text × (after.error ≡ before.error)

-- standard error holds them, and standard output is as it was
abbrev pub Told : {O E : Type 0} → (E → Option (List ℕ)) → Streams O E → Streams O E → List ℕ → Type 0
Told held before after text = Appends (held before.error) (held after.error) text × (after.output ≡ before.output)

-- a field of a line: a space and its text
abbrev pub field : List ℕ → List ℕ
field text = codes " " ++ text

-- a number as a field, in decimal digits
abbrev pub number_text : ℕ → List ℕ
number_text n = field (decimal n)

-- a line that says with which number something is refused
abbrev pub refused_text : ℕ → List ℕ
refused_text n = codes "REFUSED" ++ number_text n ++ codes "\n"

-- the same, with the line that is at fault
abbrev pub refused_line_text : ℕ → ℕ → List ℕ
refused_line_text n line = codes "REFUSED" ++ number_text n ++ number_text line ++ codes "\n"
