-- The listing of a program, and what its writer answers by its tests. Carried by the laws of decisions.
-- Assumes nothing.
use Prim.Native.Nat.{ℕ, ◌^◌, ◌≤◌, ◌<◌}
use mathlib.Core.Path.{◌≡◌, refl, sym, ap, ◌∙◌}
use mathlib.Core.List.{List}
use native.Mathlib.Omega.{arith}
use borrow.Author.Tests.{eq-eqb, ne_eqb}
use lib.ListN.{length, get_or, take}
use lib.Seq.{take_at}
use Rattle.buffer.specs.Front.{at_front}
use Rattle.buffer.proofs.Parts.{all_fit}
use Rattle.table.specs.Refusal.{COUNT, WORD, ROOM, first_bad}
use Rattle.table.proofs.Decided.{deciding}
use Rattle.job_rules.specs.Write.{Written, written_of}
use Rattle.text_rules.specs.Listing.{line_of_word, listing_of, longest_listing, listed_or_refusal, list_of}
use Rattle.text_rules.proofs.Positional.{each_below}
use Rattle.text_rules.proofs.Limits.{good_is_below}
use Rattle.text_rules.proofs.Longest.{longest_program}
use Rattle.text_writer.specs.Put.{Put}
use Rattle.text_writer.proofs.Pieces.{SoFar, none_yet, all_put}

-- ---- good words

-- each is below 2^25
pub word_small : (words : List ℕ) → length words ≤ first_bad words → (i : ℕ) → i < length words → get_or words i 0 < 2 ^ 25
word_small words good i h = each_below (2 ^ 25) words (good_is_below words good) i h

-- and the listing of 64 of them is no longer than any
pub listing_fits : (words : List ℕ) → length words ≤ 64 → length words ≤ first_bad words → length (listing_of words) ≤ longest_listing
listing_fits words few good = longest_program words few (good_is_below words good)

-- line by line
pub no_line : (words old : List ℕ) → length (listing_of words) ≤ length old → SoFar line_of_word words old old 0 0
unfolding listing_of
no_line words old room = none_yet line_of_word words old room

pub all_lines : {words old out : List ℕ} {at i : ℕ} → SoFar line_of_word words old out at i → length words ≤ i → Put (listing_of words) at old out
unfolding listing_of
all_lines so_far h = all_put so_far h

-- ---- the buffer by the answer: unaltered, or with the listing at its front

module _ (words out : List ℕ) {answer : Written} (asked : answer ≡ listed_or_refusal words (length out)) where
  not_listed : (answer.refusal ≡ 0 → ⊥) → (answer, out) ≡ list_of words out
  unfolding list_of
  not_listed h = rw (← asked, ne_eqb _ _ h)

  listed : {new : List ℕ} → answer.refusal ≡ 0 → new ≡ at_front (listing_of words) out → (answer, new) ≡ list_of words out
  unfolding list_of
  listed h e = rw (← asked, eq-eqb _ _ h, e)

-- ---- the tests as they came out

module _ (words out : List ℕ) where
  refuses : (number place : ℕ) → (number ≡ 0 → ⊥) → written_of number place 0 ≡ listed_or_refusal words (length out) → (written_of number place 0, out) ≡ list_of words out
  refuses number place some decides = not_listed words out decides some

  -- more than 64 words
  pub too_many : 64 < length words → (written_of COUNT 0 0, out) ≡ list_of words out
  unfolding listed_or_refusal
  too_many many = refuses COUNT 0 (λ z. omega arith) (search deciding depth 12)

  module _ (few : length words ≤ 64) {bad : ℕ} (first : bad ≡ first_bad words) where
    -- a bad word
    pub bad_word : bad < length words → (written_of WORD bad 0, out) ≡ list_of words out
    unfolding listed_or_refusal
    bad_word less =
        let there : first_bad words < length words = omega arith in
        refuses WORD bad (λ z. omega arith) (rw first (search deciding depth 12))

    module _ (all : length words ≤ bad) {old text : List ℕ} {size : ℕ} (whole : Put (listing_of words) size old text) where
      good : length words ≤ first_bad words
      good = omega arith

      -- the listing does not fit
      pub no_room : length out < size → (written_of ROOM 0 0, out) ≡ list_of words out
      unfolding listed_or_refusal
      no_room less =
          let h = good in
          let short : length out < length (listing_of words) = omega (arith, whole.sized) in
          refuses ROOM 0 (λ z. omega arith) (search deciding depth 12)

      -- it fits, and its bytes are copied from the front of the text
      pub copied : {new : List ℕ} → size ≤ length out → new ≡ at_front (take (length out) (take size text)) out → (written_of 0 0 size, new) ≡ list_of words out
      unfolding listed_or_refusal
      copied fits e =
          let h = good in
          let room : length (listing_of words) ≤ length out = omega (arith, whole.sized) in
          let taken : take size text ≡ listing_of words = ap (take size) whole.stands ∙ take_at (listing_of words) _ size (sym whole.sized) in
          listed words out (rw whole.sized (search deciding depth 12)) refl
          (e ∙ ap (λ (l : List ℕ). at_front (take (length out) l) out) taken ∙ all_fit (listing_of words) out room)
