-- The theorems of listings once more, of the functions themselves: of any runs of `list_program` and `read_text` that meet their contracts as the checker reads them.
-- Assumes nothing.
use Prim.Native.Nat.{ℕ, ◌≤◌}
use mathlib.Core.Path.{◌≡◌, sym, ap, ◌∙◌}
use mathlib.Core.List.{List}
use contract.Lifetimes.{Lfts}
use borrow.Fn.Kinds.{Dens, ended_of}
use denote.Triple.Clauses.{Lasts, at_exit}
use lib.ListN.{length, take}
use Rattle.std.specs.Prelude.{Result}
use Rattle.table.specs.declared.refusal.Refusal.{Refusal}
use Rattle.text_rules.specs.declared.Faulty.{Faulty}
use Rattle.text_rules.specs.declared.ReadWords.{ReadWords}
use Rattle.buffer.specs.Front.{at_front}
use Rattle.job_rules.specs.Write.{Written, said_written, written_of}
use Rattle.text_rules.specs.Text.{ReadText, said_text, accepted_text, read_text_of}
use Rattle.text_rules.specs.Listing.{listing_of, list_of}
use Rattle.text_rules.proofs.Limits.{words_read}
use Rattle.text_rules.proofs.Listings.{NoWordLine, words_of_lem, its_own_listing}
use Rattle.text_rules.proofs.Listings as listings
use Rattle.text_rules.proofs.Theorems as rules
use Rattle.text_reader.proofs.read_text.Kinds as read_kinds
use Rattle.text_reader.proofs.read_text.Reads as read_reads
use Rattle.text_writer.proofs.list_program.Kinds as list_kinds
use Rattle.text_writer.proofs.list_program.Reads as list_reads

-- a run of `read_text`: the text that it was lent, and its answer
pub record Reading : Type 1 where
  pub lifetimes : Lfts 1
  pub args : Dens lifetimes read_kinds.ps
  pub result : Result ReadWords Faulty
  pub lasts : Lasts (ended_of 1 read_kinds.ps read_kinds.r) lifetimes args
  pub meets : read_reads.Post lifetimes args result (at_exit (ended_of 1 read_kinds.ps read_kinds.r) lifetimes args lasts)

-- what it says
abbrev pub read_answer : Reading → ReadText
read_answer run = said_text run.result

abbrev pub text : Reading → List ℕ
text run = run.args.0.now

-- a run of `list_program`: words, the buffer before and after, and its answer
pub record Listing : Type 1 where
  pub lifetimes : Lfts 2
  pub args : Dens lifetimes list_kinds.ps
  pub result : Result ℕ Refusal
  pub lasts : Lasts (ended_of 2 list_kinds.ps list_kinds.r) lifetimes args
  pub meets : list_reads.Post lifetimes args result (at_exit (ended_of 2 list_kinds.ps list_kinds.r) lifetimes args lasts)

-- what it says
abbrev pub list_answer : Listing → Written
list_answer run = said_written run.result

abbrev pub words : Listing → List ℕ
words run = run.args.0.now

abbrev pub before : Listing → List ℕ
before run = run.args.1.0.now

abbrev pub after : Listing → List ℕ
after run = (at_exit (ended_of 2 list_kinds.ps list_kinds.r) run.lifetimes run.args run.lasts).1.0.now

-- the listing that it wrote: so many bytes at the buffer's front as it answered
abbrev pub listed : Listing → List ℕ
listed run = take (list_answer run).size (after run)

-- the two contracts, as equations
read_is : (run : Reading) → read_answer run ≡ read_text_of (text run)
read_is run = run.meets

list_is : (run : Listing) → (list_answer run, after run) ≡ list_of (words run) (before run)
list_is run = run.meets

accepted : (run : Listing) → (list_answer run).refusal ≡ 0 → (list_of (words run) (before run)).0.refusal ≡ 0
accepted run e = sym (ap (λ (x : Written × List ℕ). x.0.refusal) (list_is run)) ∙ e

-- "Reading a listing gives the same words".
pub read_listed : (l : Listing) (r : Reading) → (list_answer l).refusal ≡ 0 → text r ≡ listed l → read_answer r ≡ accepted_text (words l)
read_listed l r e same =
    read_is r ∙ ap read_text_of same
    ∙ ap (λ (x : Written × List ℕ). read_text_of (take x.0.size x.1)) (list_is l)
    ∙ rules.read_listed (words l) (before l) (accepted l e)

-- "no two programs share a listing".
pub no_two_programs : (l m : Listing) → (list_answer l).refusal ≡ 0 → (list_answer m).refusal ≡ 0 → listed l ≡ listed m → words l ≡ words m
no_two_programs l m e f same = sym (words_listed l e) ∙ ap (λ (t : List ℕ). words_read (read_text_of t)) same ∙ words_listed m f
  where
    words_listed : (k : Listing) → (list_answer k).refusal ≡ 0 → words_read (read_text_of (listed k)) ≡ words k
    words_listed k g =
        ap (λ (x : Written × List ℕ). words_read (read_text_of (take x.0.size x.1))) (list_is k)
        ∙ ap words_read (rules.read_listed (words k) (before k) (accepted k g)) ∙ words_of_lem (words k)

-- the words of a text that is their listing, listed where there is room
again : (r : Reading) (m : Listing) → text r ≡ listing_of (words_read (read_text_of (text r))) → words m ≡ words_read (read_answer r) → length (text r) ≤ length (before m)
    → (list_answer m ≡ written_of 0 0 (length (text r))) × (after m ≡ at_front (text r) (before m))
again r m own same room =
    let both : ◌≡◌ {A = Written × List ℕ} (list_answer m, after m) (written_of 0 0 (length (text r)), at_front (text r) (before m))
    = list_is m ∙ ap (λ (ws : List ℕ). list_of ws (before m)) (same ∙ ap words_read (read_is r)) ∙ rules.listed_read (text r) (before m) own room in
    (ap (λ (x : Written × List ℕ). x.0) both, ap (λ (x : Written × List ℕ). x.1) both)

-- "listing what was read from a listing gives the same bytes", and leaves those beyond them.
pub listing_again : (l : Listing) (r : Reading) (m : Listing) → (list_answer l).refusal ≡ 0 → text r ≡ listed l → words m ≡ words_read (read_answer r)
    → length (text r) ≤ length (before m) → (list_answer m ≡ written_of 0 0 (length (text r))) × (after m ≡ at_front (text r) (before m))
listing_again l r m e same words_same room =
    let is = rules.listed_there (words l) (before l) (accepted l e) in
    let own : text r ≡ listing_of (words l) = same ∙ ap (λ (x : Written × List ℕ). take x.0.size x.1) (list_is l) ∙ is.front in
    again r m (sym (listings.listing_again (words l) (text r) is.program own)) words_same room

-- Reading a text that has no `.word` line and listing its words gives the same bytes, and leaves those beyond them.
pub listed_read : (r : Reading) (m : Listing) → (read_answer r).refusal ≡ 0 → NoWordLine (text r) → words m ≡ words_read (read_answer r) → length (text r) ≤ length (before m)
    → (list_answer m ≡ written_of 0 0 (length (text r))) × (after m ≡ at_front (text r) (before m))
listed_read r m e none same room =
    again r m (its_own_listing (text r) (sym (ap (λ (x : ReadText). x.refusal) (read_is r)) ∙ e) none) same room
