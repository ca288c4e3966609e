-- A line by its name's key and by what stands behind it. Carried by `row_of_key`, and by the laws of decisions.
-- Assumes nothing.
use Prim.Native.Nat.{ℕ, ◌≤◌, ◌<◌}
use mathlib.Core.Path.{◌≡◌, refl, sym, ap, ◌∙◌}
use mathlib.Core.Bool.{Bool, true, false, cond, not, true≢false}
use mathlib.Core.List.{List}
use native.Mathlib.Omega.{arith}
use borrow.Author.Tests.{le-leb, lt-leb, ltb-true, ltb-false}
use mir.Syntax.{w8}
use mir.Val.{Fits}
use lib.Dec.{ltb, leb}
use lib.ListN.{length, get_or, drop}
use Rattle.table.specs.declared.refusal.Refusal.TheVariants as refusal
use Rattle.table.specs.Refusal.{NAME, OPERANDS}
use Rattle.table.proofs.Decided.{stops, passes, ends}
use Rattle.text_rules.specs.Forms.{form_at, row_named}
use Rattle.text_rules.specs.Line.{Operands, in_name, name_in, behind_name, operands_in, refused_line, accepted_line, line_of}
use Rattle.text_rules.proofs.Fronts.{front_fits}
use Rattle.text_reader.specs.declared.name.Name.{Name}
use Rattle.text_reader.specs.Front.{NameRead}
use Rattle.std.specs.Prelude.{Option, Some, None, Result, Err}
use Rattle.std.specs.Result.{is_ok, result_err}
use Rattle.std.specs.Option.{is_some, ok_or, unwrap_or}
use Rattle.text_reader.specs.declared.operands.Line.{Line}
use Rattle.text_reader.specs.Said.{said_operands, said_line}
use Rattle.text_reader.specs.Keys.{row_keyed, row_found}
use Rattle.text_reader.proofs.Names.{name_bytes}
use Rattle.text_reader.proofs.NameKeys.{row_of_key, named_whole}

-- an error in place of a value that is missing
pub err_from_none : {A E : Type 0} {why told : E} (r : Option A) → ok_or r why ≡ Err told → (r ≡ None) × (told ≡ why)
err_from_none {A} {E} {why} None e = (refl, ap (λ (x : Result A E). unwrap_or (result_err x) why) (sym e))
err_from_none (Some x) e = absurd (true≢false (ap is_ok e))

module _ (key : ℕ) where
  -- a row that is found
  pub found_there : {row : ℕ} → Some row ≡ row_found key → (row ≡ row_keyed key) × (row < 26)
  found_there {row} e = go (ltb (row_keyed key) 26) refl e
    where
      go : (t : Bool) → ltb (row_keyed key) 26 ≡ t → Some row ≡ cond t (Some (row_keyed key)) None → (row ≡ row_keyed key) × (row < 26)
      go true k f = let same : row ≡ row_keyed key = ap (λ (r : Option ℕ). unwrap_or r 0) f in (same, omega (arith, same, ltb-true (row_keyed key) 26 k))
      go false k f = absurd (true≢false (ap is_some f))

  -- and none
  pub none_there : None ≡ row_found key → 26 ≤ row_keyed key
  none_there e = go (ltb (row_keyed key) 26) refl e
    where
      go : (t : Bool) → ltb (row_keyed key) 26 ≡ t → None ≡ cond t (Some (row_keyed key)) None → 26 ≤ row_keyed key
      go true k f = absurd (true≢false (ap is_some (sym f)))
      go false k f = ltb-false (row_keyed key) 26 k

module _ (text : List ℕ) (bytes : (i : ℕ) → Fits w8 (get_or text i 0)) (n : Name) (read : NameRead n text) where
  key_is : row_keyed n.key ≡ row_named (name_in text)
  key_is = ap row_keyed read.key ∙ row_of_key (name_in text) (name_bytes text (λ i. (bytes i).fits))

  -- a name that no row has
  pub no_name : None ≡ row_found n.key → refused_line NAME ≡ line_of text
  unfolding line_of
  no_name e = stops _ _ (le-leb 26 _ (rw key_is at (none_there n.key e)))

  module _ {row : ℕ} (found : Some row ≡ row_found n.key) where
    row_is : row ≡ row_named (name_in text)
    row_is = (found_there n.key found).0 ∙ key_is

    row_less : row < 26
    row_less = (found_there n.key found).1

    known : leb 26 (row_named (name_in text)) ≡ false
    known = lt-leb 26 _ (rw row_is at row_less)

    size_is : n.size ≡ length (name_in text)
    size_is = read.size ∙ ap length (named_whole (name_in text) (rw row_is at row_less))

    -- the text is at least as long as its name
    pub operands_ask : (row < 26) × (n.size ≤ length text)
    operands_ask = (row_less, omega (arith, size_is, front_fits in_name text))

    module _ (r : Option Line) (said : said_operands r ≡ operands_in (form_at row).notation (form_at row).operands (form_at row).word n.size (drop n.size text)) where
      said_is : said_operands r ≡ behind_name (form_at (row_named (name_in text))) (name_in text) text
      said_is = said ∙ rw (size_is, row_is) refl

      test_is : (b : Bool) → not (said_operands r).stated ≡ b → not (behind_name (form_at (row_named (name_in text))) (name_in text) text).stated ≡ b
      test_is b e = sym (ap (λ (o : Operands). not o.stated) said_is) ∙ e

      -- a name behind which something is not as stated
      no_operands : not (said_operands r).stated ≡ true → refused_line OPERANDS ≡ line_of text
      unfolding line_of
      no_operands off = passes _ _ _ known (stops _ _ (test_is true off))

      -- a line that is as stated
      stated_line : not (said_operands r).stated ≡ false → accepted_line (said_operands r).word (said_operands r).size ≡ line_of text
      unfolding line_of
      stated_line on = ap (λ (o : Operands). accepted_line o.word o.size) said_is ∙ passes _ _ _ known (passes _ _ _ (test_is false on) ends)

    -- what the operands say is what the line says
    pub line_read : (r : Option Line) → said_operands r ≡ operands_in (form_at row).notation (form_at row).operands (form_at row).word n.size (drop n.size text)
        → said_line (ok_or r refusal.Operands) ≡ line_of text
    line_read None said = no_operands None said refl
    line_read (Some line) said = stated_line (Some line) said refl
