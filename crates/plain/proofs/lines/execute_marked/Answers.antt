-- Carried by the laws of a line of each kind. The invariant: registers and marks are what the plain machine leaves after the first i lines, in the edition that tells
-- whether register 0 is writable.
use Rattle.std.proofs.Common.{sym, ap, ◌∙◌, not, refl}
use Rattle.table.specs.declared.Edition.{Edition}
use Rattle.plain_rules.specs.Machine.{executed_registers}
use Rattle.plain.proofs.Loop.{its_edition, no_line, li_given, multiply_given, short_given, line_stored, nothing_written, all_lines}
use Rattle.plain.proofs.lines.execute_marked.Goals as goal
use Rattle.plain.proofs.lines.execute_marked.Goals.{then-is_li, else-is_li+then-is_multiply, else-is_li+else-is_multiply+then-not-is_nop, else-is_li+else-is_multiply+else-not-is_nop}

pub loop-i-init : goal.loop-i-init
loop-i-init c = no_line _ _ _ _

pub loop-i-preserved : goal.loop-i-preserved
loop-i-preserved c =
    elim c.if-is_li.branch [
      | then-is_li w ↦
          let x = li_given _ _ _ _ _ c.loop-i-test.true c.loop-i.invariant c.rd-at.ensures.0 c.is_li.ensures w.if-is_li.true
          w.li_outcome-outcome.ensures (w.marks-is ∙ w.put_mark.ensures) in
          line_stored _ x.0 x.1 (w.registers-is ∙ w.store.ensures)
      | else-is_li+then-is_multiply w ↦
          let x = multiply_given _ _ _ _ _ c.loop-i-test.true c.loop-i.invariant c.rd-at.ensures.0 c.is_li.ensures w.if-is_li.false
          c.rs1-rs1.ensures.0 c.rs2-rs2.ensures.0 w.is_multiply.ensures w.if-is_multiply.true w.rs3-rs3.ensures.0
          w.multiply_outcome-outcome.ensures (w.marks-is ∙ w.put_mark-then-is_multiply.ensures) in
          line_stored _ x.0 x.1 (w.registers-is ∙ w.store-then-is_multiply.ensures)
      | else-is_li+else-is_multiply+then-not-is_nop w ↦
          let x = short_given _ _ _ _ _ c.loop-i-test.true c.loop-i.invariant c.rd-at.ensures.0 c.is_li.ensures w.if-is_li.false
          c.rs1-rs1.ensures.0 c.rs2-rs2.ensures.0 w.is_multiply.ensures w.if-is_multiply.false refl w.short_given-outcome.ensures
          (w.marks-is ∙ w.put_mark-else-is_multiply.ensures) in
          line_stored _ x (sym w.is_nop.ensures ∙ w.if-not-is_nop.true) (w.registers-is ∙ w.store-then-not-is_nop.ensures)
      | else-is_li+else-is_multiply+else-not-is_nop w ↦
          let x = short_given _ _ _ _ _ c.loop-i-test.true c.loop-i.invariant c.rd-at.ensures.0 c.is_li.ensures w.if-is_li.false
          c.rs1-rs1.ensures.0 c.rs2-rs2.ensures.0 w.is_multiply.ensures w.if-is_multiply.false refl w.short_given-outcome.ensures
          (w.marks-is ∙ w.put_mark-else-is_multiply.ensures) in
          nothing_written x w.is_nop.ensures (ap not w.if-not-is_nop.false) w.registers-is
    ]

pub returns : goal.returns
returns c =
    all_lines _ _ _ _ _ c.loop-i-test.false c.loop-i.invariant
    ∙ ap (λ (e : Edition). executed_registers e c.args.program.now c.args.file c.args.marks.now) (its_edition c.args.edition c.is_wired-writable.ensures)
