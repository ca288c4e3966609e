-- Carried by `byte_back`. The invariant: the bytes of the name from place i on stand there, and the rest of the key is that of the bytes before them.
use mathlib.Core.Path.{refl, sym}
use native.Mathlib.Omega.{arith}
use lib.ListN.{length-set}
use Rattle.text_rules.specs.Forms.{form_at}
use Rattle.text_writer.proofs.Backwards.{none_written, all_written}
use Rattle.text_writer.proofs.Names.{name_bytes, less_left, byte_back, size_there, all_left}
use Rattle.text_writer.proofs.name.put_name.Goals as goal

pub loop-i-init : goal.loop-i-init
loop-i-init c =
    let pre = c.requires in
    let size = size_there c.args.forms.now.as_stated c.args.row pre.0 _ c.size_by_key-size.ensures in
    (omega arith, refl, all_left c.args.forms.now.as_stated _ pre.0 _ _ size, none_written _ _ _ (sym size))

pub loop-i-preserved : goal.loop-i-preserved
loop-i-preserved c =
    let row = c.args.row in
    let loop = c.loop-i in
    let inv = loop.invariant in
    let bytes = name_bytes row c.requires.0 in (
      omega arith,
      simp length-set inv.1,
      less_left (form_at row).name bytes loop.i loop.rest c.loop-i-test.true inv.0 inv.2,
      byte_back (form_at row).name bytes loop.i loop.rest c.loop-i-test.true inv.0 inv.2 c.args.out.now loop.out c.requires.1 inv.3,
    )

pub returns : goal.returns
returns c =
    let pre = c.requires in
    record {
      sized = size_there c.args.forms.now.as_stated c.args.row pre.0 _ c.size_by_key-size.ensures;
      stands = all_written _ _ _ _ c.loop-i-test.false c.loop-i.invariant.3;
    }
