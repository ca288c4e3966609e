-- Carried by `found_lem`, of the place that the search finds.
use Rattle.std.proofs.Common.{rules, tests, ◌∙◌}
use Rattle.std.proofs.lemmas.Iterator.{YieldsList-from_slice}
use Rattle.std.proofs.lemmas.Iterator.Search.{position_from_yields_List}
use lib.Dec.{eqb}
use Rattle.text_table.specs.declared.rows.Row.{Row}
use Rattle.text_reader.proofs.Keys.{found_lem}
use Rattle.text_reader.proofs.forms.row_of.Goals as goal

pub returns : goal.returns
returns c =
    position_from_yields_List (λ (r : Row). eqb r.key c.args.key) _ _ _ c.position.ensures.ran (YieldsList-from_slice c.args.forms.now.rows cc) (λ x b q k. search (rules, tests))
    ∙ found_lem c.args.key c.args.forms.now.as_stated
