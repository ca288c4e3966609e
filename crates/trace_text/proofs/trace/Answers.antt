-- Carried by the laws of `TextPut`: the test of the room as it came out; the rows, and END at the front of the part behind them.
use borrow.Author.Rules.{rules}
use Rattle.trace_rules.proofs.TextPut.{not_past, all_left, rows_fit, trace_put, trace_not_put}
use Rattle.trace_text.proofs.trace.Goals as goal

pub overflow_sub-cycles : goal.overflow_sub-cycles
overflow_sub-cycles c = search not_past

pub put_rows-requires : goal.put_rows-requires
put_rows-requires c = (search rules, search all_left, search rows_fit)

pub returns-then-not-has_room : goal.returns-then-not-has_room
returns-then-not-has_room c = search (trace_not_put, rules)

pub returns : goal.returns
returns c = search trace_put
