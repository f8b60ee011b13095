use Rattle.std.proofs.Common.{◌≡◌, ◌≤◌, length}
use Rattle.bc_data.specs.Seen.{seen}
use Rattle.bc_data.specs.SourceTree.{Sequence, Empty, PrintItem}
use Rattle.bc_data.specs.View.{view_item, onto_by}
use Rattle.bc_law_grammar.specs.Machine.{State, Stack, Printing, levels, run}
use Rattle.bc_parse_stat.proofs.print.print_items.Given as goal

abbrev pub invariant-loop-read : goal.invariant-loop-read
invariant-loop-read l = record {
  answers : (onward : Sequence PrintItem → State) (st : Stack) → levels st ≡ l.base → run 64 (Printing Empty onward st) (seen l.text l.tokens) ≡ run 64 (Printing (onto_by view_item l.read.list.items Empty) onward st) (seen l.text l.read.rest.now);
  shorter : length l.read.rest.now ≤ length l.tokens;
}

abbrev pub decreases-loop-read : goal.decreases-loop-read
decreases-loop-read l = length l.read.rest.now
