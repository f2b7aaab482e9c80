use Rattle.std.proofs.Common.{◌≡◌, ◌+◌, ◌≤◌, zero, length}
use Rattle.chr_lex.specs.Items.{items}
use Rattle.chr_text.specs.Reading.{over_items}
use Rattle.chr_text.specs.Tables.{Table, Keeps}
use Rattle.chr_text.proofs.reading.add_items.Given as goal

abbrev pub invariant-items : goal.invariant-items
invariant-items g l = record {
  reads : over_items g.S.Items.with (g.S.Items.said l.so_far, l.names) (items zero l.line l.rest) ≡ over_items g.S.Items.with (g.S.Items.said l.fn.so_far, l.fn.names) (items zero 1 l.text);
  keeps : (t : Table) → Keeps t l.fn.names → Keeps t l.names;
  fits : l.line + length l.rest ≤ 1 + length l.text;
}

abbrev pub decreases-items : goal.decreases-items
decreases-items g l = length l.rest
