use Rattle.std.proofs.Common.{◌≡◌, ◌++◌, ◌+◌, ◌≤◌, zero, length, map}
use Rattle.std.specs.List.{flat_map}
use Rattle.chr_lex.specs.Items.{items}
use Rattle.chr_explain.specs.Headings.{heading_view, item_heading}
use Rattle.chr_explain.proofs.headings.headings.Given as goal

abbrev pub invariant-items : goal.invariant-items
invariant-items g l = record {
  made : map heading_view l.list.items ++ flat_map item_heading (items zero l.line l.rest) ≡ flat_map item_heading (items zero 1 l.text);
  fits : l.line + length l.rest ≤ 1 + length l.text;
}

abbrev pub decreases-items : goal.decreases-items
decreases-items g l = length l.rest
