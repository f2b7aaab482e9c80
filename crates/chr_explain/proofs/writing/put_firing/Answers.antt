use Rattle.std.proofs.Common.{◌++◌, ◌∙◌, Option, map, codes, ap, arith}
use Rattle.std.specs.Borrow.{Bor}
use Rattle.std.specs.Option.{option_map}
use Rattle.chr_guard.specs.declared.binding.Binding.{Binding}
use Rattle.chr_explain.specs.Headings.{Heading, heading_view}
use Rattle.chr_explain.specs.Lines.{rule_words, entry_words, all_heads_words, values_words, heading_at}
use Rattle.chr_explain.proofs.Known.{on_ok_from}
use Rattle.chr_explain.proofs.Lists.{after_two}
use Rattle.chr_explain.proofs.writing.put_firing.Goals as goal

pub returns : goal.returns
returns g c =
    let names = c.args.recorded.now.names.now in
    let headings = map heading_view c.args.recorded.now.headings.now in
    let values = option_map (λ (v : Bor (Binding g.row.A.Denot)). v.now) c.args.values in
    let rule = rule_words headings c.args.rule in
    let entry = entry_words c.args.made in
    let heads = all_heads_words c.args.kept.now c.args.removed.now in
    let told = values_words names (heading_at headings c.args.rule) values in
    let new = c.put_values.new.out.items in
    on_ok_from c.put_values.result c.put_values.ensures (λ is.
    after_two c.args.out.now.items c.put_rule.new.out.items new rule _ c.in_ok-put_rule.ensures
    (after_two c.put_rule.new.out.items c.extend_from_slice.new.self.items new (codes " fired at ") _ c.in_ok-extend_from_slice.ensures.items
    (after_two c.extend_from_slice.new.self.items c.put_entry.new.out.items new entry _ c.in_ok-put_entry.ensures
    (after_two c.put_entry.new.out.items c.put_all_heads.new.out.items new heads told c.in_ok-put_all_heads.ensures
    (is ∙ ap (λ (h : Option Heading). c.put_all_heads.new.out.items ++ values_words names h values) c.heading_of.ensures)))))
