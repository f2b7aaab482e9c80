use Rattle.chr_grammar.specs.Parsing.{member_at}
use Rattle.chr_grammar.specs.Spelling.{IsBodyMember, member_spelled}
use Rattle.chr_grammar.proofs.Fronts.{list_says, list_read, list_refused}
use Rattle.chr_grammar.proofs.Members_again.{member_found, member_some, member_again}
use Rattle.chr_grammar.proofs.laws.bodies_by_their_forms.Goals as goal

pub returns : goal.returns
returns c = record {
  found = list_says IsBodyMember member_spelled member_at member_found;
  only = list_read IsBodyMember member_spelled member_some member_at member_again;
  refused = list_refused IsBodyMember member_spelled member_some member_at member_found member_again;
}
