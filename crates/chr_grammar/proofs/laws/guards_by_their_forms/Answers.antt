use Rattle.chr_grammar.specs.Parsing.{test_at}
use Rattle.chr_grammar.specs.Spelling.{IsGuardMember, test_spelled}
use Rattle.chr_grammar.proofs.Fronts.{list_says, list_read, list_refused}
use Rattle.chr_grammar.proofs.Members_again.{test_found, test_some, test_again}
use Rattle.chr_grammar.proofs.laws.guards_by_their_forms.Goals as goal

pub returns : goal.returns
returns c = record {
  found = list_says IsGuardMember test_spelled test_at test_found;
  only = list_read IsGuardMember test_spelled test_some test_at test_again;
  refused = list_refused IsGuardMember test_spelled test_some test_at test_found test_again;
}
