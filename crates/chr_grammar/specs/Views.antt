-- What the values of the code say, wherever they lie in memory.
use Rattle.std.specs.Prelude.{map}
use Rattle.std.specs.Option.{option_map}
use Rattle.chr_lex.specs.Tokens.{word}
use Rattle.chr_grammar.specs.declared.expression.ParsedExpression.{ParsedExpression}
use Rattle.chr_grammar.specs.declared.expression.ParsedExpression.TheVariants as trees
use Rattle.chr_grammar.specs.declared.term.TermNode.{TermNode}
use Rattle.chr_grammar.specs.declared.term.ParsedTerm.{ParsedTerm}
use Rattle.chr_grammar.specs.declared.phrase.ParsedAtom.{ParsedAtom}
use Rattle.chr_grammar.specs.declared.guard.GuardMember.{GuardMember}
use Rattle.chr_grammar.specs.declared.guard.GuardMember.TheVariants as tests
use Rattle.chr_grammar.specs.declared.body.BodyMember.{BodyMember}
use Rattle.chr_grammar.specs.declared.body.BodyMember.TheVariants as members
use Rattle.chr_grammar.specs.declared.rule.ParsedRule.{ParsedRule}
use Rattle.chr_grammar.specs.declared.declaration.Declared.{Declared}
use Rattle.chr_grammar.specs.declared.statement.Statement.{Statement}
use Rattle.chr_grammar.specs.declared.statement.Statement.TheVariants as statements
use Rattle.chr_grammar.specs.Parsed as parsed

abbrev pub formula : {Z : Type 0} → ParsedExpression Z → parsed.ParsedExpression
formula (trees.Number negative digits) = parsed.Number negative digits.now
formula (trees.Variable name) = parsed.Variable name.now
formula (trees.Group' p inner) = parsed.Group (formula inner)
formula (trees.Operation' o p a q b) = parsed.Operation o (formula a) (formula b)

abbrev pub node : TermNode → parsed.TermNode
node n = record { depth = n.depth; word = word n.word }

abbrev pub term : {Z : Type 0} → ParsedTerm Z → parsed.ParsedTerm
term t = map node t.nodes.items

abbrev pub phrase : {Z : Type 0} → ParsedAtom Z → parsed.ParsedAtom
phrase p = record { name = p.name.now; args = map term p.args.items }

abbrev pub test : {Z : Type 0} → GuardMember Z → parsed.GuardMember
test tests.True = parsed.Always
test (tests.Compared r a b) = parsed.Compared r (formula a) (formula b)
test (tests.Same t u) = parsed.Same (term t) (term u)
test (tests.Differ t u) = parsed.Differ (term t) (term u)

abbrev pub member : {Z : Type 0} → BodyMember Z → parsed.BodyMember
member members.True = parsed.Nothing
member (members.Is x e) = parsed.Is x.now (formula e)
member (members.Add p) = parsed.Add (phrase p)

abbrev pub raw_rule : {Z : Type 0} → ParsedRule Z → parsed.ParsedRule
raw_rule r =
    record {
      rule_name = option_map (λ l. l.now) r.rule_name;
      kept = map phrase r.heads.kept.items;
      removed = map phrase r.heads.removed.items;
      guard = map test r.consequence.guard.items;
      body = map member r.consequence.body.items;
    }

abbrev pub declared : Declared → parsed.Declared
declared d = record { name = d.name.now; digits = d.digits.now }

abbrev pub statement : {Z : Type 0} → Statement Z → parsed.Statement
statement statements.Import = parsed.Import
statement (statements.Declaration ds) = parsed.Declaration (map declared ds.items)
statement (statements.Rule r) = parsed.Rule (raw_rule r)
