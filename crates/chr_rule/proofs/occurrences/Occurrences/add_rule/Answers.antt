use Rattle.std.proofs.Common.{◌≡◌, Some, None, refl, sym, subst, arith}
use Rattle.chr_rule.specs.Rules.{head_at}
use Rattle.chr_rule.specs.Parts.{shape}
use Rattle.chr_rule.proofs.Index.{all_heads, comes_last, more_heads, skip_head}
use Rattle.chr_rule.proofs.occurrences.Occurrences.add_rule.Goals.{in-Some, in_default}
use Rattle.chr_rule.proofs.occurrences.Occurrences.add_rule.Goals as goal

pub loop-head-preserved : goal.loop-head-preserved
loop-head-preserved g c =
    let rule = c.args.rule.now in
    elim c.match-head.branch [
      | in-Some w ↦ (
          let at : head_at rule c.loop-head.head ≡ Some (shape w.in-Some.pattern.now) = subst (λ n. head_at rule n ≡ Some (shape w.in-Some.pattern.now)) c.from.ensures (sym w.in-Some.ensures.head) in
          rw w.self-is (record {
            room = λ h head is. (let before = c.loop-head.invariant.room h head is in let after = w.push_reserved.ensures.rooms head.name in omega (arith, before, after));
            added = more_heads c.args.self.now.rows c.loop-head.self.rows w.push_reserved.new.self.rows c.args.number c.loop-head.head rule _ w.pred-pred.result _ refl at w.pred-pred.ensures c.loop-head.invariant.added w.push_reserved.ensures.rows;
          })
          )
      | in_default w ↦ (
          rw w.self-is (record {
            room = λ h head is. (let before = c.loop-head.invariant.room h head is in omega (arith, before));
            added = skip_head c.args.self.now.rows c.loop-head.self.rows c.args.number c.loop-head.head rule (subst (λ n. head_at rule n ≡ None) c.from.ensures (sym w.in_default.ensures.head)) c.loop-head.invariant.added;
          })
          )
    ]

pub returns : goal.returns
returns g c = all_heads c.args.self.now.rows c.loop-head.self.rows c.args.number c.loop-head.head c.args.rule.now (omega (arith, c.heads.ensures.count)) c.loop-head.invariant.added

pub push_reserved-requires-clause-last : goal.push_reserved-requires-clause-last
push_reserved-requires-clause-last g c = comes_last c.args.self.now.rows c.loop-head.self.rows c.args.number c.loop-head.head c.pred-pred.result.name.number c.args.rule.now (record { rule = c.args.number; head = c.loop-head.head; arity = c.pred-pred.result.arity }) refl refl c.requires.last c.loop-head.invariant.added
