use Rattle.std.proofs.Common.{◌≡◌, ◌<◌, ◌+◌, ◌*◌, ◌++◌, OnOk, List, ℕ, length, take, sym, ap, subst, ◌∙◌, arith}
use Rattle.std.proofs.lemmas.List.{length-map}
use Rattle.chr_value.specs.Atoms.{args_of, ground, grounds, ground_comp, said, text_of}
use Rattle.chr_value.specs.Limits.{size, args_size}
use Rattle.chr_value.proofs.Lists.{size-at}
use Rattle.chr_value.proofs.NameLaws.{keeps-then}
use Rattle.chr_value.proofs.Places.{front-more, front-length, front-all}
use Rattle.chr_value.proofs.Written.{text, step, finish, text-Comp}
use Rattle.chr_value.proofs.writing.+put.Goals as goal

pub put_comp-write_value-requires : goal.put_comp-write_value-requires
put_comp-write_value-requires g t c κs within =
    let items = c.deref-value-items.result.now in
    let least = size-at ground items c.loop-i.i c.value-item.result c.loop-i-test.true c.value-item.is in
    let whole = ap (λ vs. args_size (args_of (grounds vs))) c.deref-value-items.ensures in
    let less : 2 * size (said c.as_ref.result) + 1 < 2 * size (ground_comp c.args.comp.now) = omega (arith, least, whole, ap size c.as_ref.ensures) in
    (subst (λ n. 2 * size (said c.as_ref.result) + 1 < n) c.decreases less, within)

pub put_comp-loop-i-preserved : goal.put_comp-loop-i-preserved
put_comp-loop-i-preserved g t c =
    let items = c.deref-value-items.result.now in
    let i = c.loop-i.i in record {
      written = step c.args.names.now c.args.out.now.items (text_of c.args.names.now c.args.comp.now.functor.number) _ _ _ (grounds (take i items)) _ _ i (front-more ground items i _ c.loop-i-test.true c.value-item.is) (front-length ground items i (omega arith)) (c.in_ok-write_value.ensures.writes ∙ ap (λ v. c.put_before.new.out.items ++ text c.args.names.now v) c.as_ref.ensures) c.in_ok-put_before.ensures.writes c.loop-i.invariant.written;
      keeps = keeps-then c.args.out.now.items c.loop-i.out.items c.write_value.new.out.items c.loop-i.invariant.keeps (keeps-then c.loop-i.out.items c.put_before.new.out.items c.write_value.new.out.items c.put_before.ensures.keeps c.write_value.ensures.keeps);
    }

pub put_comp-returns-clause-writes : goal.put_comp-returns-clause-writes
put_comp-returns-clause-writes g t c =
    let vs = grounds c.args.comp.now.args.list.items in
    let table = c.args.names.now in
    let s = c.args.comp.now.functor.number in
    let all : grounds (take c.loop-i.i c.deref-value-items.result.now) ≡ vs = front-all ground c.deref-value-items.result.now c.loop-i.i c.loop-i-test.false ∙ ap grounds c.deref-value-items.ensures in
    let count : c.len.result ≡ length vs = omega (arith, c.len.ensures, length-map c.args.comp.now.args.list.items ground) in
    subst (λ (w : List ℕ). OnOk c.put_behind.result (c.put_behind.new.out.items ≡ w))
    (finish table c.args.out.now.items (text_of table s) c.loop-i.out.items vs _ c.len.result all count c.loop-i.invariant.written ∙ ap (λ (w : List ℕ). c.args.out.now.items ++ w) (sym (text-Comp table s vs))) c.put_behind.ensures.writes
