use Rattle.std.proofs.Common.{◌≡◌, ℕ, ◌+◌, ◌*◌, ◌-◌, ◌<◌, List, length, ap, take, drop, slice_get, ◌∙◌, arith}
use Rattle.chr_plan.specs.declared.order.Step.{Step}
use Rattle.chr_plan.proofs.Rows.{few_at, plans_length, row_read, row_within}
use Rattle.chr_plan.proofs.plans.Plans.orders_at.Goals as goal

pub index-requires : goal.index-requires
index-requires g c = omega (arith, c.requires, plans_length _ _ _ c.self.view_is, c.self.inside.counts.ok.0)

pub overflow_mul-start : goal.overflow_mul-start
overflow_mul-start g c =
    let within : c.args.index < length c.self.inside.counts.items = omega (arith, c.requires, plans_length _ _ _ c.self.view_is) in
    omega (arith, row_within _ _ c.self.invariant c.args.index within, c.self.inside.orders.ok, c.self.inside.orders.small)

pub overflow_add-result : goal.overflow_add-result
overflow_add-result g c =
    let within : c.args.index < length c.self.inside.counts.items = omega (arith, c.requires, plans_length _ _ _ c.self.view_is) in
    omega (arith, c.from-count.ensures, few_at _ c.self.invariant.few c.args.index c.index.result.now within c.index.ensures, row_within _ _ c.self.invariant c.args.index within, c.self.inside.orders.ok, c.self.inside.orders.small)

pub offset_bounds-deref-start : goal.offset_bounds-deref-start
offset_bounds-deref-start g c =
    let within : c.args.index < length c.self.inside.counts.items = omega (arith, c.requires, plans_length _ _ _ c.self.view_is) in
    omega (arith, row_within _ _ c.self.invariant c.args.index within, c.deref.ensures.len, c.self.inside.orders.ok.0)

pub slice_bounds-result-end : goal.slice_bounds-result-end
slice_bounds-result-end g c =
    let within : c.args.index < length c.self.inside.counts.items = omega (arith, c.requires, plans_length _ _ _ c.self.view_is) in
    omega (arith, c.from-count.ensures, few_at _ c.self.invariant.few c.args.index c.index.result.now within c.index.ensures, row_within _ _ c.self.invariant c.args.index within, c.deref.ensures.len, c.self.inside.orders.ok.0)

pub returns : goal.returns
returns g c =
    let i = c.args.index in
    let n = c.index.result.now in
    let within : i < length c.self.inside.counts.items = omega (arith, c.requires, plans_length _ _ _ c.self.view_is) in
    let many : i * 6 + c.from-count.result - i * 6 ≡ n = omega (arith, c.from-count.ensures) in
    let start : i * 6 ≡ 6 * i = omega arith in
    row_read (λ o. o.items) c.self.inside.counts.items c.self.inside.orders.items i n _ within c.index.ensures
    (ap (λ (k : ℕ). take k (drop (i * 6) c.deref.result.now)) many ∙ ap (λ (k : ℕ). take n (drop k c.deref.result.now)) start ∙ ap (λ (z : List _). take n (drop (6 * i) z)) c.deref.ensures.value)
    ∙ ap (λ (z : List (List (List Step))). slice_get z i) c.self.view_is
