-- A join as contracts see it.
use Rattle.chr_search.specs.declared.join.Join.{Join as CodeJoin}
use Rattle.chr_search.specs.Trials.{Join}

-- each partner is older than the active label
abbrev pub join_of : {Z : Type 0} → CodeJoin Z → Join
join_of j =
    record {
      rule = j.rule.now;
      order = j.order.now;
      store = j.view.store.entries;
      active = j.view.active;
      bound = j.view.active;
    }
