use Rattle.std.proofs.Common.{◌∙◌, sym}
use Rattle.chr_search.proofs.Alone.{alone_found, not_alone}
use Rattle.chr_search.proofs.search.Search.next_alone.Goals as goal

pub returns-then-len-ne1 : goal.returns-then-len-ne1
returns-then-len-ne1 g c = not_alone _ _ _ _ _ _ c.position.view_is c.if-not-find_to.ensures (λ one. c.if-len-ne1.true (c.len.ensures.value ∙ one))

pub returns : goal.returns
returns g c = alone_found _ _ _ _ _ _ c.position.view_is c.if-not-find_to.ensures (sym c.len.ensures.value ∙ c.if-len-ne1.false)
