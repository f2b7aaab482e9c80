use Rattle.std.proofs.Common.{ℕ, Option, IfSome, subst, option_copied}
use Rattle.std.proofs.lemmas.Option.{IfSome_then}
use Rattle.chr_index.specs.Buckets.{IsLeastBetween}
use Rattle.chr_store.specs.Keys.{key_of, IsLeastMatch}
use Rattle.chr_store.specs.Views.{Seen}
use Rattle.chr_store.proofs.Stored.{asked}
use Rattle.chr_store.proofs.Views.{seen_least}
use Rattle.chr_store.proofs.view.View.matches.Goals as goal

pub returns-clause-least : goal.returns-clause-least
returns-clause-least g c =
    let i = c.self.inside in
    subst (λ (v : Seen). IfSome c.matches.result (λ labels. (after : ℕ) (found : Option ℕ) → IsLeastBetween labels after v.active found → IsLeastMatch v.store.entries (asked c.args.pred (key_of c.args.key) after v.active) found)) c.self.view_is
    (IfSome_then c.matches.result c.matches.ensures.least (λ labels least after found h. seen_least i.store.now (option_copied i.fresh) (asked c.args.pred (key_of c.args.key) after i.active) found c.self.invariant (least after i.active found h)))
