use Rattle.std.proofs.Common.{ℕ, List, [], ◌∷◌, refl, sym, subst, arith, inr}
use Rattle.chr_search.specs.Tree.{Least, LeastFrom, NoneFrom}
use Rattle.chr_search.specs.Trials.{MayFollow}
use Rattle.chr_search.specs.Joined.{join_of}
use Rattle.chr_search.proofs.Partners.{lengthened, lengthened_none}
use Rattle.chr_search.proofs.Asking.{room}
use Rattle.chr_search.proofs.join.Join.push_next.Goals.{In-Some}
use Rattle.chr_search.proofs.join.Join.push_next.Goals as goal

-- the least label
least : (g : _) (c : In-Some g) → LeastFrom (MayFollow (join_of c.args.self.now) c.args.labels.now.items) c.args.from c.in-Some.label
least g c = subst (λ (ls : List ℕ). LeastFrom (MayFollow (join_of c.args.self.now) ls) c.args.from c.in-Some.label) c.as_slice.ensures.value c.in-Some.ensures

pub returns-in_default : goal.returns-in_default
returns-in_default g c = (lengthened_none _ _ _ _ (subst (λ (ls : List ℕ). NoneFrom (MayFollow (join_of c.args.self.now) ls) c.args.from) c.as_slice.ensures.value c.in_default.ensures), refl)

pub push-requires : goal.push-requires
push-requires g c = (omega arith, room _ c.requires.plan _ _ (least g (goal.at.push-requires g c).In-Some).holds)

pub returns : goal.returns
returns g c =
    subst (Least (MayFollow (join_of c.args.self.now)) 1 c.args.labels.now.items (c.args.from ∷ [])) (sym c.push.ensures.items) (lengthened _ _ _ _ _ (least g (goal.at.returns g c).In-Some) (inr refl))
