use Rattle.std.proofs.Common.{◌≡◌, Some, None, ◌∙◌}
use Rattle.chr_search.specs.Joined.{join_of}
use Rattle.chr_search.proofs.Fronts.{ends}
use Rattle.chr_search.proofs.front.Front.push_end.Goals as goal

pub unreachable-requires : goal.unreachable-requires
unreachable-requires g c =
    let f = c.requires.4 in
    let m = (ends c.requires.0 c.requires.1 c.requires.2 (join_of c.args.self.now.join) c.requires.3 c.args.label f.join f.grows).1 c.requires.5 in
    let z : None ≡ Some m.atom = c.in_default.ensures ∙ m.live in
    cc
