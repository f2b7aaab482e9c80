-- Texts written one after another.
use Rattle.std.proofs.Common.{append_assoc}

pub ruleset grouping = (append_assoc)
