use Rattle.std.proofs.Common.{◌+◌, ◌*◌}
use Rattle.std.proofs.lemmas.List.{take_rest}
use Rattle.chr_rule.proofs.Index.{rest_from}
use Rattle.chr_rule.proofs.occurrences.Occurrences.heads_from.Goals as goal

pub returns-clause-rest : goal.returns-clause-rest
returns-clause-rest g c =
    rw (← c.row-row.ensures.row, take_rest)
    (rest_from c.row-row.result.now c.place_from-place.result (c.args.rule * 256 + c.args.head) c.row-row.ensures.order.rising c.place_from-place.ensures.front c.place_from-place.ensures.later)
