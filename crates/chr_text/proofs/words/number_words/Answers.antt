use Rattle.chr_grammar.specs.Views.{node}
use Rattle.chr_limits.specs.Views.{names as texts}
use Rattle.chr_limits.specs.Variables.{word_variables}
use Rattle.chr_text.specs.Fitting.{NodeFits}
use Rattle.chr_text.specs.Translation as raw
use Rattle.chr_text.proofs.InScope.{grows, word_meets}
use Rattle.chr_text.proofs.Lists.{map_at, all_at, turn_room}
use Rattle.chr_text.proofs.words.number_words.Goals as goal

pub number_word-requires-clause-fits : goal.number_word-requires-clause-fits
number_word-requires-clause-fits g c = all_at NodeFits node c.args.nodes.now c.loop-node.node-index _ c.requires.fits c.loop-node-test.true

pub number_word-requires-clause-room : goal.number_word-requires-clause-room
number_word-requires-clause-room g c =
    turn_room raw.placed_word (grows raw.placed_word (λ n. word_variables n.word) (λ m n. word_meets m n.word)) (texts c.loop-node.seen.items) _ _ _ _ (map_at node c.args.nodes.now c.loop-node.node-index _ c.loop-node-test.true) c.loop-node.invariant.seen c.requires.room
