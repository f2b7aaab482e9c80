use Rattle.std.proofs.Common.{ap}
use Rattle.chr_log.specs.Events.{event_of}
use Rattle.chr_causes.specs.Causes.{heads_of}
use Rattle.chr_causes.proofs.Marked.{second_within, both_added}
use Rattle.chr_causes.proofs.causes.mark_heads.Goals as goal

pub mark_labels-requires-in-Fire : goal.mark_labels-requires-in-Fire
mark_labels-requires-in-Fire g c =
    second_within _ _ _ c.in-Fire.kept.items c.in-Fire.removed.items _ (ap (λ e. heads_of (event_of e)) c.in-Fire.is) c.as_slice-in-Fire.ensures.value c.mark_labels.ensures.places c.requires

pub returns-in-Fire : goal.returns-in-Fire
returns-in-Fire g c =
    both_added _ c.in-Fire.kept.items c.in-Fire.removed.items _ _ _ _ _ (ap (λ e. heads_of (event_of e)) c.in-Fire.is) c.as_slice.ensures.value c.as_slice-in-Fire.ensures.value c.mark_labels.ensures c.mark_labels-in-Fire.ensures
