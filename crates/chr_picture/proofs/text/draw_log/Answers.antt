use Rattle.std.proofs.Common.{◌≡◌, ◌<◌, ◌-◌, ◌++◌, ℕ, List, length, ap, ◌∙◌, subst, arith}
use Rattle.std.proofs.lemmas.List.{length-map}
use Rattle.chr_log.specs.Events.{Event, event_of, events_of}
use Rattle.chr_log.specs.declared.events.Version.{Version}
use Rattle.chr_model.specs.Abstract.{Rules}
use Rattle.chr_model.specs.Programs.{Instances}
use Rattle.chr_picture.specs.declared.picture.Picture.{Picture}
use Rattle.chr_picture.specs.declared.text.Range.{Range}
use Rattle.chr_picture.specs.Parts.{IsPicture}
use Rattle.chr_picture.specs.Svg.{picture_text}
use Rattle.chr_picture.specs.Texts.{drawn, IsOfRange}
use Rattle.chr_picture.proofs.Drawn.{of_range}
use Rattle.chr_picture.proofs.text.draw_log.Goals as goal

-- the picture of a part is of the range, of which an entry is drawn
part_is : {Z : Type 0} (version : Version) (rules : Rules) (read whole : List (Event ℕ)) (range : Range) (before count len : ℕ) (picture : Picture Z) → read ≡ whole → len ≡ length whole → (0 < count → before ≡ range.from - 1)
    → count ≡ drawn range len → 0 < count → IsPicture version rules read before count picture → IsOfRange version rules whole range picture × (0 < drawn range (length whole))
part_is version rules read whole range before count len picture same is at count_is some h =
    let many = count_is ∙ ap (drawn range) is in (of_range version rules read whole range before count picture same (at some) many h, subst (λ (n : ℕ). 0 < n) many some)

pub returns-then-len-gt-MOST_ROWS : goal.returns-then-len-gt-MOST_ROWS
returns-then-len-gt-MOST_ROWS g c =
    let events = c.args.log.now.events.items in
    let len : c.len.result ≡ length (events_of events) = omega (arith, c.len.ensures, c.args.log.now.events.ok.0, length-map events event_of) in
    let part = part_is c.args.log.now.version (Instances c.args.program.now) (events_of c.deref.result.now) (events_of events) c.args.range c.part_of-before.result.0 c.part_of-before.result.1 c.len.result c.in-Ok.picture
    (ap events_of c.deref.ensures.value) len c.part_of-before.ensures.before c.part_of-before.ensures.count (omega arith) c.in-Ok.ensures.picture in
    (c.in-Ok.picture, part.0, omega arith)

pub returns-in-Ok-write_picture : goal.returns-in-Ok-write_picture
returns-in-Ok-write_picture g c =
    let events = c.args.log.now.events.items in
    let len : c.len.result ≡ length (events_of events) = omega (arith, c.len.ensures, c.args.log.now.events.ok.0, length-map events event_of) in
    let part = part_is c.args.log.now.version (Instances c.args.program.now) (events_of c.deref.result.now) (events_of events) c.args.range c.part_of-before.result.0 c.part_of-before.result.1 c.len.result c.in-Ok.picture
    (ap events_of c.deref.ensures.value) len c.part_of-before.ensures.before c.part_of-before.ensures.count (omega arith) c.in-Ok.ensures.picture in
    (c.in-Ok.picture, part.0, part.1, c.in-Ok-write_picture.ensures ∙ ap (λ (xs : List ℕ). xs ++ picture_text c.args.names.now c.in-Ok.picture) c.new-out.ensures.items)
