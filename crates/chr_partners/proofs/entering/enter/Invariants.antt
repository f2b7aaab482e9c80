use Rattle.std.proofs.Common.{◌≡◌, ℕ, ◌<◌, length, true}
use Rattle.chr_partners.specs.Partners.{IsIn}
use Rattle.chr_partners.specs.Hashes.{atom_hash}
use Rattle.chr_partners.specs.Homes.{is_kept, labels_at, HasAll}
use Rattle.chr_partners.proofs.entering.enter.Given as goal

-- the label is at the homes of the keys of the places so far
abbrev pub invariant-loop-place : goal.invariant-loop-place
invariant-loop-place g l = record {
  entered : (p : ℕ) → p < l.place → is_kept l.places l.atom.name p ≡ true → IsIn l.label (labels_at l.homes (atom_hash l.atom p));
  all : HasAll l.fn.homes l.homes;
  count : length l.homes ≡ length l.fn.homes;
}
