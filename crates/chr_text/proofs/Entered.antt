-- The table after a text that was read has all its names.
use Rattle.std.proofs.Common.{◌≡◌, ℕ, List, length, take, Ok}
use Rattle.std.specs.List.{AllByRecursion}
use Rattle.chr_value.specs.Atoms.{AtomIsNamed}
use Rattle.chr_value.specs.Naming.{Table}
use Rattle.chr_value.proofs.Inside.{atom_inside}
use Rattle.chr_text.specs.Named.{RulesAreNamed}
use Rattle.chr_text.specs.Reading.{Program, program_of, Posts, posts_of}
use Rattle.chr_text.proofs.Lists.{each_so}
use Rattle.chr_text.proofs.Writable.{program_held}
use Rattle.chr_text.proofs.Writable as writable

pub program_named : (table : Table) (bytes : List ℕ) (p : Program) → program_of table bytes ≡ Ok p → RulesAreNamed p.1 p.0
program_named table bytes p h = each_so _ _ (λ r held. held.0) p.0 (program_held table bytes p h)

pub posts_named : (table : Table) (bytes : List ℕ) (p : Posts) → posts_of table bytes ≡ Ok p → AllByRecursion (AtomIsNamed (length p.1)) p.0
posts_named table bytes p h = each_so _ _ (atom_inside p.1) p.0 (writable.posts_writable table bytes p h)

pub posts_kept : (table : Table) (bytes : List ℕ) (p : Posts) → posts_of table bytes ≡ Ok p → take (length table) p.1 ≡ table
posts_kept = writable.posts_kept
