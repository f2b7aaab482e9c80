use Rattle.std.proofs.Common.{◌≡◌, ◌++◌, take}
use Rattle.chr_commands.specs.Files.{of_kind}
use Rattle.chr_commands.proofs.files.all_paths.Given as goal

abbrev pub invariant-loop-path : goal.invariant-loop-path
invariant-loop-path l =
    l.paths.items ≡ l.fn.first ++ of_kind l.fn.text (take l.path-index l.fn.more)
