use Rattle.std.proofs.Common.{◌≡◌, ◌≤◌, vec_len, vec_capacity}
use Rattle.chr_serve.proofs.serving.make_memory.Given as goal

abbrev pub invariant-loop : goal.invariant-loop
invariant-loop g l = (vec_len l.memory ≡ l.counter) × (16 ≤ vec_capacity l.memory)
