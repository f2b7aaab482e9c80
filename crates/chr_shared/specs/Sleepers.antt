-- What workers and sessions that begin, end, sleep and wake make of the counts.
use Rattle.std.specs.Prelude.{ℕ, ◌+◌, ◌-◌, ◌*◌, ◌%◌, ◌^◌, min, true, if◌then◌else◌, nat_le, nat_lt}
use Rattle.chr_shared.specs.declared.sleepers.Sleepers.{Sleepers}

-- so many more, up to the greatest number of 32 bits
abbrev pub more : ℕ → ℕ → ℕ
more k n = min (n + k) (2 ^ 32 - 1)

-- A hold more. Where as many holds are unseen as the sleeping sessions look after, each after `look`
-- of them, none is unseen from then on.
abbrev pub one_hold_more : ℕ → Sleepers → Sleepers
one_hold_more look s =
    let unseen = min (s.unseen + 1) (2 ^ 64 - 1) in
    record s {
      holds = (s.holds + 1) % 2 ^ 64;
      unseen = if nat_le (look * s.watching) unseen then 0 else unseen;
    }

-- a worker begins, and one that is awake ends
abbrev pub one_begins : Sleepers → Sleepers
one_begins s = record s { begun = true; awake = more 1 s.awake }

abbrev pub one_less_awake : Sleepers → Sleepers
one_less_awake s = record s { awake = s.awake - 1 }

-- so many of those that rest are told, and count as awake
abbrev pub told_so_many : ℕ → Sleepers → Sleepers
told_so_many k s =
    record s { resting = s.resting - k; awake = more k s.awake; told = more k s.told }

-- one that is awake goes to sleep, alone or as one that ends where none is awake
abbrev pub one_rests : Sleepers → Sleepers
one_rests s = record s { awake = s.awake - 1; resting = more 1 s.resting }

abbrev pub one_rests_together : Sleepers → Sleepers
one_rests_together s = record (one_rests s) { together = more 1 s.together }

-- One that sleeps wakes up and works: it was told to, where any was; else it counts as awake now.
abbrev pub one_wakes : Sleepers → Sleepers
one_wakes s =
    if nat_lt 0 s.told
    then record s { told = s.told - 1 }
    else record s { resting = s.resting - 1; awake = more 1 s.awake }

-- One that rested together with others wakes up: it was told to, where any was; else it has ended.
abbrev pub one_wakes_together : Sleepers → Sleepers
one_wakes_together s =
    if nat_lt 0 s.told
    then record s { together = s.together - 1; told = s.told - 1 }
    else record s { together = s.together - 1; resting = s.resting - 1 }

-- how many holds there were since so many, modulo 2^64
abbrev pub holds_since : ℕ → Sleepers → ℕ
holds_since seen s = (s.holds + (2 ^ 64 - seen)) % 2 ^ 64
