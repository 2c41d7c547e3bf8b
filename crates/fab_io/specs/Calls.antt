-- Counts that stand still at their end, and numbered calls of which some are to fail.
use Rattle.std.specs.Prelude.{ℕ, ◌+◌, ◌==◌, Bool, List, [], if◌then◌else◌, nat_lt}
use Rattle.std.specs.List.{list_any}
use Rattle.fab_io.specs.Outside.{Miss, most_count}

-- a count's next value
abbrev pub next_count : ℕ → ℕ
next_count n = if nat_lt n most_count then n + 1 else n

-- how many calls were made, the numbers of those that are to fail, and how many failed
pub record Calls : Type 0 where
  pub made : ℕ
  pub failing : List ℕ
  pub faults : ℕ

-- no call was made, and none is to fail
abbrev pub no_calls : Calls
no_calls = record { made = 0; failing = []; faults = 0 }

-- the next call is listed as one that is to fail
abbrev pub fails_next : Calls → Bool
fails_next calls = list_any (λ number. number == next_count calls.made) calls.failing

-- a call more was made; where it is listed, it failed
abbrev pub after_call : Calls → Calls
after_call calls = record calls {
  made = next_count calls.made;
  faults = (if fails_next calls then next_count calls.faults else calls.faults);
}

-- how often a store of real files failed, how often it reported a file absent or too long, and the reads that failed
pub record Reports : Type 0 where
  pub faults : ℕ
  pub absences : ℕ
  pub missed : List Miss
