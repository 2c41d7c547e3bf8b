-- What a snapshot holds: the variables and memories, and the open files (own).
use Rattle.std.specs.Prelude.{ℕ, Bool, true, false, List, [], ◌∷◌, ◌++◌, take, drop, map, filter, replicate, if◌then◌else◌}
use Rattle.std.specs.Str.{bytes_eq}
use Rattle.vl_base.specs.declared.files.OpenFile.{OpenFile}
use Rattle.vl_design.specs.declared.design.SigKind.{SigKind}
use Rattle.vl_design.specs.declared.design.SigKind.TheVariants.{Var, Mem}
use Rattle.vl_design.specs.Syntax.{Row}
use Rattle.vl_design.specs.State.{State}

-- a row of a snapshot: 0 words for a variable
pub record SnapRow : Type 0 where
  pub name : List ℕ
  pub width : ℕ
  pub words : ℕ

pub record Snapshot : Type 0 where
  pub tick : ℕ
  pub rows : List SnapRow
  -- the words of all rows, one row behind the other
  pub words : List ℕ
  pub files : List OpenFile

-- nets, variables that combinational processes write, loop variables and clocks aren't kept
abbrev pub is_kept : SigKind → Bool
is_kept Var = true
is_kept Mem = true
is_kept k = false

-- how many words a snapshot says of a signal: none of a variable
abbrev pub snap_words : SigKind → ℕ → ℕ
snap_words Mem n = n
snap_words k n = 0

-- the rows of a snapshot of a design
abbrev pub snap_rows : List Row → List SnapRow
snap_rows rows = map (λ r. record { name = r.name; width = r.width; words = snap_words r.kind r.words }) (filter (λ r. is_kept r.kind) rows)

abbrev pub kept_words : List Row → List (List ℕ) → List ℕ
kept_words [] values = []
kept_words (r ∷ rs) [] = []
kept_words (r ∷ rs) (ws ∷ wss) = (if is_kept r.kind then ws else []) ++ kept_words rs wss

-- the snapshot of a state
abbrev pub snapshot_of : List Row → State → Snapshot
snapshot_of rows s = record { tick = s.ticks; rows = snap_rows rows; words = kept_words rows s.values; files = s.table }

-- the values of a snapshot's words: each signal that isn't kept is 0
abbrev pub kept_values : List Row → List ℕ → List (List ℕ)
kept_values [] words = []
kept_values (r ∷ rs) words =
    if is_kept r.kind then take r.words words ∷ kept_values rs (drop r.words words) else replicate r.words 0 ∷ kept_values rs words

-- a snapshot under its name
pub record Saved : Type 0 where
  pub name : List ℕ
  pub snapshot : Snapshot

-- the last snapshot of each name is kept, in order of first use
abbrev pub saved_over : List Saved → Saved → List Saved
saved_over [] s = s ∷ []
saved_over (x ∷ xs) s = if bytes_eq x.name s.name then s ∷ xs else x ∷ saved_over xs s

-- the snapshots of one state under these names, made in order
abbrev pub all_saved : List Saved → List (List ℕ) → Snapshot → List Saved
all_saved saved [] snapshot = saved
all_saved saved (n ∷ ns) snapshot = all_saved (saved_over saved (record { name = n; snapshot = snapshot })) ns snapshot
