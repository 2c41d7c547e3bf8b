-- Snapshots of counters.
use Rattle.std.proofs.Common.{◌≡◌, [], ◌∷◌, codes, Ok, Err, refl, arith}
use Rattle.std.specs.Fmt.{digits}
use Rattle.host_text.specs.vl_design.specs.Examples.{counter}
use Rattle.host_text.specs.snap_form.specs.declared.snapshot.Snapshot.{Snapshot}
use Rattle.host_text.specs.snap_form.specs.declared.snapshot.SnapError.TheVariants.{Bad}
use Rattle.host_text.specs.snap_form.specs.Reading.{read, number, number_if, same_number, same_bytes, heading_at, row_at, rows_at, words_at, slot_at, name_at, place_at, flag_at, file_at, files_at, last_at, snapshot_at}
use Rattle.host_form.specs.Origins.{rows_of, IsOrigin, resumed, late, misspelt, IsRefused, for_its_snapshot, no_place, snapshot_kind}
use Rattle.host_form.specs.Examples.{lone_script, counter_bytes, narrow, resumed_tenant, resumed_origin}

abbrev counter-snapshot : Snapshot
counter-snapshot = record { tick = 2; rows = rows_of counter; words = 2 ∷ []; files = [] }

counter-read : read (rows_of counter) [] (counter_bytes 2 8 2) ≡ Ok counter-snapshot
unfolding number number_if same_number same_bytes heading_at row_at rows_at words_at slot_at name_at place_at flag_at file_at files_at last_at snapshot_at
counter-read = refl

narrow-read : read (rows_of narrow) [] (counter_bytes 2 4 18) ≡ Err (Bad 6 34)
unfolding number number_if same_number same_bytes heading_at row_at rows_at words_at slot_at name_at place_at flag_at file_at files_at last_at snapshot_at
narrow-read = refl

pub counter-resumed : IsOrigin lone_script.fabrics (resumed_tenant 5 counter (counter_bytes 2 8 2)) resumed_origin
counter-resumed = record { design = refl; room = refl; files = refl; plan = refl; start = resumed counter-snapshot counter-read (omega arith) }

six : codes "snapshot 6" ≡ snapshot_kind 6
unfolding digits
six = refl

eight : codes "snapshot 8" ≡ snapshot_kind 8
unfolding digits
eight = refl

pub narrow-refused : IsRefused lone_script.fabrics (resumed_tenant 5 narrow (counter_bytes 2 4 18)) no_place (codes "snapshot 6")
narrow-refused = for_its_snapshot refl refl (misspelt 6 34 narrow-read) refl six

pub late-refused : IsRefused lone_script.fabrics (resumed_tenant 1 counter (counter_bytes 2 8 2)) no_place (codes "snapshot 8")
late-refused = for_its_snapshot refl refl (late counter-snapshot counter-read (omega arith)) refl eight
