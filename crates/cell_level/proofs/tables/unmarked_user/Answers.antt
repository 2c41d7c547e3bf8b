use Rattle.std.proofs.Common.{◌≡◌, ℕ, get_or, refl, ap, ◌∙◌}
use Rattle.std.specs.Prelude.{slice_get}
use Rattle.vl_bits.specs.vl_paths.specs.Bits.{Bit}
use Rattle.vl_bits.specs.declared.parts.Part.{Part}
use Rattle.cell_level.specs.Tables.{in_users, users_of}
use Rattle.cell_level.proofs.Edges.{at_users, among_parts, passed}
use Rattle.cell_level.proofs.tables.unmarked_user.Goals as goal

abbrev none : Part
none = record { signal = 0; bits = 0 }

abbrev bit : ℕ → ℕ → Bit
bit s i = record { signal = s; place = i }

pub unmarked-requires : goal.unmarked-requires
unmarked-requires c p i h =
    let k = c.loop-part.part-index in
    let s = (get_or c.args.parts.now k none).signal in
    let us = c.as_slice-users.result.now in
    let here : users_of (slice_get c.args.table.now s) ≡ us =
    at_users c.args.table.now s c.index-table-part.result us (c.requires.parts k none c.loop-part-test.true) c.index-table-part.is c.as_slice-users.ensures.value in
    c.requires.flags p (bit s i) (ap (λ xs. in_users xs p i) here ∙ h)

pub returns-in-Some-clause-some : goal.returns-in-Some-clause-some
returns-in-Some-clause-some c =
    let k = c.loop-part.part-index in
    let s = (get_or c.args.parts.now k none).signal in
    let us = c.as_slice-users.result.now in
    let here : users_of (slice_get c.args.table.now s) ≡ us =
    at_users c.args.table.now s c.index-table-part.result us (c.requires.parts k none c.loop-part-test.true) c.index-table-part.is c.as_slice-users.ensures.value in
    let found = c.in-Some.ensures.some in (
      found.0,
      (
        bit s found.1.0,
        ap (λ xs. in_users xs c.in-Some.net found.1.0) here ∙ found.1.1,
        among_parts c.args.parts.now k none (bit s found.1.0) c.loop-part-test.true refl found.1.2,
      ),
    )

pub loop-part-preserved : goal.loop-part-preserved
loop-part-preserved c p b h m f =
    let k = c.loop-part.part-index in
    let s = (get_or c.args.parts.now k none).signal in
    let us = c.as_slice-users.result.now in
    let here : users_of (slice_get c.args.table.now s) ≡ us =
    at_users c.args.table.now s c.index-table-part.result us (c.requires.parts k none c.loop-part-test.true) c.index-table-part.is c.as_slice-users.ensures.value in
    passed c.args.table.now c.args.parts.now c.args.flags.now.items k none us c.loop-part-test.true here (λ q i. c.unmarked.ensures.none c.in_default.is q i) p b h f (c.loop-part.invariant p b h m f)
