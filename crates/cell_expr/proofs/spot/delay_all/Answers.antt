use Rattle.std.proofs.Common.{ap, ◌∙◌, arith, subst, ◌+◌, ◌/◌, ◌%◌, ◌^◌, get_or, drop, None}
use Rattle.std.specs.Prelude.{pos}
use Rattle.std.proofs.lemmas.List.{drop_more}
use Rattle.vl_eval.specs.Rooms.{names_of}
use Rattle.cell_emit.specs.cell_form.specs.Views.{list_of}
use Rattle.cell_emit.specs.Slots.{Gives, Nothing, held}
use Rattle.cell_emit.specs.declared.place.Place.TheVariants as place
use Rattle.cell_expr.specs.declared.spot.Spot.{Spot}
use Rattle.cell_emit.proofs.Frames.{grows-then, in-stays, width-stays}
use Rattle.cell_emit.specs.Envs.{env_of}
use Rattle.cell_emit.proofs.Staying.{fits-stays, is-slot-stays}
use Rattle.cell_emit.specs.Pendings.{slots_of, memories_of}
use Rattle.cell_emit.proofs.Keeping.{pending-stays}
use Rattle.cell_expr.specs.Spots.{IsSpot, bits_of}
use Rattle.cell_expr.proofs.Spotting.{first-spot, rest-spots, is-spot-stays, are-spots-stay}
use Rattle.cell_expr.proofs.Delaying.{delays-left, delays-over, sites-left, sites-over}
use Rattle.cell_expr.proofs.spot.delay_all.Goals as goal

pub delay_one-requires-clause-first : goal.delay_one-requires-clause-first
delay_one-requires-clause-first c =
    let names = names_of c.args.room.now in
    let cells = list_of c.loop-spot.cells in
    let first = c.args.at.now.first in
    let spot = first-spot (IsSpot names first cells) c.args.spots.now c.loop-spot.spot-index _ c.loop-spot-test.true c.loop-spot.invariant.spots in
    (first, is-spot-stays names first cells (list_of c.part_of.new.cells) _ c.in_ok-part.ensures.grows spot)

pub delay_one-requires-clause-zero : goal.delay_one-requires-clause-zero
delay_one-requires-clause-zero c = (fits-stays (names_of c.args.room.now) (list_of c.loop-spot.cells) (list_of c.part_of.new.cells) (env_of c.args.at.now) c.in_ok-part.ensures.grows c.loop-spot.invariant.fits).is_here

pub delay_one-requires-clause-pending : goal.delay_one-requires-clause-pending
delay_one-requires-clause-pending c = pending-stays (names_of c.args.room.now) (list_of c.loop-spot.cells) (list_of c.part_of.new.cells) (slots_of c.loop-spot.pending) c.in_ok-part.ensures.grows c.loop-spot.invariant.pending

pub loop-spot-preserved : goal.loop-spot-preserved
loop-spot-preserved c =
    let names = names_of c.args.room.now in
    let at = env_of c.args.at.now in
    let spots = c.args.spots.now in
    let i = c.loop-spot.spot-index in
    let d : Spot = record { signal = 0; word = None; low = place.Constant (pos 0); width = 0 } in
    let l0 = list_of c.loop-spot.cells in
    let l1 = list_of c.part_of.new.cells in
    let l2 = list_of c.delay_one.new.cells in
    let p0 = slots_of c.loop-spot.pending in
    let p1 = slots_of c.delay_one.new.pending in
    let l = c.loop-spot.invariant in
    let there = c.loop-spot-test.true in
    let spot = first-spot (IsSpot names at.first l0) spots i d there l.spots in
    let g01 = c.in_ok-part.ensures.grows in
    let g02 = grows-then l0 l1 l2 g01 c.in_ok-delay_one.ensures.grows in
    let a = c.in_ok-delay_one.ensures.delays in
    let rest = rest-spots (IsSpot names at.first l0) spots i d there l.spots in
    let below = l.below in
    let more = ap bits_of (drop_more spots i d there) in
    let width = spot.width.wide in
    let within = l.within in
    let same = width-stays l0 l2 c.args.value g02 l.value in
    let narrow = l.narrow in
    record {
      grows = grows-then (list_of c.args.cells.now) l0 l2 l.grows g02;
      fits = fits-stays names l0 l2 at g02 l.fits;
      pending = a.pending;
      many = a.many ∙ l.many;
      spots = are-spots-stay names at.first l0 l2 (drop (i + 1) spots) g02 rest;
      value = in-stays l0 l2 c.args.value g02 l.value;
      within = omega (arith, more, within, same);
      narrow = omega (arith, narrow, same);
      off = is-slot-stays l0 l2 c.args.off 1 g02 l.off;
      sites = sites-left spots i d (memories_of c.loop-spot.pending.sites.items) (memories_of c.delay_one.new.pending.sites.items) _ there c.in_ok-delay_one.ensures.sites l.sites;
      below = omega (arith, below, more);
      leads = λ p new u. l.leads p new (delays-left names at.first c.args.value c.args.off c.in_ok-part.part spots i d p0 p1 p l0 l1 l2 new there l.pending l.off.there l.value l.spots
          (subst (λ n. Gives Nothing 1 l0 l1 c.in_ok-part.part (get_or spots i d).width (λ b. held b l0 c.args.value / 2 ^ n % 2 ^ (get_or spots i d).width)) (omega (arith, below, more)) c.in_ok-part.ensures.gives) a u);
    }

pub returns-clause-delays : goal.returns-clause-delays
returns-clause-delays c =
    let l = c.loop-spot.invariant in
    l.leads (slots_of c.loop-spot.pending) (list_of c.loop-spot.cells) (delays-over (names_of c.args.room.now) c.args.value c.args.off c.args.spots.now c.loop-spot.spot-index (slots_of c.loop-spot.pending) (list_of c.loop-spot.cells) c.loop-spot-test.false l.pending)

pub returns-clause-sites : goal.returns-clause-sites
returns-clause-sites c = sites-over c.args.spots.now c.loop-spot.spot-index (memories_of c.loop-spot.pending.sites.items) _ c.loop-spot-test.false c.loop-spot.invariant.sites

pub returns-in_err-part-clause-grows : goal.returns-in_err-part-clause-grows
returns-in_err-part-clause-grows c =
    let l0 = list_of c.args.cells.now in
    let l1 = list_of c.loop-spot.cells in
    let l2 = list_of c.part_of.new.cells in
    grows-then l0 l1 l2 c.loop-spot.invariant.grows c.part_of.ensures.grows

pub returns-in_err-delay_one-clause-grows : goal.returns-in_err-delay_one-clause-grows
returns-in_err-delay_one-clause-grows c =
    let l0 = list_of c.args.cells.now in
    let l1 = list_of c.loop-spot.cells in
    let l2 = list_of c.part_of.new.cells in
    let l3 = list_of c.delay_one.new.cells in
    grows-then l0 l1 l3 c.loop-spot.invariant.grows (grows-then l1 l2 l3 c.in_ok-part.ensures.grows c.delay_one.ensures.grows)

pub returns-clause-grows : goal.returns-clause-grows
returns-clause-grows c = c.loop-spot.invariant.grows
