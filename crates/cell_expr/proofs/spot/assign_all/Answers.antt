use Rattle.std.proofs.Common.{ap, sym, arith, subst, ◌+◌, ◌/◌, ◌%◌, ◌^◌, get_or, drop, All, None}
use Rattle.std.specs.Prelude.{pos}
use Rattle.std.proofs.lemmas.List.{drop_more}
use Rattle.vl_design.specs.declared.design.Form.{Form}
use Rattle.vl_eval.specs.Rooms.{names_of}
use Rattle.cell_emit.specs.cell_form.specs.Views.{list_of}
use Rattle.cell_emit.specs.Slots.{Gives, Nothing, held}
use Rattle.cell_emit.specs.declared.place.Place.TheVariants as place
use Rattle.cell_expr.specs.declared.spot.Spot.{Spot}
use Rattle.cell_emit.proofs.Frames.{grows-then, in-stays, width-stays}
use Rattle.cell_emit.specs.Envs.{env_of}
use Rattle.cell_emit.proofs.Staying.{fits-stays, is-slot-stays}
use Rattle.cell_expr.specs.Spots.{IsSpot, bits_of}
use Rattle.cell_expr.proofs.Spotting.{room-one, first-spot, rest-spots, are-spots-stay, whole-spots, of-signal, updates-left, updates-over}
use Rattle.cell_expr.proofs.spot.assign_all.Goals as goal

pub assign-requires-clause-signal : goal.assign-requires-clause-signal
assign-requires-clause-signal c =
    let names = names_of c.args.room.now in
    let at = env_of c.loop-spot.at in
    let cells = list_of c.loop-spot.cells in
    let l = c.loop-spot.invariant in
    let spot = first-spot (IsSpot names at.first cells) c.args.spots.now c.loop-spot.spot-index _ c.loop-spot-test.true l.spots in
    let none = whole-spots c.args.spots.now c.loop-spot.spot-index _ c.loop-spot-test.true l.whole in
    let signal = of-signal names at.first cells _ _ none.0 spot.is_of in (
      names,
      record {
        one = room-one c.args.room.now;
        fits = fits-stays names cells (list_of c.part_of.new.cells) at c.in_ok-part.ensures.grows l.fits;
        is_signal = signal.0;
        width = sym (ap (λ (f : Form). f.width) c.signal_form-wide.ensures.value);
        first = signal.1;
      },
    )

pub loop-spot-preserved : goal.loop-spot-preserved
loop-spot-preserved c =
    let names = names_of c.args.room.now in
    let at = env_of c.loop-spot.at in
    let spots = c.args.spots.now in
    let i = c.loop-spot.spot-index in
    let d : Spot = record { signal = 0; word = None; low = place.Constant (pos 0); width = 0 } in
    let l0 = list_of c.loop-spot.cells in
    let l1 = list_of c.part_of.new.cells in
    let l2 = list_of c.assign.new.cells in
    let l = c.loop-spot.invariant in
    let there = c.loop-spot-test.true in
    let spot = first-spot (IsSpot names at.first l0) spots i d there l.spots in
    let none = whole-spots spots i d there l.whole in
    let signal = of-signal names at.first l0 _ _ none.0 spot.is_of in
    let g01 = c.in_ok-part.ensures.grows in
    let g02 = grows-then l0 l1 l2 g01 c.in_ok-assign.ensures.grows in
    let a = c.in_ok-assign.ensures.assigns names (record {
      one = room-one c.args.room.now;
      fits = fits-stays names l0 l1 at g01 l.fits;
      is_signal = signal.0;
      width = sym (ap (λ (f : Form). f.width) c.signal_form-wide.ensures.value);
      first = signal.1;
    }) in
    let rest = rest-spots (IsSpot names at.first l0) spots i d there l.spots in
    let left = l.left in
    let more = ap bits_of (drop_more spots i d there) in
    let width = spot.width.wide in
    let within = l.within in
    let same = width-stays l0 l2 c.args.value g02 l.value in
    let narrow = l.narrow in
    record {
      grows = grows-then (list_of c.args.cells.now) l0 l2 l.grows g02;
      fits = a.fits;
      spots = subst (λ n. All (IsSpot names n l2) (drop (i + 1) spots)) (sym a.keeps.first) (are-spots-stay names at.first l0 l2 (drop (i + 1) spots) g02 rest);
      whole = none.1;
      value = in-stays l0 l2 c.args.value g02 l.value;
      within = omega (arith, more, within, same);
      narrow = omega (arith, narrow, same);
      off = is-slot-stays l0 l2 c.args.off 1 g02 l.off;
      left = omega (arith, left, more);
      leads = λ at' new u. l.leads at' new (updates-left names c.args.value c.args.off c.in_ok-part.part spots i d at (env_of c.assign.new.at) at' l0 l1 l2 new there none.0 l.fits l.off.there l.value l.spots
          (subst (λ n. Gives Nothing 1 l0 l1 c.in_ok-part.part (get_or spots i d).width (λ b. held b l0 c.args.value / 2 ^ n % 2 ^ (get_or spots i d).width)) (omega (arith, left, more)) c.in_ok-part.ensures.gives) a u);
    }

pub returns-clause-updates : goal.returns-clause-updates
returns-clause-updates c =
    let l = c.loop-spot.invariant in
    l.leads (env_of c.loop-spot.at) (list_of c.loop-spot.cells) (updates-over (names_of c.args.room.now) c.args.value c.args.off c.args.spots.now c.loop-spot.spot-index (env_of c.loop-spot.at) (list_of c.loop-spot.cells) c.loop-spot-test.false l.fits)

pub returns-in_err-part-clause-grows : goal.returns-in_err-part-clause-grows
returns-in_err-part-clause-grows c =
    let l0 = list_of c.args.cells.now in
    let l1 = list_of c.loop-spot.cells in
    let l2 = list_of c.part_of.new.cells in
    grows-then l0 l1 l2 c.loop-spot.invariant.grows c.part_of.ensures.grows

pub returns-in_err-assign-clause-grows : goal.returns-in_err-assign-clause-grows
returns-in_err-assign-clause-grows c =
    let l0 = list_of c.args.cells.now in
    let l1 = list_of c.loop-spot.cells in
    let l2 = list_of c.part_of.new.cells in
    let l3 = list_of c.assign.new.cells in
    grows-then l0 l1 l3 c.loop-spot.invariant.grows (grows-then l1 l2 l3 c.in_ok-part.ensures.grows c.assign.ensures.grows)

pub returns-clause-grows : goal.returns-clause-grows
returns-clause-grows c = c.loop-spot.invariant.grows
