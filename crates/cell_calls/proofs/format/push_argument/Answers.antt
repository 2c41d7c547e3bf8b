use Rattle.std.proofs.Common.{refl, map, [], ◌∷◌}
use Rattle.vl_base.specs.Display.{Decimal}
use Rattle.vl_design.specs.Formats.{InText, format_pieces, pieces_from, taken}
use Rattle.vl_design.specs.Sound.{IsSoundExp}
use Rattle.vl_design.specs.Syntax.{Literal, Shown}
use Rattle.vl_design.specs.Trees.{arg_of, exp_of, flat_of}
use Rattle.vl_design.specs.Width.{names_of}
use Rattle.cell_emit.specs.cell_form.specs.Views.{list_of}
use Rattle.cell_emit.specs.Envs.{env_of}
use Rattle.ten_form.specs.Asked.{shown}
use Rattle.cell_calls.proofs.Extending.{shown-append}
use Rattle.cell_calls.proofs.Walking.{adds-text, adds-item, walked-adds, first-of, head-of}
use Rattle.cell_calls.proofs.format.push_argument.Goals as goal

pub returns-in_ok-push_text-in-Null-clause-walked : goal.returns-in_ok-push_text-in-Null-clause-walked
returns-in_ok-push_text-in-Null-clause-walked c =
    let d = flat_of c.args.site.design.now in
    let at = env_of c.args.site.at.now in
    let l = list_of c.args.cells.now in
    let done = c.in_ok-push_text-in-Null.ensures in
    let parts = rw c.as_slice.ensures at done.parts in
    rw c.in-Null.is
    (walked-adds d at (Literal (32 ∷ []) ∷ []) (pieces_from c.args.site.path.now 0 (map arg_of c.args.rest.now)) c.args.display.now c.push_text.new.self l l
    (adds-text d at (32 ∷ []) c.args.display.now c.push_text.new.self l parts done.slots))

pub push_format-requires-clause-sound : goal.push_format-requires-clause-sound
push_format-requires-clause-sound c =
    let sound = rw c.in-Str.is at c.requires.sound in
    let rest = map arg_of c.args.rest.now in
    let ps = format_pieces c.args.site.path.now InText c.in-Str.text rest in
    let qs = pieces_from c.args.site.path.now (taken ps) rest in
    rw c.as_slice-in-Str.ensures (first-of (IsSoundExp (names_of (flat_of c.args.site.design.now))) _ (shown ps) (shown qs) (shown-append ps qs) sound)

pub own_value-requires-clause-expression : goal.own_value-requires-clause-expression
own_value-requires-clause-expression c =
    let sound = rw c.in-Value.is at c.requires.sound in
    head-of (IsSoundExp (names_of (flat_of c.args.site.design.now))) (exp_of c.in-Value.e) _ sound

pub returns-in_ok-push_item-in-Value-clause-walked : goal.returns-in_ok-push_item-in-Value-clause-walked
returns-in_ok-push_item-in-Value-clause-walked c =
    let d = flat_of c.args.site.design.now in
    let at = env_of c.args.site.at.now in
    let l = list_of c.args.cells.now in
    let l' = list_of c.own_value.new.cells in
    let own = c.in_ok-own-in-Value.own in
    let owns = c.in_ok-own-in-Value.ensures.gives in
    let done = c.in_ok-push_item-in-Value.ensures in
    rw c.in-Value.is
    (walked-adds d at (Shown Decimal (exp_of c.in-Value.e) ∷ []) (pieces_from c.args.site.path.now 0 (map arg_of c.args.rest.now)) c.args.display.now c.push_item.new.self l l'
    (adds-item d at Decimal (exp_of c.in-Value.e) c.args.display.now c.push_item.new.self l l' own owns (done.parts (names_of d) Decimal (exp_of c.in-Value.e) refl owns.width owns.signed) done.slots))
