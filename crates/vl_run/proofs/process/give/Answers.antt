use Rattle.std.proofs.Common.{◌≡◌, length, sym, subst}
use Rattle.std.specs.Prelude.{All, IfOk}
use Rattle.std.proofs.lemmas.List.{length-map}
use Rattle.vl_design.specs.Sound.{IsSoundFun}
use Rattle.vl_design.specs.Trees.{fun_of}
use Rattle.vl_design.specs.Width.{Names, Scope, input_widths}
use Rattle.vl_eval.specs.Rooms.{names_of, Fit}
use Rattle.vl_run.proofs.Designs.{same-scope}
use Rattle.vl_run.proofs.process.give.Goals as goal

pub call-requires : goal.call-requires
call-requires c =
    let e = sym c.room_of-room.ensures.names in
    record {
      funs = subst (λ (n : Names). All (IsSoundFun n) n.funs) e c.requires.sound.funs;
      fit = subst (λ (n : Names). Fit c.args.args.items (input_widths n c.args.function)) e c.requires.fit;
    }

pub returns : goal.returns
returns c =
    let room = c.room_of-room.result in
    let same = same-scope c.args.design.now c.args.files.now (names_of room) (length room.funcs.now) c.room_of-room.ensures.names (sym (length-map room.funcs.now fun_of)) in
    subst (λ (s : Scope). IfOk c.call.result (λ v. v ≡ s.call c.args.function c.args.args.items)) same c.call.ensures
