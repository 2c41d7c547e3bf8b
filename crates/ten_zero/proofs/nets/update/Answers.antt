use Rattle.std.proofs.Common.{◌≡◌, refl, sym, ap, ◌∙◌, map, subst}
use Rattle.std.specs.Prelude.{All}
use Rattle.std.proofs.lemmas.List.Elements.{All-nil}
use Rattle.vl_design.specs.Laws.{IsFine}
use Rattle.vl_design.specs.Sound.{IsNamed}
use Rattle.vl_design.specs.State.{all_updated}
use Rattle.vl_design.specs.Trees.{flat_of}
use Rattle.vl_design.specs.Width.{Names, names_of}
use Rattle.vl_eval.specs.Updates.{update_of}
use Rattle.vl_run.proofs.Assigning.{updates-fine}
use Rattle.ten_zero.proofs.nets.update.Goals as goal

pub write_all-requires-clause-named : goal.write_all-requires-clause-named
write_all-requires-clause-named c =
    rw c.deref.ensures.value (subst (λ (n : Names). All (λ u. IsNamed n u.signal) c.args.m.now.later.items) (sym c.room_of-room.ensures.names) c.requires.later)

pub write_all-requires-clause-fine : goal.write_all-requires-clause-fine
write_all-requires-clause-fine c = subst (λ (n : Names). IsFine n.rows c.args.m.now.values.items) (sym c.room_of-room.ensures.names) c.requires.fine

pub returns-clause-state : goal.returns-clause-state
returns-clause-state c = λ n.
    let m = c.args.m.now in
    let e : c.write_all.new.values.items ≡ all_updated (flat_of c.args.design.now).rows m.values.items (map update_of m.later.items) =
    rw (← c.deref.ensures.value) (c.write_all.ensures) ∙ ap (λ (names : Names). all_updated names.rows m.values.items (map update_of m.later.items)) c.room_of-room.ensures.names in
    rw (e, c.clear.ensures.items) refl

pub returns-clause-machine : goal.returns-clause-machine
returns-clause-machine c =
    let m = c.args.m.now in
    let names = names_of (flat_of c.args.design.now) in
    let e : c.write_all.new.values.items ≡ all_updated names.rows m.values.items (map update_of m.later.items) =
    rw (← c.deref.ensures.value) (c.write_all.ensures) ∙ ap (λ (n : Names). all_updated n.rows m.values.items (map update_of m.later.items)) c.room_of-room.ensures.names in
    record {
      fine = updates-fine names m.values.items c.write_all.new.values.items m.later.items c.requires.fine e;
      later = rw c.clear.ensures.items (All-nil (λ u. IsNamed names u.signal));
    }
