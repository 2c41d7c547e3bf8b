use Rattle.std.proofs.Common.{List, [], refl, sym, ap, ◌∙◌, subst}
use Rattle.fab_core.specs.fab_model.specs.declared.note.Note.{Note}
use Rattle.fab_core.specs.fab_model.specs.Histories.{place_of, replay}
use Rattle.fab_core.specs.fab_model.specs.Worlds.{run}
use Rattle.fab_bay.specs.declared.leaving.Taken.{Taken}
use Rattle.fab_bay.specs.declared.noted.NotedCore.{NotedCore}
use Rattle.fab_bay.specs.Refusals.{IsAway}
use Rattle.fab_bay.specs.Nearness.{IsWithin}
use Rattle.fab_bay.specs.Standing.{IsBay, IsNoted}
use Rattle.fab_bay.proofs.Arriving.{away_of, here_of}
use Rattle.fab_bay.proofs.Calls.{bay-again, bay-like, IsLike}
use Rattle.fab_bay.proofs.Rises.{found-within, next_tick}
use Rattle.fab_bay.proofs.Taking.{found-by, found-label}
use Rattle.fab_bay.proofs.noted.NotedCore.take.Goals as goal

pub returns-then-not-is_there-clause-taken : goal.returns-then-not-is_there-clause-taken
returns-then-not-is_there-clause-taken c =
    let bay = c.requires.bay in
    (λ _. refl, (away_of c.args.self.now bay.fabric c.args.tenant bay.noted (sym c.is_there.ensures ∙ c.if-not-is_there.true), refl, c.new.ensures.items))

pub returns-clause-taken : goal.returns-clause-taken
returns-clause-taken c =
    let x = c.args.self.now in
    let b = c.prepare.new.self in
    let m = c.take_there-found.new.self in
    let d = c.settle.new.self in
    let e : NotedCore = record { label = d.label; core = d.core; berths = d.berths; waiting = d.waiting; notes = d.notes; told = c.replace-entries.new.dest } in
    let found = c.take_there-found.result in
    let t : Taken = record { entries = c.replace-entries.result; found = found } in
    let s = c.prepare.ensures.same in
    let begins : IsLike x b = record { label = s.label; core = s.core; berths = s.berths; waiting = s.waiting; notes = s.notes } in
    let ends : IsLike d e = record { label = refl; core = refl; berths = refl; waiting = refl; notes = refl } in
    let bay : IsBay b = bay-like x b begins c.requires.bay in
    let within : IsWithin (next_tick x.notes.items) b = subst (λ (ns : List Note). IsWithin (next_tick ns) b) s.notes (found-within b bay.fabric bay.noted bay.settled) in
    let ready = c.take_there-found.ensures.ready in
    let f = (run (c.settle.ensures.goes []).events (record { fabric = ready.fabric; transit = [] })).fabric in
    let noted : IsNoted d f = ((c.settle.ensures.goes []).leads ready.fabric [] ready.noted tt).0 in
    let there : (IsAway x.notes.items c.args.tenant → ⊥) = here_of x c.requires.bay.fabric c.args.tenant c.requires.bay.noted (sym c.is_there.ensures ∙ c.if-not-is_there.false) in (
      λ away. absurd (there away),
      found-by c.args.number c.args.tenant x b m d e t begins (s.told ∙ c.new-2.ensures.items) c.settle.ensures.goes ends (ap (λ v. v.items) c.replace-entries.ensures.value) there
          within c.take_there-found.ensures.near c.settle.ensures.core f noted c.settle.ensures.whole found c.take_there-found.ensures.found,
    )

pub returns-clause-bay : goal.returns-clause-bay
returns-clause-bay c =
    let d = c.settle.new.self in
    let e : NotedCore = record { label = d.label; core = d.core; berths = d.berths; waiting = d.waiting; notes = d.notes; told = c.replace-entries.new.dest } in
    bay-again c.args.number c.take_there-found.new.self d e c.take_there-found.ensures.ready (c.settle.ensures.goes []) c.settle.ensures.settled
    (record { label = refl; core = refl; berths = refl; waiting = refl; notes = refl })

pub returns-clause-label : goal.returns-clause-label
returns-clause-label c =
    (c.settle.ensures.goes []).label
    ∙ (found-label c.args.number c.args.tenant c.prepare.new.self c.take_there-found.new.self c.take_there-found.result c.take_there-found.ensures.found ∙ c.prepare.ensures.same.label)

pub take_there-found-requires-clause-there : goal.take_there-found-requires-clause-there
take_there-found-requires-clause-there c = λ away.
    here_of c.args.self.now c.requires.bay.fabric c.args.tenant c.requires.bay.noted (sym c.is_there.ensures ∙ c.if-not-is_there.false)
    (ap (λ (ns : List Note). place_of c.args.tenant (replay [] ns)) (sym c.prepare.ensures.same.notes) ∙ away)
