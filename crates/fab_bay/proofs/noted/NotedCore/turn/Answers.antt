use Rattle.std.proofs.Common.{◌≡◌, List, [], refl, ap, ◌∙◌, subst}
use Rattle.fab_bay.specs.declared.leaving.Leaving.{Leaving}
use Rattle.fab_bay.specs.declared.noted.NotedCore.{NotedCore}
use Rattle.fab_bay.specs.Ways.{transits, Goes, IsEmpty, Way}
use Rattle.fab_bay.proofs.Calls.{all-whole, bay-again, second-on, whole, IsLike}
use Rattle.fab_bay.proofs.Going.{empty-on}
use Rattle.fab_bay.proofs.Rounds.{empty-vacant, vacant-empty}
use Rattle.fab_bay.proofs.noted.NotedCore.turn.Goals as goal

pub returns-clause-turned : goal.returns-clause-turned
returns-clause-turned c =
    let k = c.args.number in
    let x = c.args.self.now in
    let b = c.prepare.new.self in
    let m = c.rounds-short.new.self in
    let d = c.settle.new.self in
    let e : NotedCore = record { label = d.label; core = d.core; berths = d.berths; waiting = d.waiting; notes = d.notes; told = c.replace-entries.new.dest } in
    let s = c.prepare.ensures.same in
    let r = c.rounds-short.ensures.rounds in
    let out = transits c.rounds-short.new.leaving.items in
    let said = c.replace-entries.result.items in
    let begins : IsLike x b = record { label = s.label; core = s.core; berths = s.berths; waiting = s.waiting; notes = s.notes } in
    let ends : IsLike d e = record { label = refl; core = refl; berths = refl; waiting = refl; notes = refl } in
    let goes : Goes k r.cycles b m [] out = subst (λ (ls : List Leaving). Goes k r.cycles b m (transits ls) out) c.new-leaving.ensures.items r.goes in
    let way : Way k r.cycles x e [] said [] out
    = whole k r.cycles x b m d e said out begins (s.told ∙ c.new.ensures.items) goes (c.settle.ensures.goes out) ends (ap (λ v. v.items) c.replace-entries.ensures.value) in
    record {
      cycles = r.cycles;
      goes = way;
      entries = way.told;
      few = r.few;
      all = λ h. second-on (r.cycles ≡ c.args.most) (IsEmpty m.notes.items) (IsEmpty d.notes.items) (empty-on k 0 m d m.told.items d.told.items out out (c.settle.ensures.goes out)) (r.all h);
      whys = c.rounds-short.ensures.whys;
      whole = all-whole k r.cycles x b m d e said out begins ends goes (c.settle.ensures.goes out) way c.settle.ensures.whole;
    }

pub returns-clause-idle : goal.returns-clause-idle
returns-clause-idle c =
    let x = c.args.self.now in
    let bay = c.requires.bay in (
      λ h. vacant-empty x bay.fabric bay.noted (c.is_vacant-idle.ensures.0 h),
      λ h. c.is_vacant-idle.ensures.1 (empty-vacant x bay.fabric bay.noted h),
    )

pub returns-clause-bay : goal.returns-clause-bay
returns-clause-bay c =
    let d = c.settle.new.self in
    let e : NotedCore = record { label = d.label; core = d.core; berths = d.berths; waiting = d.waiting; notes = d.notes; told = c.replace-entries.new.dest } in
    bay-again c.args.number c.rounds-short.new.self d e c.rounds-short.ensures.ready (c.settle.ensures.goes []) c.settle.ensures.settled
    (record { label = refl; core = refl; berths = refl; waiting = refl; notes = refl })

pub returns-clause-label : goal.returns-clause-label
returns-clause-label c = (c.settle.ensures.goes []).label ∙ (c.rounds-short.ensures.rounds.goes.label ∙ c.prepare.ensures.same.label)
