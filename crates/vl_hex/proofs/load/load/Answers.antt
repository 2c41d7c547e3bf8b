use Rattle.std.proofs.Common.{◌≡◌, ◌+◌, ◌++◌, ℕ, List, [], refl, sym, ap, ◌∙◌, append-nil, get_or, drop}
use Rattle.std.proofs.lemmas.List.{drop_all}
use Rattle.vl_design.specs.ReadHex as h
use Rattle.vl_hex.proofs.Loads.{next-some, next-over, stopped, all-done, steps-none, steps-some}
use Rattle.vl_hex.proofs.load.load.Goals as goal

pub loop-byte-init : goal.loop-byte-init
loop-byte-init c = record { at = h.BetweenWords; alike = tt; loads = refl }

pub returns-in_default : goal.returns-in_default
returns-in_default c =
    let m = c.args.memory in
    let l = c.loop-byte in
    let v = l.invariant in
    let text = c.args.text.now in
    let over = next-over m.width m.lowest m.count (h.read_next v.at (get_or text l.byte-index 0)) c.read_byte.result c.in_default.not-Some (c.read_byte.ensures m.width v.at c.requires.width.narrow v.alike) in
    let none = steps-none v.at text l.byte-index c.loop-byte-test.true over in
    ap (λ ss. h.loaded m.width m.lowest m.count l.number ss l.words) (sym none) ∙ v.loads

pub returns-in_default-load_step : goal.returns-in_default-load_step
returns-in_default-load_step c =
    let m = c.args.memory in
    let l = c.loop-byte in
    let v = l.invariant in
    let text = c.args.text.now in
    let x = next-some m.width m.lowest m.count (h.read_next v.at (get_or text l.byte-index 0)) c.in-Some.read (c.in-Some.ensures m.width v.at c.requires.width.narrow v.alike) in
    let some = steps-some v.at text l.byte-index c.loop-byte-test.true x.0 x.1 x.2 in
    let rest = h.steps x.1 (drop (l.byte-index + 1) text) in
    let step = c.load_step.ensures x.0 rest x.3 in
    let end = stopped m.width m.lowest m.count c.load_step.result rest c.load_step.new.words c.in_default-load_step.not-Some in
    sym (step ∙ end) ∙ (ap (λ ss. h.loaded m.width m.lowest m.count l.number ss l.words) (sym some) ∙ v.loads)

pub loop-byte-preserved : goal.loop-byte-preserved
loop-byte-preserved c =
    let m = c.args.memory in
    let l = c.loop-byte in
    let v = l.invariant in
    let text = c.args.text.now in
    let x = next-some m.width m.lowest m.count (h.read_next v.at (get_or text l.byte-index 0)) c.in-Some.read (c.in-Some.ensures m.width v.at c.requires.width.narrow v.alike) in
    let some = steps-some v.at text l.byte-index c.loop-byte-test.true x.0 x.1 x.2 in
    let rest = h.steps x.1 (drop (l.byte-index + 1) text) in
    let step = c.in-Some-load_step.ensures x.0 rest x.3 in
    record {
      at = x.1;
      alike = x.4;
      loads = sym step ∙ (ap (λ ss. h.loaded m.width m.lowest m.count l.number ss l.words) (sym some) ∙ v.loads);
    }

pub returns : goal.returns
returns c =
    let m = c.args.memory in
    let l = c.loop-byte in
    let v = l.invariant in
    let text = c.args.text.now in
    let last = h.last_steps v.at in
    let step = c.load_step-2.ensures last [] (c.last.ensures m.width v.at v.alike) in
    let done = all-done m.width m.lowest m.count c.load_step-2.result c.load_step-2.new.words in
    let none : h.steps v.at (drop l.byte-index text) ≡ last = ap (h.steps v.at) (drop_all l.byte-index text c.loop-byte-test.false) in
    sym (step ∙ done) ∙ (ap (λ ss. h.loaded m.width m.lowest m.count l.number ss l.words) (append-nil last ∙ sym none) ∙ v.loads)
