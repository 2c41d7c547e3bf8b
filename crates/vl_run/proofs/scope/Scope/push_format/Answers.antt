use Rattle.std.proofs.Common.{◌≡◌, refl, ap, sym, ◌∙◌, map, drop, get_or}
use Rattle.std.proofs.lemmas.List.{drop-map}
use Rattle.vl_design.specs.Trees.{arg_of}
use Rattle.vl_eval.specs.Rooms.{sample_of}
use Rattle.fmt_text.specs.Modes.{reading_of}
use Rattle.vl_run.specs.Scopes.{scope_of}
use Rattle.vl_run.proofs.Pieces.{formatted-none, byte-sound, formatted-on, formatted-all}
use Rattle.vl_run.proofs.scope.Scope.push_format.Goals as goal

pub loop-byte-init : goal.loop-byte-init
loop-byte-init g c = formatted-none (scope_of c.args.self.now) (sample_of c.args.s.now) c.args.path.now c.args.text.now (map arg_of c.args.args.now) c.args.printed.now.items c.requires.sound

pub push_byte-requires : goal.push_byte-requires
push_byte-requires g c =
    let l = c.loop-byte in
    let args : map arg_of c.behind.result.now ≡ drop l.count (map arg_of c.args.args.now) = ap (map arg_of) c.behind.ensures ∙ sym (drop-map arg_of l.count c.args.args.now) in
    record {
      sound = rw args (byte-sound (scope_of c.args.self.now) (sample_of c.args.s.now) c.args.path.now c.args.text.now (map arg_of c.args.args.now) c.args.printed.now.items
          (reading_of l.mode) l.byte-index l.count (get_or c.args.text.now l.byte-index 0) l.printed.items c.loop-byte-test.true refl l.invariant);
      fine = c.requires.fine;
      calls = c.requires.calls;
    }

pub loop-byte-preserved : goal.loop-byte-preserved
loop-byte-preserved g c =
    let l = c.loop-byte in
    let done = c.in_ok-count.ensures in
    let args : map arg_of c.behind.result.now ≡ drop l.count (map arg_of c.args.args.now) = ap (map arg_of) c.behind.ensures ∙ sym (drop-map arg_of l.count c.args.args.now) in
    let takes = rw args at done.takes in
    let text = rw args at done.text in
    formatted-on (scope_of c.args.self.now) (sample_of c.args.s.now) c.args.path.now c.args.text.now (map arg_of c.args.args.now) c.args.printed.now.items
    (reading_of l.mode) l.byte-index l.count (get_or c.args.text.now l.byte-index 0) l.printed.items c.loop-byte-test.true refl l.invariant
    (reading_of c.after-mode.result) c.in_ok-count.field-0 c.push_byte.new.printed.items c.after-mode.ensures takes done.small text

pub returns-clause-text : goal.returns-clause-text
returns-clause-text g c =
    let l = c.loop-byte in
    (formatted-all (scope_of c.args.self.now) (sample_of c.args.s.now) c.args.path.now c.args.text.now (map arg_of c.args.args.now) c.args.printed.now.items
    (reading_of l.mode) l.byte-index l.count l.printed.items c.loop-byte-test.false l.invariant).0

pub returns-clause-takes : goal.returns-clause-takes
returns-clause-takes g c =
    let l = c.loop-byte in
    (formatted-all (scope_of c.args.self.now) (sample_of c.args.s.now) c.args.path.now c.args.text.now (map arg_of c.args.args.now) c.args.printed.now.items
    (reading_of l.mode) l.byte-index l.count l.printed.items c.loop-byte-test.false l.invariant).1
