use Rattle.std.proofs.Common.{◌≡◌, refl, ap, sym, ◌∙◌, map, drop, get_or}
use Rattle.std.proofs.lemmas.List.{drop-map}
use Rattle.vl_design.specs.Trees.{arg_of, flat_of}
use Rattle.fmt_text.specs.Modes.{reading_of}
use Rattle.cell_emit.specs.cell_form.specs.Views.{list_of}
use Rattle.cell_emit.specs.Envs.{env_of}
use Rattle.cell_calls.proofs.Reading.{formatted-none, byte-ready, byte-sound, formatted-more, formatted-all}
use Rattle.cell_calls.proofs.format.push_format.Goals as goal

pub loop-byte-init : goal.loop-byte-init
loop-byte-init c =
    formatted-none (flat_of c.args.site.design.now) c.args.site.path.now c.args.text.now (map arg_of c.args.args.now) (env_of c.args.site.at.now) c.args.display.now (list_of c.args.cells.now) c.requires.ready c.requires.sound

pub push_byte-requires : goal.push_byte-requires
push_byte-requires c =
    let l = c.loop-byte in
    let args : map arg_of c.behind.result.now ≡ drop l.count (map arg_of c.args.args.now) = ap (map arg_of) c.behind.ensures ∙ sym (drop-map arg_of l.count c.args.args.now) in
    record {
      ready = byte-ready (flat_of c.args.site.design.now) c.args.site.path.now c.args.text.now (map arg_of c.args.args.now) (env_of c.args.site.at.now)
          (reading_of l.mode) l.byte-index l.count (get_or c.args.text.now l.byte-index 0) c.args.display.now l.display (list_of c.args.cells.now) (list_of l.cells) c.loop-byte-test.true refl l.invariant;
      sound = rw args (byte-sound (flat_of c.args.site.design.now) c.args.site.path.now c.args.text.now (map arg_of c.args.args.now) (env_of c.args.site.at.now)
          (reading_of l.mode) l.byte-index l.count (get_or c.args.text.now l.byte-index 0) c.args.display.now l.display (list_of c.args.cells.now) (list_of l.cells) c.loop-byte-test.true refl l.invariant);
    }

pub loop-byte-preserved : goal.loop-byte-preserved
loop-byte-preserved c =
    let l = c.loop-byte in
    let done = c.in_ok-count.ensures in
    let args : map arg_of c.behind.result.now ≡ drop l.count (map arg_of c.args.args.now) = ap (map arg_of) c.behind.ensures ∙ sym (drop-map arg_of l.count c.args.args.now) in
    let takes = rw args at done.takes in
    let adds = rw args at done.adds in
    formatted-more (flat_of c.args.site.design.now) c.args.site.path.now c.args.text.now (map arg_of c.args.args.now) (env_of c.args.site.at.now)
    (reading_of l.mode) l.byte-index l.count (get_or c.args.text.now l.byte-index 0) c.args.display.now l.display (list_of c.args.cells.now) (list_of l.cells) c.loop-byte-test.true refl l.invariant
    (reading_of c.after-mode.result) c.in_ok-count.field-0 c.push_byte.new.display (list_of c.push_byte.new.cells) c.after-mode.ensures takes done.small done.grows adds

pub returns-clause-grows : goal.returns-clause-grows
returns-clause-grows c = c.loop-byte.invariant.grows

pub returns-clause-adds : goal.returns-clause-adds
returns-clause-adds c =
    let l = c.loop-byte in
    (formatted-all (flat_of c.args.site.design.now) c.args.site.path.now c.args.text.now (map arg_of c.args.args.now) (env_of c.args.site.at.now)
    (reading_of l.mode) l.byte-index l.count c.args.display.now l.display (list_of c.args.cells.now) (list_of l.cells) c.loop-byte-test.false l.invariant).0

pub returns-clause-takes : goal.returns-clause-takes
returns-clause-takes c =
    let l = c.loop-byte in
    (formatted-all (flat_of c.args.site.design.now) c.args.site.path.now c.args.text.now (map arg_of c.args.args.now) (env_of c.args.site.at.now)
    (reading_of l.mode) l.byte-index l.count c.args.display.now l.display (list_of c.args.cells.now) (list_of l.cells) c.loop-byte-test.false l.invariant).1
