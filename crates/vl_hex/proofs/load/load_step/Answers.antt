use Rattle.std.proofs.Common.{◌∙◌, sym}
use Rattle.vl_hex.specs.Alike.{steps_of}
use Rattle.vl_hex.proofs.Loads.{nothing, one-word, one-address}
use Rattle.vl_hex.proofs.Places.{near-place}
use Rattle.vl_hex.proofs.load.load_step.Goals as goal

pub returns-in-Nothing : goal.returns-in-Nothing
returns-in-Nothing c xs more k =
    let m = c.args.memory in
    let j = rw c.in-Nothing.is at k in
    nothing m.width m.lowest m.count c.args.number xs more c.args.words.now j

pub returns-in-Loads : goal.returns-in-Loads
returns-in-Loads c xs more k =
    let m = c.args.memory in
    let j = rw c.in-Loads.is at k in
    one-word m.width m.lowest m.count c.args.number c.in-Loads.value xs more c.load_word.result c.args.words.now c.load_word.new.words j c.load_word.ensures

pub returns-in-Goes : goal.returns-in-Goes
returns-in-Goes c xs more k =
    let m = c.args.memory in
    let j = rw c.in-Goes.is at k in
    one-address m.width m.lowest m.count c.args.number c.in-Goes.address xs more c.place_at.result c.args.words.now j
    (λ a n. near-place m.lowest m.count a c.in-Goes.address c.requires.count c.place_at.ensures.high n ∙ sym c.place_at.ensures.place)
