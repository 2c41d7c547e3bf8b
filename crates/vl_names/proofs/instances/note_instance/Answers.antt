use Rattle.std.proofs.Common.{◌≡◌, ◌<◌, length, Some, arith}
use Rattle.std.proofs.lemmas.Grind.{common_steps}
use Rattle.vl_names.specs.Seen.{look, faults_in, faults_at}
use Rattle.vl_names.proofs.Steps.{faults_in-at}
use Rattle.vl_names.proofs.instances.note_instance.Goals as goal

pub returns-in-Some-get : goal.returns-in-Some-get
unfolding look
returns-in-Some-get c =
    let t = c.args.instance.now.definition.name in
    let j = c.in-Some.number.now in
    let is = c.args.interfaces.now in
    let named : look c.args.numbers.now t ≡ Some j = grind (arith, common_steps) in
    let below : j < length is = grind (arith, common_steps) in
    let same : faults_in (look c.args.numbers.now) is c.args.instance.now ≡ faults_at c.args.instance.now c.in-Some-get.interface.now = faults_in-at (look c.args.numbers.now) is c.args.instance.now j c.in-Some-get.interface.now named below (c.in-Some-get.ensures.lookup.1) in
    grind (arith, common_steps)
