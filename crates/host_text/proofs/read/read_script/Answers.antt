use Rattle.std.proofs.Common.{◌≡◌, ◌+◌, ℕ, List, Bor, length, map, ap, ◌∙◌, arith}
use Rattle.std.proofs.lemmas.List.{length-map}
use Rattle.host_text.specs.Words.{lines}
use Rattle.host_text.specs.Drafts.{drafted}
use Rattle.host_text.proofs.Faults.{read-ok, bare}
use Rattle.host_text.proofs.read.read_script.Goals as goal

abbrev shown : List (Bor (List ℕ)) → List (List ℕ)
shown refs = map (λ r. r.now) refs

pub returns-in-Ok-add_lines-clause-read : goal.returns-in-Ok-add_lines-clause-read
returns-in-Ok-add_lines-clause-read c =
    let is : shown c.deref.result.now ≡ lines c.args.bytes.now = ap shown c.deref.ensures.value ∙ c.in-Ok.ensures in
    read-ok c.args.bytes.now (shown c.deref.result.now) c.close.result (drafted c.add_lines.new.reading) is c.in-Ok-add_lines.ensures.none c.in-Ok-add_lines.ensures.script c.close.ensures.whole c.close.ensures.read

pub returns-in-Ok-add_lines-clause-fault : goal.returns-in-Ok-add_lines-clause-fault
returns-in-Ok-add_lines-clause-fault c = λ line cause e.
    let is : shown c.deref.result.now ≡ lines c.args.bytes.now = ap shown c.deref.ensures.value ∙ c.in-Ok.ensures in
    let at = c.close.ensures.fault line cause e in
    let count = length-map c.deref.result.now (λ (r : Bor (List ℕ)). r.now) in
    let place : line ≡ length (shown c.deref.result.now) + 1 = omega (arith, at.0, count, c.deref.ensures.len, c.len.ensures) in
    bare c.args.bytes.now (shown c.deref.result.now) (drafted c.add_lines.new.reading) line cause is c.in-Ok-add_lines.ensures.none (c.close.ensures.bare line cause e) c.in-Ok-add_lines.ensures.script place at.1
